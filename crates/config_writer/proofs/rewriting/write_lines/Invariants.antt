use Rattle.std.proofs.Common.{length, ◌≤◌}
use Rattle.config_writer.specs.Rewriting.{costs_of}
use Rattle.config_writer.proofs.WrittenLines.{WrittenTo}
use Rattle.config_writer.proofs.rewriting.write_lines.Given as goal

-- what the lines so far ask for is written; no line that is left is longer than the text
abbrev pub invariant-loop-line : goal.invariant-loop-line
invariant-loop-line l = record {
  written : WrittenTo (costs_of l.lines) l.bytes l.left l.writer;
  within : length l.left.bytes ≤ l.left.longest;
}

abbrev pub decreases-loop-line : goal.decreases-loop-line
decreases-loop-line l = length l.left.bytes
