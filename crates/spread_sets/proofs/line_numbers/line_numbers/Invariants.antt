use Rattle.std.proofs.Common.{◌≡◌, ◌≤◌, drop, length}
use Rattle.spread_sets.specs.MemberSets.{AreLineNumbers}
use Rattle.spread_sets.proofs.line_numbers.line_numbers.Given as goal

-- the numbers of the last lines
abbrev pub invariant-loop-left : goal.invariant-loop-left
invariant-loop-left l = record {
  known : l.left ≤ length l.lines;
  count : length l.numbers.items ≡ l.paths;
  each : AreLineNumbers l.left (drop l.left l.lines) l.numbers.items;
}

abbrev pub decreases-loop-left : goal.decreases-loop-left
decreases-loop-left l = l.left
