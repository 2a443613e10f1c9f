use Rattle.std.proofs.Common.{◌≡◌, ◌+◌, ◌≤◌, take}
use Rattle.std.specs.Prelude.{count_by, ◌==◌}
use Rattle.live_reader.proofs.text.line_of_offset.Given as goal

-- the line that was reached
abbrev pub invariant-loop-byte : goal.invariant-loop-byte
invariant-loop-byte l = record {
  line : l.line ≡ 1 + count_by (λ c. c == 10) (take l.byte-index l.before);
  few : l.line ≤ 1 + l.byte-index;
}
