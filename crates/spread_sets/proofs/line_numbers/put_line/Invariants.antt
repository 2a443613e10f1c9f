use Rattle.std.proofs.Common.{◌≡◌, ℕ, ◌<◌, cond, get_or, length, take}
use Rattle.std.specs.Prelude.{None, Some}
use Rattle.set_reader.specs.Reading.{stands_in}
use Rattle.spread_sets.proofs.line_numbers.put_line.Given as goal

-- the number stands beside the first members
abbrev pub invariant-loop-member : goal.invariant-loop-member
invariant-loop-member l = record {
  count : length l.numbers.items ≡ length l.fn.numbers.items;
  each : (k : ℕ) → k < length l.fn.numbers.items → get_or l.numbers.items k None
      ≡ cond (stands_in k (take l.member-index l.line)) (Some l.number) (get_or l.fn.numbers.items k None);
}
