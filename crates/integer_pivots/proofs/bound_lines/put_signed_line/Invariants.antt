-- The numbers before the counter are put, and the others are 0.
use Rattle.std.proofs.Common.{◌≡◌, ℕ, ◌-◌, ◌<◌, ◌≤◌, pos, length}
use Rattle.std.specs.Prelude.{◌*ℤ◌}
use Rattle.whole_numbers.specs.Lists.{number_at}
use Rattle.integer_pivots.proofs.bound_lines.put_signed_line.Given as goal

abbrev pub invariant-loop-column : goal.invariant-loop-column
invariant-loop-column l = record {
  count : length l.into.numbers ≡ length l.numbers;
  put : (c : ℕ) → c < l.column → number_at l.into.numbers c ≡ (l.sign *ℤ number_at l.numbers c);
  rest : (c : ℕ) → l.column ≤ c → c < length l.into.numbers → number_at l.into.numbers c ≡ pos 0;
  denominator : l.into.denominator ≡ l.line.denominator;
  constant : l.into.constant ≡ l.constant;
  reach : l.into.reach ≡ l.line.reach;
}

-- the columns that are left
abbrev pub decreases-loop-column : goal.decreases-loop-column
decreases-loop-column l = length l.numbers - l.column
