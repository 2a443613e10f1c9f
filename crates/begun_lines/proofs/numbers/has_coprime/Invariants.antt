use Rattle.std.proofs.Common.{◌+◌, ◌-◌, ◌≡◌, ◌<◌, ◌≤◌, ℕ}
use Rattle.whole_numbers.specs.Fractions.{gcd}
use Rattle.begun_lines.proofs.numbers.has_coprime.Given as goal

abbrev pub invariant-loop-number : goal.invariant-loop-number
invariant-loop-number l = record { none : (n : ℕ) → l.first ≤ n → n < l.number → gcd l.other n ≡ 1 → ⊥; from : l.first ≤ l.number }

abbrev pub decreases-loop-number : goal.decreases-loop-number
decreases-loop-number l = l.last + 1 - l.number
