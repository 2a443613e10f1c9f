use Rattle.std.proofs.Common.{◌≡◌, ℕ, ◌+◌, ◌*◌, ◌^◌, ◌<◌, drop, length, get_or}
use Rattle.std.specs.Prelude.{pos, ◌+ℤ◌, ◌*ℤ◌, nat_abs, sum_by}
use Rattle.design_problem.proofs.TermSums.{sum_at}
use Rattle.design_problem.proofs.weighted_sums.add_form.Given as goal

abbrev pub invariant-loop-term : goal.invariant-loop-term
invariant-loop-term l = record {
  each : (i : ℕ) → i < length l.sums →
      (get_or l.sums i (pos 0) +ℤ (pos l.multiplier *ℤ sum_at (drop l.term-index l.terms) i))
      ≡ (get_or l.initial.sums i (pos 0) +ℤ (pos l.multiplier *ℤ sum_at l.terms i));
  size : (i : ℕ) → i < length l.sums →
      nat_abs (get_or l.sums i (pos 0)) + l.multiplier * sum_by (λ t. nat_abs t.coefficient)
      (drop l.term-index l.terms) < 2 ^ 127;
}
