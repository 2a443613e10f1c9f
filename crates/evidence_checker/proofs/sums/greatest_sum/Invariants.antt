use Rattle.std.proofs.Common.{◌≡◌, ◌+◌, ◌*◌, ◌^◌, ◌<◌, drop, take}
use Rattle.std.specs.Prelude.{◌+ℤ◌, nat_abs, sum_by}
use Rattle.design_problem.specs.Boxes.{upper_sum}
use Rattle.evidence_checker.proofs.sums.greatest_sum.Given as goal

abbrev pub invariant-loop-i : goal.invariant-loop-i
invariant-loop-i l = record {
  so_far : l.sum ≡ (l.constant +ℤ upper_sum (take l.i l.coefficients) (take l.i l.low) (take l.i l.high));
  size : nat_abs l.sum + 65535 * sum_by nat_abs (drop l.i l.coefficients) < 2 ^ 127;
}
