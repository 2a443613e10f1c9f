use Rattle.std.proofs.Common.{◌≡◌}
use Rattle.whole_numbers.specs.Fractions.{gcd}
use Rattle.whole_numbers.proofs.common_divisor.gcd_by_steps.Given as goal

abbrev pub invariant-loop-smaller : goal.invariant-loop-smaller
invariant-loop-smaller l = gcd l.larger l.smaller ≡ gcd l.left l.right

abbrev pub decreases-loop-smaller : goal.decreases-loop-smaller
decreases-loop-smaller l = l.smaller
