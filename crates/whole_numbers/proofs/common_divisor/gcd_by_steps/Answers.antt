use Rattle.std.proofs.Common.{rules, sym, ◌∙◌}
use Rattle.whole_numbers.proofs.Divisors.{gcd_step}
use Rattle.whole_numbers.proofs.common_divisor.gcd_by_steps.Goals as goal

pub loop-smaller-preserved : goal.loop-smaller-preserved
loop-smaller-preserved c = sym (gcd_step c.loop-smaller.larger c.loop-smaller.smaller) ∙ c.loop-smaller.invariant

pub returns : goal.returns
returns c = search rules
