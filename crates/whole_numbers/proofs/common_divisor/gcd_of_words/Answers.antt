use Rattle.std.proofs.Common.{sym, ◌∙◌, ap}
use Rattle.whole_numbers.specs.Fractions.{gcd}
use Rattle.whole_numbers.proofs.Divisors.{gcd_step, gcd-zero}
use Rattle.whole_numbers.proofs.common_divisor.gcd_of_words.Goals as goal

pub loop-smaller-preserved : goal.loop-smaller-preserved
loop-smaller-preserved c = sym (gcd_step c.loop-smaller.larger c.loop-smaller.smaller) ∙ c.loop-smaller.invariant

pub returns : goal.returns
returns c =
    sym (gcd-zero c.loop-smaller.larger) ∙ ap (gcd c.loop-smaller.larger) (sym c.loop-smaller-test.false) ∙ c.loop-smaller.invariant
