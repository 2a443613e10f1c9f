use Rattle.std.proofs.Common.{nat_abs, sym, ap, ◌∙◌, arith}
use Rattle.std.specs.Int.{w128}
use Rattle.std.proofs.lemmas.Int.{to_z-of_z, to_z_pos}
use Rattle.whole_numbers.specs.Fractions.{gcd}
use Rattle.answer_lines.proofs.RatioWords.{lowest_is}
use Rattle.answer_lines.proofs.ratios.lowest.Goals as goal

pub returns-then-greatest_common_divisor-eq1 : goal.returns-then-greatest_common_divisor-eq1
returns-then-greatest_common_divisor-eq1 c =
    let size = c.unsigned_abs.ensures.value ∙ ap nat_abs (to_z-of_z w128 c.args.numerator c.ranges.numerator) in
    lowest_is c.args.numerator c.args.denominator _ _ (to_z-of_z w128 c.args.numerator c.ranges.numerator)
    (to_z_pos w128 c.args.denominator c.requires.below) (omega arith)
    (ap (λ k. gcd k c.args.denominator) (sym size) ∙ sym c.greatest_common_divisor.ensures.value
    ∙ c.if-greatest_common_divisor-eq1.true) c.requires.above c.requires.below
