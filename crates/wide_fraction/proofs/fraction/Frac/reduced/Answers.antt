use Rattle.std.proofs.Common.{◌≡◌, ◌/◌, ℕ, ap, ◌∙◌, SFits, rules}
use Rattle.std.specs.Prelude.{ℤ, nat_abs}
use Rattle.std.proofs.lemmas.Int.{to_z-of_z}
use mir.Syntax.{w128}
use Rattle.whole_numbers.specs.Fractions.{gcd, exact_quotient}
use Rattle.wide_fraction.proofs.WidthLemmas.{reduced_seen}
use Rattle.wide_fraction.proofs.fraction.Frac.reduced.Goals as goal

pub invariant_of-result : goal.invariant_of-result
invariant_of-result c =
    let size : c.unsigned_abs.result ≡ nat_abs c.args.numerator = c.unsigned_abs.ensures.value
    ∙ ap nat_abs (to_z-of_z w128 c.args.numerator c.ranges.numerator) in
    let common : c.greatest_common_divisor-common.result ≡ gcd (nat_abs c.args.numerator) c.args.denominator =
    c.greatest_common_divisor-common.ensures.value ∙ ap (λ (n : ℕ). gcd n c.args.denominator) size in
    let whole_fits : SFits w128 c.signed_quotient.result = search rules in
    reduced_seen c.args.numerator c.args.denominator _ _ c.requires.positive c.requires.not_least c.requires.fits
    (to_z-of_z w128 c.signed_quotient.result whole_fits ∙ c.signed_quotient.ensures
    ∙ ap (λ (z : ℤ). exact_quotient z c.greatest_common_divisor-common.result)
    (to_z-of_z w128 c.args.numerator c.ranges.numerator) ∙ ap (λ (n : ℕ). exact_quotient c.args.numerator n) common)
    (c.quotient.ensures ∙ ap (λ (n : ℕ). c.args.denominator / n) common)
