use Rattle.std.proofs.Common.{nat_abs, ◌≡◌, ◌^◌, ◌<◌, ◌↔◌, ℕ, subst, ap, ◌∙◌}
use Rattle.std.specs.Int.{w128}
use Rattle.std.proofs.lemmas.Int.{to_z-of_z, fits_signed_from_abs}
use Rattle.whole_numbers.specs.Fractions.{gcd}
use Rattle.begun_lines.specs.BegunLines.{IsCoprimeInRange}
use Rattle.begun_lines.proofs.BegunRatios.{never_above, missing_below}
use Rattle.begun_lines.proofs.ratios.missing_of_ratio.Goals as goal

pub returns-in_err-numerator-in-Some : goal.returns-in_err-numerator-in-Some
returns-in_err-numerator-in-Some c =
    rw c.from_residual.ensures
    (never_above c.args.word.now c.in-Some.above.now c.in-Some.below.now c.in-Some.ensures.parts c.in-Some.ensures.pieces c.in_err-numerator-in-Some.ensures)

pub returns-in_ok-numerator-in-Some : goal.returns-in_ok-numerator-in-Some
returns-in_ok-numerator-in-Some c =
    let numerator = c.in_ok-numerator-in-Some.numerator in
    let stands = c.in_ok-numerator-in-Some.ensures in
    let size = c.unsigned_abs.ensures.value ∙ ap nat_abs (to_z-of_z w128 numerator (fits_signed_from_abs w128 numerator stands.0)) in
    missing_below c.args.word.now c.in-Some.above.now c.in-Some.below.now numerator c.denominators.result
    c.missing_digits.result c.in-Some.ensures.parts c.in-Some.ensures.pieces stands.0 stands.1
    (subst (λ s. (n : ℕ) → (IsCoprimeInRange c.denominators.result n ↔ ((0 < n) × (n < 2 ^ 127) × (gcd s n ≡ 1)))) size
    c.denominators.ensures.among) c.missing_digits.ensures
