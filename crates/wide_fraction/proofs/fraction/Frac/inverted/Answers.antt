use Rattle.std.proofs.Common.{◌≢◌, ap, sym, ◌∙◌, SFits, rules}
use Rattle.std.specs.Prelude.{ℤ, pos, nat_abs}
use Rattle.std.proofs.lemmas.Int.{to_z-of_z}
use Rattle.whole_numbers.specs.Fractions.{Fraction}
use mir.Syntax.{w128}
use Rattle.wide_fraction.specs.Laws.{signed_by}
use Rattle.wide_fraction.proofs.WidthLemmas.{upside_down_kept}
use Rattle.wide_fraction.proofs.fraction.Frac.inverted.Goals as goal

pub invariant_of-result : goal.invariant_of-result
invariant_of-result c =
    let fits : SFits w128 c.self.inside.numerator = search rules in
    let sign_fits : SFits w128 c.with_sign_of.result = search rules in
    let not_zero : c.self.inside.numerator ≢ pos 0 = λ e. c.requires (sym (ap (λ (q : Fraction). q.numerator) c.self.view_is) ∙ e) in
    let value = to_z-of_z w128 c.self.inside.numerator fits in
    upside_down_kept c.self.inside.numerator c.self.inside.denominator _ _ c.self.invariant not_zero
    (to_z-of_z w128 c.with_sign_of.result sign_fits ∙ c.with_sign_of.ensures ∙ ap (λ (z : ℤ). signed_by z (pos c.self.inside.denominator)) value)
    (c.unsigned_abs.ensures.value ∙ ap nat_abs value)
