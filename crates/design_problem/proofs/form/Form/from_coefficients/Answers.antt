use Rattle.std.proofs.Common.{◌∙◌, ap, refl, rules, SFits, w64}
use Rattle.std.specs.Prelude.{ℤ}
use Rattle.std.proofs.lemmas.Int.{to_z-of_z}
use Rattle.design_problem.specs.Forms.{Form}
use Rattle.design_problem.proofs.TermLaws.{form_by_terms, terms_kept}
use Rattle.design_problem.proofs.form.Form.from_coefficients.Goals as goal

pub invariant_of-result : goal.invariant_of-result
invariant_of-result c = terms_kept _ c.args.constant c.in_ok-terms.terms.items c.args.coefficients.now refl c.in_ok-terms.ensures

pub returns : goal.returns
returns c =
    let fits : SFits w64 c.args.constant = search rules in
    form_by_terms _ _ c.in_ok-terms.terms.items c.args.coefficients.now refl c.in_ok-terms.ensures
    ∙ ap (λ (z : ℤ). let f : Form = record { constant = z; coefficients = c.args.coefficients.now } in f) (to_z-of_z w64 c.args.constant fits)
