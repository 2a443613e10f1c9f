use Rattle.std.proofs.Common.{◌∙◌, ap, w64, to_z, of_z}
use Rattle.std.specs.Prelude.{ℤ, pos, ◌+ℤ◌}
use Rattle.design_problem.specs.Forms.{Form}
use Rattle.spread_sets.proofs.TieForms.{form_again, one_more, terms_again}
use Rattle.spread_sets.proofs.row_forms.with_one_more.Goals as goal

pub from_terms-requires : goal.from_terms-requires
from_terms-requires c = terms_again c.args.form.now c.variables.result c.in_ok-terms.terms.items c.variables.ensures
    (c.in_ok-terms.ensures.items ∙ c.terms.ensures.terms)

pub returns : goal.returns
returns c =
    let form = c.args.form.now in
    let constant = ap (λ (z : ℤ). to_z w64 (of_z w64 (to_z w64 (of_z w64 z) +ℤ pos 1))) c.constant.ensures ∙ one_more form.constant c.requires in
    c.from_terms.ensures
    ∙ form_again form c.variables.result _ c.in_ok-terms.terms.items c.variables.ensures (c.in_ok-terms.ensures.items ∙ c.terms.ensures.terms)
    ∙ ap (λ (z : ℤ). let f : Form = record { constant = z; coefficients = form.coefficients } in f) constant
