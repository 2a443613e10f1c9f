-- The box is one of as many variables, and each row fits it.
use Rattle.std.proofs.Common.{◌≡◌, ℕ, sym, ◌∙◌, ap, subst, List, length}
use Rattle.std.specs.Prelude.{All}
use Rattle.design_problem.specs.declared.form.Form.{Form}
use Rattle.design_problem.specs.Boxes.{IsBox}
use Rattle.fraction_table.specs.Tableaus.{FitsBox}
use Rattle.exact_simplex.specs.Actives.{TableauState}
use Rattle.exact_simplex.proofs.tableau.Tableau.fits.Goals as goal

pub returns : goal.returns
returns c =
    let costs = c.args.costs.now in
    let width : length costs.low ≡ length c.args.self.now.costs.low =
    sym (ap length c.as_slice.ensures) ∙ c.if-as_slice-width.false ∙ ap length c.as_slice-width.ensures
    ∙ ap (λ (t : TableauState). length t.costs.low) c.self.view_is in
    let rows_are : c.as_slice-2.result.now ≡ c.args.self.now.rows = c.as_slice-2.ensures.value ∙ ap (λ (t : TableauState). t.rows) c.self.view_is in
    let box = c.is_box.ensures.0 c.if-not-is_box.false in (
      λ told. (
        subst (λ (n : ℕ). IsBox n costs) width box.0,
        subst (λ (rows : List Form). All (FitsBox costs) rows) rows_are (c.fit_box.ensures.0 told),
      ),
      λ is. c.fit_box.ensures.1 (subst (λ (rows : List Form). All (FitsBox costs) rows) (sym rows_are) is.1),
    )
