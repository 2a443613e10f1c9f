-- The forms before a row are held, and so is one more after each round.
use Rattle.std.proofs.Common.{refl, sym, ◌∙◌, ap, subst, arith, ◌+◌, [], ◌∷◌, ◌++◌}
use Rattle.std.proofs.lemmas.Result.{err_from_is_err_and}
use Rattle.design_problem.specs.declared.boxes.CostBox.{CostBox}
use Rattle.design_problem.specs.Forms.{Form}
use Rattle.fraction_table.specs.declared.stage.Stage.TheVariants.{Open}
use Rattle.fraction_table.specs.Tableaus.{FitsBox, IsRowRefused}
use Rattle.exact_simplex.specs.Actives.{held_by}
use Rattle.form_search.proofs.HeldForms.{refused_over, refused_told, row_held}
use Rattle.form_search.proofs.held_tableau.HeldTableau.add_rows.Goals as goal

pub loop-row-init : goal.loop-row-init
loop-row-init c = record { stands = c.requires.stands; at = refl }

pub returns-in_err-add_row-clause-stands : goal.returns-in_err-add_row-clause-stands
returns-in_err-add_row-clause-stands c = let p = err_from_is_err_and c.from_residual.result c.from_residual.ensures.1 in rw p.1 tt

pub returns-in_err-add_row-clause-all : goal.returns-in_err-add_row-clause-all
returns-in_err-add_row-clause-all c = let p = err_from_is_err_and c.from_residual.result c.from_residual.ensures.1 in rw p.1 tt

pub loop-row-preserved : goal.loop-row-preserved
loop-row-preserved c = record {
  stands = row_held c.args.self.now.tableau.top c.args.self.now.tableau.costs c.args.forms.now c.loop-row.self
      (record { tableau = c.add_row.new.self; held = c.loop-row.row + 1; top = c.loop-row.self.top; variables = c.loop-row.self.variables }) c.loop-row.row _
      c.loop-row.self.tableau.basis Open c.loop-row.invariant.stands c.loop-row.invariant.at (omega (arith, c.loop-row-test.true)) tt
      (c.in_ok-add_row.ensures.added ∙ ap (λ (f : Form). record {
        top = c.loop-row.self.tableau.top;
        costs = c.loop-row.self.tableau.costs;
        rows = c.loop-row.self.tableau.rows ++ f ∷ [];
        basis = c.loop-row.self.tableau.basis;
        stage = Open;
      }) c.index-forms-row.is)
      refl refl refl;
  at = refl;
}

pub returns-in_err-add_row-clause-held : goal.returns-in_err-add_row-clause-held
returns-in_err-add_row-clause-held c =
    refused_over c.args.self.now.tableau.top c.args.self.now.tableau.costs c.args.forms.now c.loop-row.self
    (record { tableau = c.add_row.new.self; held = c.loop-row.self.held; top = c.loop-row.self.top; variables = c.loop-row.self.variables })
    c.loop-row.row _ c.in_err-add_row.field-0.0 c.loop-row.invariant.stands c.loop-row.invariant.at (omega (arith, c.loop-row-test.true))
    (subst (λ (f : Form). IsRowRefused (held_by c.loop-row.self.tableau) f (held_by c.add_row.new.self) c.in_err-add_row.field-0.0) c.index-forms-row.is
    c.in_err-add_row.ensures.refused) refl refl refl

pub returns-in_err-add_row-clause-wide : goal.returns-in_err-add_row-clause-wide
returns-in_err-add_row-clause-wide c =
    let p = err_from_is_err_and c.from_residual.result c.from_residual.ensures.1 in
    rw (p.1, p.2) (refused_told c.args.self.now.tableau.top c.args.self.now.tableau.costs c.args.forms.now c.loop-row.self c.add_row.new.self
    c.index-forms-row.result c.in_err-add_row.field-0.0 c.loop-row.invariant.stands c.in_err-add_row.ensures.refused)

pub add_row-requires : goal.add_row-requires
add_row-requires c = record {
  fits = subst (λ (box : CostBox). FitsBox box c.index-forms-row.result) (sym c.loop-row.invariant.stands.over.costs)
      (subst (λ (f : Form). FitsBox c.args.self.now.tableau.costs f) (sym c.index-forms-row.is)
      (c.requires.fits c.loop-row.row _ (omega (arith, c.loop-row-test.true))));
}

pub returns-clause-stands : goal.returns-clause-stands
returns-clause-stands c = c.loop-row.invariant.stands

pub returns-clause-held : goal.returns-clause-held
returns-clause-held c = c.loop-row.invariant.stands.over

pub returns-clause-wide : goal.returns-clause-wide
returns-clause-wide c = tt
