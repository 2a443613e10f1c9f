-- Once all forms are held, what is told of those that are held is told of all.
use Rattle.std.proofs.Common.{refl, sym, ◌∙◌, ap, length}
use Rattle.std.proofs.lemmas.Result.{err_from_is_err_and, on_ok_weaker}
use Rattle.design_problem.specs.declared.boxes.CostBox.{CostBox}
use Rattle.form_search.proofs.HeldForms.{kept_over, step_all, told_all}
use Rattle.form_search.proofs.held_tableau.HeldTableau.solve_to.Goals as goal

pub add_rows-requires-clause-stands : goal.add_rows-requires-clause-stands
add_rows-requires-clause-stands c = c.requires.stands

pub add_rows-requires-clause-fits : goal.add_rows-requires-clause-fits
add_rows-requires-clause-fits c = c.requires.fits

pub returns-in_err-add_rows-clause-told : goal.returns-in_err-add_rows-clause-told
returns-in_err-add_rows-clause-told c = let p = err_from_is_err_and c.from_residual.result c.from_residual.ensures.1 in rw p.1 tt

pub returns-in_err-add_rows-clause-stands : goal.returns-in_err-add_rows-clause-stands
returns-in_err-add_rows-clause-stands c = let p = err_from_is_err_and c.from_residual.result c.from_residual.ensures.1 in rw p.1 tt

pub returns-in_err-add_rows-clause-held : goal.returns-in_err-add_rows-clause-held
returns-in_err-add_rows-clause-held c = c.add_rows.ensures.held

pub returns-in_err-add_rows-clause-places : goal.returns-in_err-add_rows-clause-places
returns-in_err-add_rows-clause-places c = refl

pub solve_held-requires-clause-going : goal.solve_held-requires-clause-going
solve_held-requires-clause-going c = c.in_ok-add_rows.ensures.stands.going

pub solve_held-requires-clause-places : goal.solve_held-requires-clause-places
solve_held-requires-clause-places c = c.requires.places ∙ ap (λ (b : CostBox). length b.low) (sym c.add_rows.ensures.held.costs)

pub returns-clause-told : goal.returns-clause-told
returns-clause-told c =
    told_all c.args.self.now.tableau.top c.args.self.now.tableau.costs c.args.forms.now c.add_rows.new.self c.solve_held.new.point
    c.solve_held.result c.in_ok-add_rows.ensures.stands c.in_ok-add_rows.ensures.all c.solve_held.ensures.told

pub returns-clause-stands : goal.returns-clause-stands
returns-clause-stands c =
    on_ok_weaker c.solve_held.result
    (λ going. record {
      over = kept_over c.args.self.now.tableau.top c.args.self.now.tableau.costs c.args.forms.now c.add_rows.new.self c.solve_held.new.self
          c.in_ok-add_rows.ensures.stands c.solve_held.ensures.kept;
      going = going;
    })
    c.solve_held.ensures.going

pub returns-clause-held : goal.returns-clause-held
returns-clause-held c =
    kept_over c.args.self.now.tableau.top c.args.self.now.tableau.costs c.args.forms.now c.add_rows.new.self c.solve_held.new.self
    c.in_ok-add_rows.ensures.stands c.solve_held.ensures.kept

pub returns-clause-places : goal.returns-clause-places
returns-clause-places c = c.solve_held.ensures.places

pub returns-clause-wide : goal.returns-clause-wide
returns-clause-wide c =
    step_all c.args.self.now.tableau.top c.args.self.now.tableau.costs c.args.forms.now c.add_rows.new.self c.solve_held.new.self.tableau
    c.solve_held.result c.in_ok-add_rows.ensures.stands c.in_ok-add_rows.ensures.all c.solve_held.ensures.wide
