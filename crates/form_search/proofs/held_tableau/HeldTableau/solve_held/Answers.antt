-- The tableau keeps its box and its forms, so what is told of it afterwards is told of them.
use Rattle.std.proofs.Common.{refl, sym, ◌∙◌, ap, subst, length}
use Rattle.std.proofs.lemmas.Result.{err_from_is_err_and}
use Rattle.design_problem.specs.declared.boxes.CostBox.{CostBox}
use Rattle.fraction_table.specs.declared.stage.Solved.{Solved}
use Rattle.fraction_table.specs.declared.stage.Stage.{Stage}
use Rattle.fraction_table.specs.declared.stage.Stage.TheVariants.{Ended}
use Rattle.fraction_table.specs.Tableaus.{Held, IsGoing}
use Rattle.form_search.specs.Tables.{KeepsRows}
use Rattle.form_search.proofs.HeldForms.{on_ok_anyway, solved_keeps, step_before, stopped_keeps, stopped_told, told_before}
use Rattle.form_search.proofs.held_tableau.HeldTableau.solve_held.Goals as goal

pub returns-in_err-solve-clause-told : goal.returns-in_err-solve-clause-told
returns-in_err-solve-clause-told c = let p = err_from_is_err_and c.from_residual.result c.from_residual.ensures.1 in rw p.1 tt

pub returns-in_err-solve-clause-places : goal.returns-in_err-solve-clause-places
returns-in_err-solve-clause-places c = refl

pub returns-in_err-solve-clause-kept : goal.returns-in_err-solve-clause-kept
returns-in_err-solve-clause-kept c = record {
  tableau = stopped_keeps c.args.self.now.tableau c.solve.new.self _ c.in_err-solve.ensures.stop;
  held = refl;
  noted_top = refl;
  noted_width = refl;
}

pub returns-in_err-solve-clause-going : goal.returns-in_err-solve-clause-going
returns-in_err-solve-clause-going c = let p = err_from_is_err_and c.from_residual.result c.from_residual.ensures.1 in rw p.1 tt

pub returns-in_err-solve-clause-wide : goal.returns-in_err-solve-clause-wide
returns-in_err-solve-clause-wide c = let p = err_from_is_err_and c.from_residual.result c.from_residual.ensures.1 in
    rw (p.1, p.2) (stopped_told c.args.self.now.tableau c.solve.new.self _ c.requires.going c.in_err-solve.ensures.stop)

pub point_to-requires-clause-solved : goal.point_to-requires-clause-solved
point_to-requires-clause-solved c = ap (λ (h : Held). h.stage) c.in_ok-solve.ensures.ended ∙ ap (λ (s : Solved). Ended s) c.in-Feasible.is

pub point_to-requires-clause-places : goal.point_to-requires-clause-places
point_to-requires-clause-places c = c.requires.places ∙ ap (λ (h : Held). length h.costs.low) (sym c.in_ok-solve.ensures.ended)

pub parts_of-requires : goal.parts_of-requires
parts_of-requires c = ap (λ (h : Held). h.stage) c.in_ok-solve.ensures.ended ∙ ap (λ (s : Solved). Ended s) c.in-Refuted.is

pub returns-in-Feasible-clause-told : goal.returns-in-Feasible-clause-told
returns-in-Feasible-clause-told c = told_before c.args.self.now.tableau c.solve.new.self c.point_to.new.point c.point_to.result
    (solved_keeps c.args.self.now.tableau c.solve.new.self c.solve.new.self.basis (Ended c.in_ok-solve.field-0) c.in_ok-solve.ensures.ended)
    c.point_to.ensures.told

pub returns-in-Feasible-clause-places : goal.returns-in-Feasible-clause-places
returns-in-Feasible-clause-places c = c.point_to.ensures.places

pub returns-in-Feasible-clause-kept : goal.returns-in-Feasible-clause-kept
returns-in-Feasible-clause-kept c = record {
  tableau = solved_keeps c.args.self.now.tableau c.solve.new.self c.solve.new.self.basis
      (Ended c.in_ok-solve.field-0) c.in_ok-solve.ensures.ended;
  held = refl;
  noted_top = refl;
  noted_width = refl;
}

pub returns-in-Feasible-clause-going : goal.returns-in-Feasible-clause-going
returns-in-Feasible-clause-going c = on_ok_anyway c.point_to.result (subst IsGoing (sym (ap (λ (h : Held). h.stage) c.in_ok-solve.ensures.ended)) tt)

pub returns-in-Feasible-clause-wide : goal.returns-in-Feasible-clause-wide
returns-in-Feasible-clause-wide c = step_before c.args.self.now.tableau c.solve.new.self c.point_to.result
    (solved_keeps c.args.self.now.tableau c.solve.new.self c.solve.new.self.basis (Ended c.in_ok-solve.field-0) c.in_ok-solve.ensures.ended)
    c.point_to.ensures.wide

pub returns-in-Refuted-clause-told : goal.returns-in-Refuted-clause-told
returns-in-Refuted-clause-told c = told_before c.args.self.now.tableau c.solve.new.self c.args.point.now c.parts_of.result
    (solved_keeps c.args.self.now.tableau c.solve.new.self c.solve.new.self.basis (Ended c.in_ok-solve.field-0) c.in_ok-solve.ensures.ended)
    (c.parts_of.ensures.told c.args.point.now)

pub returns-in-Refuted-clause-places : goal.returns-in-Refuted-clause-places
returns-in-Refuted-clause-places c = refl

pub returns-in-Refuted-clause-kept : goal.returns-in-Refuted-clause-kept
returns-in-Refuted-clause-kept c = record {
  tableau = solved_keeps c.args.self.now.tableau c.solve.new.self c.solve.new.self.basis (Ended c.in_ok-solve.field-0)
      c.in_ok-solve.ensures.ended;
  held = refl;
  noted_top = refl;
  noted_width = refl;
}

pub returns-in-Refuted-clause-going : goal.returns-in-Refuted-clause-going
returns-in-Refuted-clause-going c = on_ok_anyway c.parts_of.result (subst IsGoing (sym (ap (λ (h : Held). h.stage) c.in_ok-solve.ensures.ended)) tt)

pub returns-in-Refuted-clause-wide : goal.returns-in-Refuted-clause-wide
returns-in-Refuted-clause-wide c = step_before c.args.self.now.tableau c.solve.new.self c.parts_of.result
    (solved_keeps c.args.self.now.tableau c.solve.new.self c.solve.new.self.basis (Ended c.in_ok-solve.field-0) c.in_ok-solve.ensures.ended)
    c.parts_of.ensures.wide
