use Rattle.std.proofs.Common.{ℕ, ◌^◌, ◌<◌, refl, sym, subst, List}
use Rattle.std.specs.Prelude.{IfOk, OnOk}
use Rattle.std.proofs.lemmas.Result.{err_from_is_err_and}
use Rattle.design_problem.specs.Forms.{Form}
use Rattle.design_problem.specs.Boxes.{IsBox}
use Rattle.form_search.specs.Calls.{AreInStep, Leaves}
use Rattle.form_search.specs.Tables.{IsRelaxation, StandsAt}
use Rattle.form_search.proofs.Relaxing.{fit_box, stands_own}
use Rattle.form_search.proofs.SourceLaws.{leaves_failed}
use Rattle.form_search.proofs.relaxation.relax.Goals as goal

pub moved-requires-clause-fits : goal.moved-requires-clause-fits
moved-requires-clause-fits g c =
    let source = c.args.source.now in
    let pool = c.args.pool.now in
    let n = g.S.FormSource.count source in (
      pool,
      c.take_tableau.ensures.kept,
      fit_box n (g.S.FormSource.accepted source) c.args.costs.now pool c.requires.ranges
          (λ k d k_in. g.met.S.FormSource.true_forms_hold source _ (c.requires.in_step.true_forms k d k_in)),
    )

pub moved-requires-clause-ranges : goal.moved-requires-clause-ranges
moved-requires-clause-ranges g c = subst (λ (n : ℕ). IsBox n c.args.costs.now) (sym c.requires.ranges.is_box.low_count) c.requires.ranges.is_box

pub moved-requires-clause-few : goal.moved-requires-clause-few
moved-requires-clause-few g c = subst (λ (n : ℕ). n < 2 ^ 32) (sym c.requires.ranges.is_box.low_count) c.requires.ranges.few

pub returns-in_err-table-clause-relaxed : goal.returns-in_err-table-clause-relaxed
returns-in_err-table-clause-relaxed g c = let p = err_from_is_err_and c.from_residual.result c.from_residual.ensures.1 in rw p.1 tt

pub returns-in_err-table-clause-places : goal.returns-in_err-table-clause-places
returns-in_err-table-clause-places g c = refl

pub returns-in_err-table-clause-left : goal.returns-in_err-table-clause-left
returns-in_err-table-clause-left g c =
    leaves_failed g.S.FormSource c.args.source.now c.args.pool.now c.take_tableau.new.self c.from_residual.result c.from_residual.ensures.0
    c.take_tableau.ensures.forms

pub relax_with-requires-clause-in_step : goal.relax_with-requires-clause-in_step
relax_with-requires-clause-in_step g c =
    subst (λ (forms : List Form). AreInStep g.S.FormSource c.args.source.now forms) (sym c.take_tableau.ensures.forms) c.requires.in_step

pub relax_with-requires-clause-ranges : goal.relax_with-requires-clause-ranges
relax_with-requires-clause-ranges g c = c.requires.ranges

pub relax_with-requires-clause-some : goal.relax_with-requires-clause-some
relax_with-requires-clause-some g c = c.requires.some

pub relax_with-requires-clause-places : goal.relax_with-requires-clause-places
relax_with-requires-clause-places g c = c.requires.places

pub relax_with-requires-clause-stands : goal.relax_with-requires-clause-stands
relax_with-requires-clause-stands g c =
    let table = c.in_ok-table.table in
    let costs = c.args.costs.now in
    let pool = c.args.pool.now in
    subst (λ (forms : List Form). StandsAt table.tableau.top costs forms table) (sym c.take_tableau.ensures.forms)
    (stands_own c.args.top costs pool table (c.in_ok-table.ensures pool c.take_tableau.ensures.kept))

pub returns-clause-relaxed : goal.returns-clause-relaxed
returns-clause-relaxed g c =
    let new = c.relax_with.new in
    let stands = c.in_ok-table.ensures c.args.pool.now c.take_tableau.ensures.kept in
    subst (λ (top : ℕ). IfOk c.relax_with.result (IsRelaxation (g.S.FormSource.accepted c.args.source.now) top c.args.costs.now new.pool new.point))
    stands.over.is_held.same_top c.relax_with.ensures.relaxed

pub returns-clause-places : goal.returns-clause-places
returns-clause-places g c = c.relax_with.ensures.places

pub returns-clause-left : goal.returns-clause-left
returns-clause-left g c =
    subst (λ (forms : List Form). Leaves g.S.FormSource (OnOk c.relax_with.result) c.args.source.now c.relax_with.new.source forms c.relax_with.new.pool)
    c.take_tableau.ensures.forms c.relax_with.ensures.left
