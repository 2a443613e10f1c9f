use Rattle.std.proofs.Common.{sym, subst, List, length}
use Rattle.design_problem.specs.Forms.{Form}
use Rattle.form_search.specs.Calls.{Leaves}
use Rattle.form_search.specs.Tables.{IsRelaxation}
use Rattle.form_search.proofs.Relaxing.{held_own}
use Rattle.form_search.proofs.relaxation.relax_with.Goals as goal

pub relax_by-requires-clause-in_step : goal.relax_by-requires-clause-in_step
relax_by-requires-clause-in_step g c = c.requires.in_step

pub relax_by-requires-clause-ranges : goal.relax_by-requires-clause-ranges
relax_by-requires-clause-ranges g c = c.requires.ranges

pub relax_by-requires-clause-some : goal.relax_by-requires-clause-some
relax_by-requires-clause-some g c = c.requires.some

pub relax_by-requires-clause-stands : goal.relax_by-requires-clause-stands
relax_by-requires-clause-stands g c = c.requires.stands

pub relax_by-requires-clause-places : goal.relax_by-requires-clause-places
relax_by-requires-clause-places g c = c.requires.places

pub returns-in-Err-clause-relaxed : goal.returns-in-Err-clause-relaxed
returns-in-Err-clause-relaxed g c = tt

pub returns-in-Err-clause-places : goal.returns-in-Err-clause-places
returns-in-Err-clause-places g c = c.relax_by.ensures.places

pub returns-in-Err-clause-left : goal.returns-in-Err-clause-left
returns-in-Err-clause-left g c = record { grows = c.relax_by.ensures.left.grows; same = c.relax_by.ensures.left.same; lists = tt }

pub keep_tableau-requires : goal.keep_tableau-requires
keep_tableau-requires g c =
    let new = c.relax_by.new in
    held_own c.args.table.tableau.top (length c.args.costs.now.low) new.pool new.table c.in-Ok.ensures.relaxed.is_held

pub returns-in-Ok-clause-relaxed : goal.returns-in-Ok-clause-relaxed
returns-in-Ok-clause-relaxed g c =
    subst (λ (forms : List Form). IsRelaxation (g.S.FormSource.accepted c.args.source.now) c.args.table.tableau.top c.args.costs.now forms
    c.relax_by.new.point c.in-Ok.relaxed) (sym c.keep_tableau.ensures) c.in-Ok.ensures.relaxed.relaxation

pub returns-in-Ok-clause-places : goal.returns-in-Ok-clause-places
returns-in-Ok-clause-places g c = c.relax_by.ensures.places

pub returns-in-Ok-clause-left : goal.returns-in-Ok-clause-left
returns-in-Ok-clause-left g c =
    subst (λ (forms : List Form). Leaves g.S.FormSource (λ P. P) c.args.source.now c.relax_by.new.source c.args.pool.now forms)
    (sym c.keep_tableau.ensures) c.in-Ok.ensures.left
