use Rattle.std.proofs.Common.{◌≡◌, ℕ, ◌<◌, ◌∙◌, refl, sym, ap, subst, List, length, Ok}
use Rattle.std.specs.Prelude.{All}
use Rattle.std.proofs.lemmas.Result.{err_from_is_err_and}
use Rattle.design_problem.specs.Forms.{Form}
use Rattle.design_problem.specs.declared.boxes.CostBox.{CostBox}
use Rattle.form_search.specs.declared.held_tableau.Least.TheVariants.{Point as AtPoint, Refuted, Wide}
use Rattle.fraction_table.specs.Tableaus.{FitsBox}
use Rattle.form_search.specs.Tables.{StandsAt}
use Rattle.form_search.proofs.Relaxing.{fit_box, round_told}
use Rattle.form_search.proofs.HeldForms.{held_at, told_at}
use Rattle.form_search.proofs.SourceLaws.{leaves_failed, leaves_none}
use Rattle.form_search.proofs.relaxation.relax_once.Goals as goal

pub returns-in-Point-clause-round : goal.returns-in-Point-clause-round
returns-in-Point-clause-round g c =
    let top = c.args.table.now.tableau.top in
    let old = c.args.pool.now in
    let table = c.least.new.self in
    let said : c.least.result ≡ Ok AtPoint = cc in
    let stands = subst (λ (box : CostBox). StandsAt top box old table) c.requires.stands.over.costs
    (subst (λ (forms : List Form). StandsAt top c.args.table.now.tableau.costs forms table) c.as_slice.ensures (c.least.ensures.stands said)) in
    round_told (g.S.FormSource.accepted c.args.source.now) top c.args.costs.now old c.ask_least.new.pool
    c.ask_least.ensures.left.grows.more c.least.new.point table c.ask_least.result c.ask_least.ensures.left.grows.same
    stands (c.ask_least.ensures.relaxed top) c.ask_least.ensures.more

pub least-requires-clause-stands : goal.least-requires-clause-stands
least-requires-clause-stands g c =
    let top = c.args.table.now.tableau.top in
    let table = c.args.table.now in
    subst (λ (forms : List Form). StandsAt top table.tableau.costs forms table) (sym c.as_slice.ensures)
    (subst (λ (box : CostBox). StandsAt top box c.args.pool.now table) (sym c.requires.stands.over.costs) c.requires.stands)

pub least-requires-clause-fits : goal.least-requires-clause-fits
least-requires-clause-fits g c =
    let source = c.args.source.now in
    let costs = c.args.costs.now in
    let pool = c.args.pool.now in
    subst (λ (forms : List Form). All (FitsBox c.args.table.now.tableau.costs) forms) (sym c.as_slice.ensures)
    (subst (λ (box : CostBox). All (FitsBox box) pool) (sym c.requires.stands.over.costs)
    (fit_box (g.S.FormSource.count source) (g.S.FormSource.accepted source) costs pool c.requires.ranges
    (λ k d k_in. g.met.S.FormSource.true_forms_hold source _ (c.requires.in_step.true_forms k d k_in))))

pub least-requires-clause-some : goal.least-requires-clause-some
least-requires-clause-some g c =
    subst (λ (box : CostBox). 0 < length box.low) (sym c.requires.stands.over.costs)
    (subst (λ (n : ℕ). 0 < n) (sym c.requires.ranges.is_box.low_count) c.requires.some)

pub least-requires-clause-places : goal.least-requires-clause-places
least-requires-clause-places g c =
    c.requires.places ∙ sym c.requires.ranges.is_box.low_count ∙ ap (λ (box : CostBox). length box.low) (sym c.requires.stands.over.costs)

pub returns-in_err-least-clause-round : goal.returns-in_err-least-clause-round
returns-in_err-least-clause-round g c = let p = err_from_is_err_and c.from_residual.result c.from_residual.ensures.1 in rw p.1 tt

pub returns-in_err-least-clause-places : goal.returns-in_err-least-clause-places
returns-in_err-least-clause-places g c = c.least.ensures.places

pub returns-in_err-least-clause-left : goal.returns-in_err-least-clause-left
returns-in_err-least-clause-left g c = leaves_failed g.S.FormSource c.args.source.now c.args.pool.now c.args.pool.now c.from_residual.result
    c.from_residual.ensures.0 refl

pub ask_least-requires-clause-in_step : goal.ask_least-requires-clause-in_step
ask_least-requires-clause-in_step g c = c.requires.in_step

pub ask_least-requires-clause-ranges : goal.ask_least-requires-clause-ranges
ask_least-requires-clause-ranges g c = c.requires.ranges

pub ask_least-requires-clause-least : goal.ask_least-requires-clause-least
ask_least-requires-clause-least g c =
    (told_at c.args.table.now.tableau.top c.args.costs.now c.args.pool.now c.args.table.now c.as_slice.result.now c.least.new.point
    c.in_ok-least.field-0 AtPoint c.requires.stands c.as_slice.ensures c.in-Point.is c.in_ok-least.ensures.told).0

pub ask_least-requires-clause-small : goal.ask_least-requires-clause-small
ask_least-requires-clause-small g c =
    (told_at c.args.table.now.tableau.top c.args.costs.now c.args.pool.now c.args.table.now c.as_slice.result.now c.least.new.point
    c.in_ok-least.field-0 AtPoint c.requires.stands c.as_slice.ensures c.in-Point.is c.in_ok-least.ensures.told).1

pub returns-in-Point-clause-places : goal.returns-in-Point-clause-places
returns-in-Point-clause-places g c = c.least.ensures.places

pub returns-in-Point-clause-left : goal.returns-in-Point-clause-left
returns-in-Point-clause-left g c = c.ask_least.ensures.left

pub returns-in-Refuted-clause-round : goal.returns-in-Refuted-clause-round
returns-in-Refuted-clause-round g c = record {
  relaxation = told_at c.args.table.now.tableau.top c.args.costs.now c.args.pool.now c.args.table.now c.as_slice.result.now c.least.new.point
      c.in_ok-least.field-0 (Refuted c.in-Refuted.parts) c.requires.stands c.as_slice.ensures c.in-Refuted.is c.in_ok-least.ensures.told;
  is_held = held_at c.args.table.now.tableau.top c.args.costs.now c.args.pool.now c.args.table.now c.least.new.self c.as_slice.result.now
      c.requires.stands c.as_slice.ensures c.least.ensures.held;
}

pub returns-in-Refuted-clause-places : goal.returns-in-Refuted-clause-places
returns-in-Refuted-clause-places g c = c.least.ensures.places

pub returns-in-Refuted-clause-left : goal.returns-in-Refuted-clause-left
returns-in-Refuted-clause-left g c = leaves_none g.S.FormSource c.args.source.now c.args.pool.now c.requires.in_step.lists

pub returns-in-Wide-clause-round : goal.returns-in-Wide-clause-round
returns-in-Wide-clause-round g c = record {
  relaxation = told_at c.args.table.now.tableau.top c.args.costs.now c.args.pool.now c.args.table.now c.as_slice.result.now c.least.new.point
      c.in_ok-least.field-0 (Wide c.in-Wide.wide) c.requires.stands c.as_slice.ensures c.in-Wide.is c.in_ok-least.ensures.told;
  is_held = held_at c.args.table.now.tableau.top c.args.costs.now c.args.pool.now c.args.table.now c.least.new.self c.as_slice.result.now
      c.requires.stands c.as_slice.ensures c.least.ensures.held;
}

pub returns-in-Wide-clause-places : goal.returns-in-Wide-clause-places
returns-in-Wide-clause-places g c = c.least.ensures.places

pub returns-in-Wide-clause-left : goal.returns-in-Wide-clause-left
returns-in-Wide-clause-left g c = leaves_none g.S.FormSource c.args.source.now c.args.pool.now c.requires.in_step.lists
