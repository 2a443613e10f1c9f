use Rattle.std.proofs.Common.{◌≡◌, ℕ, refl, sym, ap, subst, Ok, None}
use Rattle.std.proofs.lemmas.Result.{err_from_is_err_and}
use Rattle.area_graph.specs.declared.Point.{Point}
use Rattle.design_problem.specs.declared.boxes.CostBox.{CostBox}
use Rattle.design_problem.specs.Earnest.{IsLeastPoint}
use Rattle.form_search.specs.AdvisorsAsked.{IsAt}
use Rattle.design_problem.specs.Boxes.{IsPointOf}
use Rattle.form_search.specs.Points.{IsCostsBox, IsIntegralPoint}
use Rattle.form_search.specs.NextEntries.{IsSplitAt}
use Rattle.form_search.proofs.AdvisorLaws.{ready_there}
use Rattle.form_search.proofs.NextEntries.{next_split_at}
use Rattle.form_search.proofs.at_box.at_least_point.Goals as goal

pub returns-in_err-found-clause-asked : goal.returns-in_err-found-clause-asked
returns-in_err-found-clause-asked g c =
    let p = err_from_is_err_and c.from_residual.result c.from_residual.ensures.1 in
    rw p.1 refl

pub returns-in_ok-split_there-in-None-clause-next : goal.returns-in_ok-split_there-in-None-clause-next
returns-in_ok-split_there-in-None-clause-next g c = λ top old new since.
    let entry = c.in_ok-split_there-in-None.field-0 in
    next_split_at (g.S.FormSource.accepted c.args.source.now) top (g.S.FormSource.count c.args.source.now) new
    (record { box = c.args.costs.now; since = since })
    c.args.desk.now.point entry c.requires.ranges.is_box c.requires.least.least
    (subst (λ (p : Point). IsSplitAt c.args.costs.now p entry) c.costs_there.ensures.point c.in_ok-split_there-in-None.ensures.split)

pub returns-in_ok-split_there-in-None-clause-asked : goal.returns-in_ok-split_there-in-None-clause-asked
returns-in_ok-split_there-in-None-clause-asked g c =
    let Accepted = g.S.FormSource.accepted c.args.source.now in
    let least : IsLeastPoint Accepted c.args.costs.now c.costs_there.new.point =
    subst (λ (p : Point). IsLeastPoint Accepted c.args.costs.now p) (sym c.costs_there.ensures.point) c.requires.least.least in
    ready_there (IsAt c.args.costs.now c.costs_there.new.point) (IsLeastPoint Accepted) _ c.args.costs.now c.in_ok-split_there-in-None.field-0 _ _
    (λ b q is. subst (λ (r : Point). IsLeastPoint Accepted b r) (sym is.1)
    (subst (λ (x : CostBox). IsLeastPoint Accepted x c.costs_there.new.point) (sym is.0) least))
    c.in_ok-split_there-in-None.ensures.asked

pub returns-in_err-split_there-in-None-clause-asked : goal.returns-in_err-split_there-in-None-clause-asked
returns-in_err-split_there-in-None-clause-asked g c =
    let p = err_from_is_err_and c.from_residual-in_err-split_there-in-None.result c.from_residual-in_err-split_there-in-None.ensures.1 in
    rw p.1 c.in_err-split_there-in-None.ensures.asked

pub costs_there-requires-clause-ranges : goal.costs_there-requires-clause-ranges
costs_there-requires-clause-ranges g c = c.requires.ranges

pub costs_there-requires-clause-least : goal.costs_there-requires-clause-least
costs_there-requires-clause-least g c = c.requires.least

pub split_there-requires-clause-ranges : goal.split_there-requires-clause-ranges
split_there-requires-clause-ranges g c = subst (λ (n : ℕ). IsCostsBox n c.args.costs.now) (sym c.requires.ranges.is_box.low_count) c.requires.ranges

pub split_there-requires-clause-inside : goal.split_there-requires-clause-inside
split_there-requires-clause-inside g c = subst (λ (p : Point). IsPointOf c.args.costs.now p) (sym c.costs_there.ensures.point) c.requires.least.least.inside

pub split_there-requires-clause-fractional : goal.split_there-requires-clause-fractional
split_there-requires-clause-fractional g c = λ whole.
    let said : c.costs_there.result ≡ Ok None = cc in
    c.costs_there.ensures.fractional said (subst (λ (p : Point). IsIntegralPoint p) c.costs_there.ensures.point whole)

pub returns-in_err-found-clause-next : goal.returns-in_err-found-clause-next
returns-in_err-found-clause-next g c = let p = err_from_is_err_and c.from_residual.result c.from_residual.ensures.1 in rw p.1 tt

pub returns-in_err-split_there-in-None-clause-next : goal.returns-in_err-split_there-in-None-clause-next
returns-in_err-split_there-in-None-clause-next g c = let p = err_from_is_err_and c.from_residual-in_err-split_there-in-None.result
    c.from_residual-in_err-split_there-in-None.ensures.1 in rw p.1 tt

pub returns-in_err-found-clause-desk : goal.returns-in_err-found-clause-desk
returns-in_err-found-clause-desk g c = ap (λ (p : Point). record { watch = c.args.desk.now.watch; point = p; top = c.args.desk.now.top })
    c.costs_there.ensures.point

pub returns-in_err-found-clause-in_step : goal.returns-in_err-found-clause-in_step
returns-in_err-found-clause-in_step g c = c.costs_there.ensures.in_step

pub returns-in_err-found-clause-same : goal.returns-in_err-found-clause-same
returns-in_err-found-clause-same g c = c.costs_there.ensures.same

pub returns-in_err-split_there-in-None-clause-desk : goal.returns-in_err-split_there-in-None-clause-desk
returns-in_err-split_there-in-None-clause-desk g c = ap (λ (p : Point). record { watch = c.args.desk.now.watch; point = p; top = c.args.desk.now.top })
    c.costs_there.ensures.point

pub returns-in_err-split_there-in-None-clause-in_step : goal.returns-in_err-split_there-in-None-clause-in_step
returns-in_err-split_there-in-None-clause-in_step g c = c.costs_there.ensures.in_step

pub returns-in_err-split_there-in-None-clause-same : goal.returns-in_err-split_there-in-None-clause-same
returns-in_err-split_there-in-None-clause-same g c = c.costs_there.ensures.same

pub returns-in_ok-split_there-in-None-clause-desk : goal.returns-in_ok-split_there-in-None-clause-desk
returns-in_ok-split_there-in-None-clause-desk g c = ap (λ (p : Point). record { watch = c.args.desk.now.watch; point = p; top = c.args.desk.now.top })
    c.costs_there.ensures.point

pub returns-in_ok-split_there-in-None-clause-in_step : goal.returns-in_ok-split_there-in-None-clause-in_step
returns-in_ok-split_there-in-None-clause-in_step g c = c.costs_there.ensures.in_step

pub returns-in_ok-split_there-in-None-clause-same : goal.returns-in_ok-split_there-in-None-clause-same
returns-in_ok-split_there-in-None-clause-same g c = c.costs_there.ensures.same

pub returns-in-Some-clause-desk : goal.returns-in-Some-clause-desk
returns-in-Some-clause-desk g c = ap (λ (p : Point). record { watch = c.args.desk.now.watch; point = p; top = c.args.desk.now.top }) c.costs_there.ensures.point

pub returns-in-Some-clause-in_step : goal.returns-in-Some-clause-in_step
returns-in-Some-clause-in_step g c = c.costs_there.ensures.in_step

pub returns-in-Some-clause-same : goal.returns-in-Some-clause-same
returns-in-Some-clause-same g c = c.costs_there.ensures.same

pub returns-in-Some-clause-asked : goal.returns-in-Some-clause-asked
returns-in-Some-clause-asked g c = refl
