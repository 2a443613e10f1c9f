use Rattle.std.proofs.Common.{ℕ, refl, ◌∙◌, subst, List}
use Rattle.std.specs.Prelude.{IfOk, IfSome, Option}
use Rattle.std.proofs.lemmas.Result.{IfOk-weaker, err_from_is_err_and, on_ok_weaker}
use Rattle.design_problem.specs.declared.boxes.CostBox.{CostBox}
use Rattle.design_problem.specs.declared.tree.Entry.{Entry}
use Rattle.design_problem.specs.declared.tree.Side.{Side}
use Rattle.design_problem.specs.OpenPlaces.{first_place}
use Rattle.form_search.specs.declared.desk.Next.{Next}
use Rattle.form_search.specs.NextEntries.{IsNextOfPoint, IsNextRow, IsNextStep, IsUnsplit, IsWatch}
use Rattle.form_search.proofs.AdvisorLaws.{asked_in, row_ready, unsplit_ready}
use Rattle.form_search.proofs.at_box.next_at.Goals as goal

pub returns-then-is_one_point-clause-next : goal.returns-then-is_one_point-clause-next
returns-then-is_one_point-clause-next g c =
    let place = first_place c.args.tree.now.places in
    let IsHere = IsNextStep (g.S.FormSource.accepted c.args.source.now) c.args.desk.now.top c.args.pool.now c.at_one_point.new.pool in
    let here : (next : Next) → IsNextOfPoint (g.S.FormSource.accepted c.args.source.now) c.args.pool.now c.at_one_point.new.pool c.costs-costs.result.now next →
    IsHere place next =
    λ next is. subst (λ (box : CostBox). IsHere (record { box = box; since = place.since }) next) (c.costs-costs.ensures c.requires.open)
    (is.step c.args.desk.now.top place.since) in
    IfOk-weaker _ _ _ here c.at_one_point.ensures.next

pub returns-then-is_one_point-clause-desk : goal.returns-then-is_one_point-clause-desk
returns-then-is_one_point-clause-desk g c =
    let desk = c.requires.desk in
    let n = g.S.FormSource.count c.args.source.now in
    on_ok_weaker c.at_one_point.result
    (λ _. record {
      same_top = refl;
      watch = subst (λ (m : ℕ). IsWatch m c.propagated.new.watch) c.requires.ranges.is_box.low_count c.propagated.ensures.watch;
      point = c.at_one_point.ensures.places ∙ desk.point;
    })
    c.at_one_point.ensures.left.lists

pub returns-else-is_one_point-clause-next : goal.returns-else-is_one_point-clause-next
returns-else-is_one_point-clause-next g c =
    let place = first_place c.args.tree.now.places in
    let IsHere = IsNextStep (g.S.FormSource.accepted c.args.source.now) c.args.desk.now.top c.args.pool.now c.at_box.new.pool in
    let here : (next : Next) → ((since : List (ℕ × Side)) → IsHere (record { box = c.costs-costs.result.now; since = since }) next) → IsHere place next =
    λ next is. subst (λ (box : CostBox). IsHere (record { box = box; since = place.since }) next) (c.costs-costs.ensures c.requires.open) (is place.since) in
    IfOk-weaker _ _ _ here c.at_box.ensures.next

pub returns-in_err-entry-clause-asked : goal.returns-in_err-entry-clause-asked
returns-in_err-entry-clause-asked g c =
    let p = err_from_is_err_and c.from_residual.result c.from_residual.ensures.1 in
    rw p.1 refl

pub returns-in-Some-clause-asked : goal.returns-in-Some-clause-asked
returns-in-Some-clause-asked g c =
    let place = first_place c.args.tree.now.places in
    row_ready _ _ c.args.pool.now place place.box c.in-Some.entry _ _
    (subst (λ (o : Option Entry). IfSome o (IsNextRow c.args.pool.now place)) c.in-Some.is c.in_ok-entry.ensures.entry) refl

pub returns-then-is_one_point-clause-asked : goal.returns-then-is_one_point-clause-asked
returns-then-is_one_point-clause-asked g c =
    let unsplit : (next : Next) → IsNextOfPoint (g.S.FormSource.accepted c.args.source.now) c.args.pool.now c.at_one_point.new.pool c.costs-costs.result.now
    next → IsUnsplit next =
    λ next is. is.unsplit in
    unsplit_ready _ _ _ c.at_one_point.result _ _ (IfOk-weaker _ _ _ unsplit c.at_one_point.ensures.next) refl

pub returns-else-is_one_point-clause-asked : goal.returns-else-is_one_point-clause-asked
returns-else-is_one_point-clause-asked g c =
    asked_in _ _ _ _ c.at_box.result _ _ (c.costs-costs.ensures c.requires.open) c.at_box.ensures.asked
