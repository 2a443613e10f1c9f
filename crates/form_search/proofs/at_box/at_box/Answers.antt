use Rattle.std.proofs.Common.{ℕ, refl, List}
use Rattle.std.proofs.lemmas.Result.{IfOk-weaker, err_from_is_err_and}
use Rattle.design_problem.specs.declared.tree.Side.{Side}
use Rattle.design_problem.specs.Forms.{Form}
use Rattle.design_problem.specs.Earnest.{IsLeastPoint}
use Rattle.form_search.specs.declared.desk.Next.{Next}
use Rattle.form_search.specs.NextEntries.{IsNextStep}
use Rattle.form_search.proofs.AdvisorLaws.{asked_next_there, halve_ready}
use Rattle.form_search.proofs.OtherSources.{least_same, next_same, swapped}
use Rattle.form_search.proofs.at_box.at_box.Goals as goal

pub returns-in-Accepted-clause-next : goal.returns-in-Accepted-clause-next
returns-in-Accepted-clause-next g c =
    let Accepted = g.S.FormSource.accepted in
    let costs = c.args.costs.now in
    let old = c.args.pool.now in
    let new = c.relax.new.pool in
    let here : (next : Next) → ((top : ℕ) (before after : List Form) (since : List (ℕ × Side)) →
    IsNextStep (Accepted c.relax.new.source) top before after (record { box = costs; since = since }) next) →
    (since : List (ℕ × Side)) →
    IsNextStep (Accepted c.args.source.now) c.args.desk.now.top old new (record { box = costs; since = since }) next =
    λ next is since. next_same (Accepted c.args.source.now) (Accepted c.relax.new.source) c.args.desk.now.top old new
    (record { box = costs; since = since }) next c.relax.ensures.left.same.same_points (is c.args.desk.now.top old new since) in
    IfOk-weaker _ _ _ here c.at_least_point.ensures.next

pub returns-in_err-relax-clause-asked : goal.returns-in_err-relax-clause-asked
returns-in_err-relax-clause-asked g c =
    let p = err_from_is_err_and c.from_residual.result c.from_residual.ensures.1 in
    rw p.1 refl

pub returns-in-Accepted-clause-asked : goal.returns-in-Accepted-clause-asked
returns-in-Accepted-clause-asked g c =
    let Accepted = g.S.FormSource.accepted in
    let old = c.args.source.now in
    let new = c.relax.new.source in
    asked_next_there (IsLeastPoint (Accepted new)) (IsLeastPoint (Accepted old)) _ c.args.costs.now c.at_least_point.result _ _
    (λ b point least. least_same (Accepted new) (Accepted old) b point (swapped (Accepted old) (Accepted new) c.relax.ensures.left.same.same_points) least)
    c.at_least_point.ensures.asked

pub returns-in-Wide-clause-asked : goal.returns-in-Wide-clause-asked
returns-in-Wide-clause-asked g c = halve_ready _ _ _ _ _ _ _ c.halved.ensures refl
