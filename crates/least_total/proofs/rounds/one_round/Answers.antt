-- Costs that are found are fit, and their total is within the bound.
use Rattle.std.proofs.Common.{◌≡◌, subst}
use Rattle.design_problem.specs.declared.boxes.CostBox.{CostBox}
use Rattle.design_problem.specs.Boxes.{capped}
use Rattle.design_problem.specs.Rows.{box_of}
use Rattle.form_search.specs.declared.found.Found.{Found}
use Rattle.form_search.specs.declared.found.Found.TheVariants.{Costs}
use Rattle.form_search.specs.Finds.{IsSearchResult}
use Rattle.least_total.specs.Totals.{LeadsWithin}
use Rattle.least_total.specs.Bounded.{forms_with_total}
use Rattle.least_total.proofs.RoundLaws.{costs_found}
use Rattle.least_total.proofs.rounds.one_round.Goals as goal

pub returns-in-Costs : goal.returns-in-Costs
returns-in-Costs c =
    let p = c.args.problem.now in
    let limits = c.args.limits.now in
    let sought = c.in_ok-rows.field-0 in
    let forms = forms_with_total p c.args.most sought.rows.items sought.before in
    let is : sought.found ≡ Costs c.in-Costs.costs = c.in-Costs.is in
    let found : IsSearchResult (LeadsWithin p c.args.most) limits.top limits.nodes forms c.in_ok-costs.costs
    (Costs c.in-Costs.costs) =
    subst (λ (f : Found). IsSearchResult (LeadsWithin p c.args.most) limits.top limits.nodes forms c.in_ok-costs.costs f)
    is c.in_ok-rows.ensures.found in
    let in_box : IsSearchResult (LeadsWithin p c.args.most) limits.top limits.nodes forms (capped (box_of p) c.args.cap)
    (Costs c.in-Costs.costs) =
    subst (λ (box : CostBox). IsSearchResult (LeadsWithin p c.args.most) limits.top limits.nodes forms box
    (Costs c.in-Costs.costs)) c.in_ok-costs.ensures.cut found in
    costs_found p c.args.cap c.args.most c.in-Costs.costs c.keeps_problem_on_graph.ensures.problem in_box.0 in_box.1
