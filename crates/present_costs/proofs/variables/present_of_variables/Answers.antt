-- what is noted of the variables is the present cost of each
use Rattle.std.proofs.Common.{◌≡◌, ◌∙◌, ap, length, map}
use Rattle.std.proofs.lemmas.Result.{IfOk-weaker}
use Rattle.cost_base.specs.Lists.{numbers_from}
use Rattle.cost_base.proofs.ListLemmas.{length-map-numbers_from}
use Rattle.design_problem.specs.Problems.{DesignProblem}
use Rattle.present_costs.specs.PresentCosts.{present_of_variables}
use Rattle.present_costs.specs.Noted.{noted_within}
use Rattle.present_costs.proofs.NotedLaws.{present_is}
use Rattle.present_costs.proofs.variables.present_of_variables.Goals as goal

pub costs_within-requires-clause-noted : goal.costs_within-requires-clause-noted
costs_within-requires-clause-noted c =
    ap length (c.deref.ensures.value ∙ c.in_ok-noted.ensures) ∙ length-map-numbers_from _ 0 (length c.as_slice-low.result.now)

pub returns : goal.returns
returns c =
    let a = c.args.request_file.now in
    let d = c.args.lsdb.now in
    let low = c.as_slice-low.ensures ∙ ap (λ (p : DesignProblem). p.low) (c.problem.view_is ∙ c.requires) in
    let high = c.as_slice.ensures ∙ ap (λ (p : DesignProblem). p.high) (c.problem.view_is ∙ c.requires) in
    let bounds = c.as_slice-low.result.now in
    let noted = noted_within bounds c.as_slice.result.now c.deref.result.now in
    let are = present_is a d bounds c.as_slice.result.now c.deref.result.now low high (c.deref.ensures.value ∙ c.in_ok-noted.ensures) in
    IfOk-weaker _ (λ costs. costs.items ≡ map noted (numbers_from 0 (length bounds))) (λ costs. costs.items ≡ present_of_variables a d)
    (λ costs is. is ∙ are) c.costs_within.ensures
