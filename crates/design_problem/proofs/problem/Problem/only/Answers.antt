use Rattle.std.proofs.Common.{◌∙◌, sym, subst, ap, List, map, length}
use Rattle.std.specs.Prelude.{◌<◌, All}
use Rattle.design_problem.specs.declared.problem.Request.{Request}
use Rattle.design_problem.specs.Problems.{DesignProblem, IsProblem, request_at}
use Rattle.design_problem.specs.contracts.problem.Problem.{the_view}
use Rattle.design_problem.proofs.RestrictedProblems.{restricted_kept, same_problem}
use Rattle.design_problem.proofs.problem.Problem.only.Goals as goal

pub invariant_of-result : goal.invariant_of-result
invariant_of-result c =
    let p = the_view c.self.inside in
    let made = same_problem c.in_ok-graph.graph c.self.inside.graph c.from_items.result c.self.inside.vars
    c.in_ok-low.low c.self.inside.low c.in_ok-high.high c.self.inside.high c.from_items-2.result
    (map (request_at c.self.inside.requests) c.args.members.now)
    c.in_ok-graph.ensures
    (c.from_items.ensures ∙ c.in_ok-vars.ensures ∙ c.as_slice-2.ensures)
    c.in_ok-low.ensures c.in_ok-high.ensures
    (c.from_items-2.ensures ∙ c.in_ok-requests.ensures ∙ ap (λ (rs : List Request). map (request_at rs) c.args.members.now) c.as_slice.ensures) in
    let known = subst (λ (q : DesignProblem). All (λ m. m < length q.requests) c.args.members.now) (sym c.self.view_is) c.requires.known in
    subst IsProblem (sym made) (restricted_kept (the_view c.self.inside) c.args.members.now c.self.invariant c.requires.rising known)
