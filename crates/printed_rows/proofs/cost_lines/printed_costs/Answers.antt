-- Costs of the variables can be printed.
use Rattle.std.proofs.Common.{◌≡◌, ◌∙◌, ap, subst}
use Rattle.design_problem.specs.Problems.{DesignProblem, IsProblem}
use Rattle.printed_rows.proofs.CostLaws.{costs_printed, names_known}
use Rattle.printed_rows.proofs.cost_lines.printed_costs.Goals as goal

pub cost_lines-requires : goal.cost_lines-requires
cost_lines-requires c =
    let p = c.args.problem.now in
    let kept : IsProblem p = subst (λ (q : DesignProblem). IsProblem q) c.problem.view_is c.problem.invariant in
    let names_are : c.as_slice.result.now ≡ p.vars = c.as_slice.ensures ∙ ap (λ (q : DesignProblem). q.vars) c.problem.view_is in
    names_known p c.args.costs.now c.as_slice.result.now kept c.requires.counted names_are

pub returns : goal.returns
returns c =
    let p = c.args.problem.now in
    let kept : IsProblem p = subst (λ (q : DesignProblem). IsProblem q) c.problem.view_is c.problem.invariant in
    let names_are : c.as_slice.result.now ≡ p.vars = c.as_slice.ensures ∙ ap (λ (q : DesignProblem). q.vars) c.problem.view_is in
    costs_printed p c.args.costs.now c.greatest_of.result c.from_items.result c.as_slice.result.now
    c.in_ok-lines.lines.items kept c.requires.counted c.requires.positive c.cost_lines.ensures.most
    c.in_ok-lines.ensures.lines names_are c.greatest_of.ensures c.from_items.ensures
