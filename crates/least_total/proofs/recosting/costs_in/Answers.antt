-- The lines of a valid optimal answer give best costs.
use Rattle.std.proofs.Common.{sym, ◌∙◌, ap, length}
use Rattle.design_problem.specs.Problems.{DesignProblem}
use Rattle.design_problem.specs.Answers.{AnswerParts, lines_in}
use Rattle.least_total.proofs.NewCosts.{given_are, given_by, lines_counted}
use Rattle.least_total.proofs.recosting.costs_in.Goals as goal

pub costs_given-requires-clause-counts : goal.costs_given-requires-clause-counts
costs_given-requires-clause-counts c =
    let names = c.as_slice.ensures ∙ ap (λ (q : DesignProblem). q.vars) c.problem.view_is in
    let lines = c.lines_in-lines.ensures ∙ ap (λ (a : AnswerParts). lines_in a.costs) c.answer.view_is in
    ap length names ∙ lines_counted c.args.problem.now c.args.answer.now c.requires.optimal.0
    c.keeps_problem_on_graph.ensures.problem c.requires.valid c.requires.optimal.1 ∙ ap length (sym lines)

pub returns : goal.returns
returns c =
    let lows = c.as_slice-count.ensures ∙ ap (λ (q : DesignProblem). q.low) c.problem.view_is in
    let names = c.as_slice.ensures ∙ ap (λ (q : DesignProblem). q.vars) c.problem.view_is in
    let lines = c.lines_in-lines.ensures ∙ ap (λ (a : AnswerParts). lines_in a.costs) c.answer.view_is in
    given_are c.args.problem.now c.args.answer.now c.requires.optimal.0 c.from_items.result
    c.keeps_problem_on_graph.ensures.problem c.requires.valid c.requires.optimal.1
    (c.from_items.ensures ∙ c.in_ok-costs.ensures
    ∙ given_by c.args.problem.now c.as_slice-count.result.now c.as_slice.result.now c.lines_in-lines.result.now
    (lines_in c.args.answer.now.costs) lows names lines)
