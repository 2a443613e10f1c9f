-- The rounds begin with the answer's costs, and end with costs of the least total, or with a tree that used the budget
-- up.
use Rattle.std.proofs.Common.{rules, ◌≤◌, ℕ, sym, ◌∙◌, ap, subst, arith}
use Rattle.std.specs.Prelude.{All, Option}
use Rattle.design_problem.specs.Rows.{greatest_cost}
use Rattle.design_problem.specs.Answers.{AnswerParts}
use Rattle.least_total.specs.declared.finding.Total.TheVariants.{Least, Undecided}
use Rattle.least_total.specs.declared.rounds.TotalTree.{TotalTree}
use Rattle.least_total.specs.Rounds.{EndsAt}
use Rattle.least_total.specs.Results.{IsTotalAnswer}
use Rattle.least_total.proofs.RoundLaws.{lows_below}
use Rattle.least_total.proofs.FindingLaws.{Begins, begins, least_answered, total_undecided}
use Rattle.least_total.proofs.finding.least_total.Goals as goal
use Rattle.least_total.proofs.finding.least_total.Goals.{In_ok-so_far}

pub run_rounds-requires-clause-cap : goal.run_rounds-requires-clause-cap
run_rounds-requires-clause-cap c =
    let p = c.args.problem.now in
    let cap_is = c.greatest_of-cap.ensures ∙ ap greatest_cost c.as_slice.ensures in
    subst (λ (k : ℕ). All (λ low. low ≤ k) p.low) (sym cap_is) (lows_below p c.in_ok-costs.costs c.in_ok-costs.ensures.best.fit)

pub run_rounds-requires-clause-so_far : goal.run_rounds-requires-clause-so_far
run_rounds-requires-clause-so_far c =
    let limits = c.args.limits.now in
    let cap_is = c.greatest_of-cap.ensures ∙ ap greatest_cost c.as_slice.ensures in
    let within : greatest_cost c.in_ok-costs.costs ≤ c.greatest_of-cap.result = omega (arith, cap_is) in
    c.start-so_far.ensures limits.top limits.nodes c.greatest_of-cap.result (c.in_ok-costs.ensures.best.fit, within)

-- the problem and its cap can be printed, and the answer tells the cap
begun_at : (c : In_ok-so_far) → Begins c.args.problem.now c.args.limits.now.nodes c.greatest_of-cap.result c.args.answer
begun_at c =
    let small : c.greatest_of-cap.result ≤ 65535 = search rules in
    begins c.args.problem.now c.in_ok-costs.costs c.as_slice.result.now c.args.limits.now.nodes c.greatest_of-cap.result
    c.args.answer c.keeps_problem_on_graph.ensures c.in_ok-costs.ensures.best c.in_ok-costs.ensures.verdict
    c.as_slice.ensures c.greatest_of-cap.ensures small c.args.limits.now.budget_end

pub returns-in_ok-proof_of-in-None : goal.returns-in_ok-proof_of-in-None
returns-in_ok-proof_of-in-None c =
    let p = c.args.problem.now in
    let limits = c.args.limits.now in
    let cap = c.greatest_of-cap.result in
    let begun = begun_at (goal.at.returns-in_ok-proof_of-in-None c).In_ok-so_far in
    let s = c.in_ok-so_far.field-0.so_far in
    let ended = subst (λ (o : Option (ℕ × TotalTree)). EndsAt p limits.top limits.nodes cap s o) c.in-None.is c.in_ok-so_far.ensures.ends in
    subst (λ (a : AnswerParts). IsTotalAnswer p limits.top limits.nodes c.args.answer
    (Least a c.from-total.result c.in_ok-proof_of-in-None.field-0)) (sym c.answer-in-None.view_is)
    (least_answered p limits.top limits.nodes cap c.args.answer c.in_ok-answer.answer s c.from-total.result
    c.in_ok-proof_of-in-None.field-0 c.keeps_problem_on_graph.ensures.problem begun.tells
    c.in_ok-so_far.ensures.so_far ended c.in_ok-answer.ensures c.from-total.ensures
    (c.in_ok-proof_of-in-None.ensures p limits.top limits.nodes cap s.least begun.can
    c.in_ok-so_far.ensures.so_far.kept))

pub returns-in_ok-rows-in-Some : goal.returns-in_ok-rows-in-Some
returns-in_ok-rows-in-Some c =
    let p = c.args.problem.now in
    let limits = c.args.limits.now in
    let cap = c.greatest_of-cap.result in
    let begun = begun_at (goal.at.returns-in_ok-rows-in-Some c).In_ok-so_far in
    let s = c.in_ok-so_far.field-0.so_far in
    let ended = subst (λ (o : Option (ℕ × TotalTree)). EndsAt p limits.top limits.nodes cap s o) c.in-Some.is c.in_ok-so_far.ensures.ends in
    let printed = c.in_ok-rows-in-Some.field-0 in
    subst (λ (n : ℕ). IsTotalAnswer p limits.top limits.nodes c.args.answer
    (Undecided c.in_ok-answer.answer c.from-total.result n printed.rows printed.tree)) (sym c.from.ensures)
    (total_undecided p limits.top limits.nodes cap c.args.answer c.in_ok-answer.answer s c.from-total.result
    c.in-Some.most c.in-Some.tree printed begun.can begun.tells c.in_ok-so_far.ensures.so_far ended.0
    ended.1 ended.2
    c.in_ok-answer.ensures c.from-total.ensures c.in_ok-rows-in-Some.ensures)
