-- The cap is the greatest bound.
use Rattle.std.proofs.Common.{◌≡◌, ℕ, ◌≤◌, ◌∙◌, ap, subst, sym, List, length}
use Rattle.std.specs.Prelude.{All}
use Rattle.std.proofs.lemmas.Result.{IfOk-weaker}
use Rattle.design_problem.specs.declared.boxes.CostBox.{CostBox}
use Rattle.design_problem.specs.Problems.{DesignProblem, IsProblem}
use Rattle.design_problem.specs.Boxes.{IsBox, capped}
use Rattle.design_problem.specs.Rows.{box_of, greatest_cost}
use Rattle.design_problem.specs.Answers.{greatest_bound, whole_box}
use Rattle.design_problem.proofs.ProblemTrees.{low_below}
use Rattle.least_change.proofs.boxes.whole_box.Goals as goal

cap_is : (p : DesignProblem) (high : List ℕ) (cap : ℕ) → high ≡ p.high → cap ≡ greatest_cost high → cap ≡ greatest_bound p
cap_is p high cap same is = is ∙ ap greatest_cost same

pub box_at-requires : goal.box_at-requires
box_at-requires c =
    let p = c.problem-problem.result.now in
    let is = cap_is p c.as_slice.result.now c.greatest_of-cap.result
    (c.as_slice.ensures ∙ ap (λ (q : DesignProblem). q.high) c.problem.view_is) c.greatest_of-cap.ensures in
    let kept = subst IsProblem (sym c.problem-problem.ensures) c.keeps_conditions.ensures.problem.problem in
    subst (λ (n : ℕ). All (λ low. low ≤ n) p.low) (sym is) (low_below p kept)

pub returns-clause-cut : goal.returns-clause-cut
returns-clause-cut c =
    let p = c.problem-problem.result.now in
    let is = cap_is p c.as_slice.result.now c.greatest_of-cap.result
    (c.as_slice.ensures ∙ ap (λ (q : DesignProblem). q.high) c.problem.view_is) c.greatest_of-cap.ensures in
    IfOk-weaker c.box_at.result (λ (costs : CostBox). costs ≡ capped (box_of p) c.greatest_of-cap.result)
    (λ (costs : CostBox). costs ≡ whole_box c.args.question.now.problem)
    (λ costs cut. cut ∙ ap (λ (n : ℕ). capped (box_of p) n) is ∙ ap whole_box c.problem-problem.ensures) c.box_at.ensures.cut

pub returns-clause-ranges : goal.returns-clause-ranges
returns-clause-ranges c =
    let p = c.problem-problem.result.now in
    IfOk-weaker c.box_at.result (λ (costs : CostBox). IsBox (length p.low) costs)
    (λ (costs : CostBox). IsBox (length c.args.question.now.problem.low) costs)
    (λ costs is. subst (λ (q : DesignProblem). IsBox (length q.low) costs) c.problem-problem.ensures is) c.box_at.ensures.ranges
