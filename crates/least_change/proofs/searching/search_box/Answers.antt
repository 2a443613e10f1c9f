-- The box of a set is a box of costs.
use Rattle.std.proofs.Common.{length, subst, sym, ◌≤◌}
use Rattle.std.specs.Prelude.{All}
use Rattle.design_problem.specs.declared.boxes.CostBox.{CostBox}
use Rattle.design_problem.specs.Problems.{DesignProblem}
use Rattle.design_problem.specs.Boxes.{IsBox}
use Rattle.least_change.proofs.InBoxes.{kept_is_box, kept_positive}
use Rattle.least_change.proofs.KnownTrees.{keepable_known}
use Rattle.least_change.proofs.searching.search_box.Goals as goal

pub kept_box-requires : goal.kept_box-requires
kept_box-requires c =
    keepable_known c.args.question.now.problem c.args.question.now.present c.args.kept.now c.keeps_conditions.ensures.present c.requires.keepable

pub decide_within-requires-clause-ranges : goal.decide_within-requires-clause-ranges
decide_within-requires-clause-ranges c =
    let q = c.args.question.now in
    let here : IsBox (length q.problem.low) c.in_ok-costs.costs =
    subst (λ (box : CostBox). IsBox (length q.problem.low) box) (sym c.in_ok-costs.ensures)
    (kept_is_box q.problem q.present c.args.kept.now c.keeps_conditions.ensures.problem.problem c.keeps_conditions.ensures.present c.requires.keepable) in
    subst (λ (p : DesignProblem). IsBox (length p.low) c.in_ok-costs.costs) (sym c.problem.ensures) here

pub decide_within-requires-clause-lows : goal.decide_within-requires-clause-lows
decide_within-requires-clause-lows c =
    let q = c.args.question.now in
    subst (λ (box : CostBox). All (λ low. 1 ≤ low) box.low) (sym c.in_ok-costs.ensures)
    (kept_positive q.problem q.present c.args.kept.now c.keeps_conditions.ensures.problem.problem c.keeps_conditions.ensures.present c.requires.keepable)
