-- The outcome of the held rollout is that of its rollout.
use Rattle.std.proofs.Common.{subst}
use Rattle.change_steps.specs.Rollouts.{Rollout}
use Rattle.change_steps.specs.Outcomes.{IsOutcome}
use Rattle.change_steps.proofs.EndLaws.{steps_found}
use Rattle.change_steps.proofs.finding.find_steps.Goals as goal

pub returns : goal.returns
returns c =
    steps_found c.new-rollout.result _ c.in_ok-held_rollout.held_rollout.held c.args.nodes _ c.new-rollout.ensures c.in_ok-held_rollout.ensures.held
    (subst (λ (r : Rollout). IsOutcome r c.in_ok-held_rollout.held_rollout.held c.args.nodes c.in_ok-outcome.outcome) c.in_ok-held_rollout.ensures.rollout
    c.in_ok-outcome.ensures)
    c.into_held.ensures
