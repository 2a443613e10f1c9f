use Rattle.std.proofs.Common.{All, ap, subst}
use Rattle.cost_base.specs.Marks.{is_marked}
use Rattle.change_steps.specs.Rollouts.{IsRollout, Rollout}
use Rattle.change_steps.specs.Search.{HeldRollout}
use Rattle.change_steps.specs.Reaches.{IsHarmless, edges_of_step}
use Rattle.change_steps.proofs.ReachLaws.{harmless_only}
use Rattle.change_steps.proofs.held_rollout.HeldRollout.spares.Goals as goal

pub returns : goal.returns
returns c = λ spared before more only.
    harmless_only c.args.self.now.rollout before (is_marked c.args.state.now.done.items) c.args.step c.args.number
    (subst (λ (p : HeldRollout). IsRollout p.rollout) c.self.view_is c.self.invariant.rollout) more
    (subst (λ (r : Rollout). All (IsHarmless r (is_marked c.args.state.now.done.items) c.args.number) (edges_of_step r c.args.step))
    (ap (λ (p : HeldRollout). p.rollout) c.self.view_is) (c.spares.ensures spared)) only
