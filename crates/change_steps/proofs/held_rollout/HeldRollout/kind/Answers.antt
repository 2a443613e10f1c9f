use Rattle.std.proofs.Common.{◌∙◌}
use Rattle.change_steps.proofs.HeldRolloutLaws.{kind_is, kind_known}
use Rattle.change_steps.proofs.held_rollout.HeldRollout.kind.Goals as goal

pub kind_at-requires : goal.kind_at-requires
kind_at-requires c =
    kind_known _ c.args.self.now c.self.inside.kinds.items c.as_slice.result.now c.self.inside.reach c.args.step c.self.invariant c.self.view_is
    c.as_slice.ensures.value c.requires

pub returns : goal.returns
returns c =
    c.kind_at.ensures
    ∙ kind_is _ c.args.self.now c.self.inside.kinds.items c.as_slice.result.now c.self.inside.reach c.args.step c.self.invariant c.self.view_is
    c.as_slice.ensures.value c.requires
