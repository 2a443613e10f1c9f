use Rattle.std.proofs.Common.{List, Bool, subst}
use Rattle.change_steps.specs.States.{MayFollow}
use Rattle.change_steps.proofs.WalkLaws.{begun_under_way}
use Rattle.change_steps.proofs.state_search.Walk.search.Goals as goal

pub take_rounds-requires : goal.take_rounds-requires
take_rounds-requires c =
    begun_under_way c.args.held_rollout.now c.args.nodes c.args.self.now c.in-Some.field-0 c.requires
    (subst (λ (m : List Bool). MayFollow c.args.held_rollout.now.rollout c.args.held_rollout.now.held m c.in-Some.field-0) c.deref.ensures.value
    c.in-Some.ensures)
