use Rattle.change_steps.proofs.WalkLaws.{after_round_same, under_way_same}
use Rattle.change_steps.proofs.state_search.Walk.round.Goals as goal

pub try_step-requires-clause-walk : goal.try_step-requires-clause-walk
try_step-requires-clause-walk c =
    under_way_same c.args.held_rollout.now c.args.nodes c.args.self.now c.find_next.new.self c.requires c.find_next.ensures.walk c.find_next.ensures.tested

pub retreat-requires-clause-walk : goal.retreat-requires-clause-walk
retreat-requires-clause-walk c = (
  c.args.nodes,
  under_way_same c.args.held_rollout.now c.args.nodes c.args.self.now c.find_next.new.self c.requires c.find_next.ensures.walk c.find_next.ensures.tested,
)

pub returns-in-None : goal.returns-in-None
returns-in-None c =
    after_round_same c.args.held_rollout.now c.args.nodes c.args.self.now c.find_next.new.self c.retreat.new.self c.retreat.result c.find_next.ensures.tested
    c.find_next.ensures.order
    (c.retreat.ensures c.args.nodes
    (under_way_same c.args.held_rollout.now c.args.nodes c.args.self.now c.find_next.new.self c.requires c.find_next.ensures.walk c.find_next.ensures.tested))
