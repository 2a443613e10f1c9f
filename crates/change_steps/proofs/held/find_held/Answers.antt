use Rattle.change_steps.proofs.held.find_held.Goals as goal

pub held_beside-requires-clause-present : goal.held_beside-requires-clause-present
held_beside-requires-clause-present c = c.in_ok-present.ensures.state

pub held_beside-requires-clause-none : goal.held_beside-requires-clause-none
held_beside-requires-clause-none c = c.in_ok-present.ensures.none
