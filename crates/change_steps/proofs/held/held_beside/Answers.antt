use Rattle.change_steps.proofs.held.held_beside.Goals as goal

pub held_in-requires-clause-wanted : goal.held_in-requires-clause-wanted
held_in-requires-clause-wanted c = c.in_ok-wanted.ensures.state

pub held_in-requires-clause-all : goal.held_in-requires-clause-all
held_in-requires-clause-all c = c.in_ok-wanted.ensures.all
