-- A search that ended within a budget has an outcome by that budget.
use Rattle.change_steps.proofs.finding.outcome_in.Goals as goal

pub outcome_of-requires : goal.outcome_of-requires
outcome_of-requires c = (c.args.nodes, c.in_ok-end.ensures)

pub returns : goal.returns
returns c = c.outcome_of.ensures c.args.nodes c.in_ok-end.ensures
