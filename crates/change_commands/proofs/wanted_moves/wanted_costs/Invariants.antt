-- the lines so far are without a fault, and their costs are in their places
use Rattle.change_commands.proofs.WantedMoveLaws.{AreTakenTo}
use Rattle.change_commands.proofs.wanted_moves.wanted_costs.Given as goal

abbrev pub invariant-loop-line : goal.invariant-loop-line
invariant-loop-line l = AreTakenTo l.names l.present l.lines l.line-index l.costs.items l.seen.items
