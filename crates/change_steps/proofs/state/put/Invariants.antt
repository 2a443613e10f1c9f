use Rattle.change_steps.proofs.StateLaws.{ArePut}
use Rattle.change_steps.proofs.state.put.Given as goal

abbrev pub invariant-loop-variable : goal.invariant-loop-variable
invariant-loop-variable l = ArePut l.fn.values l.variables l.costs l.variable-index l.values
