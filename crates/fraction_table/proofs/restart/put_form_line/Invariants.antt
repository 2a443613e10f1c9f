-- The terms before the counter are put.
use Rattle.design_problem.specs.Forms.{value_for_costs}
use Rattle.fraction_table.proofs.Restarts.{IsPutTo}
use Rattle.fraction_table.proofs.restart.put_form_line.Given as goal

abbrev pub invariant-loop-term : goal.invariant-loop-term
invariant-loop-term l = IsPutTo (value_for_costs l.form l.costs.low) l.form.coefficients l.terms l.term-index l.line
