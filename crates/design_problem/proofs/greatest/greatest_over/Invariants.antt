use Rattle.design_problem.proofs.GreatestSums.{IsSummed}
use Rattle.design_problem.proofs.greatest.greatest_over.Given as goal

abbrev pub invariant-loop-term : goal.invariant-loop-term
invariant-loop-term l = IsSummed l.low l.high l.form.constant l.terms l.term-index l.sum
