use Rattle.std.specs.Prelude.{slice_set}
use Rattle.design_problem.proofs.GreatestSums.{IsSummed}
use Rattle.design_problem.proofs.greatest.greatest_with.Given as goal

abbrev pub invariant-loop-term : goal.invariant-loop-term
invariant-loop-term l = IsSummed (slice_set l.low l.var l.low_end) (slice_set l.high l.var l.high_end) l.form.constant l.terms l.term-index l.sum
