use Rattle.std.proofs.Common.{ℕ, ◌<◌, get_or}
use Rattle.design_problem.specs.Forms.{no_term}
use Rattle.bound_propagation.specs.Tightening.{NoneAt}
use Rattle.bound_propagation.proofs.tightening.tighten_within.Given as goal

abbrev pub invariant-loop-term : goal.invariant-loop-term
invariant-loop-term l = (k : ℕ) → k < l.term-index → NoneAt l.form l.costs (get_or l.terms k no_term).var
