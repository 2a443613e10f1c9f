use Rattle.std.proofs.Common.{◌≡◌, take}
use Rattle.design_problem.specs.Forms.{terms_from}
use Rattle.design_problem.proofs.form.terms_of_all.Given as goal

abbrev pub invariant-loop-var : goal.invariant-loop-var
invariant-loop-var l = l.terms.items ≡ terms_from 0 (take l.var l.coefficients)
