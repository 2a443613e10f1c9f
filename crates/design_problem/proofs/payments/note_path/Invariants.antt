use Rattle.std.proofs.Common.{◌≡◌, ◌++◌, take}
use Rattle.design_problem.specs.Payments.{payments_of}
use Rattle.design_problem.proofs.payments.note_path.Given as goal

abbrev pub invariant-loop-e : goal.invariant-loop-e
invariant-loop-e l = l.payments.items ≡ l.fn.payments.items ++ payments_of l.graph l.by_rival (take l.e-index l.path)
