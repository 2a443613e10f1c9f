use Rattle.std.proofs.Common.{◌≡◌, take}
use Rattle.design_problem.proofs.restricted.copied_names.Given as goal

abbrev pub invariant-loop-name : goal.invariant-loop-name
invariant-loop-name l = l.copies.items ≡ take l.name-index l.names
