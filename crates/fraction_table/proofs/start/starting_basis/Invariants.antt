-- The forms of the variables before the index were put.
use Rattle.std.proofs.Common.{◌≡◌, map}
use Rattle.std.specs.Prelude.{slice_index}
use Rattle.cost_base.specs.Lists.{numbers_from}
use Rattle.design_problem.specs.declared.tree.Member.TheVariants.{Low}
use Rattle.fraction_table.proofs.start.starting_basis.Given as goal

abbrev pub invariant-loop-var : goal.invariant-loop-var
invariant-loop-var l = l.basis.items ≡ map (λ v. Low v (slice_index l.low v)) (numbers_from 0 l.var)
