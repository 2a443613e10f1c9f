-- No column before the index has the member.
use Rattle.std.proofs.Common.{◌≢◌, ℕ, ◌<◌}
use Rattle.std.specs.Prelude.{slice_index_or}
use Rattle.design_problem.specs.declared.tree.Member.TheVariants.{Low}
use Rattle.fraction_table.proofs.moves.column_of.Given as goal

abbrev pub invariant-loop-column : goal.invariant-loop-column
invariant-loop-column l = (k : ℕ) → k < l.column → slice_index_or l.basis k (Low 0 0) ≢ l.member
