-- The rows before the counter fit.
use Rattle.std.proofs.Common.{ℕ, ◌<◌, get_or}
use Rattle.design_problem.specs.Forms.{no_form}
use Rattle.fraction_table.specs.Tableaus.{FitsBox}
use Rattle.fraction_table.proofs.fit.fit_box.Given as goal

abbrev pub invariant-loop-index : goal.invariant-loop-index
invariant-loop-index l = (k : ℕ) → k < l.index → FitsBox l.costs (get_or l.rows k no_form)
