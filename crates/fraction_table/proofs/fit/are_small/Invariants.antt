-- The terms before the counter have small coefficients.
use Rattle.std.proofs.Common.{ℕ, ◌^◌, ◌<◌, ◌≤◌, nat_abs}
use Rattle.fraction_lines.proofs.TermSums.{term_in}
use Rattle.fraction_table.proofs.fit.are_small.Given as goal

abbrev pub invariant-loop-term : goal.invariant-loop-term
invariant-loop-term l = (k : ℕ) → k < l.term-index → nat_abs (term_in l.terms k).coefficient ≤ 2 ^ 26
