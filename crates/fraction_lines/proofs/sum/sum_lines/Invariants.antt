-- The terms before the index are put.
use Rattle.std.proofs.Common.{◌≡◌, ℕ, ◌<◌, length}
use Rattle.std.specs.Prelude.{fold, take}
use Rattle.whole_numbers.specs.Fractions.{plus}
use Rattle.design_problem.specs.Basis.{entry}
use Rattle.design_problem.specs.Steps.{terms}
use Rattle.fraction_lines.specs.TableLines.{AreTableNumbers}
use Rattle.fraction_lines.proofs.sum.sum_lines.Given as goal

abbrev pub invariant-loop-term : goal.invariant-loop-term
invariant-loop-term l = record {
  sums : (place : ℕ) → place < length l.initial.sum →
      entry l.sum place ≡ fold plus (entry l.initial.sum place)
      (take l.term-index (terms l.form.coefficients l.lines place));
  numbers : AreTableNumbers l.top l.sum;
  width : length l.sum ≡ length l.initial.sum;
  scratch : length l.scratch ≡ length l.initial.sum;
}
