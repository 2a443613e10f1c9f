-- The sum is that of the terms before the index.
use Rattle.std.proofs.Common.{◌≡◌}
use Rattle.std.specs.Prelude.{fold, take}
use Rattle.whole_numbers.specs.Fractions.{plus}
use Rattle.design_problem.specs.Steps.{terms}
use Rattle.fraction_lines.specs.TableLines.{IsTableNumber}
use Rattle.fraction_lines.proofs.sum.sum_at.Given as goal

abbrev pub invariant-loop-term : goal.invariant-loop-term
invariant-loop-term l = record {
  so_far : l.sum ≡ fold plus l.fn.start (take l.term-index (terms l.form.coefficients l.lines l.place));
  number : IsTableNumber l.top l.sum;
}
