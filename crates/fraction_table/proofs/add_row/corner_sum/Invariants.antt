-- The sum with what is left of the terms is the whole value.
use Rattle.std.proofs.Common.{◌≡◌, ◌^◌, ◌+◌, ◌*◌, pos, ◌+ℤ◌, ◌≤ℤ◌, drop}
use Rattle.design_problem.proofs.TermLaws.{product_in, total}
use Rattle.fraction_table.proofs.add_row.corner_sum.Given as goal

abbrev pub invariant-loop-term : goal.invariant-loop-term
invariant-loop-term l = record {
  so_far : (l.sum +ℤ total (product_in l.low) (drop l.term-index l.terms)) ≡ (l.form.constant +ℤ total (product_in l.low) l.terms);
  most : l.sum ≤ℤ pos (2 ^ 63 + l.term-index * 2 ^ 42);
  least : pos 0 ≤ℤ (l.sum +ℤ pos (2 ^ 63 + l.term-index * 2 ^ 42));
}
