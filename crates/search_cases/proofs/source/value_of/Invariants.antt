use Rattle.std.proofs.Common.{◌≡◌, ◌^◌, ◌+◌, ◌*◌, pos, ◌+ℤ◌, ◌*ℤ◌, ◌≤ℤ◌, drop}
use Rattle.design_problem.proofs.TermLaws.{total, product_in}
use Rattle.search_cases.proofs.source.value_of.Given as goal

abbrev pub invariant-loop-term : goal.invariant-loop-term
invariant-loop-term l = record {
  whole : (l.sum +ℤ total (product_in l.values) (drop l.term-index l.terms)) ≡ ((l.form.constant *ℤ pos l.point.scale) +ℤ total (product_in l.values) l.terms);
  most : l.sum ≤ℤ pos (2 ^ 120 + l.term-index * 2 ^ 118);
  least : pos 0 ≤ℤ (l.sum +ℤ pos (2 ^ 120 + l.term-index * 2 ^ 118));
}
