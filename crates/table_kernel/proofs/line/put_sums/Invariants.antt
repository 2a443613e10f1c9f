-- At each column the sum with what is left of the terms is the whole one, and there is room for the rest.
use Rattle.std.proofs.Common.{◌≡◌, nat_abs, length}
use Rattle.table_kernel.proofs.Factors.{ArePutTo}
use Rattle.table_kernel.proofs.line.put_sums.Given as goal

abbrev pub invariant-loop-term : goal.invariant-loop-term
invariant-loop-term l = record {
  count : length l.sums ≡ length l.fn.sums;
  put : ArePutTo (nat_abs l.common) l.lows l.term-items l.term-index l.sums;
}
