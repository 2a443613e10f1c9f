-- The next column with a mark joins those before it.
use Rattle.std.proofs.Common.{◌+◌, sym, ap, subst, arith, length}
use Rattle.integer_pivots.specs.Turns.{AreNonZeros}
use Rattle.integer_pivots.proofs.TouchedColumns.{non_zero_joins, zeros_pass}
use Rattle.integer_pivots.proofs.turned_line.put_touched.Goals as goal

pub loop-column-preserved : goal.loop-column-preserved
loop-column-preserved c =
    let line = c.args.line.now in
    let column = c.loop-column.column in
    let next = c.next-column-in-loop-column in
    record {
      touched =
          zeros_pass line (column + 1) next.result _
          (subst (AreNonZeros line (column + 1)) (sym c.push_reserved.ensures.items)
          (non_zero_joins line column c.loop-column.touched.items c.loop-column.invariant.touched)) next.ensures.from next.ensures.passed;
      count = omega (arith, c.push_reserved.ensures.len, next.ensures.from);
      until = next.ensures.within;
      room = omega (arith, c.push_reserved.ensures.capacity);
    }

pub returns-clause-touched : goal.returns-clause-touched
returns-clause-touched c =
    subst (λ n. AreNonZeros c.args.line.now n c.loop-column.touched.items)
    (omega (arith, c.loop-column.invariant.until, c.loop-column-test.false, ap length c.as_slice.ensures)) c.loop-column.invariant.touched
