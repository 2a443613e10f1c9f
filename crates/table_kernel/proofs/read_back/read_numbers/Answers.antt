-- One number more.
use Prim.Native.Nat.{◌∣◌}
use Rattle.std.proofs.Common.{◌<◌, ◌^◌, suc, sym, ap, subst, length, arith, w64}
use Rattle.std.specs.Prelude.{ℤ, nat_abs}
use Rattle.std.proofs.lemmas.Int.{to_z-of_z}
use Rattle.whole_numbers.specs.Fractions.{Fraction}
use Rattle.integer_pivots.proofs.Sizes.{read}
use Rattle.table_kernel.specs.ReadBack.{over_denominator}
use Rattle.table_kernel.proofs.ReadLines.{next_read}
use Rattle.table_kernel.proofs.TurnArgs.{range_read}
use Rattle.table_kernel.proofs.read_back.read_numbers.Goals.{After-entry}
use Rattle.table_kernel.proofs.read_back.read_numbers.Goals as goal

column_in : (c : After-entry) → c.loop-column.column < length c.args.numbers.now
column_in c = omega (arith, c.loop-column-test.true, ap length c.as_slice-column-end.ensures)

pub number_over-requires-clause-whole : goal.number_over-requires-clause-whole
number_over-requires-clause-whole c =
    let inside = column_in (goal.at.number_over-requires-clause-whole c).After-entry in
    subst (λ (z : ℤ). c.entry.result.denominator ∣ nat_abs z) (sym (to_z-of_z w64 c.args.denominator c.ranges.denominator))
    (subst (λ (q : Fraction). q.denominator ∣ nat_abs c.args.denominator) (sym c.entry.ensures)
    (c.requires.whole (suc c.loop-column.column) (omega (arith, c.requires.fractions, inside))))

pub loop-column-preserved : goal.loop-column-preserved
loop-column-preserved c =
    next_read c.args.fractions.now (read c.args.denominator) c.args.numbers.now c.loop-column.numbers c.set.new.self c.loop-column.column c.entry.result
    c.in-Some.number (column_in (goal.at.loop-column-preserved c).After-entry) c.entry.ensures c.loop-column.invariant c.in-Some.ensures c.set.ensures

pub entry-requires : goal.entry-requires
entry-requires c = omega (arith, c.loop-column-test.true, ap length c.as_slice-column-end.ensures, c.requires.fractions)

pub number_over-requires-clause-denominator : goal.number_over-requires-clause-denominator
number_over-requires-clause-denominator c = range_read c.args.denominator c.requires.denominator

pub returns-in_default-clause-refused : goal.returns-in_default-clause-refused
returns-in_default-clause-refused c = (
  c.loop-column.column,
  omega (arith, c.loop-column-test.true, ap length c.as_slice-column-end.ensures),
  subst (λ (q : Fraction). 2 ^ 30 < nat_abs (over_denominator (nat_abs c.args.denominator) q)) c.entry.ensures
      (subst (λ (z : ℤ). 2 ^ 30 < nat_abs (over_denominator (nat_abs z) c.entry.result)) (to_z-of_z w64 c.args.denominator c.ranges.denominator)
      c.in_default.ensures),
)
