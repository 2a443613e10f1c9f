-- One more number is within.
use Rattle.std.proofs.Common.{◌≡◌, ◌^◌, ◌≤◌, ap, arith, get_or, inl, inr, nat_abs, w64, to_z, of_z}
use Rattle.std.specs.Prelude.{pos}
use Rattle.integer_pivots.proofs.Sizes.{more_within, read_known, read_number}
use Rattle.integer_pivots.proofs.bounds.greatest.Goals as goal

pub loop-index-preserved : goal.loop-index-preserved
loop-index-preserved c =
    let xs = c.args.numbers.now in
    let i = c.loop-index.index in
    let z = get_or xs i (pos 0) in
    let e = c.greater_size-most.ensures in
    let before = c.loop-index.invariant in
    let small : nat_abs z ≤ 2 ^ 62 = c.requires i (pos 0) c.loop-index-test.true in
    let size : nat_abs (to_z w64 (of_z w64 z)) ≡ nat_abs z = ap nat_abs (read_number z (omega (arith, small))) in
    let known : to_z w64 (of_z w64 c.greater_size-most.result) ≡ c.greater_size-most.result =
    read_known c.greater_size-most.result c.greater_size-most.type_inv in
    rw known
    (record {
      within = more_within _ _ xs i c.loop-index-test.true e.most (omega (arith, size, e.number)) before.within;
      least = λ most all.
          let here : nat_abs z ≤ most = all i (pos 0) c.loop-index-test.true in
          elim e.either [
            | inl same ↦ omega (arith, ap nat_abs same, before.least most all)
            | inr same ↦ omega (arith, same, size, here)
          ];
      from_zero = e.from_zero;
    })
