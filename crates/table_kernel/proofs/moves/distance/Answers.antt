-- One more difference is in the sum.
use Rattle.std.proofs.Common.{◌≡◌, ◌∙◌, ◌*◌, ◌^◌, ◌<◌, ap, sym, suc, arith, w64, to_z, of_z}
use Rattle.std.specs.Prelude.{pos, ◌+ℤ◌, ◌≤ℤ◌, nat_abs}
use Rattle.std.proofs.lemmas.Int.{ints}
use Rattle.integer_pivots.proofs.Sizes.{read_number}
use Rattle.table_kernel.proofs.Distances.{distance_turn, none_left}
use Rattle.table_kernel.proofs.moves.distance.Goals as goal

pub loop-index-preserved : goal.loop-index-preserved
loop-index-preserved c =
    let sum = to_z w64 c.loop-index.sum-bits in
    let d = c.range_of.result in
    let a = c.abs-sum.result in
    let i = c.loop-index.index in
    let v = c.loop-index.invariant in
    let d_kept = read_number d (omega (arith, c.range_of.ensures.small)) in
    let a_is : a ≡ pos (nat_abs d) = c.abs-sum.ensures.value ∙ ap (λ z. pos (nat_abs z)) d_kept in
    let a_kept : to_z w64 (of_z w64 a) ≡ a = ap (λ z. to_z w64 (of_z w64 z)) a_is
    ∙ read_number (pos (nat_abs d)) (omega (arith, c.range_of.ensures.small)) ∙ sym a_is in
    let i_in : i < 2 ^ 32 = omega (arith, c.loop-index-test.true, c.requires.few) in
    let low : pos 0 ≤ℤ (sum +ℤ a) = omega (arith, ints, v.from_zero, a_is) in
    let high : (sum +ℤ a) ≤ℤ pos (suc i * 2 ^ 27) = omega (arith, ints, v.small, a_is, c.range_of.ensures.small) in
    let both : to_z w64 (of_z w64 (sum +ℤ to_z w64 (of_z w64 a))) ≡ (sum +ℤ a) =
    ap (λ z. to_z w64 (of_z w64 (sum +ℤ z))) a_kept ∙ read_number (sum +ℤ a) (omega (arith, ints, low, high, i_in)) in
    rw both
    (record {
      whole = distance_turn c.args.first.now c.args.second.now i sum d a c.loop-index-test.true
          (omega (arith, c.loop-index-test.true, c.requires.long)) v.whole c.range_of.ensures.range a_is;
      from_zero = low;
      small = omega (arith, ints, high);
    })

pub returns-clause-exact : goal.returns-clause-exact
returns-clause-exact c =
    let left = none_left c.args.first.now c.args.second.now c.loop-index.index (omega (arith, c.loop-index-test.false, c.loop-index.auto.index-end)) in
    omega (arith, ints, c.loop-index.invariant.whole, left)

pub returns-clause-small : goal.returns-clause-small
returns-clause-small c = omega (arith, ints, c.loop-index.invariant.small, c.loop-index.auto.index-end, c.requires.few)
