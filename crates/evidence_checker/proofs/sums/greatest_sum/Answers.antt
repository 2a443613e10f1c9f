use Rattle.std.proofs.Common.{◌∙◌, arith, get_or, ap, take, to_z}
use Rattle.std.specs.Int.{w128}
use Rattle.std.specs.Prelude.{ℤ, pos, ◌+ℤ◌, nat_abs}
use Rattle.std.proofs.lemmas.Int.{ints, to_z-of_z}
use Rattle.std.proofs.lemmas.List.Sums.{sum_by-drop_more}
use Rattle.design_problem.specs.Boxes.{upper_sum, upper_term}
use Rattle.design_problem.proofs.UpperSums.{upper_sum-more}
use Rattle.whole_numbers.proofs.Sizes.{sum_size}
use Rattle.evidence_checker.proofs.Greatest.{more_fits, one_fits, read_is_small, whole_sum}
use Rattle.evidence_checker.proofs.sums.greatest_sum.Goals as goal

pub returns : goal.returns
returns c =
    whole_sum c.args.coefficients.now c.args.low.now c.args.high.now c.loop-i.i c.args.constant (to_z w128 c.loop-i.sum-bits) c.loop-i-test.false
    c.requires.low c.requires.high (c.loop-i.invariant.so_far
    ∙ ap (λ (z : ℤ). z +ℤ upper_sum (take c.loop-i.i c.args.coefficients.now) (take c.loop-i.i c.args.low.now) (take c.loop-i.i c.args.high.now))
    (to_z-of_z w128 c.args.constant c.ranges.constant))

pub loop-i-preserved : goal.loop-i-preserved
loop-i-preserved c =
    let i = c.loop-i.i in
    let coefficient = get_or c.args.coefficients.now i (pos 0) in
    let fits = one_fits c.args.coefficients.now i (to_z w128 c.loop-i.sum-bits) c.loop-i-test.true c.loop-i.invariant.size in
    let term = ap (λ (z : ℤ). upper_term z (get_or c.args.low.now i 0) (get_or c.args.high.now i 0)) (to_z-of_z w128 coefficient fits) in
    let more = upper_sum-more c.args.coefficients.now c.args.low.now c.args.high.now i c.loop-i-test.true c.requires.low c.requires.high in
    let split = sum_by-drop_more nat_abs c.args.coefficients.now i (pos 0) c.loop-i-test.true in
    let sized = sum_size c.loop-i.sum c.greatest_term-sum.result in
    let size = ap nat_abs (to_z-of_z w128 coefficient fits) in
    record {
      so_far = omega (arith, ints, more, term, c.greatest_term-sum.ensures.value, c.loop-i.invariant.so_far);
      size = omega (arith, ints, split, sized, size, c.greatest_term-sum.ensures.size, c.loop-i.invariant.size);
    }

pub greatest_term-sum-requires : goal.greatest_term-sum-requires
greatest_term-sum-requires c =
    read_is_small c.args.coefficients.now c.loop-i.i (to_z w128 c.loop-i.sum-bits) c.loop-i-test.true c.loop-i.invariant.size

pub overflow_add-sum : goal.overflow_add-sum
overflow_add-sum c =
    more_fits c.args.coefficients.now c.loop-i.i (to_z w128 c.loop-i.sum-bits) c.greatest_term-sum.result c.loop-i-test.true c.loop-i.invariant.size
    c.greatest_term-sum.ensures.size
