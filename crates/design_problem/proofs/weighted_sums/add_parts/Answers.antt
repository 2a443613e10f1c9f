use Rattle.std.proofs.Common.{◌≡◌, ℕ, ◌*◌, ◌^◌, ◌<◌, ◌≤◌, sym, ◌∙◌, ap, get_or, length, rules, SFits, w64, to_z, of_z, arith}
use Rattle.std.specs.Int.{w128}
use Rattle.std.specs.Prelude.{ℤ, pos, ◌+ℤ◌, ◌*ℤ◌, nat_abs, sum_by}
use Rattle.std.proofs.lemmas.Int.{to_z-of_z}
use Rattle.design_problem.specs.Forms.{Form, IsSmallForm}
use Rattle.design_problem.proofs.PartLaws.{constant_more, coefficient_more, size_of_part, room_for, constant_small, sizes_small, coefficient_small, small_at, form_read}
use Rattle.design_problem.proofs.weighted_sums.add_parts.Goals.{After-index-forms-part}
use Rattle.design_problem.proofs.weighted_sums.add_parts.Goals as goal

-- the form of the part's row is small
small_here : (c : After-index-forms-part) → IsSmallForm (length c.args.sums.now) c.index-forms-part.result
small_here c =
    let k = c.loop-part.part-index in
    small_at (length c.args.sums.now) c.args.forms.now (get_or c.args.parts.now k (0, 0)).0 c.index-forms-part.result
    c.requires.forms (c.requires.rows k (0, 0) c.loop-part-test.true) c.index-forms-part.is

pub add_form-requires-clause-count : goal.add_form-requires-clause-count
add_form-requires-clause-count c =
    let small = small_here (goal.at.add_form-requires-clause-count c).After-index-forms-part in
    small.count ∙ sym c.loop-part.auto.sums

pub add_form-requires-clause-room : goal.add_form-requires-clause-room
add_form-requires-clause-room c i i_in =
    let k = c.loop-part.part-index in
    let r = c.index-forms-part.result in
    let small = small_here (goal.at.add_form-requires-clause-room c).After-index-forms-part in
    room_for c.args.parts.now k (0, 0) (nat_abs (get_or c.loop-part.sums i (pos 0))) (sum_by nat_abs r.coefficients)
    c.loop-part-test.true c.requires.sum
    (c.loop-part.invariant.each_size i (omega (arith, i_in, c.loop-part.auto.sums))) (sizes_small _ r small)

pub plus_product-constant-requires-clause-size : goal.plus_product-constant-requires-clause-size
plus_product-constant-requires-clause-size c =
    let k = c.loop-part.part-index in
    let part : ℕ × ℕ = get_or c.args.parts.now k (0, 0) in
    let r = c.index-forms-part.result in
    let small = small_here (goal.at.plus_product-constant-requires-clause-size c).After-index-forms-part in
    let fits : SFits w64 c.constant.result = search rules in
    let room = room_for c.args.parts.now k (0, 0) _ _ c.loop-part-test.true c.requires.sum c.loop-part.invariant.constant_size (constant_small _ r small) in
    let is = ap (λ (z : ℤ). part.1 * nat_abs z) (to_z-of_z w64 c.constant.result fits ∙ c.constant.ensures) in
    let read = ap nat_abs c.loop-part.constant-is in
    omega (arith, room, is, read)

pub loop-part-preserved : goal.loop-part-preserved
loop-part-preserved c =
    let n = length c.args.sums.now in
    let k = c.loop-part.part-index in
    let part : ℕ × ℕ = get_or c.args.parts.now k (0, 0) in
    let r = c.index-forms-part.result in
    let small = small_here (goal.at.loop-part-preserved c).After-index-forms-part in
    let forms = c.args.forms.now in
    let read = form_read forms part.0 r (c.requires.rows k (0, 0) c.loop-part-test.true) c.index-forms-part.is in
    let fits : SFits w64 c.constant.result = search rules in
    let result_fits : SFits w128 c.plus_product-constant.result = search rules in
    let a : ℤ = to_z w128 c.loop-part.constant-bits in
    let x : ℤ = to_z w128 (of_z w128 c.plus_product-constant.result) in
    let constant : x ≡ (a +ℤ (pos part.1 *ℤ r.constant)) =
    to_z-of_z w128 c.plus_product-constant.result result_fits ∙ c.plus_product-constant.ensures
    ∙ ap (λ (z : ℤ). a +ℤ (pos part.1 *ℤ z)) (to_z-of_z w64 c.constant.result fits ∙ c.constant.ensures) in
    let each = λ (i : ℕ) (i_in : i < n). c.add_form.ensures i (omega (arith, i_in, c.loop-part.auto.sums)) in
    record {
      constant =
          constant_more forms c.args.parts.now k (0, 0) a x c.loop-part-test.true
          (constant ∙ ap (λ (f : Form). a +ℤ (pos part.1 *ℤ f.constant)) (sym read))
          ∙ c.loop-part.invariant.constant;
      each = λ i i_in.
          coefficient_more forms c.args.parts.now k i (0, 0) (get_or c.loop-part.sums i (pos 0)) (get_or c.add_form.new.sums i (pos 0)) c.loop-part-test.true
          (each i i_in
          ∙ ap (λ (f : Form). get_or c.loop-part.sums i (pos 0) +ℤ (pos part.1 *ℤ get_or f.coefficients i (pos 0))) (sym read))
          ∙ c.loop-part.invariant.each i i_in;
      constant_size =
          size_of_part c.args.parts.now k (0, 0) a x r.constant c.loop-part-test.true c.loop-part.invariant.constant_size
          (let e : nat_abs r.constant ≤ 2 ^ 27 = omega (arith, constant_small n r small) in e) constant;
      each_size = λ i i_in.
          size_of_part c.args.parts.now k (0, 0) (get_or c.loop-part.sums i (pos 0))
          (get_or c.add_form.new.sums i (pos 0)) (get_or r.coefficients i (pos 0)) c.loop-part-test.true
          (c.loop-part.invariant.each_size i i_in) (coefficient_small n r i i_in small) (each i i_in);
    }
