-- The constants of the box's forms are put, and then those of the rows.
use Rattle.std.proofs.Common.{◌≡◌, ℕ, ◌+◌, ◌<◌, ◌≤◌, ◌^◌, ◌∙◌, ◌++◌, refl, arith, length, take, drop, subst, sym, ap, List, w64, to_z, of_z}
use Rattle.std.specs.Prelude.{ℤ, nat_abs, pos, ◌+ℤ◌, ◌-ℤ◌, ◌*ℤ◌, slice_index, slice_index_or}
use Rattle.whole_numbers.specs.Lists.{number_at}
use Rattle.whole_numbers.proofs.Sizes.{positive_is}
use Rattle.design_problem.specs.declared.form.Form.{Form}
use Rattle.design_problem.specs.Forms.{no_form, value_for_costs}
use Rattle.fraction_table.proofs.Pivots.{members_long}
use Rattle.integer_pivots.specs.declared.line.Line.{Line}
use Rattle.integer_pivots.specs.Lines.{no_line}
use Rattle.integer_pivots.specs.Numbers.{AllWithin, product_sum}
use Rattle.integer_pivots.proofs.Sizes.{number_within, read_number}
use Rattle.integer_pivots.proofs.WrittenPlaces.{written}
use Rattle.table_kernel.specs.Constants.{AreConstantsPut, AreCoveredRows, IsShortConstant, line_constant}
use Rattle.table_kernel.specs.Kernels.{width_of}
use Rattle.table_kernel.proofs.Columns.{common_small, constants_long, constants_within, low_constant_at, low_constants}
use Rattle.table_kernel.proofs.ConstantSums.{sums_alike}
use Rattle.table_kernel.proofs.Places.{constants_are}
use Rattle.table_kernel.proofs.TurnArgs.{range_read}
use Rattle.table_kernel.proofs.kernel.Kernel.put_constants.Goals.{After-as_slice-2}
use Rattle.table_kernel.proofs.kernel.Kernel.put_constants.Goals as goal

pub put_bound_constants-requires-clause-places : goal.put_bound_constants-requires-clause-places
put_bound_constants-requires-clause-places c =
    let k = c.args.self.now in
    record {
      high = c.requires.high;
      variables = ap length c.as_slice.ensures.value ∙ c.requires.shaped.lows;
      places = omega (arith, c.requires.shaped.constants, members_long k.table.costs (length k.table.rows.items), ap length c.as_mut_slice.ensures.value);
    }

pub put_bound_constants-requires-clause-short : goal.put_bound_constants-requires-clause-short
put_bound_constants-requires-clause-short c v d v_in =
    let k = c.args.self.now in
    let b = c.requires.bounded in
    let common = read_number k.common (omega (arith, common_small k b)) in
    let v_there : v < length k.lows.items = subst (λ (ls : List Line). v < length ls) c.as_slice.ensures.value v_in in
    subst (λ (z : ℤ). IsShortConstant z (slice_index_or c.as_slice.result.now v d)) (sym common)
    (subst (λ (ls : List Line). IsShortConstant k.common (slice_index_or ls v d)) (sym c.as_slice.ensures.value)
    (record { positive = (b.lines v d v_there).positive; divides = b.divides v d v_there; limit = b.low v d v_there }))

-- what stands first
module _ (c : After-as_slice-2) where
  first_is : c.as_mut_slice-2.result.now ≡ c.put_bound_constants.new.constants
  first_is =
      let k = c.args.self.now in
      let long : length c.put_bound_constants.new.constants ≡ length k.constants.items = c.put_bound_constants.ensures.count ∙
      ap length c.as_mut_slice.ensures.value in
      c.as_mut_slice-2.ensures.value ∙ written k.constants.len c.put_bound_constants.new.constants k.constants.items long k.constants.ok.0

  first_long : length c.as_mut_slice-2.result.now ≡ length c.args.self.now.constants.items
  first_long = ap length first_is ∙ c.put_bound_constants.ensures.count ∙ ap length c.as_mut_slice.ensures.value

  low_is : (v : ℕ) → v < width_of c.args.self.now → number_at c.as_mut_slice-2.result.now v ≡ number_at (low_constants c.args.self.now) v
  low_is v v_in =
      let k = c.args.self.now in
      let common = read_number k.common (omega (arith, common_small k c.requires.bounded)) in
      ap (λ (zs : List ℤ). number_at zs v) first_is
      ∙ c.put_bound_constants.ensures.low v v_in
      ∙ ap (λ (ls : List Line). line_constant (to_z w64 (of_z w64 k.common)) (slice_index_or ls v no_line)) c.as_slice.ensures.value
      ∙ ap (λ (z : ℤ). line_constant z (slice_index_or k.lows.items v no_line)) common
      ∙ sym (low_constant_at k c.requires.shaped v v_in)

pub put_row_constants-requires-clause-many : goal.put_row_constants-requires-clause-many
put_row_constants-requires-clause-many c =
    let k = c.args.self.now in
    omega (
      arith,
      c.requires.shaped.constants,
      members_long k.table.costs (length k.table.rows.items),
      first_long (goal.at.put_row_constants-requires-clause-many c).After-as_slice-2,
      ap length c.as_slice-2.ensures.value,
    )

pub put_row_constants-requires-clause-constants : goal.put_row_constants-requires-clause-constants
put_row_constants-requires-clause-constants c v v_in =
    let k = c.args.self.now in
    subst (λ (z : ℤ). nat_abs z ≤ 2 ^ 44) (sym (low_is (goal.at.put_row_constants-requires-clause-constants c).After-as_slice-2 v v_in))
    (number_within (2 ^ 44) (low_constants k) v (constants_within k c.requires.bounded))

pub returns-clause-constants : goal.returns-clause-constants
returns-clause-constants c =
    let k = c.args.self.now in
    let s = c.requires.shaped in
    let a = (goal.at.returns-clause-constants c).After-as_slice-2 in
    let n = width_of k in
    let zs = low_constants k in
    let new = c.put_row_constants.new.constants in
    let r = c.put_row_constants.ensures in
    let D = nat_abs k.common in
    let common_is : to_z w64 (of_z w64 k.common) ≡ pos D = read_number k.common (omega (arith, common_small k c.requires.bounded)) ∙
    positive_is k.common c.requires.bounded.positive in
    let first = written k.constants.len c.put_bound_constants.new.constants k.constants.items
    (c.put_bound_constants.ensures.count ∙ ap length c.as_mut_slice.ensures.value) k.constants.ok.0 in
    let new_long : length new ≡ length k.constants.items = r.count ∙ first_long a in
    let all_is = written k.constants.len new c.put_bound_constants.new.constants
    (new_long ∙ sym (c.put_bound_constants.ensures.count ∙ ap length c.as_mut_slice.ensures.value))
    (k.constants.ok.0 ∙ sym (c.put_bound_constants.ensures.count ∙ ap length c.as_mut_slice.ensures.value)) in
    let is : AreConstantsPut k new =
    record {
      count = new_long;
      each = constants_are k.table.costs k.table.rows.items D _ zs refl (constants_long k s) new
          (new_long ∙ s.constants ∙ members_long k.table.costs (length k.table.rows.items))
          (λ v v_in. r.bounds v (omega (arith, v_in)) ∙ low_is a v v_in)
          (λ v v_in. (
          r.bounds (n + v) (omega (arith, v_in))
          ∙ ap (λ (ys : List ℤ). number_at ys (n + v)) (first_is a)
          ∙ c.put_bound_constants.ensures.high v v_in
          ∙ ap (λ (z : ℤ). (z *ℤ (pos (slice_index k.table.costs.high v) -ℤ pos (slice_index k.table.costs.low v))) -ℤ line_constant
          (to_z w64 (of_z w64 k.common)) (slice_index_or c.as_slice.result.now v no_line)) common_is
          ∙ ap (λ (z : ℤ). (pos D *ℤ (pos (slice_index k.table.costs.high v) -ℤ pos (slice_index k.table.costs.low v))) -ℤ z)
          (sym (c.put_bound_constants.ensures.low v v_in) ∙ ap (λ (ys : List ℤ). number_at ys v) (sym (first_is a)) ∙ low_is a v v_in)))
          (λ row row_in. (
          let f = slice_index_or k.table.rows.items row no_form in
          let few = (c.requires.fit row no_form row_in).count in
          r.rows row (subst (λ (fs : List Form). row < length fs) (sym c.as_slice-2.ensures.value) row_in)
          ∙ ap (λ (fs : List Form). (to_z w64 (of_z w64 k.common) *ℤ value_for_costs (slice_index_or fs row no_form) k.table.costs.low)
          +ℤ product_sum (slice_index_or fs row no_form).coefficients c.as_mut_slice-2.result.now) c.as_slice-2.ensures.value
          ∙ ap (λ (z : ℤ). (z *ℤ value_for_costs f k.table.costs.low) +ℤ product_sum f.coefficients c.as_mut_slice-2.result.now) common_is
          ∙ ap (λ (z : ℤ). (pos D *ℤ value_for_costs f k.table.costs.low) +ℤ z)
          (sums_alike f.coefficients c.as_mut_slice-2.result.now zs
          (omega (arith, few, first_long a, s.constants, members_long k.table.costs (length k.table.rows.items)))
          (omega (arith, few, constants_long k s))
          (λ i i_in. low_is a i (omega (arith, i_in, few))))));
    } in
    subst (AreConstantsPut k) (sym (ap (λ (ys : List ℤ). take k.constants.len (new ++ drop (length new) ys)) first ∙ all_is)) is

pub put_bound_constants-requires-clause-common : goal.put_bound_constants-requires-clause-common
put_bound_constants-requires-clause-common c =
    let b = c.requires.bounded in
    range_read c.args.self.now.common (b.positive, b.common)

pub put_row_constants-requires-clause-rows : goal.put_row_constants-requires-clause-rows
put_row_constants-requires-clause-rows c =
    subst (AreCoveredRows c.args.self.now.table.costs) (sym c.as_slice-2.ensures.value) (record { fit = c.requires.fit; light = c.requires.bounded.rows })

pub put_row_constants-requires-clause-common : goal.put_row_constants-requires-clause-common
put_row_constants-requires-clause-common c =
    let b = c.requires.bounded in
    range_read c.args.self.now.common (b.positive, b.common)

pub returns-clause-small : goal.returns-clause-small
returns-clause-small c =
    let k = c.args.self.now in
    let a = (goal.at.returns-clause-small c).After-as_slice-2 in
    let bound = c.put_bound_constants.ensures in
    let long = bound.count ∙ ap length c.as_mut_slice.ensures.value in
    let first = written k.constants.len c.put_bound_constants.new.constants k.constants.items long k.constants.ok.0 in
    let all_is = written k.constants.len c.put_row_constants.new.constants c.put_bound_constants.new.constants
    (c.put_row_constants.ensures.count ∙ first_long a ∙ sym long) (k.constants.ok.0 ∙ sym long) in
    subst (AllWithin (2 ^ 62)) (sym (ap (λ (ys : List ℤ). take k.constants.len (c.put_row_constants.new.constants ++ drop
    (length c.put_row_constants.new.constants) ys)) first ∙ all_is))
    (c.put_row_constants.ensures.small
    (subst (AllWithin (2 ^ 62)) (sym (first_is a)) (bound.small (subst (AllWithin (2 ^ 62)) (sym c.as_mut_slice.ensures.value) c.requires.bounded.constants))))

pub returns-clause-keeps : goal.returns-clause-keeps
returns-clause-keeps c =
    record { table = refl; common = refl; lows = refl; leads = refl; uses = refl; turns = refl; left = refl; entering = refl }
