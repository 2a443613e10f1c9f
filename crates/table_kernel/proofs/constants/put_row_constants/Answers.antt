-- One more row's constant is put.
use Rattle.std.proofs.Common.{ℕ, refl, ◌≡◌, ◌+◌, ◌<◌, ◌≤◌, ◌^◌, ◌∙◌, arith, length, subst, sym, ap, w64, to_z, of_z, get_or-set_other}
use Rattle.std.specs.Prelude.{ℤ, nat_abs, pos, ◌+ℤ◌, ◌*ℤ◌, slice_index_or}
use Rattle.std.proofs.lemmas.List.{get_or_default, length-set}
use Rattle.std.proofs.lemmas.List.Elements.{All-set}
use Rattle.design_problem.specs.Forms.{no_form, value_for_costs}
use Rattle.integer_pivots.proofs.Sizes.{read_number}
use Rattle.whole_numbers.specs.Lists.{number_at}
use Rattle.table_kernel.specs.Rows.{IsCovered, row_constant_of}
use Rattle.fraction_table.specs.Tableaus.{FitsBox}
use Rattle.table_kernel.proofs.Lines.{read_common}
use Rattle.table_kernel.proofs.Places.{behind_more}
use Rattle.table_kernel.proofs.TurnArgs.{range_read}
use Rattle.table_kernel.proofs.ConstantSums.{sums_alike}
use Rattle.table_kernel.proofs.constants.put_row_constants.Goals.{After-index-rows-row}
use Rattle.table_kernel.proofs.constants.put_row_constants.Goals as goal

pub loop-row-init : goal.loop-row-init
loop-row-init c =
    record { count = refl; bounds = λ v v_in. refl; rows = λ row row_in. absurd (omega (arith, row_in)); small = λ within. within }

-- the row that is read
form_is : (c : After-index-rows-row) → c.index-rows-row.result ≡ slice_index_or c.args.rows.now c.loop-row.row no_form
form_is c = c.index-rows-row.is ∙ get_or_default c.args.rows.now c.loop-row.row _ no_form c.loop-row-test.true

pub row_constant-requires-clause-fits : goal.row_constant-requires-clause-fits
row_constant-requires-clause-fits c =
    subst (FitsBox c.args.costs.now) (sym (form_is (goal.at.row_constant-requires-clause-fits c).After-index-rows-row))
    (c.requires.rows.fit c.loop-row.row no_form c.loop-row-test.true)

pub row_constant-requires-clause-light : goal.row_constant-requires-clause-light
row_constant-requires-clause-light c =
    subst IsCovered (sym (form_is (goal.at.row_constant-requires-clause-light c).After-index-rows-row))
    (c.requires.rows.light c.loop-row.row no_form c.loop-row-test.true)

pub row_constant-requires-clause-common : goal.row_constant-requires-clause-common
row_constant-requires-clause-common c = range_read c.args.common c.requires.common

pub row_constant-requires-clause-many : goal.row_constant-requires-clause-many
row_constant-requires-clause-many c = omega (arith, c.requires.many, c.loop-row.invariant.count)

pub row_constant-requires-clause-constants : goal.row_constant-requires-clause-constants
row_constant-requires-clause-constants c v v_in =
    subst (λ (z : ℤ). nat_abs z ≤ 2 ^ 44) (sym (c.loop-row.invariant.bounds v (omega (arith, v_in, ap length c.as_slice-width.ensures))))
    (c.requires.constants v v_in)

pub bounds-constants-width : goal.bounds-constants-width
bounds-constants-width c =
    omega (arith, c.loop-row-test.true, c.loop-row.invariant.count, c.requires.many, ap length c.as_slice-width.ensures)

pub loop-row-preserved : goal.loop-row-preserved
loop-row-preserved c =
    let n = length c.as_slice-width.result.now in
    let i = c.loop-row.row in
    let xs = c.loop-row.constants in
    let x = c.row_constant.result in
    let v = c.loop-row.invariant in
    let low : length c.args.costs.now.low ≡ n = ap length (sym c.as_slice-width.ensures) in
    let i_in : i < length c.args.rows.now = c.loop-row-test.true in
    let x_read = read_number x (omega (arith, c.row_constant.ensures.size)) in
    let there : n + n + i < length xs = omega (arith, i_in, v.count, c.requires.many, low) in
    let form_is : c.index-rows-row.result ≡ slice_index_or c.args.rows.now i no_form =
    c.index-rows-row.is ∙ get_or_default c.args.rows.now i _ no_form i_in in
    let few = (c.requires.rows.fit i no_form i_in).count in
    let here : x ≡ row_constant_of (to_z w64 (of_z w64 c.args.common)) c.args.costs.now.low c.args.constants.now (slice_index_or c.args.rows.now i no_form) =
    c.row_constant.ensures.constant
    ∙ ap (row_constant_of (to_z w64 (of_z w64 c.args.common)) c.args.costs.now.low xs) form_is
    ∙ ap (λ (z : ℤ). (to_z w64 (of_z w64 c.args.common) *ℤ value_for_costs (slice_index_or c.args.rows.now i no_form) c.args.costs.now.low) +ℤ z)
    (sums_alike (slice_index_or c.args.rows.now i no_form).coefficients xs c.args.constants.now
    (omega (arith, few, low, c.requires.many, v.count)) (omega (arith, few, low, c.requires.many))
    (λ k k_in. v.bounds k (omega (arith, k_in, few, low)))) in
    record {
      count = length-set xs (n + n + i) (to_z w64 (of_z w64 x)) ∙ v.count;
      bounds = λ k k_in. get_or-set_other xs (n + n + i) k (to_z w64 (of_z w64 x)) (pos 0) (λ same. omega (arith, same, k_in)) ∙ v.bounds k k_in;
      rows = behind_more (λ k z. z ≡ row_constant_of (to_z w64 (of_z w64 c.args.common)) c.args.costs.now.low c.args.constants.now
          (slice_index_or c.args.rows.now k no_form))
          (n + n) i xs (to_z w64 (of_z w64 x)) there v.rows (x_read ∙ here);
      small = λ within. All-set (λ (z : ℤ). nat_abs z ≤ 2 ^ 62) xs (n + n + i) (to_z w64 (of_z w64 x))
          (subst (λ (z : ℤ). nat_abs z ≤ 2 ^ 62) (sym x_read) (omega (arith, c.row_constant.ensures.size))) (v.small within);
    }

pub returns-clause-count : goal.returns-clause-count
returns-clause-count c = c.loop-row.invariant.count

pub returns-clause-bounds : goal.returns-clause-bounds
returns-clause-bounds c v v_in = c.loop-row.invariant.bounds v (omega (arith, v_in, ap length c.as_slice-width.ensures))

pub returns-clause-rows : goal.returns-clause-rows
returns-clause-rows c row row_in =
    ap (λ (n : ℕ). number_at c.loop-row.constants (n + n + row)) (ap length (sym c.as_slice-width.ensures))
    ∙ c.loop-row.invariant.rows row (omega (arith, row_in, c.loop-row-test.false))
    ∙ ap (λ (z : ℤ). row_constant_of z c.args.costs.now.low c.args.constants.now (slice_index_or c.args.rows.now row no_form))
    (read_common c.args.common c.requires.common)

pub returns-clause-small : goal.returns-clause-small
returns-clause-small c = c.loop-row.invariant.small
