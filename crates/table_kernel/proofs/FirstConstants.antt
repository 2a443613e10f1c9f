-- The constants of a kernel that stand first are those of its lines, and the others are what those make of them.
use Rattle.std.proofs.Common.{◌≡◌, ℕ, ◌+◌, ◌^◌, ◌<◌, ◌≤◌, refl, sym, ◌∙◌, ap, subst, length, arith}
use Rattle.std.specs.Prelude.{ℤ, pos, ◌+ℤ◌, ◌-ℤ◌, ◌*ℤ◌, nat_abs, slice_index, slice_index_or}
use Rattle.std.proofs.lemmas.Int.{unsigned_abs-mul}
use Rattle.whole_numbers.specs.Lists.{number_at}
use Rattle.whole_numbers.proofs.Sizes.{positive_is}
use Rattle.design_problem.specs.declared.tree.Member.{Member}
use Rattle.design_problem.specs.declared.tree.Member.TheVariants.{Low}
use Rattle.design_problem.specs.Basis.{member_form}
use Rattle.design_problem.specs.Forms.{no_form, value_for_costs}
use Rattle.fraction_table.specs.ValidTables.{number_of_form}
use Rattle.fraction_table.proofs.Bases.{members_begin}
use Rattle.fraction_table.proofs.Pivots.{high_place, members_long, row_place}
use Rattle.integer_pivots.specs.Lines.{no_line}
use Rattle.integer_pivots.specs.Numbers.{product_sum}
use Rattle.table_kernel.specs.declared.kernel.Kernel.{Kernel}
use Rattle.table_kernel.specs.Constants.{AreByFirst, AreFirstSmall, constant_of_line, high_constant}
use Rattle.table_kernel.specs.Kernels.{IsKernel, lows_of, width_of}
use Rattle.table_kernel.specs.Numbers.{share_of}
use Rattle.table_kernel.specs.Rows.{row_constant_of}
use Rattle.table_kernel.specs.Turns.{line_of}
use Rattle.table_kernel.proofs.AtBasis.{kernel_basis}
use Rattle.table_kernel.proofs.Columns.{constant_number, constants_long, low_constant_at, low_constants}
use Rattle.table_kernel.proofs.ConstantSums.{sums_alike}
use Rattle.table_kernel.proofs.PlaceConstants.{high_place_constant, low_place}

module _ (k : Kernel) (m : IsKernel k) where
  many : length k.constants.items ≡ width_of k + width_of k + length k.table.rows.items
  many = m.shaped.constants ∙ members_long k.table.costs (length k.table.rows.items)

  -- that of x - low for a variable
  pub low_first : (v : ℕ) → v < width_of k → number_at k.constants.items v ≡ constant_of_line k v
  low_first v v_in =
      low_place k m v v (slice_index k.table.costs.low v) (omega (arith, v_in, many)) v_in refl
      (members_begin k.table.costs (length k.table.rows.items) v (Low 0 0) v_in)

  -- it is small
  pub first_small : AreFirstSmall k k.constants.items
  first_small v v_in =
      let line = line_of k v in
      let limit = m.bounded.low v no_line (omega (arith, v_in, m.shaped.lows)) in
      subst (λ (z : ℤ). nat_abs z ≤ 2 ^ 44) (sym (low_first v v_in))
      (omega (arith, limit, unsigned_abs-mul line.constant (pos (share_of (nat_abs k.common) line))))

  -- that of high - x
  high_first : (v : ℕ) → v < width_of k → number_at k.constants.items (width_of k + v)
      ≡ high_constant (slice_index k.table.costs.low v) (slice_index k.table.costs.high v) k.common (number_at k.constants.items v)
  high_first v v_in =
      let range = pos (slice_index k.table.costs.high v) -ℤ pos (slice_index k.table.costs.low v) in
      high_place_constant k m (width_of k + v) v (slice_index k.table.costs.high v) (omega (arith, v_in, many)) v_in refl
      (high_place k.table.costs (length k.table.rows.items) v (Low 0 0) v_in)
      ∙ ap (λ (z : ℤ). (z *ℤ range) -ℤ constant_of_line k v) (sym (positive_is k.common m.bounded.positive))
      ∙ ap (λ (z : ℤ). (k.common *ℤ range) -ℤ z) (sym (low_first v v_in))

  -- and those of the rows
  row_first : (row : ℕ) → row < length k.table.rows.items → number_at k.constants.items (width_of k + width_of k + row)
      ≡ row_constant_of k.common k.table.costs.low k.constants.items (slice_index_or k.table.rows.items row no_form)
  row_first row row_in =
      let f = slice_index_or k.table.rows.items row no_form in
      let value = value_for_costs f k.table.costs.low in
      let D = nat_abs k.common in
      let few = (m.tableau.fit row no_form row_in).count in
      (kernel_basis k m).1 (width_of k + width_of k + row) (omega (arith, row_in, many))
      ∙ ap (λ (member : Member). number_of_form D k.table.costs.low (lows_of k) (member_form (width_of k) k.table.rows.items member) 0)
      (row_place k.table.costs (length k.table.rows.items) row (Low 0 0) row_in)
      ∙ constant_number k D k.table.costs.low f
      ∙ ap (λ (z : ℤ). (z *ℤ value) +ℤ product_sum f.coefficients (low_constants k)) (sym (positive_is k.common m.bounded.positive))
      ∙ ap (λ (z : ℤ). (k.common *ℤ value) +ℤ z)
      (sums_alike f.coefficients (low_constants k) k.constants.items (omega (arith, few, constants_long k m.shaped)) (omega (arith, few, many))
      (λ v v_in. low_constant_at k m.shaped v (omega (arith, v_in, few)) ∙ sym (low_first v (omega (arith, v_in, few)))))

  pub by_first : AreByFirst k k.constants.items
  by_first = record { count = refl; high = high_first; rows = row_first }
