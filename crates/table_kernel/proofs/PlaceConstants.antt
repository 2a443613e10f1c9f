-- The constants of a kernel's forms, by its lines of x - low.
use Rattle.std.proofs.Common.{◌≡◌, ℕ, ◌+◌, ◌<◌, refl, sym, ◌∙◌, ap, length, arith, inl, inr}
use Rattle.std.specs.Prelude.{ℤ, pos, ◌-ℤ◌, ◌*ℤ◌, nat_abs, slice_index, slice_index_or}
use Rattle.whole_numbers.specs.Lists.{number_at}
use Rattle.design_problem.specs.declared.tree.Member.{Member}
use Rattle.design_problem.specs.declared.tree.Member.TheVariants.{Low, High, Row}
use Rattle.design_problem.specs.Basis.{member_form}
use Rattle.fraction_table.specs.Pivots.{member_at}
use Rattle.fraction_table.specs.ValidTables.{members_of_box, number_of_form}
use Rattle.fraction_table.proofs.Bases.{members_begin}
use Rattle.fraction_table.proofs.Pivots.{high_place, members_long, row_place}
use Rattle.table_kernel.specs.declared.kernel.Kernel.{Kernel}
use Rattle.table_kernel.specs.Constants.{constant_of_line}
use Rattle.table_kernel.specs.Kernels.{IsKernel, IsShaped, lows_of, width_of}
use Rattle.table_kernel.proofs.AtBasis.{kernel_basis}
use Rattle.table_kernel.proofs.Columns.{constants_long, low_constant_at, low_constants}
use Rattle.table_kernel.proofs.Places.{high_total, low_total, place_cases}

-- the constant of a place's form
place_constant : (k : Kernel) → IsKernel k → (place : ℕ) (member : Member) → place < length k.constants.items →
    member_at k.table place ≡ member → number_at k.constants.items place
    ≡ number_of_form (nat_abs k.common) k.table.costs.low (lows_of k) (member_form (width_of k) k.table.rows.items member) 0
place_constant k m place member place_in is =
    (kernel_basis k m).1 place place_in
    ∙ ap (λ (x : Member). number_of_form (nat_abs k.common) k.table.costs.low (lows_of k) (member_form (width_of k) k.table.rows.items x) 0) is

-- that of x - low is its line's
pub low_place : (k : Kernel) → IsKernel k → (place v bound : ℕ) → place < length k.constants.items → v < width_of k →
    bound ≡ slice_index k.table.costs.low v → member_at k.table place ≡ Low v bound →
    number_at k.constants.items place ≡ constant_of_line k v
low_place k m place v bound place_in v_in bound_is is =
    place_constant k m place (Low v (slice_index k.table.costs.low v)) place_in (is ∙ ap (Low v) bound_is)
    ∙ low_total k.table.costs k.table.rows.items (nat_abs k.common) (lows_of k) (low_constants k) refl (constants_long k m.shaped) v v_in
    ∙ low_constant_at k m.shaped v v_in

-- and that of high - x the range's multiple less that
pub high_place_constant : (k : Kernel) → IsKernel k → (place v bound : ℕ) → place < length k.constants.items → v < width_of k →
    bound ≡ slice_index k.table.costs.high v → member_at k.table place ≡ High v bound →
    number_at k.constants.items place
    ≡ ((pos (nat_abs k.common) *ℤ (pos (slice_index k.table.costs.high v) -ℤ pos (slice_index k.table.costs.low v))) -ℤ constant_of_line k v)
high_place_constant k m place v bound place_in v_in bound_is is =
    let range = pos (slice_index k.table.costs.high v) -ℤ pos (slice_index k.table.costs.low v) in
    place_constant k m place (High v (slice_index k.table.costs.high v)) place_in (is ∙ ap (High v) bound_is)
    ∙ high_total k.table.costs k.table.rows.items (nat_abs k.common) (lows_of k) (low_constants k) refl (constants_long k m.shaped) v v_in
    ∙ ap (λ (z : ℤ). (pos (nat_abs k.common) *ℤ range) -ℤ z) (low_constant_at k m.shaped v v_in)

-- which kind of form a member names, and its number
abbrev kind_of : Member → ℕ
kind_of (Low v bound) = 0
kind_of (High v bound) = 1
kind_of (Row row) = 2

abbrev number_of : Member → ℕ
number_of (Low v bound) = v
number_of (High v bound) = v
number_of (Row row) = row

-- a row's place
pub row_is_at : (k : Kernel) → IsShaped k → (place row : ℕ) → place < length k.constants.items → member_at k.table place ≡ Row row →
    place ≡ width_of k + width_of k + row
row_is_at k s place row place_in is =
    let n = width_of k in
    let many = length k.table.rows.items in
    elim (place_cases n many place (omega (arith, place_in, s.constants, members_long k.table.costs many))) [
      | inl low ↦ (let e : 0 ≡ 2 = ap kind_of (sym (members_begin k.table.costs many place (Low 0 0) low) ∙ is) in absurd (omega (arith, e)))
      | inr (inl high) ↦
          let e : 1 ≡ 2 = ap kind_of (sym (high_place k.table.costs many high.0 (Low 0 0) high.1)
          ∙ ap (λ (p : ℕ). slice_index_or (members_of_box k.table.costs many) p (Low 0 0)) high.2 ∙ is) in
          absurd (omega (arith, e))
      | inr (inr late) ↦
          let same : late.0 ≡ row =
          ap number_of (sym (row_place k.table.costs many late.0 (Low 0 0) late.1)
          ∙ ap (λ (p : ℕ). slice_index_or (members_of_box k.table.costs many) p (Low 0 0)) late.2 ∙ is) in
          omega (arith, late.2, same)
    ]
