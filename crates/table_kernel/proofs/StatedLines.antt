-- The lines of the table that a kernel stands for, by the numbers that it holds.
use Rattle.std.proofs.Common.{◌≡◌, ℕ, suc, ◌<◌, refl, sym, ◌∙◌, ap, subst, [], ◌∷◌, map, length}
use Rattle.std.specs.Prelude.{pos, nat_abs, slice_index_or}
use Rattle.std.proofs.lemmas.List.{get_or-map, length-map}
use Rattle.whole_numbers.specs.Fractions.{whole}
use Rattle.whole_numbers.specs.Lists.{number_at}
use Rattle.design_problem.specs.Basis.{entry}
use Rattle.design_problem.specs.Steps.{IsRefutingForm}
use Rattle.fraction_table.specs.Pivots.{line_at}
use Rattle.fraction_table.proofs.Refuting.{IsRefutingLine}
use Rattle.table_kernel.specs.declared.kernel.Kernel.{Kernel}
use Rattle.table_kernel.specs.Kernels.{IsKernel, stated, width_of}
use Rattle.table_kernel.specs.Numbers.{number_at_column, over_common}
use Rattle.table_kernel.specs.Lines.{column_of, form_of_place, numbers_of_place}
use Rattle.table_kernel.proofs.AtBasis.{stated_lines}
use Rattle.table_kernel.proofs.Restated.{line_number, line_of_place, lines_many, numbers_long}

pub stated_line : (k : Kernel) → IsKernel k → (place : ℕ) → place < length k.constants.items →
    line_at (stated k) place ≡ map (over_common (nat_abs k.common)) (number_at k.constants.items place ∷ numbers_of_place k place)
stated_line k m place place_in =
    ap (λ lines. slice_index_or lines place []) (stated_lines k m.shaped)
    ∙ sym (line_of_place k m place place_in _ refl)

pub stated_entry : (k : Kernel) → IsKernel k → (place column : ℕ) → place < length k.constants.items →
    column < width_of k → entry (line_at (stated k) place) (suc column)
    ≡ over_common (nat_abs k.common) (number_at_column (form_of_place k place) (column_of k column))
stated_entry k m place column place_in column_in =
    ap (λ line. entry line (suc column)) (stated_line k m place place_in)
    ∙ get_or-map (over_common (nat_abs k.common)) (numbers_of_place k place) column (pos 0) (whole (pos 0))
    (subst (λ (n : ℕ). column < n) (sym (numbers_long k place)) column_in)
    ∙ ap (over_common (nat_abs k.common)) (line_number k place column column_in)

pub stated_long : (k : Kernel) → IsKernel k → (place : ℕ) → place < length k.constants.items → length (line_at (stated k) place) ≡ suc (width_of k)
stated_long k m place place_in =
    ap length (stated_line k m place place_in)
    ∙ ap suc (length-map (numbers_of_place k place) (over_common (nat_abs k.common)) ∙ numbers_long k place)

-- there is a line for each constant
pub stated_many : (k : Kernel) → IsKernel k → length (stated k).lines.items ≡ length k.constants.items
stated_many k m = ap length (stated_lines k m.shaped) ∙ lines_many k m.shaped

-- a place whose form is a refuting one is a line that is
pub stated_refuting : (k : Kernel) (place : ℕ) → IsKernel k → place < length k.constants.items →
    IsRefutingForm k.table.basis.items (line_at (stated k) place) → IsRefutingLine (stated k) place
stated_refuting k place m place_in refuting =
    record {
      tableau = m.tableau;
      line_in = subst (λ (n : ℕ). place < n) (sym (stated_many k m)) place_in;
      refuting = refuting;
    }
