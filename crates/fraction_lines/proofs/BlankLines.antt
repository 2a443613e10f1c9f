-- Lines of zeros: what stands in them, their length, and such a line after its constant was put.
use Rattle.std.proofs.Common.{◌≡◌, ℕ, zero, suc, ◌+◌, ◌-◌, ◌∙◌, refl, ap, List, ◌∷◌, map, length, arith}
use Rattle.std.specs.Prelude.{slice_set, slice_index_or}
use Rattle.cost_base.specs.Lists.{numbers_from}
use Rattle.cost_base.proofs.ListLemmas.{length-map-numbers_from}
use Rattle.whole_numbers.specs.Fractions.{Fraction}
use Rattle.design_problem.specs.Basis.{entry}
use Rattle.fraction_lines.specs.TableLines.{blank_line, nothing}

pub blank_at : (a n k : ℕ) → slice_index_or (map (λ column. nothing) (numbers_from a n)) k nothing ≡ nothing
blank_at a zero k = refl
blank_at a (suc n) zero = refl
blank_at a (suc n) (suc k) = blank_at (a + 1) n k

pub blank_entry : (width place : ℕ) → entry (blank_line width) place ≡ nothing
blank_entry width zero = refl
blank_entry width (suc k) = blank_at 0 width k

pub blank_size : (width : ℕ) → length (blank_line width) ≡ suc width
blank_size width = ap suc (length-map-numbers_from (λ column. nothing) 0 width)

pub blank_long : (line : List Fraction) (width : ℕ) → line ≡ blank_line width → length line ≡ suc width
blank_long line width line_is = ap length line_is ∙ blank_size width

-- a line that was cleared is one of zeros
pub cleared_is : (old cleared : List Fraction) (width : ℕ) → length old ≡ suc width →
    cleared ≡ blank_line (length old - 1) → cleared ≡ blank_line width
cleared_is old cleared width long is =
    let same : length old - 1 ≡ width = omega (arith, long) in
    is ∙ ap blank_line same

-- and then got a constant
pub cleared_set : (old cleared now : List Fraction) (width : ℕ) (value : Fraction) → length old ≡ suc width →
    cleared ≡ blank_line (length old - 1) → now ≡ slice_set cleared 0 value →
    now ≡ value ∷ map (λ column. nothing) (numbers_from 0 width)
cleared_set old cleared now width value long is now_is = now_is ∙ ap (λ qs. slice_set qs 0 value) (cleared_is old cleared width long is)
