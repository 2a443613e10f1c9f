-- A line of zeros is filled with numbers over a common denominator, from the left.
use Rattle.std.proofs.Common.{◌≡◌, ℕ, suc, ◌+◌, ◌-◌, ◌<◌, ◌≤◌, sym, ◌∙◌, ap, List, ◌∷◌, ◌++◌, map, take, drop, length, arith}
use Rattle.std.specs.Prelude.{ℤ, pos, slice_set}
use Rattle.std.proofs.lemmas.List.{get_or-map, length-map}
use Rattle.cost_base.specs.Lists.{numbers_from}
use Rattle.whole_numbers.specs.Fractions.{Fraction}
use Rattle.whole_numbers.specs.Lists.{number_at}
use Rattle.design_problem.specs.Basis.{entry}
use Rattle.fraction_lines.specs.TableLines.{blank_line, nothing}
use Rattle.fraction_lines.proofs.BlankLines.{blank_entry, blank_size, cleared_set}
use Rattle.fraction_table.proofs.BetweenBoxes.{all_written, length-written, unwritten, written_next}
use Rattle.table_kernel.specs.Numbers.{over_common}

-- the constant and the first numbers stand in the line
abbrev pub filled_to : ℕ → ℤ → List ℤ → ℕ → List Fraction
filled_to D z zs count = take (suc count) (map (over_common D) (z ∷ zs)) ++ drop (suc count) (blank_line (length zs))

same_length : (D : ℕ) (z : ℤ) (zs : List ℤ) → length (blank_line (length zs)) ≡ length (map (over_common D) (z ∷ zs))
same_length D z zs = blank_size (length zs) ∙ sym (length-map (z ∷ zs) (over_common D))

pub fill_first : (D : ℕ) (z : ℤ) (zs : List ℤ) (old line new : List Fraction) (q : Fraction) →
    length old ≡ suc (length zs) → line ≡ blank_line (length old - 1) →
    new ≡ slice_set line 0 q → q ≡ over_common D z → new ≡ filled_to D z zs 0
fill_first D z zs old line new q long line_is new_is q_is =
    cleared_set old line new (length zs) q long line_is new_is
    ∙ ap (λ (p : Fraction). p ∷ map (λ column. nothing) (numbers_from 0 (length zs))) q_is

pub fill_next : (D : ℕ) (z : ℤ) (zs : List ℤ) (column : ℕ) (line new : List Fraction) (q : Fraction) →
    column < length zs → q ≡ over_common D (number_at zs column) → line ≡ filled_to D z zs column →
    new ≡ slice_set line (suc column) q → new ≡ filled_to D z zs (column + 1)
fill_next D z zs column line new q column_in q_is line_is new_is =
    let xs = blank_line (length zs) in
    let ys = map (over_common D) (z ∷ zs) in
    let there : suc column < length ys = omega (arith, length-map (z ∷ zs) (over_common D), column_in) in
    let next : suc column + 1 ≡ suc (column + 1) = omega arith in
    new_is
    ∙ ap (λ (l : List Fraction). slice_set l (suc column) q) line_is
    ∙ written_next xs ys (suc column) nothing q (omega (arith, there, same_length D z zs)) there
    (q_is ∙ sym (get_or-map (over_common D) (z ∷ zs) (suc column) (pos 0) nothing (omega (arith, column_in))))
    ∙ ap (λ k. take k ys ++ drop k xs) next

-- behind them there are zeros
pub fill_behind : (D : ℕ) (z : ℤ) (zs : List ℤ) (column : ℕ) (line : List Fraction) → line ≡ filled_to D z zs column →
    (later : ℕ) → column ≤ later → entry line (suc later) ≡ nothing
fill_behind D z zs column line line_is later from =
    ap (λ (l : List Fraction). entry l (suc later)) line_is
    ∙ unwritten (blank_line (length zs)) (map (over_common D) (z ∷ zs)) (suc column) (suc later) nothing (omega (arith, from)) (same_length D z zs)
    ∙ blank_entry (length zs) (suc later)

pub fill_long : (D : ℕ) (z : ℤ) (zs : List ℤ) (column : ℕ) (line : List Fraction) → line ≡ filled_to D z zs column → length line ≡ suc (length zs)
fill_long D z zs column line line_is =
    ap length line_is
    ∙ length-written (blank_line (length zs)) (map (over_common D) (z ∷ zs)) (suc column) (same_length D z zs)
    ∙ blank_size (length zs)

pub fill_done : (D : ℕ) (z : ℤ) (zs : List ℤ) (column : ℕ) (line : List Fraction) → column ≡ length zs →
    line ≡ filled_to D z zs column → line ≡ map (over_common D) (z ∷ zs)
fill_done D z zs column line all line_is =
    let xs = blank_line (length zs) in
    let ys = map (over_common D) (z ∷ zs) in
    line_is
    ∙ all_written xs ys (suc column) (blank_size (length zs) ∙ ap suc (sym all))
    (length-map (z ∷ zs) (over_common D) ∙ ap suc (sym all))
