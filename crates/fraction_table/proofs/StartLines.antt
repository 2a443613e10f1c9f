-- The lines of the starting basis, as they are made.
use Rattle.std.proofs.Common.{◌≡◌, ℕ, suc, ◌+◌, ◌^◌, ◌<◌, cond, Bool, true, false, sym, ◌∙◌, ap, subst, List, [], ◌∷◌, ◌++◌, map, length, arith, append-nil, zero-add}
use Rattle.std.specs.Prelude.{ℤ, pos, negsuc, ◌-ℤ◌, ◌==◌, nat_abs, slice_index, slice_set}
use Rattle.std.proofs.lemmas.List.{length-map, map-append}
use Rattle.std.proofs.lemmas.Simd.{map-map}
use Rattle.std.proofs.lemmas.Bool.{eq-eqb, ne_eqb}
use Rattle.cost_base.specs.Lists.{numbers_from}
use Rattle.cost_base.proofs.ListLemmas.{length-map-numbers_from, map-numbers_from-agree}
use Rattle.whole_numbers.specs.Fractions.{Fraction, whole}
use Rattle.wide_fraction.specs.Widths.{IsTop}
use Rattle.design_problem.specs.declared.boxes.CostBox.{CostBox}
use Rattle.design_problem.specs.Basis.{low_member, unit}
use Rattle.fraction_lines.specs.TableLines.{AreTableNumbers, nothing}
use Rattle.fraction_lines.specs.Turns.{AreTableLines}
use Rattle.fraction_table.specs.ValidTables.{high_member, members_of_box, starting_line}
use Rattle.fraction_lines.proofs.FilledLines.{mapped_written}
use Rattle.fraction_lines.proofs.SmallNumbers.{whole_number}
use Rattle.fraction_table.proofs.theory.Units.{high_value, low_value}

pub rows_more : (top count : ℕ) (olds news : List (List Fraction)) (line : List Fraction) → news ≡ olds ++ line ∷ [] →
    AreTableLines top count olds → length line ≡ count → AreTableNumbers top line → AreTableLines top count news
rows_more top count olds news line news_are olds_fit counted numbers =
    subst (AreTableLines top count) (sym news_are) (put olds olds_fit)
  where
    put : (lines : List (List Fraction)) → AreTableLines top count lines → AreTableLines top count (lines ++ line ∷ [])
    put [] fit = (counted, numbers, tt)
    put (first ∷ lines) fit = (fit.0, fit.1, put lines fit.2)

unit_set : (width v : ℕ) (c : ℤ) → v < width → slice_set (map (λ column. nothing) (numbers_from 0 width)) v (whole c) ≡ map whole (unit width v c)
unit_set width v c v_in =
    sym (map-map whole (λ k. cond (k == v) c (pos 0)) (numbers_from 0 width)
    ∙ mapped_written (λ column. nothing) (λ k. whole (cond (k == v) c (pos 0))) 0 width v (whole c) v_in
    (ap (λ b. whole (cond b c (pos 0))) (eq-eqb (0 + v) v (zero-add v)))
    (λ m from m_in other. ap (λ b. whole (cond b c (pos 0))) (ne_eqb m v (λ same. other (same ∙ sym (zero-add v))))))

-- and with an entry in one column
pub entry_set : (row now : List Fraction) (width v : ℕ) (constant coefficient : ℤ) (value : Fraction) → v < width →
    row ≡ whole constant ∷ map (λ column. nothing) (numbers_from 0 width) → value ≡ whole coefficient →
    now ≡ slice_set row (suc v) value → now ≡ whole constant ∷ map whole (unit width v coefficient)
entry_set row now width v constant coefficient value v_in row_is value_is now_is =
    now_is
    ∙ ap (λ qs. slice_set qs (suc v) value) row_is
    ∙ ap (λ q. whole constant ∷ slice_set (map (λ column. nothing) (numbers_from 0 width)) v q) value_is
    ∙ ap (λ qs. whole constant ∷ qs) (unit_set width v coefficient v_in)

pub unit_line_long : (line : List Fraction) (width v : ℕ) (constant coefficient : ℤ) →
    line ≡ whole constant ∷ map whole (unit width v coefficient) → length line ≡ suc width
unit_line_long line width v constant coefficient line_is =
    ap length line_is ∙ ap suc (length-map (unit width v coefficient) whole ∙ length-map-numbers_from (λ k. cond (k == v) coefficient (pos 0)) 0 width)

wholes_numbers : (top : ℕ) (f : ℕ → ℤ) (ks : List ℕ) → IsTop top → ((k : ℕ) → nat_abs (f k) < 2 ^ 27) → AreTableNumbers top (map whole (map f ks))
wholes_numbers top f [] is_top small = tt
wholes_numbers top f (k ∷ ks) is_top small = (whole_number top (f k) is_top (small k), wholes_numbers top f ks is_top small)

pub unit_line_numbers : (top : ℕ) (line : List Fraction) (width v : ℕ) (constant coefficient : ℤ) → IsTop top →
    nat_abs constant < 2 ^ 27 → nat_abs coefficient < 2 ^ 27 →
    line ≡ whole constant ∷ map whole (unit width v coefficient) → AreTableNumbers top line
unit_line_numbers top line width v constant coefficient is_top constant_small coefficient_small line_is =
    subst (AreTableNumbers top) (sym line_is) (
      whole_number top constant is_top constant_small,
      wholes_numbers top (λ k. cond (k == v) coefficient (pos 0)) (numbers_from 0 width) is_top
          (λ k. either (k == v)),
    )
  where
    either : (b : Bool) → nat_abs (cond b coefficient (pos 0)) < 2 ^ 27
    either true = coefficient_small
    either false = omega arith

abbrev low_lines : ℕ → List (List Fraction)
low_lines width = map (λ v. whole (pos 0) ∷ map whole (unit width v (pos 1))) (numbers_from 0 width)

abbrev high_lines : List ℕ → List ℕ → List (List Fraction)
high_lines low high = map (λ v. whole (pos (slice_index high v) -ℤ pos (slice_index low v))
    ∷ map whole (unit (length low) v (negsuc 0))) (numbers_from 0 (length low))

starting_lines : (costs : CostBox) → map (starting_line costs []) (members_of_box costs 0) ≡ low_lines (length costs.low) ++ high_lines costs.low costs.high
starting_lines costs =
    let n = length costs.low in
    let line = starting_line costs [] in
    let lows = map (low_member costs) (numbers_from 0 n) in
    let highs = map (high_member costs) (numbers_from 0 n) in
    ap (map line) (append-nil (lows ++ highs))
    ∙ map-append line lows highs
    ∙ ap (λ ls. ls ++ map line highs) (map-map line (low_member costs) (numbers_from 0 n)
    ∙ map-numbers_from-agree (λ v. line (low_member costs v)) (λ v. whole (pos 0) ∷ map whole (unit n v (pos 1))) 0 n
    (λ v from v_in. ap (λ z. whole z ∷ map whole (unit n v (pos 1)))
    (low_value costs.low [] v (omega (arith, v_in)))))
    ∙ ap (λ ls. low_lines n ++ ls) (map-map line (high_member costs) (numbers_from 0 n)
    ∙ map-numbers_from-agree (λ v. line (high_member costs v))
    (λ v. whole (pos (slice_index costs.high v) -ℤ pos (slice_index costs.low v))
    ∷ map whole (unit n v (negsuc 0))) 0 n
    (λ v from v_in. ap (λ z. whole z ∷ map whole (unit n v (negsuc 0)))
    (high_value costs.low [] v (slice_index costs.high v) (omega (arith, v_in)))))

-- the lines of x - low and then those of high - x are all lines of the box
pub bound_lines : (costs : CostBox) (start first now : List (List Fraction)) (width : ℕ) (low high : List ℕ) →
    start ≡ [] → width ≡ length costs.low → low ≡ costs.low → high ≡ costs.high →
    first ≡ start ++ map (λ v. whole (pos 0) ∷ map whole (unit width v (pos 1))) (numbers_from 0 width) →
    now ≡ first ++ map (λ v. whole (pos (slice_index high v) -ℤ pos (slice_index low v))
    ∷ map whole (unit (length low) v (negsuc 0))) (numbers_from 0 (length low)) →
    now ≡ map (starting_line costs []) (members_of_box costs 0)
bound_lines costs start first now width low high start_is width_is low_is high_is first_is now_is =
    now_is
    ∙ ap (λ ls. ls ++ high_lines low high) (first_is ∙ ap (λ ls. ls ++ low_lines width) start_is)
    ∙ ap (λ w. low_lines w ++ high_lines low high) width_is
    ∙ ap (λ bs. low_lines (length costs.low) ++ high_lines bs high) low_is
    ∙ ap (λ bs. low_lines (length costs.low) ++ high_lines costs.low bs) high_is
    ∙ sym (starting_lines costs)
