-- Numbers that are crossed with those of a table make the same lines.
use Rattle.std.proofs.Common.{◌≡◌, ℕ, suc, ◌*◌, ◌<◌, refl, sym, ◌∙◌, ap, subst, List, [], ◌∷◌, map, length, arith}
use Rattle.std.specs.Prelude.{ℤ, pos, ◌*ℤ◌}
use Rattle.std.proofs.Math.Nat.{mul_comm}
use Rattle.std.proofs.lemmas.List.{ext_get_or, get_or-map, length-map}
use Rattle.whole_numbers.specs.Fractions.{Fraction, StandsFor, reduced, whole}
use Rattle.whole_numbers.proofs.FractionLaws.{cancel, reduced_lowest, reduced_stands}
use Rattle.whole_numbers.proofs.Ring.{var, ◌⊗◌, ring_by, using, nothing}
use Rattle.whole_numbers.proofs.Sums.{lowest_unique}
use Rattle.design_problem.specs.declared.form.Form.{Form}
use Rattle.design_problem.specs.declared.tree.Member.TheVariants.{Low}
use Rattle.design_problem.specs.Basis.{entry, member_form}
use Rattle.fraction_lines.proofs.TableLineLaws.{number_at as number_there}
use Rattle.fraction_table.specs.declared.table.Table.{Table}
use Rattle.fraction_table.specs.Pivots.{line_at, member_at}
use Rattle.fraction_table.specs.ValidTables.{IsTableau, members_of_box, number_of_form, numbers_of_form}
use Rattle.fraction_table.proofs.IntegralTurns.{stand_at}
use Rattle.fraction_table.proofs.Pivots.{line_long, lines_long, members_long, whole_line}
use Rattle.fraction_table.proofs.theory.TurnedNumbers.{numbers_at, numbers_long}
use Rattle.table_kernel.specs.Numbers.{fraction_line, fraction_lines, over_common}
use Rattle.table_kernel.proofs.AtBasis.{number_up, scaled_by}

-- the numbers of a form are crossed where those of x - low are
form_crossed : (C D : ℕ) (low : List ℕ) (lows news : List (List ℤ)) → map (scaled_by D) news ≡ map (scaled_by C) lows →
    (f : Form) (place : ℕ) → (number_of_form C low news f place *ℤ pos D) ≡ (number_of_form D low lows f place *ℤ pos C)
form_crossed C D low lows news crossed f place =
    sym (number_up C D low news f place)
    ∙ ap (λ (rows : List (List ℤ)). number_of_form (C * D) low rows f place) crossed
    ∙ ap (λ (n : ℕ). number_of_form n low (map (scaled_by C) lows) f place) (mul_comm C D)
    ∙ number_up D C low lows f place

-- two fractions that stand for crossed numbers
crossed_values : (p q : Fraction) (m n : ℤ) (C D : ℕ) → 0 < C → 0 < D → StandsFor p m C → StandsFor q n D →
    (m *ℤ pos D) ≡ (n *ℤ pos C) → (p.numerator *ℤ pos q.denominator) ≡ (q.numerator *ℤ pos p.denominator)
crossed_values p q m n C D C_some D_some p_is q_is crossed =
    let both : 0 < C * D = grind (arith, C_some, D_some) in
    cancel (C * D) _ _ both
    (ring_by (p.numerator ∷ pos q.denominator ∷ pos C ∷ pos D ∷ q.numerator ∷ pos p.denominator ∷ m ∷ n ∷ [])
    ((var 0 ⊗ var 1) ⊗ (var 2 ⊗ var 3)) ((var 4 ⊗ var 5) ⊗ (var 2 ⊗ var 3))
    (using (var 1 ⊗ var 3) (var 0 ⊗ var 2) (var 6 ⊗ var 5) p_is
    (using (var 1 ⊗ var 5) (var 6 ⊗ var 3) (var 7 ⊗ var 2) crossed
    (using (var 5 ⊗ var 2) (var 7 ⊗ var 1) (var 4 ⊗ var 3) (sym q_is) nothing))) refl)

module _ (t : Table) (w : IsTableau t) (C : ℕ) (news : List (List ℤ)) (some : 0 < C)
    (crossed : map (scaled_by w.unboxed.common) news ≡ map (scaled_by C) w.unboxed.lows) where
  abbrev form_at : ℕ → Form
  form_at line = member_form (length t.costs.low) t.rows.items (member_at t line)

  abbrev numbers_for : ℕ → List ℤ
  numbers_for line = numbers_of_form (length t.costs.low) C t.costs.low news (form_at line)

  -- at each place
  entry_same : (line : ℕ) → line < length t.lines.items → (place : ℕ) → place < suc (length t.costs.low) →
      over_common C (number_of_form C t.costs.low news (form_at line) place) ≡ entry (line_at t line) place
  entry_same line line_in place place_in =
      let n = length t.costs.low in
      let D = w.unboxed.common in
      let m = number_of_form C t.costs.low news (form_at line) place in
      let there = number_of_form D t.costs.low w.unboxed.lows (form_at line) place in
      let q = entry (line_at t line) place in
      let l = whole_line t w line line_in in
      let lowest = (number_there t.top (line_at t line) place l.numbers (omega (arith, line_long t w line line_in, place_in))).lowest in
      let stands : StandsFor q there D =
      subst (λ (z : ℤ). StandsFor q z D) (numbers_at n D t.costs.low w.unboxed.lows (form_at line) place place_in)
      (stand_at D (line_at t line) (numbers_of_form n D t.costs.low w.unboxed.lows (form_at line)) place l.stand
      (omega (arith, numbers_long n D t.costs.low w.unboxed.lows (form_at line), place_in))) in
      lowest_unique (reduced m C) q (reduced_lowest m C some) lowest
      (crossed_values (reduced m C) q m there C D some w.unboxed.positive (reduced_stands m C some) stands
      (form_crossed C D t.costs.low w.unboxed.lows news crossed (form_at line) place))

  -- in each line
  line_same : (line : ℕ) → line < length t.lines.items →
      fraction_line C t.costs t.rows.items news (member_at t line) ≡ line_at t line
  line_same line line_in =
      let n = length t.costs.low in
      let made = map (over_common C) (numbers_for line) in
      let long : length (numbers_for line) ≡ suc n = numbers_long n C t.costs.low news (form_at line) in
      let first : length made ≡ suc n = length-map (numbers_for line) (over_common C) ∙ long in
      ext_get_or (whole (pos 0)) made (line_at t line) (first ∙ sym (line_long t w line line_in))
      (λ place place_in.
      let inside : place < suc n = omega (arith, place_in, first) in
      get_or-map (over_common C) (numbers_for line) place (pos 0) (whole (pos 0)) (omega (arith, inside, long))
      ∙ ap (over_common C) (numbers_at n C t.costs.low news (form_at line) place inside)
      ∙ entry_same line line_in place inside)

  -- and in all
  pub lines_same : fraction_lines C t.costs t.rows.items news ≡ t.lines.items
  lines_same =
      let members = members_of_box t.costs (length t.rows.items) in
      let made = fraction_line C t.costs t.rows.items news in
      let first : length (map made members) ≡ length members = length-map members made in
      let second : length members ≡ length t.lines.items = members_long t.costs (length t.rows.items) ∙ sym (lines_long t w) in
      ext_get_or [] (map made members) t.lines.items (first ∙ second)
      (λ line line_in.
      get_or-map made members line (Low 0 0) [] (omega (arith, line_in, first))
      ∙ line_same line (omega (arith, line_in, first, second)))
