-- Lines that were read from the lines of x - low are at the table's basis.
use Prim.Native.Nat.{◌∣◌}
use native.Mathlib.Nat.{div-mul_cancel}
use Rattle.std.proofs.Common.{◌≡◌, ℕ, zero, suc, ◌/◌, ◌<◌, refl, sym, ◌∙◌, ap, subst, List, [], ◌∷◌, map, length, arith}
use Rattle.std.specs.Prelude.{ℤ, pos, ◌*ℤ◌, nat_abs, slice_index_or, All}
use Rattle.std.proofs.lemmas.List.{ext_get_or, get_or-map, length-map}
use Rattle.whole_numbers.specs.Fractions.{Fraction, StandsFor}
use Rattle.whole_numbers.specs.Lists.{number_at}
use Rattle.whole_numbers.proofs.FractionLaws.{cancel}
use Rattle.whole_numbers.proofs.Multiples.{stands_over}
use Rattle.whole_numbers.proofs.Ring.{var, ◌⊗◌, ring_by, using, nothing}
use Rattle.design_problem.specs.Basis.{entry}
use Rattle.fraction_table.specs.declared.table.Table.{Table}
use Rattle.fraction_table.specs.ValidTables.{IsTableau}
use Rattle.fraction_table.proofs.Bases.{low_line_stands, lows_counted}
use Rattle.fraction_table.proofs.theory.Units.{long_at}
use Rattle.integer_pivots.specs.declared.line.Line.{Line}
use Rattle.integer_pivots.specs.Lines.{no_line}
use Rattle.table_kernel.specs.Bases.{AreAtBasis}
use Rattle.table_kernel.specs.Numbers.{scaled_line, share_of}
use Rattle.table_kernel.specs.ReadBack.{IsReadFrom, low_line, over_denominator}
use Rattle.table_kernel.proofs.AtBasis.{at_basis, crossed_basis, number_scaled, scaled_by}
use Rattle.table_kernel.proofs.Columns.{line_number, scaled_number}
use Rattle.table_kernel.proofs.LeastCommon.{GoesInto}

-- a line's number at a place is that of its fractions
read_at : (row : List Fraction) (line : Line) → IsReadFrom row line → (place : ℕ) → place < length row →
    line_number line place ≡ over_denominator (nat_abs line.denominator) (entry row place)
read_at row line r zero place_in = r.constant
read_at row line r (suc c) place_in = r.numbers c (omega (arith, r.count, place_in))

-- numbers over two denominators for which one fraction stands
same_number : (q : Fraction) (z m : ℤ) (d D : ℕ) → 0 < q.denominator → StandsFor q z d → StandsFor q m D → (z *ℤ pos D) ≡ (m *ℤ pos d)
same_number q z m d D some z_is m_is =
    cancel q.denominator _ _ some
    (ring_by (q.numerator ∷ pos q.denominator ∷ z ∷ pos d ∷ m ∷ pos D ∷ []) (var 2 ⊗ var 5 ⊗ var 1) (var 4 ⊗ var 3 ⊗ var 1)
    (using (var 5) (var 2 ⊗ var 1) (var 0 ⊗ var 3) (sym z_is) (using (var 3) (var 0 ⊗ var 5) (var 4 ⊗ var 1) m_is nothing)) refl)

-- and the first one over a common denominator
same_over : (z m : ℤ) (d D C : ℕ) → d ∣ C → (z *ℤ pos D) ≡ (m *ℤ pos d) → ((z *ℤ pos (C / d)) *ℤ pos D) ≡ (m *ℤ pos C)
same_over z m d D C divides same =
    ring_by (z ∷ pos (C / d) ∷ pos D ∷ m ∷ pos d ∷ []) ((var 0 ⊗ var 1) ⊗ var 2) (var 3 ⊗ (var 1 ⊗ var 4))
    (using (var 1) (var 0 ⊗ var 2) (var 3 ⊗ var 4) same nothing) refl
    ∙ ap (λ (n : ℕ). m *ℤ pos n) (div-mul_cancel d divides)

-- the numbers of a line over one denominator, for which its fractions stand
abbrev pub StandFor : List Fraction → List ℤ → ℕ → Type 0
StandFor row ts D = (place : ℕ) → place < length row → (0 < (entry row place).denominator) × StandsFor (entry row place) (number_at ts place) D

-- those of the line over a common one, crossed with them
crossed_at : (row : List Fraction) (line : Line) (ts : List ℤ) (D C : ℕ) → IsReadFrom row line → GoesInto C line → StandFor row ts D →
    (place : ℕ) → place < length row → number_at (scaled_by D (scaled_line C line)) place ≡ number_at (scaled_by C ts) place
crossed_at row line ts D C r divides stand place place_in =
    let d = nat_abs line.denominator in
    let q = entry row place in
    let z = line_number line place in
    let own : StandsFor q z d =
    subst (λ (y : ℤ). StandsFor q y d) (sym (read_at row line r place place_in)) (stands_over q d (r.least.common place place_in)) in
    let there = stand place place_in in
    number_scaled D (scaled_line C line) place
    ∙ ap (λ (y : ℤ). y *ℤ pos D) (scaled_number C line place)
    ∙ same_over z (number_at ts place) d D C divides (same_number q z (number_at ts place) d D there.0 own there.1)
    ∙ sym (number_scaled C ts place)

crossed_row : (row : List Fraction) (line : Line) (ts : List ℤ) (D C : ℕ) → IsReadFrom row line → GoesInto C line →
    length ts ≡ length row → StandFor row ts D → scaled_by D (scaled_line C line) ≡ scaled_by C ts
crossed_row row line ts D C r divides long stand =
    let first : length (scaled_by D (scaled_line C line)) ≡ length row =
    length-map (scaled_line C line) (λ z. z *ℤ pos D) ∙ length-map (line.constant ∷ line.numbers) (λ z. z *ℤ pos (share_of C line)) ∙ sym r.count in
    let second : length (scaled_by C ts) ≡ length row = length-map ts (λ z. z *ℤ pos C) ∙ long in
    ext_get_or (pos 0) (scaled_by D (scaled_line C line)) (scaled_by C ts) (first ∙ sym second)
    (λ place place_in. crossed_at row line ts D C r divides stand place (omega (arith, place_in, first)))

-- the lines of all variables were read from the table
abbrev pub AreReadFrom : Table → List Line → Type 0
AreReadFrom t lines = (var : ℕ) → var < length t.costs.low → IsReadFrom (low_line t var) (slice_index_or lines var no_line)

module _ (t : Table) (w : IsTableau t) (lines : List Line) (C : ℕ) (many : length lines ≡ length t.costs.low)
    (long : All (λ (line : Line). length line.numbers ≡ length t.costs.low) lines) (read : AreReadFrom t lines) (divides : All (GoesInto C) lines) where
  abbrev lows : List (List ℤ)
  lows = w.unboxed.lows

  row_crossed : (v : ℕ) → v < length lines →
      scaled_by w.unboxed.common (scaled_line C (slice_index_or lines v no_line)) ≡ scaled_by C (slice_index_or lows v [])
  row_crossed v v_in =
      let n = length t.costs.low in
      let there : v < n = omega (arith, many, v_in) in
      let counted : n ≡ length lows = lows_counted t.top t.costs t.rows.items t.basis.items t.lines.items w in
      let wide : length (low_line t v) ≡ suc n = (read v there).count ∙ ap suc (long v no_line v_in) in
      let ts_long : length (slice_index_or lows v []) ≡ suc n = long_at (suc n) lows v w.unboxed.long (omega (arith, counted, there)) in
      crossed_row (low_line t v) (slice_index_or lines v no_line) (slice_index_or lows v []) w.unboxed.common C (read v there) (divides v no_line v_in)
      (ts_long ∙ sym wide)
      (λ place place_in. low_line_stands t.top t.costs t.rows.items t.basis.items t.lines.items w v place there (omega (arith, place_in, wide)))

  pub rows_crossed : map (scaled_by w.unboxed.common) (map (scaled_line C) lines) ≡ map (scaled_by C) lows
  rows_crossed =
      let D = w.unboxed.common in
      let news = map (scaled_line C) lines in
      let counted : length t.costs.low ≡ length lows = lows_counted t.top t.costs t.rows.items t.basis.items t.lines.items w in
      let first : length (map (scaled_by D) news) ≡ length lines = length-map news (scaled_by D) ∙ length-map lines (scaled_line C) in
      let second : length (map (scaled_by C) lows) ≡ length lows = length-map lows (scaled_by C) in
      ext_get_or [] (map (scaled_by D) news) (map (scaled_by C) lows) (first ∙ many ∙ counted ∙ sym second)
      (λ v v_in.
      let v_line : v < length lines = omega (arith, v_in, first) in
      let v_new : v < length news = omega (arith, v_line, length-map lines (scaled_line C)) in
      get_or-map (scaled_by D) news v [] [] v_new
      ∙ ap (scaled_by D) (get_or-map (scaled_line C) lines v no_line [] v_line)
      ∙ row_crossed v v_line
      ∙ sym (get_or-map (scaled_by C) lows v [] [] (omega (arith, v_line, many, counted))))

  -- so they are at the table's basis
  pub read_basis : 0 < C → AreAtBasis t.costs t.rows.items t.basis.items C (map (scaled_line C) lines)
  read_basis some =
      crossed_basis t.costs t.rows.items t.basis.items w.unboxed.common C lows (map (scaled_line C) lines) some rows_crossed
      (at_basis t.top t.costs t.rows.items t.basis.items t.lines.items w.unboxed)
