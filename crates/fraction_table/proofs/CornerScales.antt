-- The scale of a table's corner, the values over it, and the steps by which it is made.
use Rattle.std.proofs.Common.{◌≡◌, ℕ, zero, suc, ◌≢◌, ◌+◌, ◌*◌, ◌/◌, ◌^◌, ◌<◌, ◌≤◌, mul-le-mul, pow_mono, inl, inr, refl, sym, ◌∙◌, ap, subst, List, [], ◌∷◌, length, arith}
use Rattle.std.specs.Prelude.{ℤ, pos, negsuc, ◌*ℤ◌, ◌≤ℤ◌, nat_abs, Result, Ok, Err, IfErr, Some, fold, take, slice_get, slice_index, slice_index_or, slice_set}
use Prim.Native.Nat.{◌∣◌}
use native.Mathlib.Nat.{div-mul_cancel}
use Rattle.std.proofs.lemmas.Bool.{cases_eq, cases_lt}
use Rattle.std.proofs.lemmas.Int.{ints}
use Rattle.std.proofs.lemmas.List.{get_or-map, get_or-set_other, get_or-set_same, get_or-take, length-map, length-take-le, take_all, take_more}
use Rattle.std.proofs.lemmas.List.Sums.{fold-append}
use Rattle.std.proofs.lemmas.Nat.Gcd.{dvd_trans}
use Rattle.std.proofs.lemmas.Option.{slice_get-get_or}
use Rattle.cost_base.specs.declared.StepName.TheVariants.{Lcm, Scale}
use Rattle.whole_numbers.specs.Fractions.{Fraction, lcm, whole}
use Rattle.whole_numbers.proofs.Multiples.{lcm_positive, right_divides_lcm}
use Rattle.whole_numbers.proofs.Ring.{var, ◌⊕◌, ◌⊗◌, ring_by, nothing, using}
use Rattle.wide_fraction.specs.Widths.{IsTop}
use Rattle.wide_fraction.specs.declared.steps.Wide.{Wide}
use Rattle.area_graph.specs.declared.Point.{Point}
use Rattle.whole_numbers.specs.Lists.{number_at}
use Rattle.design_problem.specs.Basis.{entry}
use Rattle.design_problem.specs.Earnest.{IsLeastPoint}
use Rattle.design_problem.specs.Steps.{IsTableStep, IsStepTooWide, lcm_of, two_to_27}
use Rattle.design_problem.specs.Steps.IsTableStep.{corner_multiple, corner_scale}
use Rattle.design_problem.specs.Forms.{AreMet}
use Rattle.fraction_table.specs.declared.table.Table.{Table}
use Rattle.fraction_table.specs.Corners.{constant_at, corner_entry, denominators_of, raised_by}
use Rattle.fraction_lines.specs.Entries.{IsPassing}
use Rattle.fraction_table.specs.Tableaus.{wide_at}
use Rattle.fraction_table.specs.ValidTables.{IsTableau}
use Rattle.fraction_table.specs.Pivots.{AreHigh, line_at}
use Rattle.fraction_table.proofs.Bases.{low_line_stands}
use Rattle.fraction_lines.proofs.TableLineLaws.{number_at as number_there}
use Rattle.fraction_table.proofs.Pivots.{line_long, line_read, lines_long, whole_line, wide_step}
use Rattle.fraction_table.proofs.Solutions.{corner_fits, corner_long, corner_of, corner_point, counted_lows, first_high}
use Rattle.fraction_table.proofs.CornerLeast.{corner_is_least}
use Rattle.fraction_table.proofs.MultiplierColumns.{fold_divides}
use Rattle.fraction_table.proofs.CornerPoints.{same_point, scaled_less}
use Rattle.fraction_table.proofs.theory.Zips.{zip_from}

-- a common multiple is a multiple of each, and positive
each_divides : (a : ℕ) (ds : List ℕ) (k : ℕ) → k < length ds → slice_index_or ds k 0 ∣ fold lcm a ds
each_divides a [] k k_in = absurd (omega arith)
each_divides a (d ∷ ds) zero k_in = dvd_trans d (right_divides_lcm a d) (fold_divides (lcm a d) ds)
each_divides a (d ∷ ds) (suc k) k_in = each_divides (lcm a d) ds k (omega arith)

fold_positive : (a : ℕ) (ds : List ℕ) → 0 < a → ((k : ℕ) → k < length ds → 0 < slice_index_or ds k 0) → 0 < fold lcm a ds
fold_positive a [] a_positive positive = a_positive
fold_positive a (d ∷ ds) a_positive positive =
    fold_positive (lcm a d) ds (lcm_positive a d a_positive (positive 0 (omega arith))) (λ k k_in. positive (suc k) (omega arith))

pub next_multiple : (ds : List ℕ) (k : ℕ) → k < length ds → lcm_of (take (k + 1) ds) ≡ lcm (lcm_of (take k ds)) (slice_index_or ds k 0)
next_multiple ds k k_in = ap lcm_of (take_more ds k 0 k_in) ∙ fold-append lcm 1 (take k ds) (slice_index_or ds k 0 ∷ [])

pub denominators_long : (t : Table) (w : IsTableau t) → length (denominators_of t) ≡ length t.costs.low
denominators_long t w =
    length-map (take (length t.costs.low) t.lines.items) (λ (line : List Fraction). (entry line 0).denominator)
    ∙ length-take-le (length t.costs.low) t.lines.items (omega (arith, lines_long t w))

pub denominator_at : (t : Table) (w : IsTableau t) (k : ℕ) → k < length t.costs.low → slice_index_or (denominators_of t) k 0 ≡ (constant_at t k).denominator
denominator_at t w k k_in =
    get_or-map (λ (line : List Fraction). (entry line 0).denominator) (take (length t.costs.low) t.lines.items) k [] 0
    (omega (arith, length-take-le (length t.costs.low) t.lines.items (omega (arith, lines_long t w)), k_in))
    ∙ ap (λ (line : List Fraction). (entry line 0).denominator) (get_or-take (length t.costs.low) t.lines.items k [] k_in)

pub constant_positive : (t : Table) (w : IsTableau t) (k : ℕ) → k < length t.costs.low → 0 < (constant_at t k).denominator
constant_positive t w k k_in = (low_line_stands t.top t.costs t.rows.items t.basis.items t.lines.items w k 0 k_in (omega arith)).0

-- the multiples on the way are positive
pub taken_positive : (t : Table) (w : IsTableau t) (k : ℕ) → k ≤ length t.costs.low → 0 < lcm_of (take k (denominators_of t))
taken_positive t w k k_in =
    let ds = denominators_of t in
    let taken : length (take k ds) ≡ k = length-take-le k ds (omega (arith, denominators_long t w, k_in)) in
    fold_positive 1 (take k ds) (omega arith)
    (λ j j_in.
    (let inside : j < length t.costs.low = omega (arith, taken, j_in, k_in) in
    subst (λ (d : ℕ). 0 < d) (sym (get_or-take k ds j 0 (omega (arith, taken, j_in)) ∙ denominator_at t w j inside)) (constant_positive t w j inside)))

pub scale_positive : (t : Table) (w : IsTableau t) → 0 < lcm_of (denominators_of t)
scale_positive t w =
    subst (λ (ds : List ℕ). 0 < lcm_of ds) (take_all (length t.costs.low) (denominators_of t) (omega (arith, denominators_long t w)))
    (taken_positive t w (length t.costs.low) (omega arith))

-- one more denominator
pub multiple_more : (t : Table) (w : IsTableau t) (k : ℕ) (old right new : ℤ) → k < length t.costs.low →
    old ≡ pos (lcm_of (take k (denominators_of t))) → right ≡ pos (constant_at t k).denominator →
    new ≡ pos (lcm (nat_abs old) (nat_abs right)) → new ≡ pos (lcm_of (take (k + 1) (denominators_of t)))
multiple_more t w k old right new k_in old_is right_is new_is =
    let ds = denominators_of t in
    new_is
    ∙ ap (λ (a : ℕ). pos (lcm a (nat_abs right))) (ap nat_abs old_is)
    ∙ ap (λ (b : ℕ). pos (lcm (lcm_of (take k ds)) b)) (ap nat_abs right_is ∙ sym (denominator_at t w k k_in))
    ∙ ap pos (sym (next_multiple ds k (omega (arith, denominators_long t w, k_in))))

-- a constant that is read from a line
pub constant_read : (t : Table) (w : IsTableau t) (k : ℕ) (q : Fraction) (row : List Fraction) →
    k < length t.costs.low → q ≡ entry row 0 → row ≡ slice_index_or t.lines.items k row → q ≡ constant_at t k
constant_read t w k q row k_in q_is row_is =
    q_is ∙ ap (λ (line : List Fraction). entry line 0) (line_read t k row row_is (omega (arith, lines_long t w, k_in)))

-- its denominator is a number of the table
pub denominator_within : (t : Table) (w : IsTableau t) (k : ℕ) → k < length t.costs.low → (constant_at t k).denominator ≤ t.top
denominator_within t w k k_in =
    let line_in : k < length t.lines.items = omega (arith, lines_long t w, k_in) in
    (number_there t.top (line_at t k) 0 (whole_line t w k line_in).numbers (omega (arith, line_long t w k line_in))).within.denominator

pub top_bounds : (top : ℕ) → IsTop top → (1 ≤ top) × (top < 2 ^ 127)
top_bounds top is =
    let least : 2 ^ 28 ≤ 2 ^ is.0 = pow_mono is.1 in
    let most : 2 ^ is.0 ≤ 2 ^ 127 = pow_mono is.2 in
    (omega (arith, is.3, least), omega (arith, is.3, least, most))

divides_scale : (t : Table) (w : IsTableau t) (k : ℕ) → k < length t.costs.low → (constant_at t k).denominator ∣ lcm_of (denominators_of t)
divides_scale t w k k_in =
    subst (λ (d : ℕ). d ∣ lcm_of (denominators_of t)) (denominator_at t w k k_in)
    (each_divides 1 (denominators_of t) k (omega (arith, denominators_long t w, k_in)))

pub corner_at : (D : ℕ) (low : List ℕ) (lows : List (List ℤ)) (k : ℕ) → k < length low → length low ≡ length lows →
    slice_index (corner_of D low lows) k ≡ slice_index low k * D + nat_abs (number_at (slice_index_or lows k []) 0)
corner_at D [] lows k k_in same = absurd (omega arith)
corner_at D (l ∷ low) [] k k_in same = absurd (omega arith)
corner_at D (l ∷ low) (ts ∷ lows) zero k_in same = refl
corner_at D (l ∷ low) (ts ∷ lows) (suc k) k_in same = corner_at D low lows k (omega arith) (omega arith)

-- a fraction that stands for a number, both at least 0, in natural numbers
natural_stands : (z m : ℤ) (D d : ℕ) → pos 0 ≤ℤ z → pos 0 ≤ℤ m → (z *ℤ pos D) ≡ (m *ℤ pos d) → nat_abs z * D ≡ nat_abs m * d
natural_stands (pos a) (pos b) D d z_high m_high is = ap nat_abs is
natural_stands (pos a) (negsuc b) D d z_high m_high is = absurd (omega (arith, ints))
natural_stands (negsuc a) m D d z_high m_high is = absurd (omega (arith, ints))

pub same_sum : (l n part den m D d : ℕ) → part * den ≡ d → n * D ≡ m * den → (l * d + n * part) * D ≡ (l * D + m) * d
same_sum l n part den m D d parts stands =
    ap nat_abs
    (ring_by (pos l ∷ pos n ∷ pos part ∷ pos den ∷ pos m ∷ pos D ∷ pos d ∷ [])
    ((var 0 ⊗ var 6 ⊕ var 1 ⊗ var 2) ⊗ var 5) ((var 0 ⊗ var 5 ⊕ var 4) ⊗ var 6)
    (using (var 4) (var 2 ⊗ var 3) (var 6) (ap pos parts)
    (using (var 2) (var 1 ⊗ var 5) (var 4 ⊗ var 3) (ap pos stands) nothing)) refl)

-- the value of a variable over the scale is that of the corner over the common denominator
same_entry : (t : Table) (w : IsTableau t) → AreHigh t → (scale k : ℕ) → scale ≡ lcm_of (denominators_of t) →
    k < length t.costs.low → corner_entry t scale k * w.unboxed.common
    ≡ slice_index (corner_of w.unboxed.common t.costs.low w.unboxed.lows) k * scale
same_entry t w high scale k scale_is k_in =
    let q = constant_at t k in
    let m = number_at (slice_index_or w.unboxed.lows k []) 0 in
    let stands = low_line_stands t.top t.costs t.rows.items t.basis.items t.lines.items w k 0 k_in (omega arith) in
    let divides : q.denominator ∣ scale = subst (λ (d : ℕ). q.denominator ∣ d) (sym scale_is) (divides_scale t w k k_in) in
    same_sum (slice_index t.costs.low k) (nat_abs q.numerator) (scale / q.denominator) q.denominator
    (nat_abs m) w.unboxed.common scale (div-mul_cancel q.denominator divides)
    (natural_stands q.numerator m w.unboxed.common q.denominator (high k [] (omega (arith, lines_long t w, k_in))) (first_high t w high k k_in) stands.1)
    ∙ ap (λ (x : ℕ). x * scale) (sym (corner_at w.unboxed.common t.costs.low w.unboxed.lows k k_in (counted_lows t w)))

-- it isn't above the high bound
pub entry_within : (t : Table) (w : IsTableau t) → AreHigh t → (scale k : ℕ) → scale ≡ lcm_of (denominators_of t) →
    k < length t.costs.low → corner_entry t scale k ≤ slice_index t.costs.high k * scale
entry_within t w high scale k scale_is k_in =
    let fits = corner_fits t w high in
    let counted : length (corner_of w.unboxed.common t.costs.low w.unboxed.lows) ≡ length t.costs.low =
    corner_long w.unboxed.common t.costs.low w.unboxed.lows (counted_lows t w) in
    scaled_less (slice_index t.costs.high k) (corner_entry t scale k)
    (slice_index (corner_of w.unboxed.common t.costs.low w.unboxed.lows) k) scale w.unboxed.common
    w.unboxed.positive
    (same_entry t w high scale k scale_is k_in) (fits.0.below k (omega (arith, counted, k_in)))

-- the point of these values is least
pub values_least : (t : Table) (w : IsTableau t) → AreHigh t → (p : Point) → p.scale ≡ lcm_of (denominators_of t) →
    length p.values ≡ length t.costs.low →
    ((k : ℕ) → k < length t.costs.low → slice_index p.values k ≡ corner_entry t p.scale k) →
    IsLeastPoint (AreMet t.rows.items) t.costs p
values_least t w high p scale_is counted values =
    let q = corner_point t w in
    let long : length q.values ≡ length t.costs.low = corner_long w.unboxed.common t.costs.low w.unboxed.lows (counted_lows t w) in
    same_point t.costs t.rows.items p q (subst (λ (d : ℕ). 0 < d) (sym scale_is) (scale_positive t w))
    (zip_from (λ y z. y * q.scale ≡ z * p.scale) p.values q.values 0 0 (counted ∙ sym long)
    (λ k k_in.
    (let inside : k < length t.costs.low = omega (arith, counted, k_in) in
    ap (λ (y : ℕ). y * w.unboxed.common) (values k inside) ∙ same_entry t w high p.scale k scale_is inside)))
    (corner_is_least t w high)

-- a multiple that is too wide is a step of the basis
pub multiple_wide : (t : Table) (w : IsTableau t) (k : ℕ) (left right : ℤ) (wide : Wide) → k < length t.costs.low →
    left ≡ pos (lcm_of (take k (denominators_of t))) → right ≡ pos (constant_at t k).denominator →
    wide ≡ record { step = Lcm; left = whole left; right = whole right } → IsPassing t.top wide →
    IsStepTooWide t.top t.costs t.rows.items (wide_at wide t.basis.items)
multiple_wide t w k left right wide k_in left_is right_is wide_is passes =
    let ds = denominators_of t in
    let there : slice_get ds k ≡ Some (constant_at t k).denominator =
    slice_get-get_or ds k 0 (omega (arith, denominators_long t w, k_in)) ∙ ap Some (denominator_at t w k k_in) in
    let is : wide ≡ record { step = Lcm; left = whole (pos (lcm_of (take k ds))); right = whole (pos (constant_at t k).denominator) } =
    wide_is
    ∙ ap {B = Wide} (λ (z : ℤ). record { step = Lcm; left = whole z; right = whole right }) left_is
    ∙ ap {B = Wide} (λ (z : ℤ). record { step = Lcm; left = whole (pos (lcm_of (take k ds))); right = whole z }) right_is in
    wide_step t w wide (subst (λ (s : Wide).
    IsTableStep t.costs t.rows.items t.basis.items (take (length t.costs.low) t.lines.items) s.step s.left s.right)
    (sym is) (corner_multiple k (constant_at t k).denominator there)) passes

-- and so is a scale that is
pub scale_wide : (t : Table) (w : IsTableau t) (multiple : ℤ) (wide : Wide) →
    multiple ≡ pos (lcm_of (denominators_of t)) →
    wide ≡ record { step = Scale; left = whole multiple; right = two_to_27 } → IsPassing t.top wide →
    IsStepTooWide t.top t.costs t.rows.items (wide_at wide t.basis.items)
scale_wide t w multiple wide multiple_is wide_is passes =
    let is : wide ≡ record { step = Scale; left = whole (pos (lcm_of (denominators_of t))); right = two_to_27 } =
    wide_is ∙ ap {B = Wide} (λ (z : ℤ). record { step = Scale; left = whole z; right = two_to_27 }) multiple_is in
    wide_step t w wide (subst (λ (s : Wide).
    IsTableStep t.costs t.rows.items t.basis.items (take (length t.costs.low) t.lines.items) s.step s.left s.right)
    (sym is) corner_scale) passes

-- it fits 128 bits
pub entry_small : (t : Table) (w : IsTableau t) → AreHigh t → (scale k : ℕ) → scale ≡ lcm_of (denominators_of t) →
    scale < 2 ^ 100 → k < length t.costs.low → slice_index t.costs.high k < 65536 → corner_entry t scale k < 2 ^ 128
entry_small t w high scale k scale_is scale_small k_in high_small =
    let within = entry_within t w high scale k scale_is k_in in
    let high_most : slice_index t.costs.high k ≤ 65535 = omega (arith, high_small) in
    let scale_most : scale ≤ 2 ^ 100 = omega (arith, scale_small) in
    let most : slice_index t.costs.high k * scale ≤ 65535 * 2 ^ 100 = mul-le-mul high_most scale_most in
    omega (arith, within, most)

-- a low bound and a constant that are read
pub entry_read : (t : Table) (low : List ℕ) (q : Fraction) (scale k : ℕ) → low ≡ t.costs.low → q ≡ constant_at t k →
    raised_by (slice_index low k) q scale ≡ corner_entry t scale k
entry_read t low q scale k low_is q_is =
    ap (λ (ls : List ℕ). raised_by (slice_index ls k) q scale) low_is
    ∙ ap (λ (c : Fraction). raised_by (slice_index t.costs.low k) c scale) q_is

-- one more value is put
pub values_more : (t : Table) (scale k value : ℕ) (old new : List ℕ) → k < length old →
    ((j : ℕ) → j < k → slice_index old j ≡ corner_entry t scale j) → value ≡ corner_entry t scale k →
    new ≡ slice_set old k value → (j : ℕ) → j < k + 1 → slice_index new j ≡ corner_entry t scale j
values_more t scale k value old new k_in before value_is new_is j j_in =
    ap (λ (xs : List ℕ). slice_index xs j) new_is
    ∙ elim (cases_eq j k) [
      | inl same ↦ ap (slice_index (slice_set old k value)) same ∙ get_or-set_same old k value 0 k_in ∙ value_is ∙ ap (corner_entry t scale) (sym same)
      | inr other ↦ get_or-set_other old k j value 0 other ∙ before j (earlier other)
    ]
  where
    earlier : j ≢ k → j < k
    earlier other = elim (cases_lt j k) [ inl less ↦ less | inr more ↦ absurd (other (omega (arith, more, j_in))) ]

-- what a test of the scale answers
pub tested_wide : (t : Table) (w : IsTableau t) (multiple : ℤ) (tested : Result ℕ Wide) →
    multiple ≡ pos (lcm_of (denominators_of t)) →
    IfErr tested (λ wide. wide ≡ record { step = Scale; left = whole multiple; right = two_to_27 }) →
    IfErr tested (λ wide. IsPassing t.top wide) →
    IfErr tested (λ wide. IsStepTooWide t.top t.costs t.rows.items (wide_at wide t.basis.items))
tested_wide t w multiple (Ok scale) multiple_is named passes = tt
tested_wide t w multiple (Err wide) multiple_is named passes = scale_wide t w multiple wide multiple_is named passes
