-- The corner of a kernel: its scale, the values over it, and that it is the least point.
use Rattle.std.proofs.Common.{◌≡◌, ◌≢◌, ℕ, ◌+◌, ◌*◌, ◌/◌, ◌^◌, ◌<◌, ◌≤◌, inl, inr, refl, sym, ◌∙◌, ap, subst, List, [], ◌∷◌, length, arith, mul-one, w64, to_z, of_z}
use Rattle.std.specs.Prelude.{ℤ, pos, ◌≤ℤ◌, nat_abs, slice_index, slice_index_or, slice_set, All}
use Prim.Native.Nat.{◌∣◌}
use native.Mathlib.Nat.{div-mul_cancel, one-mul}
use Rattle.std.proofs.lemmas.Bool.{cases_eq, cases_lt}
use Rattle.std.proofs.lemmas.List.{get_or_default, get_or-map, get_or-set_other, get_or-set_same, length-map}
use Rattle.std.proofs.lemmas.Nat.Gcd.{dvd_refl, dvd_trans}
use Rattle.whole_numbers.specs.Fractions.{Fraction, gcd}
use Rattle.whole_numbers.proofs.Divisors.{gcd_is, quotient_positive}
use Rattle.whole_numbers.proofs.Ring.{var, ◌⊗◌, ring}
use Rattle.whole_numbers.proofs.Sizes.{size_positive}
use Rattle.area_graph.specs.declared.Point.{Point}
use Rattle.whole_numbers.specs.Lists.{number_at}
use Rattle.design_problem.specs.declared.tree.Member.TheVariants.{Low}
use Rattle.design_problem.specs.Basis.{entry, member_form}
use Rattle.design_problem.specs.Earnest.{IsLeastPoint}
use Rattle.design_problem.specs.Forms.{AreMet}
use Rattle.fraction_lines.proofs.TableLineLaws.{number_at as number_there}
use Rattle.fraction_table.specs.Pivots.{AreHigh, line_at, numbers_of_line, member_at}
use Rattle.fraction_table.proofs.Bases.{members_begin}
use Rattle.fraction_table.proofs.CornerLeast.{corner_is_least}
use Rattle.fraction_table.proofs.CornerPoints.{same_point}
use Rattle.fraction_table.proofs.CornerScales.{corner_at, same_sum}
use Rattle.fraction_table.proofs.Pivots.{line_long, lines_long, members_long, whole_line}
use Rattle.fraction_table.proofs.Solutions.{corner_long, corner_of, corner_point, counted_lows, high_number}
use Rattle.fraction_table.proofs.IntegralTurns.{stand_at}
use Rattle.fraction_table.proofs.theory.TurnedNumbers.{numbers_at, numbers_long}
use Rattle.fraction_table.proofs.theory.Zips.{zip_from}
use Rattle.integer_pivots.proofs.Sizes.{number_within, read_number}
use Rattle.table_kernel.specs.declared.kernel.Kernel.{Kernel}
use Rattle.table_kernel.specs.Kernels.{IsKernel, lows_of, stated, width_of}
use Rattle.table_kernel.specs.Numbers.{scaled_line}
use Rattle.table_kernel.proofs.Columns.{common_small, constants_within, low_constant_at, low_constants}
use Rattle.table_kernel.proofs.PlaceConstants.{low_place}

-- each variable has a constant
pub constant_in : (k : Kernel) → IsKernel k → (v : ℕ) → v < width_of k → v < length k.constants.items
constant_in k m v v_in = omega (arith, v_in, m.shaped.constants, members_long k.table.costs (length k.table.rows.items))

-- which is the one that its line has
pub low_constant_is : (k : Kernel) → IsKernel k → (v : ℕ) → v < width_of k → number_at k.constants.items v ≡ number_at (low_constants k) v
low_constant_is k m v v_in =
    low_place k m v v (slice_index k.table.costs.low v) (constant_in k m v v_in) v_in refl
    (members_begin k.table.costs (length k.table.rows.items) v (Low 0 0) v_in)
    ∙ sym (low_constant_at k m.shaped v v_in)

-- and is within 2^44
pub low_constant_small : (k : Kernel) → IsKernel k → (v : ℕ) → v < width_of k → nat_abs (number_at k.constants.items v) ≤ 2 ^ 44
low_constant_small k m v v_in =
    subst (λ (z : ℤ). nat_abs z ≤ 2 ^ 44) (sym (low_constant_is k m v v_in)) (number_within (2 ^ 44) (low_constants k) v (constants_within k m.bounded))

-- the size of a constant, as code reads it
pub constant_read : (k : Kernel) → IsKernel k → (v size : ℕ) (z : ℤ) → v < width_of k →
    z ≡ slice_index_or k.constants.items v z → size ≡ nat_abs (to_z w64 (of_z w64 z)) →
    (size ≡ nat_abs (number_at k.constants.items v)) × (size ≤ 2 ^ 44)
constant_read k m v size z v_in z_is size_is =
    let place_in = constant_in k m v v_in in
    let same : z ≡ number_at k.constants.items v = z_is ∙ get_or_default k.constants.items v z (pos 0) place_in in
    let small = low_constant_small k m v v_in in
    let is : size ≡ nat_abs (number_at k.constants.items v) =
    size_is ∙ ap (λ (y : ℤ). nat_abs (to_z w64 (of_z w64 y))) same ∙ ap nat_abs (read_number (number_at k.constants.items v) (omega (arith, small))) in
    (is, omega (arith, is, small))

pub common_read : (k : Kernel) → IsKernel k → (size : ℕ) → size ≡ nat_abs (to_z w64 (of_z w64 k.common)) →
    (size ≡ nat_abs k.common) × (size ≤ 2 ^ 30) × (0 < size)
common_read k m size size_is =
    let small : nat_abs k.common ≤ 2 ^ 30 = common_small k m.bounded in
    let some : 0 < nat_abs k.common = size_positive k.common m.bounded.positive in
    let is : size ≡ nat_abs k.common = size_is ∙ ap nat_abs (read_number k.common (omega (arith, small))) in
    (is, omega (arith, is, small), omega (arith, is, some))

-- what divides the denominator and the constants before a variable
pub record IsDivisor (common : ℤ) (constants : List ℤ) (count divisor : ℕ) : Type 0 where
  pub positive : 0 < divisor
  pub whole : divisor ∣ nat_abs common
  pub parts : (v : ℕ) → v < count → divisor ∣ nat_abs (number_at constants v)

pub divisor_first : (common : ℤ) (constants : List ℤ) (divisor : ℕ) → 0 < nat_abs common → divisor ≡ nat_abs common → IsDivisor common constants 0 divisor
divisor_first common constants divisor positive is =
    record {
      positive = subst (λ (n : ℕ). 0 < n) (sym is) positive;
      whole = subst (λ (n : ℕ). n ∣ nat_abs common) (sym is) (dvd_refl (nat_abs common));
      parts = λ v v_in. absurd (omega (arith, v_in));
    }

pub divisor_more : (common : ℤ) (constants : List ℤ) (count size divisor new : ℕ) →
    size ≡ nat_abs (number_at constants count) → new ≡ gcd size divisor → (0 < divisor → 0 < new) →
    IsDivisor common constants count divisor → IsDivisor common constants (count + 1) new
divisor_more common constants count size divisor new size_is new_is stays d =
    let is = gcd_is size divisor in
    let here : new ∣ size = subst (λ (n : ℕ). n ∣ size) (sym new_is) is.0 in
    let before : new ∣ divisor = subst (λ (n : ℕ). n ∣ divisor) (sym new_is) is.1 in
    record {
      positive = stays d.positive;
      whole = dvd_trans new before d.whole;
      parts = λ v v_in. elim (cases_lt v count) [
        | inl less ↦ dvd_trans new before (d.parts v less)
        | inr more ↦ subst (λ (u : ℕ). new ∣ nat_abs (number_at constants u)) (let e : count ≡ v =
            omega (arith, more, v_in) in e) (subst (λ (n : ℕ). new ∣ n) size_is here)
      ];
    }

-- the value of a variable at the corner over a divisor of the denominator
abbrev pub value_over : Kernel → ℕ → ℕ → ℕ → ℕ
value_over k divisor scale v = slice_index k.table.costs.low v * scale + nat_abs (number_at k.constants.items v) / divisor

pub values_more : (k : Kernel) (divisor scale v value : ℕ) (old new : List ℕ) → v < length old →
    ((j : ℕ) → j < v → slice_index old j ≡ value_over k divisor scale j) → value ≡ value_over k divisor scale v →
    new ≡ slice_set old v value → (j : ℕ) → j < v + 1 → slice_index new j ≡ value_over k divisor scale j
values_more k divisor scale v value old new v_in before value_is new_is j j_in =
    ap (λ (xs : List ℕ). slice_index xs j) new_is
    ∙ elim (cases_eq j v) [
      | inl same ↦ ap (slice_index (slice_set old v value)) same ∙ get_or-set_same old v value 0 v_in ∙ value_is ∙ ap (value_over k divisor scale) (sym same)
      | inr other ↦ get_or-set_other old v j value 0 other ∙ before j (earlier other)
    ]
  where
    earlier : j ≢ v → j < v
    earlier other = elim (cases_lt j v) [ inl less ↦ less | inr more ↦ absurd (other (omega (arith, more, j_in))) ]

-- the kernel's table stands at its corner where no constant is negative
high_at : (k : Kernel) (m : IsKernel k) → All (λ z. pos 0 ≤ℤ z) k.constants.items → (line : ℕ) →
    line < length (stated k).lines.items → pos 0 ≤ℤ (entry (line_at (stated k) line) 0).numerator
high_at k m high line line_in =
    let t = stated k in
    let w = m.tableau in
    let n = width_of k in
    let f = member_form n k.table.rows.items (member_at t line) in
    let l = whole_line t w line line_in in
    let here = number_there t.top (line_at t line) 0 l.numbers (omega (arith, line_long t w line line_in)) in
    let stands = stand_at w.unboxed.common (line_at t line) (numbers_of_line t w line) 0 l.stand
    (omega (arith, numbers_long n w.unboxed.common t.costs.low w.unboxed.lows f)) in
    let place_in : line < length k.constants.items =
    omega (
      arith,
      line_in,
      lines_long t w,
      m.shaped.constants,
      members_long k.table.costs (length k.table.rows.items),
    ) in
    let is = m.numbers.constants line place_in ∙ sym (numbers_at n w.unboxed.common t.costs.low w.unboxed.lows f 0 (omega arith)) in
    let number : pos 0 ≤ℤ number_at (numbers_of_line t w line) 0 = subst (λ (z : ℤ). pos 0 ≤ℤ z) is (high line (pos 0) place_in) in
    high_number (number_at (numbers_of_line t w line) 0) (entry (line_at t line) 0).numerator w.unboxed.common
    (entry (line_at t line) 0).denominator w.unboxed.positive here.lowest.positive (sym stands) number

stated_high : (k : Kernel) (m : IsKernel k) → All (λ z. pos 0 ≤ℤ z) k.constants.items → AreHigh (stated k)
stated_high k m high line d line_in =
    subst (λ (row : List Fraction). pos 0 ≤ℤ (entry row 0).numerator) (get_or_default (stated k).lines.items line [] d line_in) (high_at k m high line line_in)

swapped : (a b c : ℕ) → a * (b * c) ≡ (a * c) * b
swapped a b c = ap nat_abs (ring (pos a ∷ pos b ∷ pos c ∷ []) (var 0 ⊗ (var 1 ⊗ var 2)) ((var 0 ⊗ var 2) ⊗ var 1) refl)

-- a value over the one scale is that over the other
over_same : (low D z divisor : ℕ) → 0 < divisor → divisor ∣ D → divisor ∣ z → (low * (D / divisor) + z / divisor) * D ≡ (low * D + z) * (D / divisor)
over_same low D z divisor positive whole part =
    let d = D / divisor in
    let n = z / divisor in
    let D_is : d * divisor ≡ D = div-mul_cancel divisor whole in
    let z_is : n * divisor ≡ z = div-mul_cancel divisor part in
    let stands : n * D ≡ z * d = ap (λ (x : ℕ). n * x) (sym D_is) ∙ swapped n d divisor ∙ ap (λ (x : ℕ). x * d) z_is in
    ap (λ (x : ℕ). (low * d + x) * D) (sym (mul-one n)) ∙ same_sum low n 1 d z D d (one-mul d) stands

-- the point that was put is the least
pub corner_least : (k : Kernel) (m : IsKernel k) → All (λ z. pos 0 ≤ℤ z) k.constants.items → (divisor : ℕ) (p : Point) →
    IsDivisor k.common k.constants.items (width_of k) divisor → p.scale ≡ nat_abs k.common / divisor →
    length p.values ≡ width_of k →
    ((v : ℕ) → v < width_of k → slice_index p.values v ≡ value_over k divisor p.scale v) →
    IsLeastPoint (AreMet k.table.rows.items) k.table.costs p
corner_least k m high divisor p d scale_is counted values =
    let t = stated k in
    let w = m.tableau in
    let q = corner_point t w in
    let common : w.unboxed.common ≡ nat_abs k.common = ap nat_abs m.numbers.common in
    let long : length q.values ≡ width_of k = corner_long w.unboxed.common t.costs.low w.unboxed.lows (counted_lows t w) in
    same_point k.table.costs k.table.rows.items p q
    (subst (λ (n : ℕ). 0 < n) (sym scale_is) (quotient_positive (nat_abs k.common) divisor (subst (λ (n : ℕ). 0 < n) common w.unboxed.positive) d.whole))
    (zip_from (λ y z. y * q.scale ≡ z * p.scale) p.values q.values 0 0 (counted ∙ sym long) (λ v v_in. here v (omega (arith, v_in, counted))))
    (corner_is_least t w (stated_high k m high))
  where
    here : (v : ℕ) → v < width_of k →
        slice_index p.values v * m.tableau.unboxed.common
        ≡ slice_index (corner_of m.tableau.unboxed.common k.table.costs.low m.tableau.unboxed.lows) v * p.scale
    here v v_in =
        let D = nat_abs k.common in
        let low = slice_index k.table.costs.low v in
        let z = number_at k.constants.items v in
        let common : m.tableau.unboxed.common ≡ D = ap nat_abs m.numbers.common in
        let number : number_at (slice_index_or m.tableau.unboxed.lows v []) 0 ≡ z =
        ap (λ (rows : List (List ℤ)). number_at (slice_index_or rows v []) 0) m.numbers.lows
        ∙ sym (get_or-map (λ (ts : List ℤ). number_at ts 0) (lows_of k) v [] (pos 0)
        (omega (arith, v_in, m.shaped.lows, length-map k.lows.items (scaled_line D))))
        ∙ sym (low_constant_is k m v v_in) in
        let there : slice_index (corner_of m.tableau.unboxed.common k.table.costs.low m.tableau.unboxed.lows) v ≡ low * D + nat_abs z =
        corner_at m.tableau.unboxed.common k.table.costs.low m.tableau.unboxed.lows v v_in (counted_lows (stated k) m.tableau)
        ∙ ap (λ (x : ℕ). low * x + nat_abs (number_at (slice_index_or m.tableau.unboxed.lows v []) 0)) common
        ∙ ap (λ (y : ℤ). low * D + nat_abs y) number in
        ap (λ (x : ℕ). slice_index p.values v * x) common
        ∙ ap (λ (x : ℕ). x * D) (values v v_in ∙ ap (λ (s : ℕ). value_over k divisor s v) scale_is)
        ∙ over_same low D (nat_abs z) divisor d.positive d.whole (d.parts v v_in)
        ∙ ap (λ (x : ℕ). x * (D / divisor)) (sym there)
        ∙ ap (λ (s : ℕ). slice_index (corner_of m.tableau.unboxed.common k.table.costs.low m.tableau.unboxed.lows) v * s) (sym scale_is)
