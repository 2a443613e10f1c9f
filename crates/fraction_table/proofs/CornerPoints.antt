-- Two points whose coordinates are the same fractions: if the one is least in a box, so is the other.
use Rattle.std.proofs.Common.{◌≡◌, ℕ, ◌*◌, ◌<◌, ◌≤◌, sym, ◌∙◌, ap, List, [], ◌∷◌, map, length, arith, inl, inr, refl}
use Rattle.std.proofs.Common.{le_trans, le_of_eq, le_antisymm, lt_of_le_of_lt, lt_of_lt_of_le, mul_right_comm, mul-le-mul_right, mul-lt-mul_of_pos_right, le_of_mul-le-mul_right, lt_of_mul-lt-mul_right}
use Rattle.std.specs.Prelude.{ℤ, pos, negsuc, ◌*ℤ◌, slice_index, slice_index_or}
use Rattle.std.specs.List.{AllZip}
use Rattle.cost_base.proofs.ListLemmas.{length_zip}
use Rattle.whole_numbers.proofs.Ring.{var, num, ◌⊕◌, ◌⊗◌, ring, ring_by, nothing, using}
use Rattle.area_graph.specs.declared.Point.{Point}
use Rattle.design_problem.specs.declared.form.Form.{Form}
use Rattle.design_problem.specs.declared.boxes.CostBox.{CostBox}
use Rattle.design_problem.specs.Forms.{dot, value_at, AreMet}
use Rattle.design_problem.specs.Earnest.{IsLeastPoint, LexLess}
use Rattle.fraction_table.proofs.Solutions.{high_number}
use Rattle.fraction_table.proofs.theory.Zips.{zip_at}

-- each value over the one scale is the value over the other
abbrev pub IsSamePoint : Point → Point → Type 0
IsSamePoint p q = AllZip (λ y z. y * q.scale ≡ z * p.scale) p.values q.values

less_scaled : (l y z e d : ℕ) → 0 < d → y * d ≡ z * e → l * d ≤ z → l * e ≤ y
less_scaled l y z e d d_positive same less =
    le_of_mul-le-mul_right {k = d} (le_trans (le_of_eq (mul_right_comm l e d)) (le_trans (mul-le-mul_right e less) (le_of_eq (sym same)))) d_positive

pub scaled_less : (h y z e d : ℕ) → 0 < d → y * d ≡ z * e → z ≤ h * d → y ≤ h * e
scaled_less h y z e d d_positive same less =
    le_of_mul-le-mul_right {k = d} (le_trans (le_of_eq same) (le_trans (mul-le-mul_right e less) (le_of_eq (mul_right_comm h d e)))) d_positive

same_dot : (d e : ℕ) (cs : List ℤ) (ys zs : List ℕ) → AllZip (λ y z. y * d ≡ z * e) ys zs → (dot cs ys *ℤ pos d) ≡ (dot cs zs *ℤ pos e)
same_dot d e [] ys zs same = ring (pos d ∷ pos e ∷ []) (num (pos 0) ⊗ var 0) (num (pos 0) ⊗ var 1) refl
same_dot d e (c ∷ cs) [] [] same = ring (pos d ∷ pos e ∷ []) (num (pos 0) ⊗ var 0) (num (pos 0) ⊗ var 1) refl
same_dot d e (c ∷ cs) [] (z ∷ zs) same = absurd same
same_dot d e (c ∷ cs) (y ∷ ys) [] same = absurd same
same_dot d e (c ∷ cs) (y ∷ ys) (z ∷ zs) same =
    ring_by (c ∷ pos y ∷ pos z ∷ pos d ∷ pos e ∷ dot cs ys ∷ dot cs zs ∷ [])
    ((var 0 ⊗ var 1 ⊕ var 5) ⊗ var 3) ((var 0 ⊗ var 2 ⊕ var 6) ⊗ var 4)
    (using (var 0) (var 1 ⊗ var 3) (var 2 ⊗ var 4) (ap pos same.0)
    (using (num (pos 1)) (var 5 ⊗ var 3) (var 6 ⊗ var 4) (same_dot d e cs ys zs same.1) nothing)) refl

-- a form's values at the two points are one fraction too
same_value : (f : Form) (p q : Point) → IsSamePoint p q → (value_at f q *ℤ pos p.scale) ≡ (value_at f p *ℤ pos q.scale)
same_value f p q same =
    ring_by (f.constant ∷ pos p.scale ∷ pos q.scale ∷ dot f.coefficients p.values ∷ dot f.coefficients q.values ∷ [])
    ((var 0 ⊗ var 2 ⊕ var 4) ⊗ var 1) ((var 0 ⊗ var 1 ⊕ var 3) ⊗ var 2)
    (using (num (negsuc 0)) (var 3 ⊗ var 2) (var 4 ⊗ var 1) (same_dot q.scale p.scale f.coefficients p.values q.values same) nothing) refl

same_meets : (rows : List Form) (p q : Point) → 0 < p.scale → 0 < q.scale → IsSamePoint p q → AreMet rows q → AreMet rows p
same_meets rows p q p_positive q_positive same meets k d k_in =
    let f = slice_index_or rows k d in
    high_number (value_at f q) (value_at f p) q.scale p.scale q_positive p_positive (same_value f p q same) (meets k d k_in)

lower_scaled : (x y z e d o : ℕ) → 0 < d → y * d ≡ z * e → x * e < y * o → x * d < z * o
lower_scaled x y z e d o d_positive same lower =
    lt_of_mul-lt-mul_right e
    (lt_of_le_of_lt (le_of_eq (mul_right_comm x d e))
    (lt_of_lt_of_le (mul-lt-mul_of_pos_right lower d_positive) (le_of_eq (mul_right_comm y o d ∙ ap (λ (n : ℕ). n * o) same ∙ mul_right_comm z e o))))

level_scaled : (x y z e d o : ℕ) → 0 < e → y * d ≡ z * e → x * e ≡ y * o → x * d ≡ z * o
level_scaled x y z e d o e_positive same level =
    let scaled : x * d * e ≡ z * o * e = mul_right_comm x d e ∙ ap (λ (n : ℕ). n * d) level ∙ mul_right_comm y o d
    ∙ ap (λ (n : ℕ). n * o) same ∙ mul_right_comm z e o in
    le_antisymm (le_of_mul-le-mul_right {k = e} (le_of_eq scaled) e_positive) (le_of_mul-le-mul_right {k = e} (le_of_eq (sym scaled)) e_positive)

-- what comes before the one comes before the other
same_before : (e d o : ℕ) (xs ys zs : List ℕ) → 0 < e → 0 < d → AllZip (λ y z. y * d ≡ z * e) ys zs →
    LexLess (map (λ x. x * e) xs) (map (λ y. y * o) ys) → LexLess (map (λ x. x * d) xs) (map (λ z. z * o) zs)
same_before e d o [] ys zs e_positive d_positive same before = absurd before
same_before e d o (x ∷ xs) [] zs e_positive d_positive same before = absurd before
same_before e d o (x ∷ xs) (y ∷ ys) [] e_positive d_positive same before = absurd same
same_before e d o (x ∷ xs) (y ∷ ys) (z ∷ zs) e_positive d_positive same before =
    elim before [
      | inl lower ↦ inl (lower_scaled x y z e d o d_positive same.0 lower)
      | inr level ↦ inr (level_scaled x y z e d o e_positive same.0 level.0, same_before e d o xs ys zs e_positive d_positive same.1 level.1)
    ]

pub same_point : (costs : CostBox) (rows : List Form) (p q : Point) → 0 < p.scale → IsSamePoint p q →
    IsLeastPoint (AreMet rows) costs q → IsLeastPoint (AreMet rows) costs p
same_point costs rows p q positive same least =
    let long = length_zip (λ y z. y * q.scale ≡ z * p.scale) p.values q.values same in
    let q_positive = least.inside.scale in
    let there : (k : ℕ) → k < length p.values → slice_index p.values k * q.scale ≡ slice_index q.values k * p.scale =
    λ k k_in. zip_at (λ y z. y * q.scale ≡ z * p.scale) p.values q.values k 0 0 same k_in in
    record {
      inside = record {
        scale = positive;
        low_count = least.inside.low_count ∙ sym long;
        high_count = least.inside.high_count ∙ sym long;
        above = λ k k_in. less_scaled (slice_index costs.low k) (slice_index p.values k) (slice_index q.values k)
            p.scale q.scale q_positive (there k k_in) (least.inside.above k (omega (arith, long, k_in)));
        below = λ k k_in. scaled_less (slice_index costs.high k) (slice_index p.values k) (slice_index q.values k)
            p.scale q.scale q_positive (there k k_in) (least.inside.below k (omega (arith, long, k_in)));
      };
      accepted = same_meets rows p q positive q_positive same least.accepted;
      least = λ other inside meets before.
          least.least other inside meets
          (same_before p.scale q.scale other.scale other.values p.values q.values positive q_positive same before);
    }
