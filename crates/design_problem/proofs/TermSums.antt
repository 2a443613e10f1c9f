-- Sums of terms, place by place.
use Rattle.std.proofs.Common.{◌≡◌, ℕ, ◌+◌, ◌*◌, ◌^◌, ◌<◌, zero, suc, refl, sym, ◌∙◌, ap, List, [], ◌∷◌, length, get_or, set, drop, cond, eqb, arith, get_or-set_other, Bool}
use Rattle.std.specs.Prelude.{ℤ, pos, ◌+ℤ◌, ◌*ℤ◌, nat_abs, sum_by}
use native.Mathlib.Decide.{ℕ_discrete}
use Rattle.std.proofs.lemmas.Bool.{ne_eqb, eq-eqb}
use Rattle.std.proofs.lemmas.Grind.{get_or-set_at}
use Rattle.std.proofs.lemmas.Int.{ints}
use Rattle.std.proofs.lemmas.List.Sums.{sum_by-drop_more}
use Rattle.whole_numbers.proofs.Laws.{mul-add}
use Rattle.design_problem.specs.declared.form.Term.{Term}
use Rattle.design_problem.specs.Forms.{terms_from}
use Rattle.design_problem.proofs.TermLaws.{total, total_from, total_is, total_more}
use Rattle.whole_numbers.proofs.Sizes.{scaled_size, sum_size}

-- a coefficient, where it is that of the variable
abbrev pub at_var : ℕ → ℕ → ℤ → ℤ
at_var i v c = cond (eqb v i) c (pos 0)

-- what the terms of a variable add up to
abbrev pub sum_at : List Term → ℕ → ℤ
sum_at ts i = total (at_var i) ts

none_at : (i v : ℕ) → at_var i v (pos 0) ≡ pos 0
none_at i v =
    elim (ℕ_discrete v i) [
      | yes same ↦ ap (λ (b : Bool). cond b (pos 0) (pos 0)) (eq-eqb v i same)
      | no other ↦ ap (λ (b : Bool). cond b (pos 0) (pos 0)) (ne_eqb v i other)
    ]

none_before : (i first : ℕ) (cs : List ℤ) → i < first → total_from (at_var i) first cs ≡ pos 0
none_before i first [] before = refl
none_before i first (c ∷ cs) before =
    let here = ap (λ (b : Bool). cond b c (pos 0)) (ne_eqb first i (λ (same : first ≡ i). absurd (omega arith))) in
    let rest = none_before i (suc first) cs (omega arith) in
    omega (arith, ints, here, rest)

sum_from : (first : ℕ) (cs : List ℤ) (v i : ℕ) → i ≡ first + v → total_from (at_var i) first cs ≡ get_or cs v (pos 0)
sum_from first [] v i is = refl
sum_from first (c ∷ cs) zero i is =
    let here = ap (λ (b : Bool). cond b c (pos 0)) (eq-eqb first i (let e : first ≡ i = omega arith in e)) in
    let rest = none_before i (suc first) cs (omega arith) in
    omega (arith, ints, here, rest)
sum_from first (c ∷ cs) (suc v) i is =
    let here = ap (λ (b : Bool). cond b c (pos 0)) (ne_eqb first i (λ (same : first ≡ i). absurd (omega arith))) in
    let rest = sum_from (suc first) cs v i (omega arith) in
    omega (arith, ints, here, rest)

-- the terms of a variable add up to its coefficient
pub sum_is_coefficient : (cs : List ℤ) (ts : List Term) (i : ℕ) → ts ≡ terms_from 0 cs → sum_at ts i ≡ get_or cs i (pos 0)
sum_is_coefficient cs ts i terms =
    ap (λ (us : List Term). sum_at us i) terms ∙ total_is (at_var i) (none_at i) 0 cs ∙ sum_from 0 cs i i (omega arith)

same_place : (s x m t rest : ℤ) (c : ℤ) → x ≡ (s +ℤ (m *ℤ t)) → c ≡ t → (x +ℤ (m *ℤ rest)) ≡ (s +ℤ (m *ℤ (c +ℤ rest)))
same_place s x m t rest c e q =
    let split = mul-add m t rest in
    let whole : (m *ℤ (c +ℤ rest)) ≡ (m *ℤ (t +ℤ rest)) = ap (λ (z : ℤ). m *ℤ (z +ℤ rest)) q in
    omega (arith, ints)

other_place : (s m rest : ℤ) (c : ℤ) → c ≡ pos 0 → (s +ℤ (m *ℤ rest)) ≡ (s +ℤ (m *ℤ (c +ℤ rest)))
other_place s m rest c q = ap (λ (z : ℤ). s +ℤ (m *ℤ z)) (let e : rest ≡ (c +ℤ rest) = omega (arith, ints) in e)

-- after one term more, the sums and the rest are what they were
pub each_more : (sums : List ℤ) (m : ℕ) (all : List Term) (k i : ℕ) (d : Term) (x : ℤ) → k < length all →
    i < length sums → x ≡ (get_or sums (get_or all k d).var (pos 0) +ℤ (pos m *ℤ (get_or all k d).coefficient)) →
    (get_or (set sums (get_or all k d).var x) i (pos 0) +ℤ (pos m *ℤ sum_at (drop (k + 1) all) i))
    ≡ (get_or sums i (pos 0) +ℤ (pos m *ℤ sum_at (drop k all) i))
each_more sums m all k i d x k_in i_in e =
    let t = get_or all k d in
    let rest = sum_at (drop (k + 1) all) i in
    rw (total_more (at_var i) all k d k_in)
    (elim (ℕ_discrete t.var i) [
      | yes same ↦
          ap (λ (z : ℤ). z +ℤ (pos m *ℤ rest)) (get_or-set_at sums t.var i x (pos 0) (sym same) (let t_in : t.var < length sums = omega arith in t_in))
          ∙ same_place (get_or sums i (pos 0)) x (pos m) t.coefficient rest (cond (eqb t.var i) t.coefficient (pos 0))
          (e ∙ ap (λ (j : ℕ). get_or sums j (pos 0) +ℤ (pos m *ℤ t.coefficient)) same)
          (ap (λ (b : Bool). cond b t.coefficient (pos 0)) (eq-eqb t.var i same))
      | no other ↦
          ap (λ (z : ℤ). z +ℤ (pos m *ℤ rest)) (get_or-set_other sums t.var i x (pos 0) (λ q. other (sym q)))
          ∙ other_place (get_or sums i (pos 0)) (pos m) rest (cond (eqb t.var i) t.coefficient (pos 0))
          (ap (λ (b : Bool). cond b t.coefficient (pos 0)) (ne_eqb t.var i other))
    ])

-- and their sizes stay within bounds
pub size_more : (sums : List ℤ) (m : ℕ) (all : List Term) (k i : ℕ) (d : Term) (x : ℤ) → k < length all →
    i < length sums → x ≡ (get_or sums (get_or all k d).var (pos 0) +ℤ (pos m *ℤ (get_or all k d).coefficient)) →
    ((j : ℕ) → j < length sums → nat_abs (get_or sums j (pos 0)) + m * sum_by (λ t. nat_abs t.coefficient) (drop k all)
    < 2 ^ 127) → nat_abs (get_or (set sums (get_or all k d).var x) i (pos 0))
    + m * sum_by (λ t. nat_abs t.coefficient) (drop (k + 1) all) < 2 ^ 127
size_more sums m all k i d x k_in i_in e bound =
    let t = get_or all k d in
    let split = ap (λ (n : ℕ). m * n) (sum_by-drop_more (λ (s : Term). nat_abs s.coefficient) all k d k_in) in
    let here = bound i i_in in
    elim (ℕ_discrete t.var i) [
      | yes same ↦
          let now = ap nat_abs (get_or-set_at sums t.var i x (pos 0) (sym same) (let t_in : t.var < length sums = omega arith in t_in)) in
          let both = sum_size (get_or sums t.var (pos 0)) (pos m *ℤ t.coefficient) in
          let product = scaled_size m t.coefficient in
          let is_here = ap (λ (j : ℕ). nat_abs (get_or sums j (pos 0))) same in
          let sized = ap nat_abs e in
          omega arith
      | no other ↦
          let now = ap nat_abs (get_or-set_other sums t.var i x (pos 0) (λ q. other (sym q))) in
          omega arith
    ]
