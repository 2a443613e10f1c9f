-- The terms of a form: what they are, and sums over them.
use Rattle.std.proofs.Common.{◌≡◌, ℕ, zero, suc, ◌+◌, ◌<◌, ◌≤◌, refl, sym, ◌∙◌, ap, List, [], ◌∷◌, ◌++◌, map, length, take, drop, get_or, cond, arith, add-one, add-zero, zero-add, drop-cons, Bool, ◌^◌, inl, inr, SFits, w64, to_z, of_z}
use native.Mathlib.Decide.{ℕ_discrete}
use lib.IntN.{+ℤ_idl}
use Rattle.std.specs.Prelude.{ℤ, pos, negsuc, ◌+ℤ◌, ◌*ℤ◌, nat_abs, All, AllPairs, sum_by, ◌≢◌, ◌⊎◌}
use Rattle.std.proofs.lemmas.Bool.{ne_eqb, eq-eqb}
use Rattle.std.proofs.lemmas.Int.{ints, to_z-of_z}
use Rattle.std.proofs.lemmas.List.{append_assoc, append-nil}
use Rattle.std.proofs.lemmas.List.Elements.{All-nil, All-cons, All-head, All-tail, All-weaker}
use Rattle.std.proofs.lemmas.List.Kept.{AllPairs-cons}
use Rattle.std.proofs.lemmas.List.Sums.{sum_by-cons}
use Rattle.cost_base.specs.Lists.{numbers_from}
use Rattle.design_problem.specs.declared.form.Term.{Term}
use Rattle.design_problem.specs.Forms.{Form, term_of, terms_from, terms_of, coefficient_of, form_by, dot, AreTerms}
use Rattle.design_problem.specs.Boxes.{upper_term, upper_sum}
use Rattle.design_problem.proofs.Tallies.{tabulated}

-- a variable is one of n variables from the first on
abbrev pub IsWithin : ℕ → ℕ → Term → Type 0
IsWithin first n t = (first ≤ t.var) × (t.var < first + n)

later : (first n : ℕ) (t : Term) → IsWithin (suc first) n t → IsWithin first (suc n) t
later first n t within = (omega (arith, within.0), omega (arith, within.1))

-- each term is of one of the variables
pub within_from : (first : ℕ) (cs : List ℤ) → All (IsWithin first (length cs)) (terms_from first cs)
within_from first [] = All-nil (IsWithin first 0)
within_from first (pos zero ∷ cs) =
    All-weaker (IsWithin (suc first) (length cs)) (IsWithin first (suc (length cs))) (later first (length cs))
    (terms_from (suc first) cs) (within_from (suc first) cs)
within_from first (pos (suc n) ∷ cs) =
    All-cons (IsWithin first (suc (length cs))) (record { var = first; coefficient = pos (suc n) }) (terms_from (suc first) cs) (omega arith, omega arith)
    (All-weaker (IsWithin (suc first) (length cs)) (IsWithin first (suc (length cs))) (later first (length cs))
    (terms_from (suc first) cs) (within_from (suc first) cs))
within_from first (negsuc n ∷ cs) =
    All-cons (IsWithin first (suc (length cs))) (record { var = first; coefficient = negsuc n }) (terms_from (suc first) cs) (omega arith, omega arith)
    (All-weaker (IsWithin (suc first) (length cs)) (IsWithin first (suc (length cs))) (later first (length cs))
    (terms_from (suc first) cs) (within_from (suc first) cs))

-- each term of a form is of one of its variables
pub terms_known : (f : Form) → All (λ t. t.var < length f.coefficients) (terms_of f)
terms_known f =
    All-weaker (IsWithin 0 (length f.coefficients)) (λ t. t.var < length f.coefficients)
    (λ t within. omega (arith, within.1)) (terms_of f) (within_from 0 f.coefficients)

-- what all coefficients keep all terms keep
pub each_term : (P : ℤ → Type 0) (first : ℕ) (cs : List ℤ) → All P cs → All (λ t. P t.coefficient) (terms_from first cs)
each_term P first [] each = All-nil (λ t. P t.coefficient)
each_term P first (pos zero ∷ cs) each = each_term P (suc first) cs (All-tail P (pos zero) cs each)
each_term P first (pos (suc n) ∷ cs) each =
    All-cons (λ t. P t.coefficient) (record { var = first; coefficient = pos (suc n) }) (terms_from (suc first) cs)
    (All-head P (pos (suc n)) cs each) (each_term P (suc first) cs (All-tail P (pos (suc n)) cs each))
each_term P first (negsuc n ∷ cs) each =
    All-cons (λ t. P t.coefficient) (record { var = first; coefficient = negsuc n }) (terms_from (suc first) cs)
    (All-head P (negsuc n) cs each) (each_term P (suc first) cs (All-tail P (negsuc n) cs each))

-- terms rise by their variables
pub rising_from : (first : ℕ) (cs : List ℤ) → AllPairs (λ t u. t.var < u.var) (terms_from first cs)
rising_from first [] = λ i j d i_in j_in. absurd (omega arith)
rising_from first (pos zero ∷ cs) = rising_from (suc first) cs
rising_from first (pos (suc n) ∷ cs) =
    AllPairs-cons (λ t u. t.var < u.var) (record { var = first; coefficient = pos (suc n) }) (terms_from (suc first) cs)
    (All-weaker (IsWithin (suc first) (length cs)) (λ t. first < t.var) (λ t within. omega (arith, within.0))
    (terms_from (suc first) cs) (within_from (suc first) cs))
    (rising_from (suc first) cs)
rising_from first (negsuc n ∷ cs) =
    AllPairs-cons (λ t u. t.var < u.var) (record { var = first; coefficient = negsuc n }) (terms_from (suc first) cs)
    (All-weaker (IsWithin (suc first) (length cs)) (λ t. first < t.var) (λ t within. omega (arith, within.0))
    (terms_from (suc first) cs) (within_from (suc first) cs))
    (rising_from (suc first) cs)

-- the sizes of the terms are those of the coefficients
pub sizes_from : (first : ℕ) (cs : List ℤ) → sum_by (λ t. nat_abs t.coefficient) (terms_from first cs) ≡ sum_by nat_abs cs
sizes_from first [] = refl
sizes_from first (pos zero ∷ cs) = rw (sum_by-cons nat_abs (pos zero) cs) (sizes_from (suc first) cs ∙ sym (zero-add (sum_by nat_abs cs)))
sizes_from first (pos (suc n) ∷ cs) =
    rw (
      sum_by-cons (λ (t : Term). nat_abs t.coefficient) (record { var = first; coefficient = pos (suc n) })
          (terms_from (suc first) cs),
      sum_by-cons nat_abs (pos (suc n)) cs,
    )
    (ap (λ m. suc n + m) (sizes_from (suc first) cs))
sizes_from first (negsuc n ∷ cs) =
    rw (
      sum_by-cons (λ (t : Term). nat_abs t.coefficient) (record { var = first; coefficient = negsuc n })
          (terms_from (suc first) cs),
      sum_by-cons nat_abs (negsuc n) cs,
    )
    (ap (λ m. suc n + m) (sizes_from (suc first) cs))

-- a place counted from the next one
pub moved : (first v : ℕ) → suc first + v ≡ first + suc v
moved first v = omega arith

-- one coefficient more puts its term at the end
terms_suc : (first : ℕ) (cs : List ℤ) (v : ℕ) → v < length cs →
    terms_from first (take (suc v) cs) ≡ terms_from first (take v cs) ++ term_of (first + v) (get_or cs v (pos 0))
terms_suc first [] v v_in = absurd (omega arith)
terms_suc first (c ∷ cs) zero v_in = append-nil (term_of first c) ∙ ap (λ k. term_of k c) (sym (add-zero first))
terms_suc first (c ∷ cs) (suc v) v_in =
    ap (λ (ts : List Term). term_of first c ++ ts)
    (terms_suc (suc first) cs v (omega arith) ∙ ap (λ (k : ℕ). terms_from (suc first) (take v cs) ++ term_of k (get_or cs v (pos 0))) (moved first v))
    ∙ sym (append_assoc (term_of first c) (terms_from (suc first) (take v cs)) (term_of (first + suc v) (get_or cs v (pos 0))))

pub terms_next : (cs : List ℤ) (v : ℕ) (c : ℤ) (olds news : List Term) → v < length cs → c ≡ get_or cs v (pos 0) →
    olds ≡ terms_from 0 (take v cs) → news ≡ olds ++ term_of v c → news ≡ terms_from 0 (take (v + 1) cs)
terms_next cs v c olds news v_in c_is olds_are news_are =
    news_are
    ∙ ap (λ (ts : List Term). ts ++ term_of v c) olds_are
    ∙ ap (λ (z : ℤ). terms_from 0 (take v cs) ++ term_of v z) c_is
    ∙ ap (λ (k : ℕ). terms_from 0 (take v cs) ++ term_of k (get_or cs v (pos 0))) (sym (zero-add v))
    ∙ sym (terms_suc 0 cs v v_in)
    ∙ ap (λ (k : ℕ). terms_from 0 (take k cs)) (sym (add-one v))

-- a variable before all terms has coefficient 0
pub coefficient_before : (v : ℕ) (ts : List Term) → All (λ t. v < t.var) ts → coefficient_of ts v ≡ pos 0
coefficient_before v [] later = refl
coefficient_before v (t ∷ ts) later =
    let first : v < t.var = All-head (λ (u : Term). v < u.var) t ts later in
    ap (λ (b : Bool). cond b t.coefficient (coefficient_of ts v)) (ne_eqb t.var v (λ (same : t.var ≡ v). absurd (omega arith)))
    ∙ coefficient_before v ts (All-tail (λ (u : Term). v < u.var) t ts later)

coefficient_after : (t : Term) (ts : List Term) (v : ℕ) → t.var < v → coefficient_of (t ∷ ts) v ≡ coefficient_of ts v
coefficient_after t ts v before =
    ap (λ (b : Bool). cond b t.coefficient (coefficient_of ts v)) (ne_eqb t.var v (λ (same : t.var ≡ v). absurd (omega arith)))

coefficient_here : (t : Term) (ts : List Term) (v : ℕ) → t.var ≡ v → coefficient_of (t ∷ ts) v ≡ t.coefficient
coefficient_here t ts v same = ap (λ (b : Bool). cond b t.coefficient (coefficient_of ts v)) (eq-eqb t.var v same)

-- the terms tell the coefficients
pub coefficient_from : (first : ℕ) (cs : List ℤ) (v : ℕ) → coefficient_of (terms_from first cs) (first + v) ≡ get_or cs v (pos 0)
coefficient_from first [] v = refl
coefficient_from first (pos zero ∷ cs) zero =
    coefficient_before (first + 0) (terms_from (suc first) cs)
    (All-weaker (IsWithin (suc first) (length cs)) (λ t. first + 0 < t.var) (λ t within. omega (arith, within.0))
    (terms_from (suc first) cs) (within_from (suc first) cs))
coefficient_from first (pos (suc n) ∷ cs) zero =
    coefficient_here (record { var = first; coefficient = pos (suc n) }) (terms_from (suc first) cs) (first + 0)
    (sym (add-zero first))
coefficient_from first (negsuc n ∷ cs) zero =
    coefficient_here (record { var = first; coefficient = negsuc n }) (terms_from (suc first) cs) (first + 0)
    (sym (add-zero first))
coefficient_from first (pos zero ∷ cs) (suc v) = ap (coefficient_of (terms_from (suc first) cs)) (sym (moved first v)) ∙ coefficient_from (suc first) cs v
coefficient_from first (pos (suc n) ∷ cs) (suc v) =
    coefficient_after (record { var = first; coefficient = pos (suc n) }) (terms_from (suc first) cs) (first + suc v)
    (let e : first < first + suc v = omega arith in e)
    ∙ ap (coefficient_of (terms_from (suc first) cs)) (sym (moved first v)) ∙ coefficient_from (suc first) cs v
coefficient_from first (negsuc n ∷ cs) (suc v) =
    coefficient_after (record { var = first; coefficient = negsuc n }) (terms_from (suc first) cs) (first + suc v)
    (let e : first < first + suc v = omega arith in e)
    ∙ ap (coefficient_of (terms_from (suc first) cs)) (sym (moved first v)) ∙ coefficient_from (suc first) cs v

-- what the first coefficient's term tells
head_told : (first : ℕ) (c : ℤ) (cs : List ℤ) (v : ℕ) → first ≡ first + v → get_or (c ∷ cs) v (pos 0) ≡ c
head_told first c cs zero same = refl
head_told first c cs (suc v) same = absurd (omega arith)

-- and what the terms of the later ones tell
later_told : (first : ℕ) (c : ℤ) (cs : List ℤ) →
    All (λ t. (v : ℕ) → t.var ≡ suc first + v → get_or cs v (pos 0) ≡ t.coefficient) (terms_from (suc first) cs) →
    All (λ t. (v : ℕ) → t.var ≡ first + v → get_or (c ∷ cs) v (pos 0) ≡ t.coefficient) (terms_from (suc first) cs)
later_told first c cs told k d k_in zero same = let within = within_from (suc first) cs k d k_in in absurd (omega (arith, within.0, same))
later_told first c cs told k d k_in (suc v) same = told k d k_in v (same ∙ sym (moved first v))

-- each term has the coefficient of its variable
coefficients_told : (first : ℕ) (cs : List ℤ) → All (λ t. (v : ℕ) → t.var ≡ first + v → get_or cs v (pos 0) ≡ t.coefficient) (terms_from first cs)
coefficients_told first [] = All-nil (λ (t : Term). (v : ℕ) → t.var ≡ first + v → pos 0 ≡ t.coefficient)
coefficients_told first (pos zero ∷ cs) = later_told first (pos zero) cs (coefficients_told (suc first) cs)
coefficients_told first (pos (suc n) ∷ cs) =
    All-cons (λ (t : Term). (v : ℕ) → t.var ≡ first + v → get_or (pos (suc n) ∷ cs) v (pos 0) ≡ t.coefficient)
    (record { var = first; coefficient = pos (suc n) }) (terms_from (suc first) cs)
    (head_told first (pos (suc n)) cs) (later_told first (pos (suc n)) cs (coefficients_told (suc first) cs))
coefficients_told first (negsuc n ∷ cs) =
    All-cons (λ (t : Term). (v : ℕ) → t.var ≡ first + v → get_or (negsuc n ∷ cs) v (pos 0) ≡ t.coefficient)
    (record { var = first; coefficient = negsuc n }) (terms_from (suc first) cs)
    (head_told first (negsuc n) cs) (later_told first (negsuc n) cs (coefficients_told (suc first) cs))

pub term_coefficient : (f : Form) (k : ℕ) (d : Term) → k < length (terms_of f) →
    get_or f.coefficients (get_or (terms_of f) k d).var (pos 0) ≡ (get_or (terms_of f) k d).coefficient
term_coefficient f k d k_in = coefficients_told 0 f.coefficients k d k_in (get_or (terms_of f) k d).var (sym (zero-add (get_or (terms_of f) k d).var))

-- a variable has coefficient 0, or a term
abbrev pub HasTerm : List Term → ℕ → Term → Type 0
HasTerm ts var d = (k : ℕ) × (k < length ts) × ((get_or ts k d).var ≡ var)

skipped : (t : Term) (ts : List Term) (var : ℕ) (d : Term) → HasTerm ts var d → HasTerm (t ∷ ts) var d
skipped t ts var d has = (suc has.0, omega (arith, has.1), has.2)

term_or_zero_from : (first : ℕ) (cs : List ℤ) (v : ℕ) (d : Term) → (get_or cs v (pos 0) ≡ pos 0) ⊎ HasTerm (terms_from first cs) (first + v) d
term_or_zero_from first [] v d = inl refl
term_or_zero_from first (pos zero ∷ cs) zero d = inl refl
term_or_zero_from first (pos (suc n) ∷ cs) zero d = inr (0, omega arith, sym (add-zero first))
term_or_zero_from first (negsuc n ∷ cs) zero d = inr (0, omega arith, sym (add-zero first))
term_or_zero_from first (pos zero ∷ cs) (suc v) d =
    elim (term_or_zero_from (suc first) cs v d) [
      | inl none ↦ inl none
      | inr has ↦ inr (has.0, has.1, has.2 ∙ moved first v)
    ]
term_or_zero_from first (pos (suc n) ∷ cs) (suc v) d =
    elim (term_or_zero_from (suc first) cs v d) [
      | inl none ↦ inl none
      | inr has ↦ inr (skipped (record { var = first; coefficient = pos (suc n) }) (terms_from (suc first) cs)
          (first + suc v) d (has.0, has.1, has.2 ∙ moved first v))
    ]
term_or_zero_from first (negsuc n ∷ cs) (suc v) d =
    elim (term_or_zero_from (suc first) cs v d) [
      | inl none ↦ inl none
      | inr has ↦ inr (skipped (record { var = first; coefficient = negsuc n }) (terms_from (suc first) cs)
          (first + suc v) d (has.0, has.1, has.2 ∙ moved first v))
    ]

pub term_or_zero : (f : Form) (v : ℕ) (d : Term) → (get_or f.coefficients v (pos 0) ≡ pos 0) ⊎ HasTerm (terms_of f) v d
term_or_zero f v d =
    elim (term_or_zero_from 0 f.coefficients v d) [
      | inl none ↦ inl none
      | inr has ↦ inr (has.0, has.1, has.2 ∙ zero-add v)
    ]

-- a form is told by its terms
pub form_by_terms : (n : ℕ) (constant : ℤ) (ts : List Term) (cs : List ℤ) → n ≡ length cs → ts ≡ terms_from 0 cs →
    form_by n constant ts ≡ (let f : Form = record { constant = constant; coefficients = cs } in f)
form_by_terms n constant ts cs count terms =
    let told = tabulated (pos 0) cs (coefficient_of ts) n (sym count)
    (λ v v_in. sym (ap (λ (us : List Term). coefficient_of us v) terms ∙ ap (coefficient_of (terms_from 0 cs)) (sym (zero-add v)) ∙ coefficient_from 0 cs v)) in
    λ i. record { constant = constant; coefficients = sym told i }

-- what a form by its terms has as terms
pub terms_kept : (n : ℕ) (constant : ℤ) (ts : List Term) (cs : List ℤ) → n ≡ length cs → ts ≡ terms_from 0 cs → ts ≡ terms_of (form_by n constant ts)
terms_kept n constant ts cs count terms = terms ∙ sym (ap terms_of (form_by_terms n constant ts cs count terms))

-- a coefficient that isn't 0 has one term
pub alone : (v : ℕ) (c : ℤ) → c ≢ pos 0 → term_of v c ≡ (let t : Term = record { var = v; coefficient = c } in t) ∷ []
alone v (pos zero) some = absurd (some refl)
alone v (pos (suc n)) some = refl
alone v (negsuc n) some = refl

agree_from : (a n : ℕ) (f g : ℕ → ℤ) → ((v : ℕ) → a ≤ v → f v ≡ g v) → map f (numbers_from a n) ≡ map g (numbers_from a n)
agree_from a zero f g same = refl
agree_from a (suc n) f g same =
    ap (λ z. z ∷ map f (numbers_from (a + 1) n)) (same a (omega arith))
    ∙ ap (λ zs. g a ∷ zs) (agree_from (a + 1) n f g (λ v v_in. same v (omega arith)))

-- terms that rise, each of one of the variables and with a coefficient that isn't 0, are those of the coefficients they
-- tell
terms_are_from : (first n : ℕ) (ts : List Term) → All (IsWithin first n) ts → AllPairs (λ t u. t.var < u.var) ts →
    All (λ t. t.coefficient ≢ pos 0) ts → terms_from first (map (coefficient_of ts) (numbers_from first n)) ≡ ts
terms_are_from first zero [] within rising some = refl
terms_are_from first zero (t ∷ ts) within rising some =
    let here = within 0 t (omega arith) in
    absurd (omega (arith, here.0, here.1))
terms_are_from first (suc n) [] within rising some =
    rw add-one (terms_are_from (suc first) n [] (All-nil (IsWithin (suc first) n))
    (λ i j d i_in j_in. absurd (omega arith)) (All-nil (λ t. t.coefficient ≢ pos 0)))
terms_are_from first (suc n) (t ∷ ts) within rising some =
    let here = within 0 t (omega arith) in
    elim (ℕ_discrete t.var first) [
      | yes same ↦
          let rest = map (coefficient_of (t ∷ ts)) (numbers_from (suc first) n) in
          let head = coefficient_here t ts first same in
          let single = alone first t.coefficient (some 0 t (omega arith)) in
          let agree = agree_from (suc first) n (coefficient_of (t ∷ ts)) (coefficient_of ts)
          (λ v v_in. coefficient_after t ts v (let e : t.var < v = omega arith in e)) in
          let after : All (IsWithin (suc first) n) ts = λ k d k_in.
          let above : t.var < (get_or ts k d).var = rising 0 (suc k) d (omega arith) (omega arith) in
          let inside = within (suc k) d (omega arith) in
          (omega (arith, above, same), omega (arith, inside.1)) in
          let others = terms_are_from (suc first) n ts after
          (λ i j d i_in j_in. rising (suc i) (suc j) d (omega arith) (omega arith))
          (All-tail (λ (u : Term). u.coefficient ≢ pos 0) t ts some) in
          rw add-one
          (ap (λ (c : ℤ). term_of first c ++ terms_from (suc first) rest) head
          ∙ ap (λ (us : List Term). us ++ terms_from (suc first) rest)
          (single ∙ (λ i. (let u : Term = record { var = sym same i; coefficient = t.coefficient } in u) ∷ []))
          ∙ ap (λ (us : List Term). t ∷ us) (ap (terms_from (suc first)) agree ∙ others))
      | no other ↦
          let above : first < t.var = omega (arith, here.0, other) in
          let later : All (λ (u : Term). first < u.var) (t ∷ ts) =
          All-cons (λ (u : Term). first < u.var) t ts above (λ k d k_in. let e : t.var < (get_or ts k d).var =
          rising 0 (suc k) d (omega arith) (omega arith) in omega (arith, e, above)) in
          let after : All (IsWithin (suc first) n) (t ∷ ts) = λ k d k_in. (omega (arith, later k d k_in), omega (arith, (within k d k_in).1)) in
          rw add-one
          (ap (λ (c : ℤ). term_of first c
          ++ terms_from (suc first) (map (coefficient_of (t ∷ ts)) (numbers_from (suc first) n)))
          (coefficient_before first (t ∷ ts) later)
          ∙ terms_are_from (suc first) n (t ∷ ts) after rising some)
    ]

pub terms_are : (n : ℕ) (constant : ℤ) (ts : List Term) → AreTerms n ts → ts ≡ terms_of (form_by n constant ts)
terms_are n constant ts kept =
    sym (terms_are_from 0 n ts (λ k d k_in. (omega arith, let e : (get_or ts k d).var < n = kept.known k d k_in in omega (arith, e))) kept.rising kept.some)

-- sums over terms, and over all coefficients from a variable on
abbrev pub total : (ℕ → ℤ → ℤ) → List Term → ℤ
total g [] = pos 0
total g (t ∷ ts) = g t.var t.coefficient +ℤ total g ts

abbrev pub total_from : (ℕ → ℤ → ℤ) → ℕ → List ℤ → ℤ
total_from g first [] = pos 0
total_from g first (c ∷ cs) = g first c +ℤ total_from g (suc first) cs

-- where a coefficient 0 adds 0 both are the same
pub total_is : (g : ℕ → ℤ → ℤ) → ((v : ℕ) → g v (pos 0) ≡ pos 0) → (first : ℕ) (cs : List ℤ) → total g (terms_from first cs) ≡ total_from g first cs
total_is g none first [] = refl
total_is g none first (pos zero ∷ cs) =
    total_is g none (suc first) cs ∙ sym (+ℤ_idl (total_from g (suc first) cs)) ∙ ap (λ z. z +ℤ total_from g (suc first) cs) (sym (none first))
total_is g none first (pos (suc n) ∷ cs) = ap (λ z. g first (pos (suc n)) +ℤ z) (total_is g none (suc first) cs)
total_is g none first (negsuc n ∷ cs) = ap (λ z. g first (negsuc n) +ℤ z) (total_is g none (suc first) cs)

-- what is left of a sum over terms, one term further
pub total_more : (g : ℕ → ℤ → ℤ) (ts : List Term) (k : ℕ) (d : Term) → k < length ts →
    total g (drop k ts) ≡ (g (get_or ts k d).var (get_or ts k d).coefficient +ℤ total g (drop (k + 1) ts))
total_more g ts k d k_in = let e : drop k ts ≡ get_or ts k d ∷ drop (k + 1) ts = rw (add-one, drop-cons ts k d) refl in ap (total g) e

-- a variable's part of a greatest value, and of a value
abbrev pub upper_in : List ℕ → List ℕ → ℕ → ℤ → ℤ
upper_in low high v c = upper_term c (get_or low v 0) (get_or high v 0)

abbrev pub product_in : List ℕ → ℕ → ℤ → ℤ
product_in xs v c = c *ℤ pos (get_or xs v 0)

upper_from : (first : ℕ) (cs : List ℤ) (low high : List ℕ) → first + length cs ≡ length low →
    first + length cs ≡ length high →
    total_from (upper_in low high) first cs ≡ upper_sum cs (drop first low) (drop first high)
upper_from first [] low high counted_low counted_high = refl
upper_from first (c ∷ cs) low high counted_low counted_high =
    rw (drop-cons low first 0 (omega arith), drop-cons high first 0 (omega arith))
    (ap (λ z. upper_term c (get_or low first 0) (get_or high first 0) +ℤ z) (upper_from (suc first) cs low high (omega arith) (omega arith)))

dot_from : (first : ℕ) (cs : List ℤ) (xs : List ℕ) → first + length cs ≡ length xs → total_from (product_in xs) first cs ≡ dot cs (drop first xs)
dot_from first [] xs counted = refl
dot_from first (c ∷ cs) xs counted =
    rw (drop-cons xs first 0 (omega arith))
    (ap (λ z. (c *ℤ pos (get_or xs first 0)) +ℤ z) (dot_from (suc first) cs xs (omega arith)))

upper_zero : (low high : List ℕ) (v : ℕ) → upper_in low high v (pos 0) ≡ pos 0
upper_zero low high v = omega (arith, ints)

product_zero : (xs : List ℕ) (v : ℕ) → product_in xs v (pos 0) ≡ pos 0
product_zero xs v = omega (arith, ints)

-- the greatest value by the terms
pub upper_by_terms : (cs : List ℤ) (low high : List ℕ) → length cs ≡ length low → length cs ≡ length high →
    total (upper_in low high) (terms_from 0 cs) ≡ upper_sum cs low high
upper_by_terms cs low high counted_low counted_high =
    total_is (upper_in low high) (upper_zero low high) 0 cs ∙ upper_from 0 cs low high (omega arith) (omega arith)

-- the value by the terms
pub dot_by_terms : (cs : List ℤ) (xs : List ℕ) → length cs ≡ length xs → total (product_in xs) (terms_from 0 cs) ≡ dot cs xs
dot_by_terms cs xs counted = total_is (product_in xs) (product_zero xs) 0 cs ∙ dot_from 0 cs xs (omega arith)

-- behind the last term the sum is the whole one
pub whole_at_end : (sum rest constant all : ℤ) → rest ≡ pos 0 → (sum +ℤ rest) ≡ (constant +ℤ all) → sum ≡ (constant +ℤ all)
whole_at_end sum rest constant all none whole = omega (arith, ints)

-- a small coefficient that code has read
pub small_read : (z : ℤ) → nat_abs z ≤ 2 ^ 26 → to_z w64 (of_z w64 z) ≡ z
small_read z small = to_z-of_z w64 z (fits z small)
  where
    fits : (z : ℤ) → nat_abs z ≤ 2 ^ 26 → SFits w64 z
    fits (pos n) small = record { sfits = omega arith }
    fits (negsuc n) small = record { sfits = omega arith }
