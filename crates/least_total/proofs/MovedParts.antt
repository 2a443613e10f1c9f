-- The parts of a Refute with those of one form behind the others: they refute what they refuted, and rise by their new
-- numbers.
use Rattle.std.proofs.Common.{◌≡◌, ◌≢◌, ℕ, suc, ◌+◌, ◌-◌, ◌<◌, ◌≤◌, refl, sym, ◌∙◌, ap, subst, List, [], ◌∷◌, ◌++◌, map, length, length-append, append-nil, arith, Bool, true, false, not, cond, inl, inr, eqb}
use Rattle.std.specs.Prelude.{ℤ, pos, ◌+ℤ◌, ◌*ℤ◌, ◌<ℤ◌, ◌==◌, ◌⊎◌, All, AllPairs, sum_by, slice_index_or, if◌then◌else◌}
use Rattle.std.proofs.lemmas.Int.{ints}
use Rattle.std.proofs.lemmas.Bool.{cases_lt, eq-eqb, eqb-true, lt-ltb, le-ltb, not-true}
use Rattle.std.proofs.lemmas.Bool.Decides.{eqb_tells}
use Rattle.std.proofs.lemmas.List.{map-append}
use Rattle.std.proofs.lemmas.List.Elements.{All-head, All-tail, All-filter, All-append, All-map, filter_passes}
use Rattle.std.proofs.lemmas.List.Kept.{AllPairs-filter, AllPairs-cons}
use Rattle.std.proofs.lemmas.List.Quantifiers.{all_pairs_push}
use Rattle.std.proofs.lemmas.List.Sums.{sum_by-append, sum_by-cons}
use Rattle.design_problem.specs.declared.boxes.CostBox.{CostBox}
use Rattle.design_problem.specs.Forms.{Form, added, form_at, no_form, weighted}
use Rattle.design_problem.specs.Boxes.{Refutes, greatest}
use Rattle.design_problem.specs.Renumbering.{renumbered_multiplier}
use Rattle.least_total.specs.Moving.{is_picked, moved_number, picked, put_last}

-- Sums of forms.

abbrev plus : Form → Form → Form
plus f g = record { constant = f.constant +ℤ g.constant; coefficients = added f.coefficients g.coefficients }

abbrev scaled : List Form → ℕ × ℕ → Form
scaled forms part = record {
  constant = pos part.1 *ℤ (form_at forms part.0).constant;
  coefficients = map (λ c. pos part.1 *ℤ c) (form_at forms part.0).coefficients;
}

abbrev form_with : ℤ → List ℤ → Form
form_with c cs = record { constant = c; coefficients = cs }

same_form : (c d : ℤ) (cs ds : List ℤ) → c ≡ d → cs ≡ ds → form_with c cs ≡ form_with d ds
same_form c d cs ds first rest = λ i. form_with (first i) (rest i)

added_comm : (cs ds : List ℤ) → added cs ds ≡ added ds cs
added_comm [] [] = refl
added_comm [] (d ∷ ds) = refl
added_comm (c ∷ cs) [] = refl
added_comm (c ∷ cs) (d ∷ ds) =
    let here : (c +ℤ d) ≡ (d +ℤ c) = omega (arith, ints) in
    cc (here, added_comm cs ds)

added_assoc : (cs ds es : List ℤ) → added (added cs ds) es ≡ added cs (added ds es)
added_assoc [] ds es = refl
added_assoc (c ∷ cs) [] [] = refl
added_assoc (c ∷ cs) [] (e ∷ es) = refl
added_assoc (c ∷ cs) (d ∷ ds) [] = refl
added_assoc (c ∷ cs) (d ∷ ds) (e ∷ es) =
    let here : ((c +ℤ d) +ℤ e) ≡ (c +ℤ (d +ℤ e)) = omega (arith, ints) in
    cc (here, added_assoc cs ds es)

plus_assoc : (f g h : Form) → plus (plus f g) h ≡ plus f (plus g h)
plus_assoc f g h =
    let here : ((f.constant +ℤ g.constant) +ℤ h.constant) ≡ (f.constant +ℤ (g.constant +ℤ h.constant)) = omega (arith, ints) in
    same_form _ _ _ _ here (added_assoc f.coefficients g.coefficients h.coefficients)

plus_comm : (f g : Form) → plus f g ≡ plus g f
plus_comm f g =
    let here : (f.constant +ℤ g.constant) ≡ (g.constant +ℤ f.constant) = omega (arith, ints) in
    same_form _ _ _ _ here (added_comm f.coefficients g.coefficients)

plus_swap : (f g h : Form) → plus f (plus g h) ≡ plus g (plus f h)
plus_swap f g h = sym (plus_assoc f g h) ∙ ap (λ (k : Form). plus k h) (plus_comm f g) ∙ plus_assoc g f h

plus_none : (f : Form) → plus no_form f ≡ f
plus_none f =
    let here : (pos 0 +ℤ f.constant) ≡ f.constant = omega (arith, ints) in
    same_form _ f.constant _ f.coefficients here refl

weighted_append : (forms : List Form) (xs ys : List (ℕ × ℕ)) → weighted forms (xs ++ ys) ≡ plus (weighted forms xs) (weighted forms ys)
weighted_append forms [] ys = sym (plus_none (weighted forms ys))
weighted_append forms (x ∷ xs) ys =
    ap (plus (scaled forms x)) (weighted_append forms xs ys) ∙ sym (plus_assoc (scaled forms x) (weighted forms xs) (weighted forms ys))

-- the weighted sum of the others and of the own is that of all
weighted_split : (forms : List Form) (place : ℕ) (parts : List (ℕ × ℕ)) →
    plus (weighted forms (picked false place parts)) (weighted forms (picked true place parts)) ≡ weighted forms parts
weighted_split forms place [] = plus_none no_form
weighted_split forms place (part ∷ parts) = by_own (part.0 == place) ∙ ap (plus (scaled forms part)) (weighted_split forms place parts)
  where
    others : List (ℕ × ℕ)
    others = picked false place parts

    own : List (ℕ × ℕ)
    own = picked true place parts

    by_own : (is : Bool) → plus (weighted forms (cond (not is) (part ∷ others) others))
        (weighted forms (cond is (part ∷ own) own))
        ≡ plus (scaled forms part) (plus (weighted forms others) (weighted forms own))
    by_own true = plus_swap (weighted forms others) (scaled forms part) (weighted forms own)
    by_own false = plus_assoc (scaled forms part) (weighted forms others) (weighted forms own)

pub weighted_last : (forms : List Form) (place : ℕ) (parts : List (ℕ × ℕ)) → weighted forms (put_last place parts) ≡ weighted forms parts
weighted_last forms place parts = weighted_append forms (picked false place parts) (picked true place parts) ∙ weighted_split forms place parts

-- Sums of numbers, and how many parts.

numbers_split : (f : ℕ × ℕ → ℕ) (place : ℕ) (parts : List (ℕ × ℕ)) → sum_by f (picked false place parts) + sum_by f (picked true place parts) ≡ sum_by f parts
numbers_split f place [] = omega arith
numbers_split f place (part ∷ parts) = by_own (part.0 == place) (numbers_split f place parts)
  where
    others : List (ℕ × ℕ)
    others = picked false place parts

    own : List (ℕ × ℕ)
    own = picked true place parts

    by_own : (is : Bool) → sum_by f others + sum_by f own ≡ sum_by f parts →
        sum_by f (cond (not is) (part ∷ others) others) + sum_by f (cond is (part ∷ own) own) ≡ sum_by f (part ∷ parts)
    by_own true rest = omega (arith, rest, sum_by-cons f part own, sum_by-cons f part parts)
    by_own false rest = omega (arith, rest, sum_by-cons f part others, sum_by-cons f part parts)

pub sum_last : (f : ℕ × ℕ → ℕ) (place : ℕ) (parts : List (ℕ × ℕ)) → sum_by f (put_last place parts) ≡ sum_by f parts
sum_last f place parts = sum_by-append f (picked false place parts) (picked true place parts) ∙ numbers_split f place parts

lengths_split : (place : ℕ) (parts : List (ℕ × ℕ)) → length (picked false place parts) + length (picked true place parts) ≡ length parts
lengths_split place [] = omega arith
lengths_split place (part ∷ parts) = by_own (part.0 == place) (lengths_split place parts)
  where
    others : List (ℕ × ℕ)
    others = picked false place parts

    own : List (ℕ × ℕ)
    own = picked true place parts

    by_own : (is : Bool) → length others + length own ≡ length parts →
        length (cond (not is) (part ∷ others) others) + length (cond is (part ∷ own) own) ≡ length (part ∷ parts)
    by_own true rest = omega (arith, rest)
    by_own false rest = omega (arith, rest)

pub length_last : (place : ℕ) (parts : List (ℕ × ℕ)) → length (put_last place parts) ≡ length parts
length_last place parts = length-append (picked false place parts) (picked true place parts) ∙ lengths_split place parts

pub all_last : (P : ℕ × ℕ → Type 0) (place : ℕ) (parts : List (ℕ × ℕ)) → All P parts → All P (put_last place parts)
all_last P place parts all =
    All-append P (picked false place parts) (picked true place parts)
    (All-filter (is_picked false place) P parts all) (All-filter (is_picked true place) P parts all)

-- they refute what they refuted
pub refutes_last : (forms : List Form) (place : ℕ) (parts : List (ℕ × ℕ)) (box : CostBox) → Refutes forms parts box → Refutes forms (put_last place parts) box
refutes_last forms place parts box refutes = record {
  rows = all_last (λ part. part.0 < length forms) place parts refutes.rows;
  positive = all_last (λ part. 0 < part.1) place parts refutes.positive;
  sum = let same = sum_last (λ (part : ℕ × ℕ). part.1) place parts in omega (arith, refutes.sum);
  negative = subst (λ (f : Form). greatest f box <ℤ pos 0) (sym (weighted_last forms place parts)) refutes.negative;
}

-- New numbers.

pub number_before : (place others row : ℕ) → row < place → moved_number place others row ≡ row
number_before place others row below = ap (λ (b : Bool). if b then row else (if row == place then others else row - 1)) (lt-ltb row place below)

not_below : (place others row : ℕ) → place ≤ row → moved_number place others row ≡ (if row == place then others else row - 1)
not_below place others row from = ap (λ (b : Bool). if b then row else (if row == place then others else row - 1)) (le-ltb row place from)

pub number_own : (place others row : ℕ) → row ≡ place → moved_number place others row ≡ others
number_own place others row same = not_below place others row (omega arith) ∙ ap (λ (b : Bool). if b then others else row - 1) (eq-eqb row place same)

pub number_behind : (place others row : ℕ) → place < row → moved_number place others row ≡ row - 1
number_behind place others row above = not_below place others row (omega arith) ∙ by_tells (eqb_tells row place)
  where
    by_tells : ((eqb row place ≡ true) × (row ≡ place)) ⊎ ((eqb row place ≡ false) × (row ≢ place)) → (if row == place then others else row - 1) ≡ row - 1
    by_tells (inl same) = absurd (omega (arith, same.1))
    by_tells (inr other) = ap (λ (b : Bool). if b then others else row - 1) other.0

-- the new numbers of two other forms rise as the old ones do
numbers_rise : (place others a b : ℕ) → a ≢ place → b ≢ place → a < b → moved_number place others a < moved_number place others b
numbers_rise place others a b a_other b_other below = elim (cases_lt a place) [
  | inl a_before ↦ elim (cases_lt b place) [
    | inl b_before ↦ omega (arith, number_before place others a a_before, number_before place others b b_before)
    | inr b_from ↦ (let b_behind : place < b = behind b b_other b_from in
        omega (arith, number_before place others a a_before, number_behind place others b b_behind))
  ]
  | inr a_from ↦
      let a_behind : place < a = behind a a_other a_from in
      let b_behind : place < b = omega arith in
      omega (arith, number_behind place others a a_behind, number_behind place others b b_behind)
]
  where
    behind : (row : ℕ) → row ≢ place → place ≤ row → place < row
    behind row other from = elim (cases_lt place row) [
      | inl above ↦ above
      | inr below ↦ absurd (other (omega arith))
    ]

-- the new number of another form is below that of the moved one
pub number_low : (place others row : ℕ) → row ≢ place → place ≤ others → row ≤ others → moved_number place others row < others
number_low place others row other within known = elim (cases_lt row place) [
  | inl before ↦ by_before before (number_before place others row before)
  | inr from ↦ by_from from (cases_lt place row)
]
  where
    by_before : row < place → moved_number place others row ≡ row → moved_number place others row < others
    by_before before number = omega (arith, number)

    by_from : place ≤ row → (place < row) ⊎ (row ≤ place) → moved_number place others row < others
    by_from from (inl behind) = omega (arith, number_behind place others row behind)
    by_from from (inr not_behind) = absurd (other (omega arith))

abbrev Rises : ℕ × ℕ → ℕ × ℕ → Type 0
Rises a b = a.0 < b.0

pairs_head : (x : ℕ × ℕ) (xs : List (ℕ × ℕ)) → AllPairs Rises (x ∷ xs) → All (Rises x) xs
pairs_head x xs pairs k d k_in = pairs 0 (suc k) d (omega arith) (omega (arith, k_in))

pairs_tail : (x : ℕ × ℕ) (xs : List (ℕ × ℕ)) → AllPairs Rises (x ∷ xs) → AllPairs Rises xs
pairs_tail x xs pairs i j d before j_in = pairs (suc i) (suc j) d (omega arith) (omega (arith, j_in))

-- the others rise by their new numbers
others_rise : (place others : ℕ) (parts : List (ℕ × ℕ)) → All (λ part. part.0 ≢ place) parts → AllPairs Rises parts →
    AllPairs Rises (map (renumbered_multiplier (moved_number place others)) parts)
others_rise place others [] other pairs = λ i j d before j_in. absurd (omega (arith, j_in))
others_rise place others (part ∷ parts) other pairs =
    let new : ℕ × ℕ → ℕ × ℕ = renumbered_multiplier (moved_number place others) in
    let here = All-head (λ (q : ℕ × ℕ). q.0 ≢ place) part parts other in
    let rest = All-tail (λ (q : ℕ × ℕ). q.0 ≢ place) part parts other in
    let above = pairs_head part parts pairs in
    AllPairs-cons Rises (new part) (map new parts)
    (All-map (Rises (new part)) new parts (λ k d k_in. numbers_rise place others part.0 (slice_index_or parts k d).0 here (rest k d k_in) (above k d k_in)))
    (others_rise place others parts rest (pairs_tail part parts pairs))

others_differ : (place : ℕ) (parts : List (ℕ × ℕ)) → All (λ part. part.0 ≢ place) (picked false place parts)
others_differ place parts k d k_in =
    let passes = filter_passes (is_picked false place) parts k d k_in in
    let part = slice_index_or (picked false place parts) k d in
    λ same. true_not_false (sym (eq-eqb part.0 place same) ∙ not-true (part.0 == place) passes)
  where
    true_not_false : true ≡ false → ⊥
    true_not_false same = cc

own_is : (place : ℕ) (parts : List (ℕ × ℕ)) → All (λ part. part.0 ≡ place) (picked true place parts)
own_is place parts k d k_in = eqb-true (slice_index_or (picked true place parts) k d).0 place (filter_passes (is_picked true place) parts k d k_in)

-- with one own part, or none, all rise by their new numbers
rise_with : (place others : ℕ) (first own : List (ℕ × ℕ)) → place ≤ others → All (λ part. part.0 ≢ place) first →
    All (λ part. part.0 ≤ others) first → AllPairs Rises first → All (λ part. part.0 ≡ place) own → AllPairs Rises own →
    AllPairs Rises (map (renumbered_multiplier (moved_number place others)) (first ++ own))
rise_with place others first [] within other known pairs own_are own_pairs =
    subst (λ (ps : List (ℕ × ℕ)). AllPairs Rises (map (renumbered_multiplier (moved_number place others)) ps))
    (sym (append-nil first)) (others_rise place others first other pairs)
rise_with place others first (part ∷ []) within other known pairs own_are own_pairs =
    let new : ℕ × ℕ → ℕ × ℕ = renumbered_multiplier (moved_number place others) in
    let own_here = All-head (λ (q : ℕ × ℕ). q.0 ≡ place) part [] own_are in
    let below : All (λ q. Rises q (new part)) (map new first) = All-map (λ q. Rises q (new part)) new first
    (λ k d k_in. (let low = number_low place others (slice_index_or first k d).0 (other k d k_in) within
    (known k d k_in) in omega (arith, low, number_own place others part.0 own_here))) in
    subst (λ (ps : List (ℕ × ℕ)). AllPairs Rises ps) (sym (map-append new first (part ∷ [])))
    (all_pairs_push Rises (map new first) (new part) (others_rise place others first other pairs) below)
rise_with place others first (part ∷ next ∷ own) within other known pairs own_are own_pairs =
    let one = own_are 0 part (omega arith) in
    let two = own_are 1 part (omega arith) in
    let less = own_pairs 0 1 part (omega arith) (omega arith) in
    absurd (omega (arith, one, two, less))

-- the parts rise again
pub rising_last : (place others : ℕ) (parts : List (ℕ × ℕ)) → place ≤ others → All (λ part. part.0 ≤ others) parts →
    AllPairs (λ a b. a.0 < b.0) parts →
    AllPairs (λ a b. a.0 < b.0) (map (renumbered_multiplier (moved_number place others)) (put_last place parts))
rising_last place others parts within known rising =
    rise_with place others (picked false place parts) (picked true place parts) within (others_differ place parts)
    (All-filter (is_picked false place) (λ part. part.0 ≤ others) parts known)
    (AllPairs-filter Rises (is_picked false place) parts rising) (own_is place parts) (AllPairs-filter Rises (is_picked true place) parts rising)

-- One part more.

pub positive_last : (place others : ℕ) (parts : List (ℕ × ℕ)) → All (λ part. 0 < part.1) parts →
    All (λ part. 0 < part.1) (map (renumbered_multiplier (moved_number place others)) (put_last place parts))
positive_last place others parts positive =
    All-map (λ (part : ℕ × ℕ). 0 < part.1) (renumbered_multiplier (moved_number place others)) (put_last place parts)
    (all_last (λ (part : ℕ × ℕ). 0 < part.1) place parts positive)

-- parts by their new numbers
abbrev pub new_parts : ℕ → ℕ → List (ℕ × ℕ) → List (ℕ × ℕ)
new_parts place others parts = map (renumbered_multiplier (moved_number place others)) parts

-- pairs that were put one after another
pub pairs_are : (place others : ℕ) (parts seen again first middle last : List (ℕ × ℕ)) → seen ≡ parts → again ≡ parts →
    first ≡ [] → middle ≡ first ++ new_parts place others (picked false place seen) →
    last ≡ middle ++ new_parts place others (picked true place again) →
    last ≡ new_parts place others (put_last place parts)
pairs_are place others parts seen again first middle last seen_is again_is none middle_is last_is =
    let others_are : middle ≡ new_parts place others (picked false place parts) = middle_is
    ∙ ap (λ (ps : List (ℕ × ℕ)). ps ++ new_parts place others (picked false place seen)) none
    ∙ ap (λ (ps : List (ℕ × ℕ)). new_parts place others (picked false place ps)) seen_is in
    last_is
    ∙ ap (λ (ps : List (ℕ × ℕ)). ps ++ new_parts place others (picked true place again)) others_are
    ∙ ap (λ (ps : List (ℕ × ℕ)). new_parts place others (picked false place parts) ++ new_parts place others (picked true place ps)) again_is
    ∙ sym (map-append (renumbered_multiplier (moved_number place others)) (picked false place parts) (picked true place parts))
