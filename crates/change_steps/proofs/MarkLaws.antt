-- Marks of states.
use Rattle.std.proofs.Common.{◌≡◌, ◌≢◌, ℕ, zero, suc, ◌+◌, ◌<◌, refl, sym, ◌∙◌, ap, List, [], ◌∷◌, ◌++◌, map, length, get_or, set, inl, inr, arith, All, Bool, true, false, cond, ◌||◌, ◌==◌, zero-add, length-set, get_or-set_other, ne_eqb, eq-eqb}
use Rattle.std.specs.Prelude.{count_by}
use Rattle.std.proofs.Math.Bool.{or-false}
use Rattle.std.proofs.lemmas.Bool.{cases_Bool, cases_eq, or_right}
use Rattle.std.proofs.lemmas.List.{ext_get_or, get_or-set_same}
use Rattle.std.proofs.lemmas.List.Elements.{All-head, All-tail}
use Rattle.std.proofs.lemmas.List.Folds.{list_any-append}
use Rattle.std.proofs.lemmas.List.Sums.{sum_by-set}
use Rattle.cost_base.specs.Lists.{NoneTwice, numbers_from}
use Rattle.cost_base.proofs.ListLemmas.{get_or-map-numbers_from, length-map-numbers_from, has_lacks}
use Rattle.cost_base.specs.Marks.{is_marked, is_one_of}
use Rattle.cost_base.proofs.MarkLaws.{one_of_has}
use Rattle.change_steps.specs.Rollouts.{Rollout, step_count}
use Rattle.change_steps.specs.Orders.{IsSafe}
use Rattle.change_steps.specs.States.{marks_of}
use Rattle.change_steps.specs.Outcomes.{done_count}
use Rattle.change_steps.proofs.StateCosts.{safe_agree}

pub length-marks_of : (r : Rollout) (f : ℕ → Bool) → length (marks_of r f) ≡ step_count r
length-marks_of r f = length-map-numbers_from f 0 (step_count r)

pub marks_at : (r : Rollout) (f : ℕ → Bool) (k : ℕ) → k < step_count r → is_marked (marks_of r f) k ≡ f k
marks_at r f k within = get_or-map-numbers_from f 0 (step_count r) k false within ∙ ap f (zero-add k)

-- marks that say what a state says are its marks
pub marks_same : (r : Rollout) (f : ℕ → Bool) (marks : List Bool) → length marks ≡ step_count r →
    ((k : ℕ) → k < step_count r → is_marked marks k ≡ f k) → marks ≡ marks_of r f
marks_same r f marks count same = ext_get_or false marks (marks_of r f) (count ∙ sym (length-marks_of r f))
    (λ k k_in. let within : k < step_count r = omega (arith, count, k_in) in same k within ∙ sym (marks_at r f k within))

-- states that agree have the same marks
pub marks_agree : (r : Rollout) (f g : ℕ → Bool) → ((k : ℕ) → k < step_count r → f k ≡ g k) → marks_of r f ≡ marks_of r g
marks_agree r f g agree = marks_same r g (marks_of r f) (length-marks_of r f) (λ k within. marks_at r f k within ∙ agree k within)

-- a state is as safe as its marks
pub marks_safe : (r : Rollout) (held : List ℕ) (f : ℕ → Bool) (marks : List Bool) → marks ≡ marks_of r f → IsSafe r held f → IsSafe r held (is_marked marks)
marks_safe r held f marks same safe = safe_agree r held f (is_marked marks)
    (λ k within. sym (ap (λ (ms : List Bool). is_marked ms k) same ∙ marks_at r f k within)) safe

pub safe_marks : (r : Rollout) (held : List ℕ) (f : ℕ → Bool) (marks : List Bool) → marks ≡ marks_of r f → IsSafe r held (is_marked marks) → IsSafe r held f
safe_marks r held f marks same safe = safe_agree r held (is_marked marks) f
    (λ k within. ap (λ (ms : List Bool). is_marked ms k) same ∙ marks_at r f k within) safe

-- a list with one more

pub one_of_push : (xs : List ℕ) (y x : ℕ) → is_one_of (xs ++ y ∷ []) x ≡ (is_one_of xs x || (y == x))
one_of_push xs y x = list_any-append (λ z. z == x) xs (y ∷ []) ∙ ap (λ (b : Bool). is_one_of xs x || b) (or-false (y == x))

pub one_of_last : (xs : List ℕ) (y : ℕ) → is_one_of (xs ++ y ∷ []) y ≡ true
one_of_last xs y = one_of_push xs y y ∙ or_right (is_one_of xs y) (y == y) (eq-eqb y y refl)

pub one_of_other : (xs : List ℕ) (y x : ℕ) → x ≢ y → is_one_of (xs ++ y ∷ []) x ≡ is_one_of xs x
one_of_other xs y x other = one_of_push xs y x ∙ ap (λ (b : Bool). is_one_of xs x || b) (ne_eqb y x (λ same. other (sym same))) ∙ or-false (is_one_of xs x)

-- the marks of a state with one more step
pub marks_more : (r : Rollout) (f g : ℕ → Bool) (step : ℕ) → step < step_count r → g step ≡ true → ((k : ℕ) → k ≢ step → g k ≡ f k) →
    set (marks_of r f) step true ≡ marks_of r g
marks_more r f g step known done others = marks_same r g (set (marks_of r f) step true)
    (length-set (marks_of r f) step true ∙ length-marks_of r f)
    (λ k within. elim (cases_eq k step) [
      | inl same ↦
          ap (λ (i : ℕ). get_or (set (marks_of r f) step true) i false) same
          ∙ get_or-set_same (marks_of r f) step true false (let count = length-marks_of r f in omega (arith, count, known)) ∙ sym done ∙ ap g (sym same)
      | inr other ↦ get_or-set_other (marks_of r f) step k true false other ∙ marks_at r f k within ∙ sym (others k other)
    ])

pub marks_push : (r : Rollout) (xs : List ℕ) (step : ℕ) → step < step_count r →
    set (marks_of r (is_one_of xs)) step true ≡ marks_of r (is_one_of (xs ++ step ∷ []))
marks_push r xs step known = marks_more r (is_one_of xs) (is_one_of (xs ++ step ∷ [])) step known (one_of_last xs step)
    (λ k other. one_of_other xs step k other)

-- what a mark counts
abbrev one : Bool → ℕ
one done = cond done 1 0

-- as many steps are done as a list has, of which none is twice
pub done_count_of : (r : Rollout) (xs : List ℕ) → All (λ k. k < step_count r) xs → NoneTwice xs →
    done_count (marks_of r (is_one_of xs)) ≡ length xs
done_count_of r [] known once = none 0 (step_count r)
  where
    none : (a n : ℕ) → count_by (λ (done : Bool). done) (map (λ (k : ℕ). false) (numbers_from a n)) ≡ 0
    none a zero = refl
    none a (suc n) = none (a + 1) n
done_count_of r (x ∷ xs) known once =
    let here : x < step_count r = All-head (λ k. k < step_count r) x xs known in
    let rest = done_count_of r xs (All-tail (λ k. k < step_count r) x xs known) once.1 in
    let new : is_one_of xs x ≡ false = elim (cases_Bool (is_one_of xs x)) [
      | inl is ↦ absurd (has_lacks xs x (one_of_has xs x is) once.0)
      | inr not ↦ not
    ] in
    let more : set (marks_of r (is_one_of xs)) x true ≡ marks_of r (is_one_of (x ∷ xs)) =
    marks_more r (is_one_of xs) (is_one_of (x ∷ xs)) x here (ap (λ (b : Bool). b || is_one_of xs x) (eq-eqb x x refl))
    (λ k other. ap (λ (b : Bool). b || is_one_of xs k) (ne_eqb x k (λ same. other (sym same)))) in
    let counted = sum_by-set one (marks_of r (is_one_of xs)) x true false
    (let count = length-marks_of r (is_one_of xs) in omega (arith, count, here)) in
    let was : is_marked (marks_of r (is_one_of xs)) x ≡ false = marks_at r (is_one_of xs) x here ∙ new in
    let nothing : one (is_marked (marks_of r (is_one_of xs)) x) ≡ 0 = ap one was in
    let same : done_count (set (marks_of r (is_one_of xs)) x true) ≡ done_count (marks_of r (is_one_of (x ∷ xs))) = ap done_count more in
    omega (arith, rest, counted, nothing, same)
