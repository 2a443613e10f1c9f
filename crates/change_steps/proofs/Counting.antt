-- There are at most 2 to the number of steps between states, so a budget of so many isn't used up.
use Rattle.std.proofs.Common.{◌≡◌, ◌≢◌, ℕ, zero, suc, ◌+◌, ◌*◌, ◌^◌, ◌<◌, ◌≤◌, refl, sym, ◌∙◌, ap, subst, List, [], ◌∷◌, ◌++◌, map, length, get_or, set, inl, inr, ◌⊎◌, arith, Bool, true, false, cond, max, get_or-set_other, length-set}
use Rattle.std.proofs.lemmas.Bool.{cases_lt}
use Rattle.std.proofs.lemmas.List.{ext_get_or, get_or-map, get_or-take, get_or_at, get_or_append_left, get_or_default, length-map, length-take, length_push}
use Rattle.cost_base.specs.Lists.{Has, Lacks, NoneTwice}
use Rattle.cost_base.proofs.ListLemmas.{each_mapped}
use Rattle.cost_base.specs.Marks.{is_marked}
use Rattle.cost_base.proofs.MarkLaws.{one_of_has}
use Rattle.design_problem.proofs.PathBounds.{none_twice-le}
use Rattle.change_steps.specs.declared.kinds.Kind.{Kind}
use Rattle.change_steps.specs.declared.kinds.Kind.TheVariants.{First, Between, Last}
use Rattle.change_steps.specs.Rollouts.{Rollout, step_count}
use Rattle.change_steps.specs.Kinds.{comes_between, comes_first, kind_of_step, steps_between}
use Rattle.change_steps.specs.States.{AreTested, IsAnotherReached, IsReached, first_state}
use Rattle.change_steps.proofs.MarkLaws.{length-marks_of, marks_at}
use Rattle.change_steps.proofs.OrderLaws.{passes_that}

-- a state as a number, by some of its steps
abbrev one : Bool → ℕ
one done = cond done 1 0

code : List ℕ → List Bool → ℕ
code [] marks = 0
code (k ∷ ks) marks = one (is_marked marks k) + 2 * code ks marks

code-lt : (ks : List ℕ) (marks : List Bool) → code ks marks < 2 ^ length ks
unfolding code
code-lt [] marks = omega arith
code-lt (k ∷ ks) marks =
    let rest = code-lt ks marks in
    let twice : 2 ^ suc (length ks) ≡ 2 * 2 ^ length ks = omega arith in
    let small = one_le (is_marked marks k) in
    omega (arith, rest, twice, small)
  where
    one_le : (b : Bool) → one b ≤ 1
    one_le true = omega arith
    one_le false = omega arith

halves : (a b : Bool) (m n : ℕ) → one a + 2 * m ≡ one b + 2 * n → (a ≡ b) × (m ≡ n)
halves true true m n same = (refl, omega (arith, same))
halves true false m n same = absurd (omega (arith, same))
halves false true m n same = absurd (omega (arith, same))
halves false false m n same = (refl, omega (arith, same))

code_same : (ks : List ℕ) (a b : List Bool) → code ks a ≡ code ks b → (k : ℕ) → Has ks k → is_marked a k ≡ is_marked b k
unfolding code
code_same [] a b same k has = absurd has
code_same (x ∷ ks) a b same k has =
    let parts = halves (is_marked a x) (is_marked b x) (code ks a) (code ks b) same in
    elim has [
      | inl here ↦ ap (is_marked a) here ∙ parts.0 ∙ ap (is_marked b) (sym here)
      | inr later ↦ code_same ks a b parts.1 k later
    ]

-- a state with all first steps and no last one
record HasForm (r : Rollout) (held : List ℕ) (marks : List Bool) : Type 0 where
  count : length marks ≡ step_count r
  first : (k : ℕ) → k < step_count r → kind_of_step r held k ≡ First → is_marked marks k ≡ true
  last : (k : ℕ) → k < step_count r → kind_of_step r held k ≡ Last → is_marked marks k ≡ false

begin_form : (r : Rollout) (held : List ℕ) → HasForm r held (first_state r held)
begin_form r held = record {
  count = length-marks_of r test;
  first = λ k within is. marks_at r test k within ∙ ap comes_first is;
  last = λ k within is. marks_at r test k within ∙ ap comes_first is;
}
  where
    test : ℕ → Bool
    test k = comes_first (kind_of_step r held k)

first_between : First ≡ Between → ⊥
first_between same = cc

last_between : Last ≡ Between → ⊥
last_between same = cc

next_form : (r : Rollout) (held : List ℕ) (marks : List Bool) (step : ℕ) → HasForm r held marks → kind_of_step r held step ≡ Between →
    HasForm r held (set marks step true)
next_form r held marks step form between = record {
  count = length-set marks step true ∙ form.count;
  first = λ k within is.
      get_or-set_other marks step k true false (λ same. first_between (sym is ∙ ap (kind_of_step r held) same ∙ between)) ∙ form.first k within is;
  last = λ k within is.
      get_or-set_other marks step k true false (λ same. last_between (sym is ∙ ap (kind_of_step r held) same ∙ between)) ∙ form.last k within is;
}

-- each tested state has the form, and so has each that is reached from them
forms_below : (r : Rollout) (held : List ℕ) (tested : List (List Bool)) → AreTested r held tested → (bound i : ℕ) → i < bound →
    i < length tested → HasForm r held (get_or tested i [])
forms_below r held tested are zero i below within = absurd (omega arith)
forms_below r held tested are (suc bound) zero below within = subst (HasForm r held) (sym are.begin) (begin_form r held)
forms_below r held tested are (suc bound) (suc i) below within =
    let reached = are.reached (suc i) (omega arith) within in
    let earlier : reached.from < suc i = let near = reached.within in let count = length-take (suc i) tested in omega (arith, near, count) in
    let was = forms_below r held tested are bound reached.from (omega (arith, earlier, below)) (omega (arith, earlier, within)) in
    let same = get_or-take (suc i) tested reached.from [] earlier in
    subst (HasForm r held) (sym (reached.same ∙ ap (λ (marks : List Bool). set marks reached.step true) same))
    (next_form r held (get_or tested reached.from []) reached.step was reached.follows.between)

reached_form : (r : Rollout) (held : List ℕ) (tested : List (List Bool)) (marks : List Bool) → AreTested r held tested →
    IsReached r held tested marks → HasForm r held marks
reached_form r held tested marks are reached =
    let was = forms_below r held tested are (suc reached.from) reached.from (omega arith) reached.within in
    subst (HasForm r held) (sym reached.same) (next_form r held (get_or tested reached.from []) reached.step was reached.follows.between)

-- states of the form that agree on the steps between are one
form_same : (r : Rollout) (held : List ℕ) (a b : List Bool) → HasForm r held a → HasForm r held b →
    code (steps_between r held) a ≡ code (steps_between r held) b → a ≡ b
form_same r held a b first second same = ext_get_or false a b (first.count ∙ sym second.count) (λ k within.
    let known : k < step_count r = let count = first.count in omega (arith, count, within) in by_kind k known (kind_of_step r held k) refl)
  where
    by_kind : (k : ℕ) → k < step_count r → (kind : Kind) → kind_of_step r held k ≡ kind → is_marked a k ≡ is_marked b k
    by_kind k known First is = first.first k known is ∙ sym (second.first k known is)
    by_kind k known Last is = first.last k known is ∙ sym (second.last k known is)
    by_kind k known Between is =
        code_same (steps_between r held) a b same k (one_of_has (steps_between r held) k
        (passes_that r (λ i. comes_between (kind_of_step r held i)) k known (ap comes_between is)))

-- a list whose elements differ place by place has none twice
none_twice_from : (xs : List ℕ) → ((i j : ℕ) → i < j → j < length xs → get_or xs i 0 ≢ get_or xs j 0) → NoneTwice xs
none_twice_from [] differ = tt
none_twice_from (x ∷ xs) differ = (
  lacks_all x xs (λ j within. differ 0 (suc j) (omega arith) (omega arith)),
  none_twice_from xs (λ i j less within. differ (suc i) (suc j) (omega arith) (omega arith)),
)
  where
    lacks_all : (y : ℕ) (ys : List ℕ) → ((j : ℕ) → j < length ys → y ≢ get_or ys j 0) → Lacks ys y
    lacks_all y [] other = tt
    lacks_all y (z ∷ ys) other = (other 0 (omega arith), lacks_all y ys (λ j within. other (suc j) (omega arith)))

-- different states of the form are at most 2 to the number of steps between
few_states : (r : Rollout) (held : List ℕ) (states : List (List Bool)) → ((i : ℕ) → i < length states → HasForm r held (get_or states i [])) →
    ((i j : ℕ) → i < j → j < length states → get_or states i [] ≢ get_or states j []) → length states ≤ 2 ^ length (steps_between r held)
few_states r held states form differ =
    let few = none_twice-le (2 ^ length (steps_between r held)) (map number states)
    (none_twice_from (map number states) (λ i j less within.
    let near : j < length states = let count = length-map states number in omega (arith, count, within) in
    let earlier : i < length states = omega (arith, less, near) in
    λ same. differ i j less near (form_same r held (get_or states i []) (get_or states j []) (form i earlier) (form j near)
    (sym (get_or-map number states i [] 0 earlier) ∙ same ∙ get_or-map number states j [] 0 near))))
    (each_mapped (λ n. n < 2 ^ length (steps_between r held)) number states (code-lt (steps_between r held))) in
    let count = length-map states number in
    omega (arith, few, count)
  where
    number : List Bool → ℕ
    number = code (steps_between r held)

-- so a budget that was used up is less than that
pub budget_short : (r : Rollout) (held : List ℕ) (tested : List (List Bool)) (nodes : ℕ) → AreTested r held tested →
    length tested ≡ max 1 nodes → IsAnotherReached r held tested → nodes < 2 ^ length (steps_between r held)
budget_short r held tested nodes are used_up another =
    let all = few_states r held (tested ++ another.marks ∷ []) form differ in
    let count = length_push tested another.marks in
    omega (arith, all, count, used_up)
  where
    split : (i : ℕ) → i < length (tested ++ another.marks ∷ []) →
        ((i < length tested) × (get_or (tested ++ another.marks ∷ []) i [] ≡ get_or tested i []))
        ⊎ ((i ≡ length tested) × (get_or (tested ++ another.marks ∷ []) i [] ≡ another.marks))
    split i within = elim (cases_lt i (length tested)) [
      | inl before ↦ inl (before, get_or_append_left tested (another.marks ∷ []) [] i before)
      | inr behind ↦
          let last : i ≡ length tested = let count = length_push tested another.marks in omega (arith, count, within, behind) in
          inr (last, get_or_at tested another.marks [] [] i (sym last))
    ]

    form : (i : ℕ) → i < length (tested ++ another.marks ∷ []) → HasForm r held (get_or (tested ++ another.marks ∷ []) i [])
    form i within = elim (split i within) [
      | inl before ↦ subst (HasForm r held) (sym before.1) (forms_below r held tested are (suc i) i (omega arith) before.0)
      | inr last ↦ subst (HasForm r held) (sym last.1) (reached_form r held tested another.marks are another.reached)
    ]

    differ : (i j : ℕ) → i < j → j < length (tested ++ another.marks ∷ []) →
        get_or (tested ++ another.marks ∷ []) i [] ≢ get_or (tested ++ another.marks ∷ []) j []
    differ i j less within = elim (split j within) [
      | inl before ↦
          λ same. are.once i j less before.0 (sym (get_or_append_left tested (another.marks ∷ []) [] i (let near = before.0 in omega (arith, less, near))) ∙
          same ∙ before.1)
      | inr last ↦
          let earlier : i < length tested = let at = last.0 in omega (arith, less, at) in
          λ same. another.new (
            i,
            earlier,
            get_or_default tested i another.marks [] earlier
                ∙ sym (get_or_append_left tested (another.marks ∷ []) [] i earlier) ∙ same ∙ last.1,
          )
    ]
