-- What the first and the last steps leave as it is.
use Rattle.std.proofs.Common.{◌≡◌, ℕ, ◌<◌, ◌≤◌, refl, sym, ◌∙◌, ap, subst, List, [], ◌∷◌, length, get_or, inl, inr, ◌⊎◌, arith, Bool, true, false, not, ltb-true, ltb-false}
use Rattle.std.specs.Prelude.{if◌then◌else◌}
use Rattle.std.specs.List.{list_all}
use Rattle.std.proofs.lemmas.Bool.{and_parts, cases_Bool, both_ways, false≢true, not-true}
use Rattle.std.proofs.lemmas.List.Folds.{list_any_at}
use Rattle.cost_base.specs.Lists.{Has}
use Rattle.cost_base.proofs.ListLemmas.{same_test}
use Rattle.design_problem.specs.Problems.{request_at}
use Rattle.change_steps.specs.declared.kinds.Kind.TheVariants.{First, Between, Last}
use Rattle.change_steps.specs.Rollouts.{CostMoves, IsRollout, Rollout, variables_of_step, step_count}
use Rattle.change_steps.specs.Orders.{IsSafe, cost_in, is_changed}
use Rattle.change_steps.specs.Kinds.{falls_off_held, goes_over, kind_of_step, lies_on_held, rises, rises_off_held}
use Rattle.change_steps.specs.Search.{HasMore}
use Rattle.change_steps.proofs.StateCosts.{changed_by, changed_if, changes_more, cost_changed, cost_left, only_by_costs}

list_all_has : (test : ℕ → Bool) (xs : List ℕ) (x : ℕ) → list_all test xs ≡ true → Has xs x → test x ≡ true
list_all_has test [] x all has = absurd has
list_all_has test (y ∷ ys) x all has =
    let parts = and_parts (test y) (list_all test ys) all in
    elim has [ inl same ↦ ap test same ∙ parts.0 | inr later ↦ list_all_has test ys x parts.1 later ]

-- a variable on a held path
on_held : (r : Rollout) (held : List ℕ) (v i d : ℕ) → i < length held → goes_over r.graph (request_at r.requests (get_or held i d)).path.edges v ≡ true →
    lies_on_held r held v ≡ true
unfolding lies_on_held
on_held r held v i d within goes = list_any_at (λ k. goes_over r.graph (request_at r.requests k).path.edges v) held i d within goes

first_test : (a b : Bool) → (if a then First else (if b then Last else Between)) ≡ First → a ≡ true
first_test true b is = refl
first_test false true is = cc
first_test false false is = cc

last_test : (a b : Bool) → (if a then First else (if b then Last else Between)) ≡ Last → b ≡ true
last_test true b is = cc
last_test false true is = refl
last_test false false is = cc

-- the variables of a first step rise off the held paths
pub first_variables : (r : Rollout) (held : List ℕ) (k v : ℕ) → kind_of_step r held k ≡ First → Has (variables_of_step r.moves k) v →
    (rises r.moves v ≡ true) × (lies_on_held r held v ≡ false)
unfolding kind_of_step
first_variables r held k v is has =
    let all = first_test (list_all (rises_off_held r held) (variables_of_step r.moves k)) (list_all (falls_off_held r held) (variables_of_step r.moves k)) is in
    let parts = and_parts (rises r.moves v) (not (lies_on_held r held v)) (list_all_has (rises_off_held r held) (variables_of_step r.moves k) v all has) in
    (parts.0, not-true (lies_on_held r held v) parts.1)

-- those of a last one fall off them
pub last_variables : (r : Rollout) (held : List ℕ) (k v : ℕ) → kind_of_step r held k ≡ Last → Has (variables_of_step r.moves k) v →
    (rises r.moves v ≡ false) × (lies_on_held r held v ≡ false)
unfolding kind_of_step
last_variables r held k v is has =
    let all = last_test (list_all (rises_off_held r held) (variables_of_step r.moves k)) (list_all (falls_off_held r held) (variables_of_step r.moves k)) is in
    let parts = and_parts (not (rises r.moves v)) (not (lies_on_held r held v)) (list_all_has (falls_off_held r held) (variables_of_step r.moves k) v all has)
    in
    (not-true (rises r.moves v) parts.0, not-true (lies_on_held r held v) parts.1)

-- the kind by both tests
kind_by : (a b : Bool) → a ≡ true → First ≡ (if a then First else (if b then Last else Between))
kind_by true b is = refl
kind_by false b is = absurd (false≢true is)

kind_by_second : (a b : Bool) → a ≡ false → b ≡ true → Last ≡ (if a then First else (if b then Last else Between))
kind_by_second true b is other = absurd (false≢true (sym is))
kind_by_second false true is other = refl
kind_by_second false false is other = absurd (false≢true other)

kind_by_none : (a b : Bool) → a ≡ false → b ≡ false → Between ≡ (if a then First else (if b then Last else Between))
kind_by_none true b is other = absurd (false≢true (sym is))
kind_by_none false true is other = absurd (false≢true (sym other))
kind_by_none false false is other = refl

pub first_kind : (r : Rollout) (held : List ℕ) (k : ℕ) → list_all (rises_off_held r held) (variables_of_step r.moves k) ≡ true → First ≡ kind_of_step r held k
unfolding kind_of_step
first_kind r held k is = kind_by (list_all (rises_off_held r held) (variables_of_step r.moves k))
    (list_all (falls_off_held r held) (variables_of_step r.moves k)) is

pub last_kind : (r : Rollout) (held : List ℕ) (k : ℕ) → list_all (rises_off_held r held) (variables_of_step r.moves k) ≡ false →
    list_all (falls_off_held r held) (variables_of_step r.moves k) ≡ true → Last ≡ kind_of_step r held k
unfolding kind_of_step
last_kind r held k is other =
    kind_by_second (list_all (rises_off_held r held) (variables_of_step r.moves k)) (list_all (falls_off_held r held) (variables_of_step r.moves k)) is other

pub between_kind : (r : Rollout) (held : List ℕ) (k : ℕ) → list_all (rises_off_held r held) (variables_of_step r.moves k) ≡ false →
    list_all (falls_off_held r held) (variables_of_step r.moves k) ≡ false → Between ≡ kind_of_step r held k
unfolding kind_of_step
between_kind r held k is other =
    kind_by_none (list_all (rises_off_held r held) (variables_of_step r.moves k)) (list_all (falls_off_held r held) (variables_of_step r.moves k)) is other

-- from one state to another first steps are done and last ones undone, and else both are the same
abbrev pub IsEased : Rollout → List ℕ → (ℕ → Bool) → (ℕ → Bool) → Type 0
IsEased r held f g = (k : ℕ) → k < step_count r → (f k ≡ g k)
    ⊎ (((f k ≡ false) × (g k ≡ true) × (kind_of_step r held k ≡ First)) ⊎ ((f k ≡ true) × (g k ≡ false) × (kind_of_step r held k ≡ Last)))

-- a cost of a changed variable, and of one that isn't, by whether it rises
pub between_costs : (m : CostMoves) (f g : ℕ → Bool) (v : ℕ) → (is_changed m f v ≡ true → is_changed m g v ≡ false → rises m v ≡ false) →
    (is_changed m f v ≡ false → is_changed m g v ≡ true → rises m v ≡ true) → cost_in m f v ≤ cost_in m g v
between_costs m f g v undone done = elim (cases_Bool (is_changed m f v)) [
  | inl f_is ↦
      let mine = cost_changed m f v f_is in
      elim (cases_Bool (is_changed m g v)) [
        | inl g_is ↦ let theirs = cost_changed m g v g_is in omega (arith, mine, theirs)
        | inr g_not ↦
            let theirs = cost_left m g v g_not in
            let falls = ltb-false (get_or m.present v 0) (get_or m.wanted v 0) (undone f_is g_not) in
            omega (arith, mine, theirs, falls)
      ]
  | inr f_not ↦
      let mine = cost_left m f v f_not in
      elim (cases_Bool (is_changed m g v)) [
        | inl g_is ↦
            let theirs = cost_changed m g v g_is in
            let rise = ltb-true (get_or m.present v 0) (get_or m.wanted v 0) (done f_not g_is) in
            omega (arith, mine, theirs, rise)
        | inr g_not ↦ let theirs = cost_left m g v g_not in omega (arith, mine, theirs)
      ]
]

-- what rises there and what falls back
eased_costs : (r : Rollout) (held : List ℕ) (f g : ℕ → Bool) (v : ℕ) → IsEased r held f g → cost_in r.moves f v ≤ cost_in r.moves g v
eased_costs r held f g v eased = between_costs r.moves f g v
    (λ f_is g_not.
    let by = changed_by r.moves f v f_is in
    elim (eased by.0 by.1) [
      | inl same ↦ absurd (both_ways (is_changed r.moves g v) g_not (changed_if r.moves g v by.0 by.1 (sym same ∙ by.2) by.3))
      | inr differ ↦ elim differ [
        | inl first ↦ absurd (both_ways (f by.0) first.0 by.2)
        | inr last ↦ (last_variables r held by.0 v last.2 by.3).0
      ]
    ])
    (λ f_not g_is.
    let by = changed_by r.moves g v g_is in
    elim (eased by.0 by.1) [
      | inl same ↦ absurd (both_ways (is_changed r.moves f v) f_not (changed_if r.moves f v by.0 by.1 (same ∙ by.2) by.3))
      | inr differ ↦ elim differ [
        | inl first ↦ (first_variables r held by.0 v first.2 by.3).0
        | inr last ↦ absurd (both_ways (g by.0) last.1 by.2)
      ]
    ])

-- on a held path nothing changes
eased_on : (r : Rollout) (held : List ℕ) (f g : ℕ → Bool) (v : ℕ) → IsEased r held f g → lies_on_held r held v ≡ true →
    cost_in r.moves g v ≤ cost_in r.moves f v
eased_on r held f g v eased on = between_costs r.moves g f v
    (λ g_is f_not. absurd (both_ways (is_changed r.moves f v) f_not
    (changes_more r.moves g f v (λ k within is has. elim (eased k within) [
      | inl same ↦ same ∙ is
      | inr differ ↦ elim differ [
        | inl first ↦ absurd (both_ways (lies_on_held r held v) (first_variables r held k v first.2 has).1 on)
        | inr last ↦ last.0
      ]
    ]) g_is)))
    (λ g_not f_is. absurd (both_ways (is_changed r.moves g v) g_not
    (changes_more r.moves f g v (λ k within is has. elim (eased k within) [
      | inl same ↦ sym same ∙ is
      | inr differ ↦ elim differ [
        | inl first ↦ first.1
        | inr last ↦ absurd (both_ways (lies_on_held r held v) (last_variables r held k v last.2 has).1 on)
      ]
    ]) f_is)))

-- so the state stays safe
pub eased_safe : (r : Rollout) (held : List ℕ) (f g : ℕ → Bool) → IsRollout r → IsEased r held f g → IsSafe r held f → IsSafe r held g
eased_safe r held f g is eased safe = λ i d within.
    only_by_costs r f g (get_or held i d) is (safe i d within)
    (λ v goes. eased_on r held f g v eased (on_held r held v i d within goes))
    (λ e v known away price. eased_costs r held f g v eased)

-- One step more.

-- what one step more doesn't have stays as it was
pub same_change : (r : Rollout) (f g : ℕ → Bool) (step v : ℕ) → HasMore r f g step → (Has (variables_of_step r.moves step) v → ⊥) →
    is_changed r.moves f v ≡ is_changed r.moves g v
same_change r f g step v more away = same_test (is_changed r.moves f v) (is_changed r.moves g v)
    (changes_more r.moves f g v (λ k within is has. sym (more.others k (λ same. away (subst (λ (i : ℕ). Has (variables_of_step r.moves i) v) same has))) ∙ is))
    (changes_more r.moves g f v (λ k within is has. more.others k (λ same. away (subst (λ (i : ℕ). Has (variables_of_step r.moves i) v) same has)) ∙ is))
