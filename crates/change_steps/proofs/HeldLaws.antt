-- The held paths of the first requests.
use Rattle.std.proofs.Common.{◌≡◌, ℕ, ◌+◌, ◌<◌, sym, ◌∙◌, List, [], ◌∷◌, ◌++◌, All, Bool, cond, false, true, refl, ap, length, inl, inr, arith, subst}
use Rattle.std.specs.Prelude.{Contains}
use Rattle.std.specs.List.Sorted.{IsStrictlyIncreasing}
use Rattle.std.proofs.lemmas.Bool.{both_ways, cases_lt}
use Rattle.std.proofs.lemmas.List.{get_or_append_left, get_or_at, length_push}
use Rattle.std.proofs.lemmas.List.Elements.{All-nil, All-push, All-weaker, Contains-append_left, Contains-push}
use Rattle.cost_base.specs.Marks.{is_marked}
use Rattle.change_steps.specs.Rollouts.{Rollout}
use Rattle.change_steps.specs.States.{marks_of}
use Rattle.change_steps.proofs.StateCosts.{only_agree}
use Rattle.change_steps.proofs.MarkLaws.{marks_at}
use Rattle.change_steps.specs.Orders.{AreHeld, IsOnlyIn, all_done, none_done}

-- held, of the first n requests
pub record AreHeldBelow (r : Rollout) (n : ℕ) (held : List ℕ) : Type 0 where
  pub rising : IsStrictlyIncreasing held
  pub known : All (λ k. k < n) held
  pub present : All (IsOnlyIn r none_done) held
  pub wanted : All (IsOnlyIn r all_done) held
  pub each : (k : ℕ) → k < n → IsOnlyIn r none_done k → IsOnlyIn r all_done k → Contains held k

-- none of the first 0
pub held_none : (r : Rollout) (held : List ℕ) → held ≡ [] → AreHeldBelow r 0 held
held_none r held none = subst (AreHeldBelow r 0) (sym none) (record {
  rising = λ k within. absurd (omega (arith, within));
  known = All-nil (λ k. k < 0);
  present = All-nil (IsOnlyIn r none_done);
  wanted = All-nil (IsOnlyIn r all_done);
  each = λ k within. absurd (omega (arith, within));
})

-- the first ones are all
pub held_all : (r : Rollout) (held : List ℕ) (n : ℕ) → n ≡ length r.requests → AreHeldBelow r n held → AreHeld r held
held_all r held n all are = record {
  rising = are.rising;
  known = subst (λ (m : ℕ). All (λ k. k < m) held) all are.known;
  present = are.present;
  wanted = are.wanted;
  each = λ k within. are.each k (omega (arith, all, within));
}

rising_push : (xs : List ℕ) (n : ℕ) → IsStrictlyIncreasing xs → All (λ k. k < n) xs → IsStrictlyIncreasing (xs ++ n ∷ [])
rising_push xs n rising below = λ k within. elim (cases_lt (k + 1) (length xs)) [
  | inl before ↦
      let first = get_or_append_left xs (n ∷ []) 0 k (omega (arith, before)) in
      let second = get_or_append_left xs (n ∷ []) 0 (k + 1) before in
      let less = rising k before in
      omega (arith, first, second, less)
  | inr last ↦
      let at : length xs ≡ k + 1 = let count = length_push xs n in omega (arith, within, last, count) in
      let first = get_or_append_left xs (n ∷ []) 0 k (omega (arith, at)) in
      let second = get_or_at xs n [] 0 (k + 1) at in
      let less = below k 0 (omega (arith, at)) in
      omega (arith, first, second, less)
]

-- one more that is held
pub held_more : (r : Rollout) (n : ℕ) (held : List ℕ) → AreHeldBelow r n held → IsOnlyIn r none_done n → IsOnlyIn r all_done n →
    AreHeldBelow r (n + 1) (held ++ n ∷ [])
held_more r n held are present wanted = record {
  rising = rising_push held n are.rising are.known;
  known = All-push (λ k. k < n + 1) held n (All-weaker (λ k. k < n) (λ k. k < n + 1) (λ k below. omega (arith, below)) held are.known) (omega arith);
  present = All-push (IsOnlyIn r none_done) held n are.present present;
  wanted = All-push (IsOnlyIn r all_done) held n are.wanted wanted;
  each = λ k within first second. elim (cases_lt k n) [
    | inl before ↦ Contains-append_left held (n ∷ []) k (are.each k before first second)
    | inr last ↦ subst (λ (i : ℕ). Contains (held ++ n ∷ []) i) (let same : n ≡ k = omega (arith, within, last) in same) (Contains-push held n)
  ];
}

-- one more that isn't
pub held_less : (r : Rollout) (n : ℕ) (held : List ℕ) → AreHeldBelow r n held → (IsOnlyIn r none_done n → IsOnlyIn r all_done n → ⊥) →
    AreHeldBelow r (n + 1) held
held_less r n held are lost = record {
  rising = are.rising;
  known = All-weaker (λ k. k < n) (λ k. k < n + 1) (λ k below. omega (arith, below)) held are.known;
  present = are.present;
  wanted = are.wanted;
  each = λ k within first second. elim (cases_lt k n) [
    | inl before ↦ are.each k before first second
    | inr last ↦
        let same : k ≡ n = omega (arith, within, last) in
        absurd (lost (subst (IsOnlyIn r none_done) same first) (subst (IsOnlyIn r all_done) same second))
  ];
}

-- a path in a state and by its marks
pub only_from_marks : (r : Rollout) (f : ℕ → Bool) (marks : List Bool) (k : ℕ) → marks ≡ marks_of r f → IsOnlyIn r (is_marked marks) k → IsOnlyIn r f k
only_from_marks r f marks k same only =
    only_agree r (is_marked marks) f k (λ i within. ap (λ (ms : List Bool). is_marked ms i) same ∙ marks_at r f i within) only

pub only_to_marks : (r : Rollout) (f : ℕ → Bool) (marks : List Bool) (k : ℕ) → marks ≡ marks_of r f → IsOnlyIn r f k → IsOnlyIn r (is_marked marks) k
only_to_marks r f marks k same only =
    only_agree r f (is_marked marks) k (λ i within. sym (ap (λ (ms : List Bool). is_marked ms i) same ∙ marks_at r f i within)) only

-- one more, put behind those that are held, where it is by the marks of both states
pub held_if : (r : Rollout) (n : ℕ) (held new : List ℕ) (present wanted : List Bool) (both : Bool) → AreHeldBelow r n held →
    present ≡ marks_of r none_done → wanted ≡ marks_of r all_done →
    (both ≡ true → IsOnlyIn r (is_marked present) n × IsOnlyIn r (is_marked wanted) n) →
    (IsOnlyIn r (is_marked present) n × IsOnlyIn r (is_marked wanted) n → both ≡ true) → new ≡ cond both (held ++ n ∷ []) held →
    AreHeldBelow r (n + 1) new
held_if r n held new present wanted true are none all tells told is =
    let only = tells refl in
    subst (λ (xs : List ℕ). AreHeldBelow r (n + 1) xs) (sym is)
    (held_more r n held are (only_from_marks r none_done present n none only.0) (only_from_marks r all_done wanted n all only.1))
held_if r n held new present wanted false are none all tells told is =
    subst (λ (xs : List ℕ). AreHeldBelow r (n + 1) xs) (sym is)
    (held_less r n held are (λ first second. both_ways false refl
    (told (only_to_marks r none_done present n none first, only_to_marks r all_done wanted n all second))))
