-- What a walk that ended shows.
use Rattle.std.proofs.Common.{◌≡◌, ℕ, ◌+◌, ◌<◌, ◌^◌, refl, sym, ◌∙◌, ap, subst, List, [], ◌∷◌, ◌++◌, All, length, get_or, map, filter, set, inl, inr, ◌⊎◌, arith, Bool, true, false, ◌&&◌, ◌==◌, max}
use Rattle.std.specs.Prelude.{Contains, not}
use Rattle.std.proofs.lemmas.Bool.{both_ways, cases_Bool, or_cases, or_left, false≢true}
use Rattle.std.proofs.lemmas.List.{get_or_default, length_push, map_push}
use Rattle.std.proofs.lemmas.List.Elements.{All-nil, All-push, Contains-get_or}
use Rattle.std.proofs.lemmas.List.Folds.{list_any-append}
use Rattle.cost_base.specs.Lists.{numbers_from}
use Rattle.cost_base.proofs.ListLemmas.{filter-numbers_from-agree, none_twice_push, all_has}
use Rattle.cost_base.specs.Marks.{is_marked, is_one_of}
use Rattle.cost_base.proofs.MarkLaws.{has_one_of, one_of_has}
use Rattle.change_steps.specs.declared.kinds.Kind.{Kind}
use Rattle.change_steps.specs.declared.kinds.Kind.TheVariants.{First, Between, Last}
use Rattle.change_steps.specs.declared.found.Blocked.{Blocked}
use Rattle.change_steps.specs.declared.found.Steps.{Steps}
use Rattle.change_steps.specs.declared.found.Stuck.{Stuck}
use Rattle.change_steps.specs.declared.state_search.Walk.{Walk}
use Rattle.change_steps.specs.Rollouts.{IsRollout, Rollout, step_count}
use Rattle.change_steps.specs.Orders.{AreHeld, IsSafe, IsSafeOrder}
use Rattle.change_steps.specs.Kinds.{comes_between, comes_first, comes_last, first_steps, kind_of_step, steps_between}
use Rattle.change_steps.specs.States.{AreAllReached, IsAnotherReached, MayFollow, marks_of}
use Rattle.change_steps.specs.Outcomes.{AreStepsFound, HasNoOrder, IsBarrier, IsStateBudgetUsedUp, IsGreatest, IsOutcome, IsSearchEnd, done_count}
use Rattle.change_steps.specs.Search.{AreBlockedIn, HeldRollout, IsSearch, Position, last_steps, order_behind_first, way_state}
use Rattle.change_steps.specs.Walks.{IsComplete, IsUnderWay}
use Rattle.change_steps.proofs.Keeping.{lacks_unless}
use Rattle.change_steps.proofs.MarkLaws.{done_count_of, marks_at, marks_push}
use Rattle.change_steps.proofs.OrderLaws.{beginning_ends, passes_that, that_passes}
use Rattle.change_steps.proofs.NoOrder.{no_order}
use Rattle.change_steps.proofs.Counting.{budget_short}
use Rattle.change_steps.proofs.HeldRolloutLaws.{passing_no, passing_yes}

-- All steps between are done.

one_of_both : (xs ys : List ℕ) (k : ℕ) → is_one_of (xs ++ ys) k ≡ true → (is_one_of xs k ≡ true) ⊎ (is_one_of ys k ≡ true)
one_of_both xs ys k is = or_cases (is_one_of xs k) (is_one_of ys k) (sym (list_any-append (λ y. y == k) xs ys) ∙ is)

first_not_last : (kind : Kind) → comes_first kind ≡ true → comes_last kind ≡ false
first_not_last First is = refl
first_not_last Between is = absurd (false≢true is)
first_not_last Last is = absurd (false≢true is)

pub complete_order : (p : HeldRollout) (w : Walk) (order : List ℕ) → IsRollout p.rollout → AreHeld p.rollout p.held → IsComplete p w →
    order ≡ order_behind_first p w.order.items ++ last_steps p → IsSafeOrder p.rollout p.held order
complete_order p w order rollout held is same = subst (λ (xs : List ℕ). IsSafeOrder p.rollout p.held xs) (sym same)
    (beginning_ends p.rollout p.held (order_behind_first p w.order.items) rollout held is.walk.search.beginning
    (λ k has. elim (one_of_both (first_steps p.rollout p.held) w.order.items k has) [
      | inl first ↦ first_not_last (kind_of_step p.rollout p.held k) (that_passes p.rollout (λ i. comes_first (kind_of_step p.rollout p.held i)) k first).1
      | inr between ↦ ap comes_last (all_has (λ i. kind_of_step p.rollout p.held i ≡ Between) w.order.items k is.walk.search.between
          (one_of_has w.order.items k between))
    ])
    (λ k within not_last. elim (cases_Bool (is_one_of (order_behind_first p w.order.items) k)) [
      | inl has ↦ has
      | inr lacks ↦ by_kind k within lacks (kind_of_step p.rollout p.held k) refl not_last
    ]))
  where
    by_kind : (k : ℕ) → k < step_count p.rollout → is_one_of (order_behind_first p w.order.items) k ≡ false →
        (kind : Kind) → kind_of_step p.rollout p.held k ≡ kind →
        comes_last (kind_of_step p.rollout p.held k) ≡ false → is_one_of (order_behind_first p w.order.items) k ≡ true
    by_kind k within lacks First kind_is not_last =
        list_any-append (λ y. y == k) (first_steps p.rollout p.held) w.order.items
        ∙ or_left (is_one_of (first_steps p.rollout p.held) k) (is_one_of w.order.items k)
        (passes_that p.rollout (λ i. comes_first (kind_of_step p.rollout p.held i)) k within (ap comes_first kind_is))
    by_kind k within lacks Between kind_is not_last = absurd (is.whole k (record {
      known = within;
      between = kind_is;
      left = ap (λ (m : List Bool). is_marked m k) is.walk.here ∙ marks_at p.rollout (is_one_of (order_behind_first p w.order.items)) k within ∙ lacks;
    }))
    by_kind k within lacks Last kind_is not_last = absurd (both_ways (comes_last (kind_of_step p.rollout p.held k)) not_last (ap comes_last kind_is))

-- No state after the greatest is both tested and safe.

pub greatest_blocks : (p : HeldRollout) (s : Position) (marks : List Bool) → IsSearch p s → marks ≡ way_state p s.greatest → (step : ℕ) →
    MayFollow p.rollout p.held marks step → Contains s.tested (set marks step true) → IsSafe p.rollout p.held (is_marked (set marks step true)) → ⊥
greatest_blocks p s marks is same step follows has safe =
    let at : get_or s.tested has.0 [] ≡ set marks step true = get_or_default s.tested has.0 [] (set marks step true) has.1 ∙ has.2 in
    let most = is.most.greatest has.0 has.1 (subst (λ (m : List Bool). IsSafe p.rollout p.held (is_marked m)) (sym at) safe) in
    let counted : done_count (get_or s.tested has.0 []) ≡ length (order_behind_first p s.greatest ++ step ∷ []) =
    ap done_count (at ∙ ap (λ (m : List Bool). set m step true) same ∙ marks_push p.rollout (order_behind_first p s.greatest) step follows.known)
    ∙ done_count_of p.rollout (order_behind_first p s.greatest ++ step ∷ [])
    (All-push (λ k. k < step_count p.rollout) (order_behind_first p s.greatest) step is.most.beginning.known follows.known)
    (none_twice_push (order_behind_first p s.greatest) step is.most.beginning.once (lacks_unless (order_behind_first p s.greatest) step (λ there.
    both_ways (is_one_of (order_behind_first p s.greatest) step)
    (sym (marks_at p.rollout (is_one_of (order_behind_first p s.greatest)) step follows.known)
    ∙ ap (λ (m : List Bool). is_marked m step) (sym same) ∙ follows.left)
    (has_one_of (order_behind_first p s.greatest) step there)))) in
    let longer = length_push (order_behind_first p s.greatest) step in
    absurd (omega (arith, most, counted, longer))

pub search_end : (p : HeldRollout) (s : Position) (marks : List Bool) (stuck : Stuck) → IsSearch p s → stuck.done.items ≡ order_behind_first p s.greatest →
    marks ≡ marks_of p.rollout (is_one_of stuck.done.items) → AreBlockedIn p s.tested marks stuck.blocked.items → IsSearchEnd p.rollout p.held s.tested stuck
search_end p s marks stuck is done same blocked = record {
  greatest = subst (λ (xs : List ℕ). IsGreatest p.rollout p.held s.tested xs) (sym done) is.most;
  blocked = record {
    steps = blocked.steps ∙ filter-numbers_from-agree (λ k. comes_between (kind_of_step p.rollout p.held k) && not (is_marked marks k))
        (λ k. comes_between (kind_of_step p.rollout p.held k) && not (is_one_of stuck.done.items k)) 0 (step_count p.rollout)
        (λ k above below. ap (λ (b : Bool). comes_between (kind_of_step p.rollout p.held k) && not b)
        (ap (λ (m : List Bool). is_marked m k) same ∙ marks_at p.rollout (is_one_of stuck.done.items) k (omega (arith, below))));
    each = subst (λ (m : List Bool). All (λ b. IsBarrier p.rollout p.held s.tested (set m b.step true) b.by) stuck.blocked.items) same blocked.each;
  };
}

-- blocked steps one after another
pub blocked_step : (marks : List Bool) (p : HeldRollout) (blocked new : List Blocked) (b : Blocked) (n : ℕ) →
    (comes_between (kind_of_step p.rollout p.held n) && not (is_marked marks n)) ≡ true → b.step ≡ n → new ≡ blocked ++ b ∷ [] →
    map (λ (x : Blocked). x.step) blocked ≡ filter (λ k. comes_between (kind_of_step p.rollout p.held k) && not (is_marked marks k)) (numbers_from 0 n) →
    map (λ (x : Blocked). x.step) new ≡ filter (λ k. comes_between (kind_of_step p.rollout p.held k) && not (is_marked marks k)) (numbers_from 0 (n + 1))
blocked_step marks p blocked new b n test at same so_far =
    ap (map (λ (x : Blocked). x.step)) same ∙ map_push (λ (x : Blocked). x.step) blocked b
    ∙ ap (λ (xs : List ℕ). xs ++ b.step ∷ []) so_far
    ∙ ap (λ (k : ℕ). filter (λ i. comes_between (kind_of_step p.rollout p.held i) && not (is_marked marks i)) (numbers_from 0 n) ++ k ∷ []) at
    ∙ sym (passing_yes (λ k. comes_between (kind_of_step p.rollout p.held k) && not (is_marked marks k)) n test)

pub unblocked_step : (marks : List Bool) (p : HeldRollout) (blocked : List Blocked) (n : ℕ) →
    (comes_between (kind_of_step p.rollout p.held n) && not (is_marked marks n)) ≡ false →
    map (λ (x : Blocked). x.step) blocked ≡ filter (λ k. comes_between (kind_of_step p.rollout p.held k) && not (is_marked marks k)) (numbers_from 0 n) →
    map (λ (x : Blocked). x.step) blocked ≡ filter (λ k. comes_between (kind_of_step p.rollout p.held k) && not (is_marked marks k)) (numbers_from 0 (n + 1))
unblocked_step marks p blocked n test so_far = so_far ∙ sym (passing_no (λ k. comes_between (kind_of_step p.rollout p.held k) && not (is_marked marks k)) n
    test)

-- none of the first 0 is blocked
pub none_blocked : (p : HeldRollout) (marks : List Bool) (blocked : List Blocked) → blocked ≡ [] →
    map (λ (x : Blocked). x.step) blocked ≡ filter (λ k. comes_between (kind_of_step p.rollout p.held k) && not (is_marked marks k)) (numbers_from 0 0)
none_blocked p marks blocked none = ap (map (λ (x : Blocked). x.step)) none

pub none_barred : (p : HeldRollout) (tested : List (List Bool)) (marks : List Bool) (blocked : List Blocked) → blocked ≡ [] →
    All (λ b. IsBarrier p.rollout p.held tested (set marks b.step true) b.by) blocked
none_barred p tested marks blocked none =
    subst (λ (xs : List Blocked). All (λ b. IsBarrier p.rollout p.held tested (set marks b.step true) b.by) xs) (sym none)
    (All-nil (λ b. IsBarrier p.rollout p.held tested (set marks b.step true) b.by))

-- the first ones are all
pub all_blocked : (p : HeldRollout) (tested : List (List Bool)) (marks : List Bool) (blocked : List Blocked) (n : ℕ) → n ≡ step_count p.rollout →
    map (λ (x : Blocked). x.step) blocked ≡ filter (λ k. comes_between (kind_of_step p.rollout p.held k) && not (is_marked marks k)) (numbers_from 0 n) →
    All (λ b. IsBarrier p.rollout p.held tested (set marks b.step true) b.by) blocked → AreBlockedIn p tested marks blocked
all_blocked p tested marks blocked n all steps each = record {
  steps = steps ∙ ap (λ (k : ℕ). filter (λ i. comes_between (kind_of_step p.rollout p.held i) && not (is_marked marks i)) (numbers_from 0 k)) all;
  each = each;
}

-- what is known of each step that may follow, at the same marks
pub blocks_here : (p : HeldRollout) (tested : List (List Bool)) (marks was : List Bool) (step : ℕ) → marks ≡ was →
    ((k : ℕ) → MayFollow p.rollout p.held was k → Contains tested (set was k true) → IsSafe p.rollout p.held (is_marked (set was k true)) → ⊥) →
    MayFollow p.rollout p.held marks step → Contains tested (set marks step true) → IsSafe p.rollout p.held (is_marked (set marks step true)) → ⊥
blocks_here p tested marks was step same known =
    subst (λ (m : List Bool). MayFollow p.rollout p.held m step → Contains tested (set m step true) → IsSafe p.rollout p.held (is_marked (set m step true)) → ⊥)
    (sym same) (known step)

-- Outcomes.

pub no_order_found : (p : HeldRollout) (nodes : ℕ) (w : Walk) (stuck : Stuck) → IsRollout p.rollout → IsUnderWay p nodes w →
    AreAllReached p.rollout p.held w.tested → IsSearchEnd p.rollout p.held w.tested stuck → HasNoOrder p.rollout p.held nodes stuck
no_order_found p nodes w stuck rollout is all end = record {
  none = no_order p.rollout p.held w.tested rollout
      (subst (λ (m : List Bool). Contains w.tested m) is.walk.search.are.begin (Contains-get_or w.tested 0 [] is.walk.search.are.some)) all
      (λ i within safe. is.lack (get_or w.tested i []) (Contains-get_or w.tested i [] within) safe);
  tested = w.tested;
  are = is.walk.search.are;
  all = all;
  few = is.few;
  came = end;
}

pub budget_used_up : (p : HeldRollout) (nodes : ℕ) (w : Walk) (stuck : Stuck) → IsUnderWay p nodes w → length w.tested ≡ max 1 nodes →
    IsAnotherReached p.rollout p.held w.tested → IsSearchEnd p.rollout p.held w.tested stuck →
    IsStateBudgetUsedUp p.rollout p.held nodes stuck × (nodes < 2 ^ length (steps_between p.rollout p.held))
budget_used_up p nodes w stuck is used_up another end = (
  record {
    tested = w.tested;
    are = is.walk.search.are;
    incomplete = λ i within safe. is.lack (get_or w.tested i []) (Contains-get_or w.tested i [] within) safe;
    used_up = used_up;
    another = another;
    came = end;
  },
  budget_short p.rollout p.held w.tested nodes is.walk.search.are used_up another,
)

-- the outcome of a held rollout is one of its rollout
pub steps_found : (q r : Rollout) (held : List ℕ) (nodes : ℕ) (steps : Steps) → q ≡ r → AreHeld q held → IsOutcome q held nodes steps.outcome →
    steps.held.items ≡ held → AreStepsFound r nodes steps
steps_found q r held nodes steps same are outcome held_is = subst (λ (x : Rollout). AreStepsFound x nodes steps) same (record {
  held = subst (λ (xs : List ℕ). AreHeld q xs) (sym held_is) are;
  outcome = subst (λ (xs : List ℕ). IsOutcome q xs nodes steps.outcome) (sym held_is) outcome;
})
