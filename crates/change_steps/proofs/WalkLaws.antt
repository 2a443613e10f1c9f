-- A walk through the states: how it begins, tests a state, goes back and ends.
use Rattle.std.proofs.Common.{◌≡◌, ℕ, ◌+◌, ◌<◌, ◌≤◌, refl, sym, ◌∙◌, ap, subst, List, [], ◌∷◌, ◌++◌, All, length, set, inl, inr, arith, Bool, true, false, append-nil, append_assoc}
use Rattle.std.specs.Prelude.{Option, Some, None}
use Rattle.std.proofs.lemmas.Bool.{cases_Bool}
use Rattle.std.proofs.lemmas.List.{get_or_at, length_push, set-get_or, set-set}
use Rattle.cost_base.specs.Lists.{NoneTwice}
use Rattle.cost_base.proofs.ListLemmas.{none_twice_seam, has_lacks}
use Rattle.cost_base.specs.Marks.{is_marked, is_one_of}
use Rattle.cost_base.proofs.MarkLaws.{one_of_has}
use Rattle.spf_ties.specs.Distances.{IsRoomFor}
use Rattle.change_steps.specs.declared.state_search.Walk.{Walk}
use Rattle.change_steps.specs.declared.state_search.End.{End}
use Rattle.change_steps.specs.declared.state_search.End.TheVariants.{Exhausted, UsedUp}
use Rattle.change_steps.specs.Rollouts.{IsRollout, step_count}
use Rattle.change_steps.specs.Orders.{AreHeld, IsSafe}
use Rattle.change_steps.specs.Kinds.{first_steps}
use Rattle.change_steps.specs.States.{MayFollow, marks_of}
use Rattle.change_steps.specs.Search.{AllLack, HasMore, HeldRollout, IsExplored, IsNewStep, IsSearch, IsStateOf, Position, order_behind_first, longer_of, way_state}
use Rattle.change_steps.specs.Walks.{IsBegun, IsWalkEnded, IsAfterRound, IsUnderWay, IsSearchWalk, left_of, position_of}
use Rattle.change_steps.proofs.StateLaws.{set_more}
use Rattle.change_steps.proofs.MarkLaws.{marks_at}
use Rattle.change_steps.proofs.SearchLaws.{another_reached, begin_lacks, lack_push, search_backs, search_begins, search_enters, search_exhausts, search_fails, search_moves, top_safe, way_push}

-- marks that were set and taken back
pub toggled : (marks : List Bool) (step : ℕ) → is_marked marks step ≡ false → set (set marks step true) step false ≡ marks
toggled marks step left =
    set-set marks step true false ∙ ap (λ (b : Bool). set marks step b) (sym left) ∙ set-get_or marks step false

position_same : (a b : Position) → a.order ≡ b.order → a.next ≡ b.next → a.tested ≡ b.tested → a.greatest ≡ b.greatest → a ≡ b
position_same a b order next tested greatest = λ i. record { order = order i; next = next i; tested = tested i; greatest = greatest i }

-- a walk that stands as another one
pub walk_same : (p : HeldRollout) (w v : Walk) → IsSearchWalk p w → IsStateOf p.rollout v.state → v.state.done.items ≡ w.state.done.items →
    position_of v ≡ position_of w → v.room ≡ w.room → IsSearchWalk p v
walk_same p w v is state done position room = record {
  room = subst (IsRoomFor p.rollout.graph) (sym room) is.room;
  state = state;
  here = done ∙ is.here ∙ ap (λ (s : Position). way_state p s.order) (sym position);
  search = subst (IsSearch p) (sym position) is.search;
}

-- a walk that goes on from another step
pub walk_moves : (p : HeldRollout) (w : Walk) (k : ℕ) → IsSearchWalk p w → IsExplored p w.tested (way_state p w.order.items) k →
    IsSearchWalk p (record { state = w.state; order = w.order; next = k; tested = w.tested; greatest = w.greatest; room = w.room })
walk_moves p w k is explored = record {
  room = is.room;
  state = is.state;
  here = is.here;
  search = search_moves p (position_of w) k is.search explored;
}

pub explored_less : (p : HeldRollout) (tested : List (List Bool)) (marks : List Bool) (m n : ℕ) → IsExplored p tested marks n → m ≤ n →
    IsExplored p tested marks m
explored_less p tested marks m n explored less = λ k below follows. explored k (omega (arith, below, less)) follows

-- It begins.

pub firsts_are : (p : HeldRollout) (old xs : List ℕ) → old ≡ [] → xs ≡ old ++ first_steps p.rollout p.held → xs ≡ first_steps p.rollout p.held
firsts_are p old xs none is = is ∙ ap (λ (ys : List ℕ). ys ++ first_steps p.rollout p.held) none

pub walk_begins : (p : HeldRollout) (w : Walk) → IsRollout p.rollout → AreHeld p.rollout p.held → IsRoomFor p.rollout.graph w.room →
    IsStateOf p.rollout w.state →
    w.state.done.items ≡ marks_of p.rollout (is_one_of (first_steps p.rollout p.held)) → w.order.items ≡ [] → w.next ≡ 0 →
    w.tested ≡ w.state.done.items ∷ [] → w.greatest.items ≡ [] → IsBegun p w
walk_begins p w rollout held room state done order next tested greatest = record {
  walk = record {
    room = room;
    state = state;
    here = here ∙ ap (way_state p) (sym order);
    search = subst (IsSearch p)
        (sym (position_same (position_of w) (record { order = []; next = 0; tested = way_state p [] ∷ []; greatest = [] }) order next tested_is greatest))
        (search_begins p rollout held);
  };
  order = order;
  tested = tested_is;
}
  where
    here : w.state.done.items ≡ way_state p []
    here = done ∙ ap (λ (xs : List ℕ). marks_of p.rollout (is_one_of xs)) (sym (append-nil (first_steps p.rollout p.held)))

    tested_is : w.tested ≡ way_state p [] ∷ []
    tested_is = tested ∙ ap (λ (m : List Bool). m ∷ []) here

pub begun_under_way : (p : HeldRollout) (nodes : ℕ) (w : Walk) (k : ℕ) → IsBegun p w → MayFollow p.rollout p.held w.state.done.items k → IsUnderWay p nodes w
begun_under_way p nodes w k is follows = record {
  walk = is.walk;
  lack = subst (AllLack p) (sym is.tested)
      (begin_lacks p k (subst (λ (m : List Bool). MayFollow p.rollout p.held m k) (is.walk.here ∙ ap (way_state p) is.order) follows));
  few = let one = ap length is.tested in omega (arith, one);
}

-- It tests a state.

new_on_way : (p : HeldRollout) (w : Walk) (step : ℕ) → IsSearchWalk p w →
    IsNewStep p w.tested w.state.done.items step → IsNewStep p w.tested (way_state p w.order.items) step
new_on_way p w step is new = subst (λ (m : List Bool). IsNewStep p w.tested m step) is.here new

pub before_safe : (p : HeldRollout) (w : Walk) (step : ℕ) (marks : List Bool) → IsSearchWalk p w → IsNewStep p w.tested w.state.done.items step →
    marks ≡ set w.state.done.items step true → (f : ℕ → Bool) × HasMore p.rollout f (is_marked marks) step × IsSafe p.rollout p.held f
before_safe p w step marks is new same = (
  is_marked w.state.done.items,
  subst (λ (m : List Bool). HasMore p.rollout (is_marked w.state.done.items) (is_marked m) step) (sym same)
      (set_more p.rollout w.state.done.items step new.follows.known is.state.count),
  subst (λ (m : List Bool). IsSafe p.rollout p.held (is_marked m)) (sym is.here) (top_safe p (position_of w) is.search),
)

pub walk_enters : (p : HeldRollout) (w v : Walk) (step : ℕ) → IsSearchWalk p w → w.next ≡ step → IsNewStep p w.tested w.state.done.items step →
    IsSafe p.rollout p.held (is_marked (set w.state.done.items step true)) → IsRoomFor p.rollout.graph v.room → IsStateOf p.rollout v.state →
    v.state.done.items ≡ set w.state.done.items step true → v.order.items ≡ w.order.items ++ step ∷ [] → v.next ≡ 0 →
    v.tested ≡ w.tested ++ set w.state.done.items step true ∷ [] → v.greatest.items ≡ longer_of w.greatest.items (w.order.items ++ step ∷ []) → IsSearchWalk p v
walk_enters p w v step is at new safe room state done order next tested greatest = record {
  room = room;
  state = state;
  here = done ∙ ap (λ (m : List Bool). set m step true) is.here ∙ way_push p w.order.items step new.follows.known ∙ ap (way_state p) (sym order);
  search = subst (IsSearch p)
      (sym (position_same (position_of v) after order next (tested ∙ ap (λ (m : List Bool). w.tested ++ set m step true ∷ []) is.here) greatest))
      (search_enters p (position_of w) step is.search at (new_on_way p w step is new)
      (subst (λ (m : List Bool). IsSafe p.rollout p.held (is_marked (set m step true))) is.here safe));
}
  where
    after : Position
    after = record {
      order = w.order.items ++ step ∷ [];
      next = 0;
      tested = w.tested ++ set (way_state p w.order.items) step true ∷ [];
      greatest = longer_of w.greatest.items (w.order.items ++ step ∷ []);
    }

pub walk_fails : (p : HeldRollout) (w v : Walk) (step : ℕ) → IsSearchWalk p w → w.next ≡ step → IsNewStep p w.tested w.state.done.items step →
    (IsSafe p.rollout p.held (is_marked (set w.state.done.items step true)) → ⊥) → IsRoomFor p.rollout.graph v.room → IsStateOf p.rollout v.state →
    v.state.done.items ≡ set (set w.state.done.items step true) step false → v.order.items ≡ w.order.items → v.next ≡ step + 1 →
    v.tested ≡ w.tested ++ set w.state.done.items step true ∷ [] → v.greatest.items ≡ w.greatest.items → IsSearchWalk p v
walk_fails p w v step is at new unsafe room state done order next tested greatest = record {
  room = room;
  state = state;
  here = done ∙ toggled w.state.done.items step new.follows.left ∙ is.here ∙ ap (way_state p) (sym order);
  search = subst (IsSearch p)
      (sym (position_same (position_of v) after order next (tested ∙ ap (λ (m : List Bool). w.tested ++ set m step true ∷ []) is.here) greatest))
      (search_fails p (position_of w) step is.search at (new_on_way p w step is new)
      (λ safe. unsafe (subst (λ (m : List Bool). IsSafe p.rollout p.held (is_marked (set m step true))) (sym is.here) safe)));
}
  where
    after : Position
    after = record { order = w.order.items; next = step + 1; tested = w.tested ++ set (way_state p w.order.items) step true ∷ []; greatest = w.greatest.items }

-- It goes back.

pub popped_known : (p : HeldRollout) (w : Walk) (order : List ℕ) (step : ℕ) → IsSearchWalk p w →
    w.order.items ≡ order ++ step ∷ [] → step < step_count p.rollout
popped_known p w order step is same =
    subst (λ (k : ℕ). k < step_count p.rollout) (get_or_at (order_behind_first p order) step [] 0 (length (order_behind_first p order)) refl)
    (beginning (length (order_behind_first p order)) 0 (let count = length_push (order_behind_first p order) step in omega (arith, count)))
  where
    beginning : All (λ k. k < step_count p.rollout) (order_behind_first p order ++ step ∷ [])
    beginning = subst (λ (xs : List ℕ). All (λ k. k < step_count p.rollout) xs)
        (ap (order_behind_first p) same ∙ sym (append_assoc (first_steps p.rollout p.held) order (step ∷ []))) is.search.beginning.known

way_pop : (p : HeldRollout) (w : Walk) (order : List ℕ) (step : ℕ) → IsSearchWalk p w → w.order.items ≡ order ++ step ∷ [] →
    set (way_state p w.order.items) step false ≡ way_state p order
way_pop p w order step is same =
    ap (λ (xs : List ℕ). set (way_state p xs) step false) same
    ∙ ap (λ (m : List Bool). set m step false) (sym (way_push p order step known))
    ∙ toggled (way_state p order) step (marks_at p.rollout (is_one_of (order_behind_first p order)) step known ∙ new)
  where
    known : step < step_count p.rollout
    known = popped_known p w order step is same

    new : is_one_of (order_behind_first p order) step ≡ false
    new = elim (cases_Bool (is_one_of (order_behind_first p order) step)) [
      | inl has ↦ absurd (has_lacks (order_behind_first p order) step (one_of_has (order_behind_first p order) step has)
          (none_twice_seam (order_behind_first p order) step []
          (subst NoneTwice (ap (order_behind_first p) same ∙ sym (append_assoc (first_steps p.rollout p.held) order (step ∷ []))) is.search.beginning.once)))
      | inr not ↦ not
    ]

pub walk_backs : (p : HeldRollout) (w v : Walk) (step : ℕ) → IsSearchWalk p w → w.next ≡ step_count p.rollout → w.order.items ≡ v.order.items ++ step ∷ [] →
    IsStateOf p.rollout v.state → v.state.done.items ≡ set w.state.done.items step false → v.next ≡ step + 1 → v.tested ≡ w.tested →
    v.greatest.items ≡ w.greatest.items → IsRoomFor p.rollout.graph v.room → IsSearchWalk p v
walk_backs p w v step is end order state done next tested greatest room = record {
  room = room;
  state = state;
  here = done ∙ ap (λ (m : List Bool). set m step false) is.here ∙ way_pop p w v.order.items step is order;
  search = subst (IsSearch p)
      (sym (position_same (position_of v) (record { order = v.order.items; next = step + 1; tested = w.tested; greatest = w.greatest.items }) refl next tested
      greatest))
      (search_backs p (position_of w) v.order.items step is.search order end);
}

-- Its rounds.

pub round_uses_up : (p : HeldRollout) (nodes : ℕ) (w : Walk) (step : ℕ) → IsUnderWay p nodes w → IsNewStep p w.tested w.state.done.items step →
    nodes ≤ length w.tested → IsWalkEnded p nodes w UsedUp
round_uses_up p nodes w step is new full = (
  is,
  (
    let few = is.few in let some = is.walk.search.are.some in omega (arith, few, some, full),
    another_reached p (position_of w) step is.walk.search (new_on_way p w step is.walk new),
  ),
)

pub round_tests : (p : HeldRollout) (nodes : ℕ) (w v : Walk) (step : ℕ) → IsUnderWay p nodes w → length w.tested < nodes → IsSearchWalk p v →
    v.tested ≡ w.tested ++ set w.state.done.items step true ∷ [] → length v.order.items ≤ length w.order.items + 1 →
    (IsSafe p.rollout p.held (is_marked (set w.state.done.items step true)) → (k : ℕ) × MayFollow p.rollout p.held (set w.state.done.items step true) k) →
    IsUnderWay p nodes v × (left_of nodes v < left_of nodes w)
round_tests p nodes w v step is room walk tested order lacks = (
  record {
    walk = walk;
    lack = subst (AllLack p) (sym tested) (lack_push p w.tested (set w.state.done.items step true) is.lack lacks);
    few = let count = ap length tested in let more = length_push w.tested (set w.state.done.items step true) in omega (arith, count, more, room);
  },
  (let count = ap length tested in let more = length_push w.tested (set w.state.done.items step true) in omega (arith, count, more, room, order)),
)

pub round_goes_back : (p : HeldRollout) (nodes : ℕ) (w v : Walk) → IsUnderWay p nodes w → IsSearchWalk p v → v.tested ≡ w.tested →
    length v.order.items + 1 ≡ length w.order.items → IsUnderWay p nodes v × (left_of nodes v < left_of nodes w)
round_goes_back p nodes w v is walk tested order = (
  record {
    walk = walk;
    lack = subst (AllLack p) (sym tested) is.lack;
    few = let count = ap length tested in let few = is.few in omega (arith, count, few);
  },
  (let count = ap length tested in omega (arith, count, order)),
)

pub round_ends : (p : HeldRollout) (nodes : ℕ) (w v : Walk) → IsUnderWay p nodes w → IsSearchWalk p v → v.tested ≡ w.tested → v.order.items ≡ [] →
    v.next ≡ step_count p.rollout → IsWalkEnded p nodes v Exhausted
round_ends p nodes w v is walk tested order next = (
  record {
    walk = walk;
    lack = subst (AllLack p) (sym tested) is.lack;
    few = let count = ap length tested in let few = is.few in omega (arith, count, few);
  },
  search_exhausts p (position_of v) walk.search order next,
)

-- a walk that looked for its next step
pub under_way_same : (p : HeldRollout) (nodes : ℕ) (w v : Walk) → IsUnderWay p nodes w → IsSearchWalk p v → v.tested ≡ w.tested → IsUnderWay p nodes v
under_way_same p nodes w v is walk tested = record {
  walk = walk;
  lack = subst (AllLack p) (sym tested) is.lack;
  few = let count = ap length tested in let few = is.few in omega (arith, count, few);
}

pub after_round_same : (p : HeldRollout) (nodes : ℕ) (w u v : Walk) (end : Option End) → u.tested ≡ w.tested → u.order.items ≡ w.order.items →
    IsAfterRound p nodes u v end → IsAfterRound p nodes w v end
after_round_same p nodes w u v None tested order after_round =
    (after_round.0, (let count = ap length tested in let steps = ap length order in let less = after_round.1 in omega (arith, count, steps, less)))
after_round_same p nodes w u v (Some end) tested order after_round = after_round
