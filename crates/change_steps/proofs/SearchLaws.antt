-- How a search begins, goes on, goes back and ends.
use Rattle.std.proofs.Common.{◌≡◌, ℕ, zero, suc, ◌+◌, ◌<◌, ◌≤◌, refl, sym, ◌∙◌, ap, subst, List, [], ◌∷◌, ◌++◌, length, get_or, set, take, inl, inr, ◌⊎◌, arith, All, Bool, true, false, append-nil, append_assoc, ltb-true, ltb-false}
use Rattle.std.specs.Prelude.{Contains, nat_lt, if◌then◌else◌}
use Rattle.std.proofs.lemmas.Bool.{cases_lt}
use Rattle.std.proofs.lemmas.List.{get_or_at, get_or_append_left, get_or_default, length-append, length_push, take-append-le, take_all, take_at}
use Rattle.std.proofs.lemmas.List.Elements.{All-nil, All-push, Contains-append_left, Contains-get_or, Contains-push, Contains-push_cases}
use Rattle.cost_base.proofs.ListLemmas.{All-left}
use Rattle.cost_base.specs.Marks.{is_marked, is_one_of}
use Rattle.change_steps.specs.declared.kinds.Kind.TheVariants.{Between}
use Rattle.change_steps.specs.Rollouts.{IsRollout, step_count}
use Rattle.change_steps.specs.Orders.{AreHeld, IsSafe, IsSafeBeginning}
use Rattle.change_steps.specs.Kinds.{first_steps, kind_of_step}
use Rattle.change_steps.specs.States.{AreAllReached, AreTested, IsAnotherReached, IsReached, MayFollow, marks_of}
use Rattle.change_steps.specs.Outcomes.{IsGreatest, done_count}
use Rattle.change_steps.specs.Search.{AllLack, HeldRollout, IsExplored, IsNewStep, IsOnWay, IsSearch, Position, order_behind_first, longer_of, way_state}
use Rattle.change_steps.proofs.MarkLaws.{done_count_of, marks_at, marks_push, marks_safe, safe_marks}
use Rattle.change_steps.proofs.OrderLaws.{first_beginning, first_state_is, beginning_left, beginning_push}

-- The tested states with one more.

tested_push : (p : HeldRollout) (tested : List (List Bool)) (marks : List Bool) → AreTested p.rollout p.held tested →
    IsReached p.rollout p.held tested marks → (Contains tested marks → ⊥) → AreTested p.rollout p.held (tested ++ marks ∷ [])
tested_push p tested marks are reached new = record {
  some = let count = length_push tested marks in omega (arith, count);
  begin = get_or_append_left tested (marks ∷ []) [] 0 are.some ∙ are.begin;
  reached = λ i above within. elim (split i within) [
    | inl before ↦
        let early : i ≤ length tested = let near = before.0 in omega (arith, near) in
        subst (λ (m : List Bool). IsReached p.rollout p.held (take i (tested ++ marks ∷ [])) m) (sym before.1)
        (subst (λ (ts : List (List Bool)). IsReached p.rollout p.held ts (get_or tested i [])) (sym (take-append-le i tested (marks ∷ []) early))
        (are.reached i above before.0))
    | inr last ↦ subst (λ (m : List Bool). IsReached p.rollout p.held (take i (tested ++ marks ∷ [])) m) (sym last.1)
        (subst (λ (ts : List (List Bool)). IsReached p.rollout p.held ts marks) (sym (take_at tested (marks ∷ []) i (sym last.0))) reached)
  ];
  once = λ i j less within. elim (split j within) [
    | inl before ↦
        let earlier : i < length tested = let near = before.0 in omega (arith, less, near) in
        λ same. are.once i j less before.0 (sym (get_or_append_left tested (marks ∷ []) [] i earlier) ∙ same ∙ before.1)
    | inr last ↦
        let earlier : i < length tested = let at = last.0 in omega (arith, less, at) in
        λ same. new (
          i,
          earlier,
          get_or_default tested i marks [] earlier
              ∙ sym (get_or_append_left tested (marks ∷ []) [] i earlier) ∙ same ∙ last.1,
        )
  ];
}
  where
    split : (i : ℕ) → i < length (tested ++ marks ∷ []) →
        ((i < length tested) × (get_or (tested ++ marks ∷ []) i [] ≡ get_or tested i [])) ⊎ ((i ≡ length tested) × (get_or (tested ++ marks ∷ []) i [] ≡ marks))
    split i within = elim (cases_lt i (length tested)) [
      | inl before ↦ inl (before, get_or_append_left tested (marks ∷ []) [] i before)
      | inr behind ↦
          let last : i ≡ length tested = let count = length_push tested marks in omega (arith, count, within, behind) in
          inr (last, get_or_at tested marks [] [] i (sym last))
    ]

-- from a tested safe state, by a step that may follow
reached_by : (p : HeldRollout) (tested : List (List Bool)) (marks : List Bool) (step : ℕ) → Contains tested marks →
    IsSafe p.rollout p.held (is_marked marks) → MayFollow p.rollout p.held marks step → IsReached p.rollout p.held tested (set marks step true)
reached_by p tested marks step here safe follows =
    let at : get_or tested here.0 [] ≡ marks = get_or_default tested here.0 [] marks here.1 ∙ here.2 in
    record {
      from = here.0;
      within = here.1;
      safe = subst (λ (m : List Bool). IsSafe p.rollout p.held (is_marked m)) (sym at) safe;
      step = step;
      follows = subst (λ (m : List Bool). MayFollow p.rollout p.held m step) (sym at) follows;
      same = sym (ap (λ (m : List Bool). set m step true) at);
    }

explored_push : (p : HeldRollout) (tested : List (List Bool)) (new marks : List Bool) (next : ℕ) → IsExplored p tested marks next →
    IsExplored p (tested ++ new ∷ []) marks next
explored_push p tested new marks next explored = λ k below follows. Contains-append_left tested (new ∷ []) (set marks k true) (explored k below follows)

explored_more : (p : HeldRollout) (tested : List (List Bool)) (marks : List Bool) (k : ℕ) → IsExplored p tested marks k →
    Contains tested (set marks k true) → IsExplored p tested marks (k + 1)
explored_more p tested marks k explored here = λ i below follows. elim (cases_lt i k) [
  | inl before ↦ explored i before follows
  | inr last ↦ subst (λ (n : ℕ). Contains tested (set marks n true)) (let same : k ≡ i = omega (arith, below, last) in same) here
]

-- The way.

-- where the search stands
pub top_safe : (p : HeldRollout) (s : Position) → IsSearch p s → IsSafe p.rollout p.held (is_marked (way_state p s.order))
top_safe p s is =
    marks_safe p.rollout p.held (is_one_of (order_behind_first p s.order)) (way_state p s.order) refl
    (subst (λ (xs : List ℕ). IsSafe p.rollout p.held (is_one_of xs))
    (take_all (length (order_behind_first p s.order)) (order_behind_first p s.order) (omega arith))
    (is.beginning.safe (length (order_behind_first p s.order)) (omega arith)))

pub top_tested : (p : HeldRollout) (s : Position) → IsSearch p s → Contains s.tested (way_state p s.order)
top_tested p s is = subst (λ (xs : List ℕ). Contains s.tested (way_state p xs)) (take_all (length s.order) s.order (omega arith))
    (is.on_way (length s.order) (omega arith))

beginning_push_is : (p : HeldRollout) (order : List ℕ) (k : ℕ) → order_behind_first p (order ++ k ∷ []) ≡ order_behind_first p order ++ k ∷ []
beginning_push_is p order k = sym (append_assoc (first_steps p.rollout p.held) order (k ∷ []))

-- the state after one step more
pub way_push : (p : HeldRollout) (order : List ℕ) (k : ℕ) → k < step_count p.rollout → set (way_state p order) k true ≡ way_state p (order ++ k ∷ [])
way_push p order k known = marks_push p.rollout (order_behind_first p order) k known
    ∙ ap (λ (xs : List ℕ). marks_of p.rollout (is_one_of xs)) (sym (beginning_push_is p order k))

-- a step that may follow isn't on the way
step_new : (p : HeldRollout) (order : List ℕ) (k : ℕ) → MayFollow p.rollout p.held (way_state p order) k → is_one_of (order_behind_first p order) k ≡ false
step_new p order k follows = sym (marks_at p.rollout (is_one_of (order_behind_first p order)) k follows.known) ∙ follows.left

count_of : (p : HeldRollout) (order : List ℕ) → IsSafeBeginning p.rollout p.held (order_behind_first p order) →
    done_count (way_state p order) ≡ length (order_behind_first p order)
count_of p order beginning = done_count_of p.rollout (order_behind_first p order) beginning.known beginning.once

-- It begins with the first steps.

abbrev zeros : List ℕ
zeros = 0 ∷ []

pub search_begins : (p : HeldRollout) → IsRollout p.rollout → AreHeld p.rollout p.held →
    IsSearch p (record { order = []; next = 0; tested = way_state p [] ∷ []; greatest = [] })
search_begins p is are = record {
  beginning = beginning;
  between = All-nil (λ k. kind_of_step p.rollout p.held k ≡ Between);
  are = record {
    some = omega arith;
    begin = sym (first_state_is p.rollout p.held ∙ ap (λ (xs : List ℕ). marks_of p.rollout (is_one_of xs)) (sym none));
    reached = λ i above within. absurd (omega arith);
    once = λ i j less within. absurd (omega arith);
  };
  on_way = λ d within. (0, omega arith, ap (λ (xs : List ℕ). way_state p xs) (sym (none_taken d)));
  explored = λ d within. λ k below. absurd (let nothing = zero_at d in omega (arith, below, nothing));
  finished = λ marks here safe. inl (0, omega arith, only marks here.0 here.1 here.2);
  most = record {
    beginning = beginning;
    rest = [];
    begin = refl;
    between = All-nil (λ k. kind_of_step p.rollout p.held k ≡ Between);
    place = 0;
    within = omega arith;
    same = refl;
    greatest = λ i within safe. let count = count_of p [] beginning in let first : i ≡ 0 = omega (arith, within) in
        subst (λ (n : ℕ). done_count (get_or (way_state p [] ∷ []) n []) ≤ length (order_behind_first p [])) (sym first) (omega (arith, count));
    earliest = λ i less safe. absurd (omega arith);
  };
}
  where
    none : order_behind_first p [] ≡ first_steps p.rollout p.held
    none = append-nil (first_steps p.rollout p.held)

    beginning : IsSafeBeginning p.rollout p.held (order_behind_first p [])
    beginning = subst (λ (xs : List ℕ). IsSafeBeginning p.rollout p.held xs) (sym none) (first_beginning p.rollout p.held is are)

    none_taken : (d : ℕ) → take {A = ℕ} d [] ≡ []
    none_taken zero = refl
    none_taken (suc d) = refl

    zero_at : (d : ℕ) → get_or zeros d zero ≡ zero
    zero_at zero = refl
    zero_at (suc d) = refl

    only : (marks : List Bool) (i : ℕ) → i < 1 → get_or (way_state p [] ∷ []) i marks ≡ marks → marks ≡ way_state p []
    only marks zero within same = sym same
    only marks (suc i) within same = absurd (omega arith)

-- the only tested state lacks what its step lacks
pub begin_lacks : (p : HeldRollout) (k : ℕ) → MayFollow p.rollout p.held (way_state p []) k → AllLack p (way_state p [] ∷ [])
begin_lacks p k follows = λ marks here safe. (k, subst (λ (m : List Bool). MayFollow p.rollout p.held m k) (sym (only marks here.0 here.1 here.2)) follows)
  where
    only : (marks : List Bool) (i : ℕ) → i < 1 → get_or (way_state p [] ∷ []) i marks ≡ marks → marks ≡ way_state p []
    only marks zero within same = sym same
    only marks (suc i) within same = absurd (omega arith)

-- It goes on.

-- steps that follow the state where it stands were tested, or may not follow
pub search_moves : (p : HeldRollout) (s : Position) (k : ℕ) → IsSearch p s → IsExplored p s.tested (way_state p s.order) k →
    IsSearch p (record { order = s.order; next = k; tested = s.tested; greatest = s.greatest })
search_moves p s k is explored = record {
  beginning = is.beginning;
  between = is.between;
  are = is.are;
  on_way = is.on_way;
  explored = λ d within. elim (cases_lt d (length s.order)) [
    | inl before ↦ subst (λ (n : ℕ). IsExplored p s.tested (way_state p (take d s.order)) n)
        (get_or_append_left s.order (s.next ∷ []) 0 d before ∙ sym (get_or_append_left s.order (k ∷ []) 0 d before)) (is.explored d within)
    | inr last ↦
        subst (λ (n : ℕ). IsExplored p s.tested (way_state p (take d s.order)) n) (sym (get_or_at s.order k [] 0 d (omega (arith, within, last))))
        (subst (λ (xs : List ℕ). IsExplored p s.tested (way_state p xs) k) (sym (take_all d s.order last)) explored)
  ];
  finished = is.finished;
  most = is.most;
}

-- what is explored where it stands
pub top_explored : (p : HeldRollout) (s : Position) → IsSearch p s → IsExplored p s.tested (way_state p s.order) s.next
top_explored p s is =
    subst (λ (n : ℕ). IsExplored p s.tested (way_state p s.order) n) (get_or_at s.order s.next [] 0 (length s.order) refl)
    (subst (λ (xs : List ℕ). IsExplored p s.tested (way_state p xs) (get_or (s.order ++ s.next ∷ []) (length s.order) 0))
    (take_all (length s.order) s.order (omega arith)) (is.explored (length s.order) (omega arith)))

-- the tested states with that of a step that is new
push_are : (p : HeldRollout) (s : Position) (step : ℕ) → IsSearch p s → IsNewStep p s.tested (way_state p s.order) step →
    AreTested p.rollout p.held (s.tested ++ set (way_state p s.order) step true ∷ [])
push_are p s step is new =
    tested_push p s.tested (set (way_state p s.order) step true) is.are
    (reached_by p s.tested (way_state p s.order) step (top_tested p s is) (top_safe p s is) new.follows) new.new

-- the greatest state stays where none is greater
greatest_stays : (p : HeldRollout) (tested : List (List Bool)) (marks : List Bool) (done : List ℕ) → IsGreatest p.rollout p.held tested done →
    (IsSafe p.rollout p.held (is_marked marks) → done_count marks ≤ length done) → IsGreatest p.rollout p.held (tested ++ marks ∷ []) done
greatest_stays p tested marks done is less = record {
  beginning = is.beginning;
  rest = is.rest;
  begin = is.begin;
  between = is.between;
  place = is.place;
  within = let count = length_push tested marks in let near = is.within in omega (arith, count, near);
  same = get_or_append_left tested (marks ∷ []) [] is.place is.within ∙ is.same;
  greatest = λ i within safe. elim (cases_lt i (length tested)) [
    | inl before ↦ subst (λ (m : List Bool). done_count m ≤ length done) (sym (get_or_append_left tested (marks ∷ []) [] i before))
        (is.greatest i before (subst (λ (m : List Bool). IsSafe p.rollout p.held (is_marked m)) (get_or_append_left tested (marks ∷ []) [] i before) safe))
    | inr behind ↦
        let last : get_or (tested ++ marks ∷ []) i [] ≡ marks =
        get_or_at tested marks [] [] i (let count = length_push tested marks in omega (arith, count, within, behind)) in
        subst (λ (m : List Bool). done_count m ≤ length done) (sym last)
        (less (subst (λ (m : List Bool). IsSafe p.rollout p.held (is_marked m)) last safe))
  ];
  earliest = λ i before safe.
      let near : i < length tested = let within = is.within in omega (arith, before, within) in
      subst (λ (m : List Bool). done_count m < length done) (sym (get_or_append_left tested (marks ∷ []) [] i near))
      (is.earliest i before (subst (λ (m : List Bool). IsSafe p.rollout p.held (is_marked m)) (get_or_append_left tested (marks ∷ []) [] i near) safe));
}

-- what was finished stays so, and the new state isn't safe or is on the way
finished_push : (p : HeldRollout) (tested : List (List Bool)) (new : List Bool) (order : List ℕ) →
    ((marks : List Bool) → Contains tested marks → IsSafe p.rollout p.held (is_marked marks) →
    IsOnWay p order marks ⊎ IsExplored p tested marks (step_count p.rollout)) →
    (IsSafe p.rollout p.held (is_marked new) → IsOnWay p order new) → (marks : List Bool) → Contains (tested ++ new ∷ []) marks →
    IsSafe p.rollout p.held (is_marked marks) → IsOnWay p order marks ⊎ IsExplored p (tested ++ new ∷ []) marks (step_count p.rollout)
finished_push p tested new order finished here marks has safe = elim (Contains-push_cases tested new marks has) [
  | inl before ↦ elim (finished marks before safe) [
    | inl on ↦ inl on
    | inr all ↦ inr (explored_push p tested new marks (step_count p.rollout) all)
  ]
  | inr same ↦ inl (subst (IsOnWay p order) same (here (subst (λ (m : List Bool). IsSafe p.rollout p.held (is_marked m)) (sym same) safe)))
]

-- a state that isn't safe
pub search_fails : (p : HeldRollout) (s : Position) (step : ℕ) → IsSearch p s → s.next ≡ step → IsNewStep p s.tested (way_state p s.order) step →
    (IsSafe p.rollout p.held (is_marked (set (way_state p s.order) step true)) → ⊥) →
    IsSearch p (record { order = s.order; next = step + 1; tested = s.tested ++ set (way_state p s.order) step true ∷ []; greatest = s.greatest })
search_fails p s step is at new unsafe = search_moves p (record { order = s.order; next = s.next; tested = tested; greatest = s.greatest }) (step + 1)
    (record {
      beginning = is.beginning;
      between = is.between;
      are = push_are p s step is new;
      on_way = λ d within. Contains-append_left s.tested (marks ∷ []) (way_state p (take d s.order)) (is.on_way d within);
      explored = λ d within. explored_push p s.tested marks (way_state p (take d s.order)) (get_or (s.order ++ s.next ∷ []) d 0) (is.explored d within);
      finished = finished_push p s.tested marks s.order is.finished (λ safe. absurd (unsafe safe));
      most = greatest_stays p s.tested marks (order_behind_first p s.greatest) is.most (λ safe. absurd (unsafe safe));
    })
    (explored_more p tested (way_state p s.order) step
    (explored_push p s.tested marks (way_state p s.order) step (subst (λ (n : ℕ). IsExplored p s.tested (way_state p s.order) n) at (top_explored p s is)))
    (Contains-push s.tested marks))
  where
    marks : List Bool
    marks = set (way_state p s.order) step true

    tested : List (List Bool)
    tested = s.tested ++ set (way_state p s.order) step true ∷ []

-- a safe state
record Entered (p : HeldRollout) (s : Position) (step : ℕ) : Type 0 where
  beginning : IsSafeBeginning p.rollout p.held (order_behind_first p (s.order ++ step ∷ []))
  way : set (way_state p s.order) step true ≡ way_state p (s.order ++ step ∷ [])

entered : (p : HeldRollout) (s : Position) (step : ℕ) → IsSearch p s → IsNewStep p s.tested (way_state p s.order) step →
    IsSafe p.rollout p.held (is_marked (set (way_state p s.order) step true)) → Entered p s step
entered p s step is new safe = record {
  beginning = subst (λ (xs : List ℕ). IsSafeBeginning p.rollout p.held xs) (sym (beginning_push_is p s.order step))
      (beginning_push p.rollout p.held (order_behind_first p s.order) step is.beginning new.follows.known (step_new p s.order step new.follows)
      (safe_marks p.rollout p.held (is_one_of (order_behind_first p s.order ++ step ∷ [])) (set (way_state p s.order) step true)
      (marks_push p.rollout (order_behind_first p s.order) step new.follows.known) safe));
  way = way_push p s.order step new.follows.known;
}

-- the greatest state where one was tested that is safe
greatest_enters : (p : HeldRollout) (s : Position) (step : ℕ) (longer : Bool) → longer ≡ nat_lt (length s.greatest) (length (s.order ++ step ∷ [])) →
    IsSearch p s → IsNewStep p s.tested (way_state p s.order) step → Entered p s step →
    IsGreatest p.rollout p.held (s.tested ++ set (way_state p s.order) step true ∷ [])
    (order_behind_first p (if longer then (s.order ++ step ∷ []) else s.greatest))
greatest_enters p s step false compared is new enters =
    greatest_stays p s.tested (set (way_state p s.order) step true) (order_behind_first p s.greatest) is.most (λ safe.
    let fewer = ltb-false (length s.greatest) (length (s.order ++ step ∷ [])) (sym compared) in
    let count = ap done_count enters.way ∙ count_of p (s.order ++ step ∷ []) enters.beginning in
    let mine = length-append (first_steps p.rollout p.held) (s.order ++ step ∷ []) in
    let theirs = length-append (first_steps p.rollout p.held) s.greatest in
    omega (arith, fewer, count, mine, theirs))
greatest_enters p s step true compared is new enters = record {
  beginning = enters.beginning;
  rest = s.order ++ step ∷ [];
  begin = refl;
  between = All-push (λ k. kind_of_step p.rollout p.held k ≡ Between) s.order step is.between new.follows.between;
  place = length s.tested;
  within = let count = length_push s.tested marks in omega (arith, count);
  same = get_or_at s.tested marks [] [] (length s.tested) refl ∙ enters.way;
  greatest = λ i within safe. elim (cases_lt i (length s.tested)) [
    | inl before ↦ let less = fewer i before safe in omega (arith, less)
    | inr behind ↦
        let last : get_or (s.tested ++ marks ∷ []) i [] ≡ marks =
        get_or_at s.tested marks [] [] i (let count = length_push s.tested marks in omega (arith, count, within, behind)) in
        let count = ap done_count (last ∙ enters.way) ∙ count_of p (s.order ++ step ∷ []) enters.beginning in
        omega (arith, count)
  ];
  earliest = λ i before safe. fewer i before safe;
}
  where
    marks : List Bool
    marks = set (way_state p s.order) step true

    fewer : (i : ℕ) → i < length s.tested → IsSafe p.rollout p.held (is_marked (get_or (s.tested ++ set (way_state p s.order) step true ∷ []) i [])) →
        done_count (get_or (s.tested ++ set (way_state p s.order) step true ∷ []) i []) < length (order_behind_first p (s.order ++ step ∷ []))
    fewer i before safe =
        let at = get_or_append_left s.tested (set (way_state p s.order) step true ∷ []) [] i before in
        let was = is.most.greatest i before (subst (λ (m : List Bool). IsSafe p.rollout p.held (is_marked m)) at safe) in
        let same = ap done_count at in
        let less = ltb-true (length s.greatest) (length (s.order ++ step ∷ [])) (sym compared) in
        let mine = length-append (first_steps p.rollout p.held) (s.order ++ step ∷ []) in
        let theirs = length-append (first_steps p.rollout p.held) s.greatest in
        omega (arith, was, same, less, mine, theirs)

pub search_enters : (p : HeldRollout) (s : Position) (step : ℕ) → IsSearch p s → s.next ≡ step → IsNewStep p s.tested (way_state p s.order) step →
    IsSafe p.rollout p.held (is_marked (set (way_state p s.order) step true)) →
    IsSearch p (record {
      order = s.order ++ step ∷ [];
      next = 0;
      tested = s.tested ++ set (way_state p s.order) step true ∷ [];
      greatest = longer_of s.greatest (s.order ++ step ∷ []);
    })
search_enters p s step is at new safe = record {
  beginning = enters.beginning;
  between = All-push (λ k. kind_of_step p.rollout p.held k ≡ Between) s.order step is.between new.follows.between;
  are = push_are p s step is new;
  on_way = λ d within. elim (cases_lt (length s.order) d) [
    | inl whole ↦ subst (λ (m : List Bool). Contains tested m)
        (enters.way ∙ ap (way_state p) (sym (take_all d (s.order ++ step ∷ []) (let count = length_push s.order step in omega (arith, count, whole)))))
        (Contains-push s.tested marks)
    | inr front ↦ subst (λ (xs : List ℕ). Contains tested (way_state p xs)) (sym (take-append-le d s.order (step ∷ []) front))
        (Contains-append_left s.tested (marks ∷ []) (way_state p (take d s.order)) (is.on_way d front))
  ];
  explored = λ d within. elim (cases_lt (length s.order) d) [
    | inl whole ↦ subst (λ (n : ℕ). IsExplored p tested (way_state p (take d (s.order ++ step ∷ []))) n)
        (sym (get_or_at (s.order ++ step ∷ []) 0 [] 0 d (let count = length_push s.order step in omega (arith, count, whole, within))))
        (λ k below. absurd (omega (arith, below)))
    | inr front ↦
        subst (λ (n : ℕ). IsExplored p tested (way_state p (take d (s.order ++ step ∷ []))) n)
        (ap (λ (n : ℕ). get_or (s.order ++ n ∷ []) d 0) at
        ∙ sym (get_or_append_left (s.order ++ step ∷ []) (0 ∷ []) 0 d (let count = length_push s.order step in omega (arith, count, front))))
        (subst (λ (xs : List ℕ). IsExplored p tested (way_state p xs) (get_or (s.order ++ s.next ∷ []) d 0)) (sym (take-append-le d s.order (step ∷ []) front))
        (explored_push p s.tested marks (way_state p (take d s.order)) (get_or (s.order ++ s.next ∷ []) d 0) (is.explored d front)))
  ];
  finished = finished_push p s.tested marks (s.order ++ step ∷ [])
      (λ m has m_safe. elim (is.finished m has m_safe) [
        | inl on ↦ inl (
          on.0,
          (let near = on.1 in let count = length_push s.order step in omega (arith, near, count)),
          on.2 ∙ ap (way_state p) (sym (take-append-le on.0 s.order (step ∷ []) on.1)),
        )
        | inr all ↦ inr all
      ])
      (λ m_safe. (
        length (s.order ++ step ∷ []),
        omega arith,
        enters.way ∙ ap (way_state p) (sym (take_all (length (s.order ++ step ∷ [])) (s.order ++ step ∷ []) (omega arith))),
      ));
  most = greatest_enters p s step (nat_lt (length s.greatest) (length (s.order ++ step ∷ []))) refl is new enters;
}
  where
    enters : Entered p s step
    enters = entered p s step is new safe

    marks : List Bool
    marks = set (way_state p s.order) step true

    tested : List (List Bool)
    tested = s.tested ++ set (way_state p s.order) step true ∷ []

-- It goes back, where all that may follow was tested.

pub search_backs : (p : HeldRollout) (s : Position) (order : List ℕ) (step : ℕ) → IsSearch p s → s.order ≡ order ++ step ∷ [] → s.next ≡ step_count p.rollout →
    IsSearch p (record { order = order; next = step + 1; tested = s.tested; greatest = s.greatest })
search_backs p s order step is same end = search_moves p back (step + 1) whole
    (explored_more p s.tested (way_state p order) step
    (subst (λ (xs : List ℕ). IsExplored p s.tested (way_state p xs) step) (take_all (length order) order (omega arith))
    (subst (λ (n : ℕ). IsExplored p s.tested (way_state p (take (length order) order)) n) (get_or_at order step [] 0 (length order) refl)
    (explored_at (length order) (omega arith))))
    (subst (λ (m : List Bool). Contains s.tested m) (ap (way_state p) same ∙ sym (way_push p order step known)) (top_tested p s is)))
  where
    back : Position
    back = record { order = order; next = step; tested = s.tested; greatest = s.greatest }

    beginning : IsSafeBeginning p.rollout p.held (order_behind_first p order ++ step ∷ [])
    beginning = subst (λ (xs : List ℕ). IsSafeBeginning p.rollout p.held xs) (ap (order_behind_first p) same ∙ beginning_push_is p order step) is.beginning

    known : step < step_count p.rollout
    known = subst (λ (k : ℕ). k < step_count p.rollout) (get_or_at (order_behind_first p order) step [] 0 (length (order_behind_first p order)) refl)
        (beginning.known (length (order_behind_first p order)) 0 (let count = length_push (order_behind_first p order) step in omega (arith, count)))

    longer : length s.order ≡ length order + 1
    longer = ap length same ∙ length_push order step

    front : (d : ℕ) → d ≤ length order → take d s.order ≡ take d order
    front d within = ap (take d) same ∙ take-append-le d order (step ∷ []) within

    explored_at : (d : ℕ) → d ≤ length order → IsExplored p s.tested (way_state p (take d order)) (get_or (order ++ step ∷ []) d 0)
    explored_at d within =
        subst (λ (n : ℕ). IsExplored p s.tested (way_state p (take d order)) n)
        (get_or_append_left s.order (s.next ∷ []) 0 d (omega (arith, longer, within)) ∙ ap (λ (xs : List ℕ). get_or xs d 0) same)
        (subst (λ (xs : List ℕ). IsExplored p s.tested (way_state p xs) (get_or (s.order ++ s.next ∷ []) d 0)) (front d within)
        (is.explored d (omega (arith, longer, within))))

    whole : IsSearch p back
    whole = record {
      beginning = beginning_left p.rollout p.held (order_behind_first p order) (step ∷ []) beginning;
      between = All-left (λ k. kind_of_step p.rollout p.held k ≡ Between) order (step ∷ [])
          (subst (λ (xs : List ℕ). All (λ k. kind_of_step p.rollout p.held k ≡ Between) xs) same is.between);
      are = is.are;
      on_way = λ d within. subst (λ (xs : List ℕ). Contains s.tested (way_state p xs)) (front d within) (is.on_way d (omega (arith, longer, within)));
      explored = explored_at;
      finished = λ marks has safe. elim (is.finished marks has safe) [
        | inl on ↦ elim (cases_lt (length order) on.0) [
          | inl top ↦ inr (subst (λ (m : List Bool). IsExplored p s.tested m (step_count p.rollout))
              (sym (on.2 ∙ ap (way_state p) (take_all on.0 s.order (omega (arith, longer, top)))))
              (subst (λ (n : ℕ). IsExplored p s.tested (way_state p s.order) n) end (top_explored p s is)))
          | inr below ↦ inl (on.0, below, on.2 ∙ ap (way_state p) (front on.0 below))
        ]
        | inr all ↦ inr all
      ];
      most = is.most;
    }

-- It ends where nothing is left to go back to.

pub search_exhausts : (p : HeldRollout) (s : Position) → IsSearch p s → s.order ≡ [] → s.next ≡ step_count p.rollout →
    AreAllReached p.rollout p.held s.tested
search_exhausts p s is none end = λ marks reached.
    let explored : IsExplored p s.tested (get_or s.tested reached.from []) (step_count p.rollout) =
    elim (is.finished (get_or s.tested reached.from []) (Contains-get_or s.tested reached.from [] reached.within) reached.safe) [
      | inl on ↦ subst (λ (m : List Bool). IsExplored p s.tested m (step_count p.rollout))
          (sym (on.2 ∙ ap (way_state p) (take_all on.0 s.order (let nothing = ap length none in omega (arith, nothing)))))
          (subst (λ (n : ℕ). IsExplored p s.tested (way_state p s.order) n) end (top_explored p s is))
      | inr all ↦ all
    ] in
    subst (λ (m : List Bool). Contains s.tested m) (sym reached.same) (explored reached.step reached.follows.known reached.follows)

-- a new step shows another state that can be reached
pub another_reached : (p : HeldRollout) (s : Position) (step : ℕ) → IsSearch p s → IsNewStep p s.tested (way_state p s.order) step →
    IsAnotherReached p.rollout p.held s.tested
another_reached p s step is new = record {
  marks = set (way_state p s.order) step true;
  reached = reached_by p s.tested (way_state p s.order) step (top_tested p s is) (top_safe p s is) new.follows;
  new = new.new;
}

-- what each tested safe state lacks stays, and a new one lacks something too where it is safe
pub lack_push : (p : HeldRollout) (tested : List (List Bool)) (marks : List Bool) → AllLack p tested →
    (IsSafe p.rollout p.held (is_marked marks) → (k : ℕ) × MayFollow p.rollout p.held marks k) → AllLack p (tested ++ marks ∷ [])
lack_push p tested marks lack here = λ m has safe. elim (Contains-push_cases tested marks m has) [
  | inl before ↦ lack m before safe
  | inr same ↦ subst (λ (n : List Bool). (k : ℕ) × MayFollow p.rollout p.held n k) same
      (here (subst (λ (n : List Bool). IsSafe p.rollout p.held (is_marked n)) (sym same) safe))
]
