-- Where all states that can be reached are tested and each safe one lacks a step between, no order is safe.
use Rattle.std.proofs.Common.{◌≡◌, ℕ, zero, suc, ◌+◌, ◌<◌, ◌≤◌, refl, sym, ◌∙◌, ap, subst, List, [], ◌∷◌, ◌++◌, length, get_or, set, take, inl, inr, ◌⊎◌, arith, Bool, true, false, take_all}
use Rattle.std.specs.Prelude.{Contains}
use Rattle.std.proofs.lemmas.Bool.{cases_Bool, cases_eq, both_ways}
use Rattle.std.proofs.lemmas.List.{get_or_default, take_more}
use Rattle.cost_base.specs.Marks.{is_marked, is_one_of}
use Rattle.cost_base.proofs.MarkLaws.{has_one_of}
use Rattle.change_steps.specs.declared.kinds.Kind.{Kind}
use Rattle.change_steps.specs.declared.kinds.Kind.TheVariants.{First, Between, Last}
use Rattle.change_steps.specs.Rollouts.{IsRollout, Rollout, step_count}
use Rattle.change_steps.specs.Orders.{IsSafe, IsSafeOrder}
use Rattle.change_steps.specs.Kinds.{comes_first, kind_of_step}
use Rattle.change_steps.specs.States.{AreAllReached, MayFollow, first_state, marks_of}
use Rattle.change_steps.proofs.KindLaws.{eased_safe}
use Rattle.change_steps.proofs.MarkLaws.{marks_agree, marks_at, marks_more, marks_safe, one_of_last, one_of_other}
use Rattle.change_steps.proofs.OrderLaws.{has_contains}

-- a step is done: each first one, no last one, and one between where it is told so
abbrev done_by : Kind → Bool → Bool
done_by First told = true
done_by Between told = told
done_by Last told = false

-- the first steps, and the steps between of a list
abbrev core : Rollout → List ℕ → List ℕ → ℕ → Bool
core r held steps k = done_by (kind_of_step r held k) (is_one_of steps k)

-- it is as safe as the list
core_safe : (r : Rollout) (held steps : List ℕ) → IsRollout r → IsSafe r held (is_one_of steps) → IsSafe r held (core r held steps)
core_safe r held steps is safe = eased_safe r held (is_one_of steps) (core r held steps) is (λ k within. by_kind (kind_of_step r held k) (is_one_of steps k))
    safe
  where
    by_kind : (kind : Kind) (told : Bool) → (told ≡ done_by kind told)
        ⊎ (((told ≡ false) × (done_by kind told ≡ true) × (kind ≡ First)) ⊎ ((told ≡ true) × (done_by kind told ≡ false) × (kind ≡ Last)))
    by_kind First true = inl refl
    by_kind First false = inr (inl (refl, refl, refl))
    by_kind Between told = inl refl
    by_kind Last true = inr (inr (refl, refl, refl))
    by_kind Last false = inl refl

-- without steps it is the state of the first ones
core_begin : (r : Rollout) (held : List ℕ) → first_state r held ≡ marks_of r (core r held [])
core_begin r held = marks_agree r (λ k. comes_first (kind_of_step r held k)) (core r held []) (λ k within. by_kind (kind_of_step r held k))
  where
    by_kind : (kind : Kind) → comes_first kind ≡ done_by kind false
    by_kind First = refl
    by_kind Between = refl
    by_kind Last = refl

-- a step that is first, last or there already changes nothing
core_stays : (r : Rollout) (held steps : List ℕ) (step : ℕ) → (done_by (kind_of_step r held step) true ≡
    done_by (kind_of_step r held step) (is_one_of steps step)) →
    marks_of r (core r held (steps ++ step ∷ [])) ≡ marks_of r (core r held steps)
core_stays r held steps step same = marks_agree r (core r held (steps ++ step ∷ [])) (core r held steps) (λ k within. elim (cases_eq k step) [
  | inl is ↦
      ap (core r held (steps ++ step ∷ [])) is
      ∙ ap (done_by (kind_of_step r held step)) (one_of_last steps step) ∙ same ∙ ap (core r held steps) (sym is)
  | inr other ↦ ap (done_by (kind_of_step r held k)) (one_of_other steps step k other)
])

-- the states of an order's beginnings are tested, but for first and last steps
core_tested : (r : Rollout) (held order : List ℕ) (tested : List (List Bool)) → IsRollout r → Contains tested (first_state r held) →
    AreAllReached r held tested → IsSafeOrder r held order → (n : ℕ) → n ≤ length order →
    Contains tested (marks_of r (core r held (take n order)))
core_tested r held order tested is begin all safe zero within = subst (λ (marks : List Bool). Contains tested marks) (core_begin r held) begin
core_tested r held order tested is begin all safe (suc n) within =
    subst (λ (marks : List Bool). Contains tested marks) (ap (λ (xs : List ℕ). marks_of r (core r held xs)) (sym longer))
    (one_more step step_known (take n order) (safe.beginning.safe n (omega (arith, within)))
    (core_tested r held order tested is begin all safe n (omega (arith, within))))
  where
    step : ℕ
    step = get_or order n 0

    step_known : step < step_count r
    step_known = safe.beginning.known n 0 (omega (arith, within))

    longer : take (suc n) order ≡ take n order ++ step ∷ []
    longer = ap (λ (m : ℕ). take m order) (let next : suc n ≡ n + 1 = omega arith in next) ∙ take_more order n 0 (omega (arith, within))

    one_more : (k : ℕ) → k < step_count r → (steps : List ℕ) → IsSafe r held (is_one_of steps) → Contains tested (marks_of r (core r held steps)) →
        Contains tested (marks_of r (core r held (steps ++ k ∷ [])))
    one_more k known steps steps_safe here = by_kind (kind_of_step r held k) refl
      where
        stays : (done_by (kind_of_step r held k) true ≡ done_by (kind_of_step r held k) (is_one_of steps k)) →
            Contains tested (marks_of r (core r held (steps ++ k ∷ [])))
        stays same = subst (λ (marks : List Bool). Contains tested marks) (sym (core_stays r held steps k same)) here

        at : get_or tested here.0 [] ≡ marks_of r (core r held steps)
        at = get_or_default tested here.0 [] (marks_of r (core r held steps)) here.1 ∙ here.2

        follows : kind_of_step r held k ≡ Between → is_one_of steps k ≡ false → Contains tested (marks_of r (core r held (steps ++ k ∷ [])))
        follows between new =
            let more : set (marks_of r (core r held steps)) k true ≡ marks_of r (core r held (steps ++ k ∷ [])) =
            marks_more r (core r held steps) (core r held (steps ++ k ∷ [])) k known
            (ap (λ (kind : Kind). done_by kind (is_one_of (steps ++ k ∷ []) k)) between ∙ one_of_last steps k)
            (λ i other. ap (done_by (kind_of_step r held i)) (one_of_other steps k i other)) in
            all (marks_of r (core r held (steps ++ k ∷ []))) (record {
              from = here.0;
              within = here.1;
              safe = marks_safe r held (core r held steps) (get_or tested here.0 []) at (core_safe r held steps is steps_safe);
              step = k;
              follows = record {
                known = known;
                between = between;
                left = ap (λ (marks : List Bool). is_marked marks k) at ∙ marks_at r (core r held steps) k known
                    ∙ ap (λ (kind : Kind). done_by kind (is_one_of steps k)) between ∙ new;
              };
              same = sym (ap (λ (marks : List Bool). set marks k true) at ∙ more);
            })

        by_kind : (kind : Kind) → kind_of_step r held k ≡ kind → Contains tested (marks_of r (core r held (steps ++ k ∷ [])))
        by_kind First kind_is = stays (ap (λ (kind : Kind). done_by kind true) kind_is ∙ sym (ap (λ (kind : Kind). done_by kind (is_one_of steps k)) kind_is))
        by_kind Last kind_is = stays (ap (λ (kind : Kind). done_by kind true) kind_is ∙ sym (ap (λ (kind : Kind). done_by kind (is_one_of steps k)) kind_is))
        by_kind Between kind_is = elim (cases_Bool (is_one_of steps k)) [
          | inl there ↦ stays (ap (done_by (kind_of_step r held k)) (sym there))
          | inr new ↦ follows kind_is new
        ]

-- where each safe one of the tested states lacks a step between, no order is safe
pub no_order : (r : Rollout) (held : List ℕ) (tested : List (List Bool)) → IsRollout r → Contains tested (first_state r held) →
    AreAllReached r held tested →
    ((i : ℕ) → i < length tested → IsSafe r held (is_marked (get_or tested i [])) → (k : ℕ) × MayFollow r held (get_or tested i []) k) →
    (order : List ℕ) → IsSafeOrder r held order → ⊥
no_order r held tested is begin all lacking order safe =
    let whole : take (length order) order ≡ order = take_all (length order) order (omega arith) in
    let here = core_tested r held order tested is begin all safe (length order) (omega arith) in
    let at : get_or tested here.0 [] ≡ marks_of r (core r held order) =
    get_or_default tested here.0 [] (marks_of r (core r held (take (length order) order))) here.1 ∙ here.2 ∙
    ap (λ (xs : List ℕ). marks_of r (core r held xs)) whole in
    let order_safe : IsSafe r held (is_one_of order) = subst (λ (xs : List ℕ). IsSafe r held (is_one_of xs)) whole
    (safe.beginning.safe (length order) (omega arith)) in
    let lacks = lacking here.0 here.1 (marks_safe r held (core r held order) (get_or tested here.0 []) at (core_safe r held order is order_safe)) in
    both_ways (is_one_of order lacks.0)
    (sym (ap (λ (kind : Kind). done_by kind (is_one_of order lacks.0)) lacks.1.between)
    ∙ sym (marks_at r (core r held order) lacks.0 lacks.1.known) ∙ ap (λ (marks : List Bool). is_marked marks lacks.0) (sym at) ∙ lacks.1.left)
    (has_one_of order lacks.0 (has_contains order lacks.0 (safe.all lacks.0 lacks.1.known)))
