-- States step by step: their marks and their costs.
use Rattle.std.proofs.Common.{◌≡◌, ◌≢◌, ℕ, ◌+◌, ◌<◌, ◌≤◌, sym, ◌∙◌, ap, subst, List, [], All, length, get_or, set, take, inl, inr, arith, Bool, true, false, ◌||◌, ◌==◌, cond, eq-eqb, ltb, ne_eqb, length-set, lt-ltb, le-ltb, get_or-set_other}
use Rattle.std.proofs.Math.Bool.{or-false}
use Rattle.std.proofs.lemmas.Bool.{both_ways, cases_Bool, cases_eq, cases_lt, cond-false, cond-true, false_from_ne_true, or_right}
use Rattle.std.proofs.lemmas.List.Folds.{list_any_more}
use Rattle.std.proofs.lemmas.List.{ext_get_or, get_or-set_same, take_more}
use Rattle.cost_base.specs.Lists.{Has}
use Rattle.area_graph.specs.declared.Point.{Point}
use Rattle.area_graph.specs.Area.{Area}
use Rattle.area_graph.specs.Costs.{FitsPoint, at_costs}
use Rattle.change_steps.specs.Rollouts.{CostMoves, IsRollout, Rollout, variables_of_step, step_count}
use Rattle.change_steps.specs.Orders.{all_done, cost_in, costs_in, is_changed}
use Rattle.change_steps.specs.States.{marks_of}
use Rattle.change_steps.specs.Search.{HasMore}
use Rattle.change_steps.proofs.StateCosts.{changed_by, changed_if, changes_more, cost_at, cost_changed, cost_left, length-costs_in, state_fits}
use Rattle.change_steps.proofs.KindLaws.{same_change}
use Rattle.change_steps.proofs.MarkLaws.{marks_agree, marks_more, marks_push}
use Rattle.cost_base.proofs.ListLemmas.{same_test}
use Rattle.cost_base.specs.Marks.{is_marked, is_one_of}
use Rattle.cost_base.proofs.MarkLaws.{has_one_of, one_of_has}

-- the variables of a step have costs
pub variables_known : (r : Rollout) (step : ℕ) → IsRollout r → step < step_count r → All (λ v. v < length r.moves.present) (variables_of_step r.moves step)
variables_known r step is known = is.moves.known step [] known

pub point_is : (scale : ℕ) (values costs : List ℕ) → scale ≡ 1 → values ≡ costs → record { scale = scale; values = values } ≡ at_costs costs
point_is scale values costs one same = ap (λ (n : ℕ). let p : Point = record { scale = n; values = values } in p) one ∙ ap (λ (ws : List ℕ). at_costs ws) same

-- the point of a state fits the graph
pub point_fits : (r : Rollout) (g : Area) (marks : List Bool) (p : Point) → IsRollout r → g ≡ r.graph → p ≡ at_costs (costs_in r.moves (is_marked marks)) →
    FitsPoint g p
point_fits r g marks p is graph same =
    subst (λ (h : Area). FitsPoint h p) (sym graph) (subst (λ (q : Point). FitsPoint r.graph q) (sym same) (state_fits r (is_marked marks) is))

-- Costs are put variable by variable.

-- the first of the variables have these costs, and the others are as they were
pub record ArePut (olds variables costs : List ℕ) (i : ℕ) (news : List ℕ) : Type 0 where
  pub count : length news ≡ length olds
  pub put : (v : ℕ) → get_or news v 0 ≡ cond (is_one_of (take i variables) v) (get_or costs v 0) (get_or olds v 0)

pub put_more : (olds mids news variables costs : List ℕ) (i : ℕ) → i < length variables → get_or variables i 0 < length mids →
    ArePut olds variables costs i mids →
    news ≡ set mids (get_or variables i 0) (get_or costs (get_or variables i 0) 0) → ArePut olds variables costs (i + 1) news
put_more olds mids news variables costs i within known are is = record {
  count = ap length is ∙ length-set mids (get_or variables i 0) (get_or costs (get_or variables i 0) 0) ∙ are.count;
  put = λ v. ap (λ (xs : List ℕ). get_or xs v 0) is ∙ elim (cases_eq v (get_or variables i 0)) [
    | inl same ↦
        ap (λ (k : ℕ). get_or (set mids (get_or variables i 0) (get_or costs (get_or variables i 0) 0)) k 0) same
        ∙ get_or-set_same mids (get_or variables i 0) (get_or costs (get_or variables i 0) 0) 0 known
        ∙ ap (λ (k : ℕ). get_or costs k 0) (sym same)
        ∙ sym (cond-true (is_one_of (take (i + 1) variables) v) (get_or costs v 0) (get_or olds v 0)
        (more v ∙ or_right (is_one_of (take i variables) v) (get_or variables i 0 == v) (eq-eqb (get_or variables i 0) v (sym same))))
    | inr other ↦
        get_or-set_other mids (get_or variables i 0) v (get_or costs (get_or variables i 0) 0) 0 other ∙ are.put v
        ∙ ap (λ (b : Bool). cond b (get_or costs v 0) (get_or olds v 0)) (sym (more v
        ∙ ap (λ (b : Bool). is_one_of (take i variables) v || b) (ne_eqb (get_or variables i 0) v (λ same. other (sym same)))
        ∙ or-false (is_one_of (take i variables) v)))
  ];
}
  where
    more : (v : ℕ) → is_one_of (take (i + 1) variables) v ≡ (is_one_of (take i variables) v || (get_or variables i 0 == v))
    more v = list_any_more (λ y. y == v) variables i 0 within

-- At present.

-- no cost is changed where no step is done
pub none_costs : (m : CostMoves) (f : ℕ → Bool) → ((k : ℕ) → k < length m.steps → f k ≡ false) → costs_in m f ≡ m.present
none_costs m f none = ext_get_or 0 (costs_in m f) m.present (length-costs_in m f) (λ v within.
    let near : v < length m.present = let count = length-costs_in m f in omega (arith, count, within) in
    cost_at m f v near ∙ cost_left m f v (false_from_ne_true (is_changed m f v) (λ changed.
    let by = changed_by m f v changed in both_ways (f by.0) (none by.0 by.1) by.2)))

-- A step is done.

pub set_more : (r : Rollout) (marks : List Bool) (step : ℕ) → step < step_count r → length marks ≡ step_count r →
    HasMore r (is_marked marks) (is_marked (set marks step true)) step
set_more r marks step known count = record {
  known = known;
  done = get_or-set_same marks step true false (omega (arith, count, known));
  others = λ k other. sym (get_or-set_other marks step k true false other);
}

alike : (m : CostMoves) (f g : ℕ → Bool) (v : ℕ) → is_changed m f v ≡ is_changed m g v → cost_in m f v ≡ cost_in m g v
alike m f g v same = elim (cases_Bool (is_changed m g v)) [
  | inl changed ↦ cost_changed m f v (same ∙ changed) ∙ sym (cost_changed m g v changed)
  | inr left ↦ cost_left m f v (same ∙ left) ∙ sym (cost_left m g v left)
]

pub do_costs : (r : Rollout) (marks : List Bool) (values old wanted variables : List ℕ) (step : ℕ) → step < step_count r →
    length marks ≡ step_count r → old ≡ costs_in r.moves (is_marked marks) → variables ≡ variables_of_step r.moves step → wanted ≡ r.moves.wanted →
    length values ≡ length old → ((v : ℕ) → get_or values v 0 ≡ cond (is_one_of variables v) (get_or wanted v 0) (get_or old v 0)) →
    values ≡ costs_in r.moves (is_marked (set marks step true))
do_costs r marks values old wanted variables step known count old_is variables_are wanted_are as_long put =
    ext_get_or 0 values (costs_in r.moves more) (length_is ∙ sym (length-costs_in r.moves more)) (λ v within.
    let near : v < length r.moves.present = omega (arith, length_is, within) in
    elim (cases_Bool (is_one_of variables v)) [
      | inl has ↦
          put v ∙ cond-true (is_one_of variables v) (get_or wanted v 0) (get_or old v 0) has ∙ ap (λ (ws : List ℕ). get_or ws v 0) wanted_are
          ∙ sym (cost_at r.moves more v near ∙ cost_changed r.moves more v (changed_if r.moves more v step known (set_more r marks step known count).done
          (subst (λ (xs : List ℕ). Has xs v) variables_are (one_of_has variables v has))))
      | inr lacks ↦
          put v ∙ cond-false (is_one_of variables v) (get_or wanted v 0) (get_or old v 0) lacks ∙ ap (λ (ws : List ℕ). get_or ws v 0) old_is
          ∙ cost_at r.moves (is_marked marks) v near
          ∙ alike r.moves (is_marked marks) more v (same_change r (is_marked marks) more step v (set_more r marks step known count)
          (λ has. both_ways (is_one_of variables v) lacks (has_one_of variables v (subst (λ (xs : List ℕ). Has xs v) (sym variables_are) has))))
          ∙ sym (cost_at r.moves more v near)
    ])
  where
    more : ℕ → Bool
    more = is_marked (set marks step true)

    length_is : length values ≡ length r.moves.present
    length_is = as_long ∙ ap length old_is ∙ length-costs_in r.moves (is_marked marks)

-- A step is taken back.

pub undo_costs : (r : Rollout) (marks : List Bool) (values old present variables : List ℕ) (step : ℕ) → IsRollout r → step < step_count r →
    length marks ≡ step_count r → old ≡ costs_in r.moves (is_marked marks) → variables ≡ variables_of_step r.moves step → present ≡ r.moves.present →
    length values ≡ length old → ((v : ℕ) → get_or values v 0 ≡ cond (is_one_of variables v) (get_or present v 0) (get_or old v 0)) →
    values ≡ costs_in r.moves (is_marked (set marks step false))
undo_costs r marks values old present variables step is known count old_is variables_are present_are as_long put =
    ext_get_or 0 values (costs_in r.moves less) (length_is ∙ sym (length-costs_in r.moves less)) (λ v within.
    let near : v < length r.moves.present = omega (arith, length_is, within) in
    elim (cases_Bool (is_one_of variables v)) [
      | inl has ↦
          put v ∙ cond-true (is_one_of variables v) (get_or present v 0) (get_or old v 0) has ∙ ap (λ (ws : List ℕ). get_or ws v 0) present_are
          ∙ sym (cost_at r.moves less v near ∙ cost_left r.moves less v (left v (subst (λ (xs : List ℕ). Has xs v) variables_are (one_of_has variables v has))))
      | inr lacks ↦
          put v ∙ cond-false (is_one_of variables v) (get_or present v 0) (get_or old v 0) lacks ∙ ap (λ (ws : List ℕ). get_or ws v 0) old_is
          ∙ cost_at r.moves (is_marked marks) v near
          ∙ alike r.moves (is_marked marks) less v (same v (λ has. both_ways (is_one_of variables v) lacks
          (has_one_of variables v (subst (λ (xs : List ℕ). Has xs v) (sym variables_are) has))))
          ∙ sym (cost_at r.moves less v near)
    ])
  where
    less : ℕ → Bool
    less = is_marked (set marks step false)

    length_is : length values ≡ length r.moves.present
    length_is = as_long ∙ ap length old_is ∙ length-costs_in r.moves (is_marked marks)

    undone : is_marked (set marks step false) step ≡ false
    undone = get_or-set_same marks step false false (omega (arith, count, known))

    left : (v : ℕ) → Has (variables_of_step r.moves step) v → is_changed r.moves (is_marked (set marks step false)) v ≡ false
    left v has = false_from_ne_true (is_changed r.moves (is_marked (set marks step false)) v) (λ changed.
        let by = changed_by r.moves (is_marked (set marks step false)) v changed in
        both_ways (is_marked (set marks step false) by.0) (ap (is_marked (set marks step false)) (is.moves.once by.0 step v by.3 has) ∙ undone) by.2)

    others : (k : ℕ) → k ≢ step → is_marked (set marks step false) k ≡ is_marked marks k
    others k other = get_or-set_other marks step k false false other

    same : (v : ℕ) → (Has (variables_of_step r.moves step) v → ⊥) →
        is_changed r.moves (is_marked marks) v ≡ is_changed r.moves (is_marked (set marks step false)) v
    same v away = same_test (is_changed r.moves (is_marked marks) v) (is_changed r.moves (is_marked (set marks step false)) v)
        (changes_more r.moves (is_marked marks) (is_marked (set marks step false)) v (λ k within done has.
        others k (λ at. away (subst (λ (i : ℕ). Has (variables_of_step r.moves i) v) at has)) ∙ done))
        (changes_more r.moves (is_marked (set marks step false)) (is_marked marks) v (λ k within done has.
        sym (others k (λ at. away (subst (λ (i : ℕ). Has (variables_of_step r.moves i) v) at has))) ∙ done))

-- Steps one after another.

pub after_more : (r : Rollout) (marks new : List Bool) (steps : List ℕ) (i : ℕ) → i < length steps → get_or steps i 0 < step_count r →
    marks ≡ marks_of r (is_one_of (take i steps)) → new ≡ set marks (get_or steps i 0) true → new ≡ marks_of r (is_one_of (take (i + 1) steps))
after_more r marks new steps i within known was is =
    is ∙ ap (λ (ms : List Bool). set ms (get_or steps i 0) true) was ∙ marks_push r (take i steps) (get_or steps i 0) known
    ∙ ap (λ (xs : List ℕ). marks_of r (is_one_of xs)) (sym (take_more steps i 0 within))

pub wanted_more : (r : Rollout) (marks new : List Bool) (i : ℕ) → i < step_count r → marks ≡ marks_of r (λ k. ltb k i) → new ≡ set marks i true →
    new ≡ marks_of r (λ k. ltb k (i + 1))
wanted_more r marks new i known was is =
    is ∙ ap (λ (ms : List Bool). set ms i true) was
    ∙ marks_more r (λ k. ltb k i) (λ k. ltb k (i + 1)) i known (lt-ltb i (i + 1) (omega arith)) (λ k other. elim (cases_lt k i) [
      | inl below ↦ lt-ltb k (i + 1) (omega (arith, below)) ∙ sym (lt-ltb k i below)
      | inr above ↦ elim (cases_lt i k) [
        | inl more ↦ le-ltb k (i + 1) (omega (arith, more)) ∙ sym (le-ltb k i above)
        | inr not ↦ absurd (other (omega (arith, above, not)))
      ]
    ])

pub wanted_all : (r : Rollout) (marks : List Bool) (i : ℕ) → step_count r ≤ i → marks ≡ marks_of r (λ k. ltb k i) → marks ≡ marks_of r all_done
wanted_all r marks i past was = was ∙ marks_agree r (λ k. ltb k i) all_done (λ k within. lt-ltb k i (omega (arith, past, within)))
