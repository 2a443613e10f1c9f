-- What a held rollout tells of its steps.
use Rattle.std.proofs.Common.{◌≡◌, ℕ, ◌+◌, ◌<◌, sym, ◌∙◌, ap, List, [], ◌∷◌, ◌++◌, length, get_or, filter, arith, Bool, true, false, cond, append-nil, append_assoc, zero-add}
use Rattle.std.proofs.lemmas.List.Elements.{filter-append}
use Rattle.cost_base.specs.Lists.{numbers_from}
use Rattle.cost_base.proofs.ListLemmas.{get_or-map-numbers_from, length-map-numbers_from, numbers_from-push}
use Rattle.change_steps.specs.declared.kinds.Kind.{Kind}
use Rattle.change_steps.specs.declared.reach.Reach.{Reach}
use Rattle.change_steps.specs.declared.kinds.Kind.TheVariants.{Between}
use Rattle.change_steps.specs.Rollouts.{step_count}
use Rattle.change_steps.specs.Kinds.{kind_of_step}
use Rattle.change_steps.specs.Search.{HeldRollout, IsHeldRollout}

pub kind_known : (q p : HeldRollout) (kinds read : List Kind) (reach : Reach) (step : ℕ) → IsHeldRollout q kinds reach → q ≡ p → read ≡ kinds →
    step < step_count p.rollout → step < length read
kind_known q p kinds read reach step is same read_is known =
    let count = ap length (read_is ∙ is.same) ∙ length-map-numbers_from (kind_of_step q.rollout q.held) 0 (step_count q.rollout) in
    let steps = ap (λ (x : HeldRollout). step_count x.rollout) same in
    omega (arith, count, steps, known)

pub kind_is : (q p : HeldRollout) (kinds read : List Kind) (reach : Reach) (step : ℕ) → IsHeldRollout q kinds reach → q ≡ p → read ≡ kinds →
    step < step_count p.rollout → get_or read step Between ≡ kind_of_step p.rollout p.held step
kind_is q p kinds read reach step is same read_is known =
    let steps = ap (λ (x : HeldRollout). step_count x.rollout) same in
    ap (λ (ks : List Kind). get_or ks step Between) (read_is ∙ is.same)
    ∙ get_or-map-numbers_from (kind_of_step q.rollout q.held) 0 (step_count q.rollout) step Between (omega (arith, steps, known))
    ∙ ap (kind_of_step q.rollout q.held) (zero-add step)
    ∙ ap (λ (x : HeldRollout). kind_of_step x.rollout x.held step) same

-- steps that pass a test, one after another

passing : (p : ℕ → Bool) (i : ℕ) → filter p (numbers_from 0 (i + 1)) ≡ filter p (numbers_from 0 i) ++ cond (p i) (i ∷ []) []
passing p i =
    ap (filter p) (numbers_from-push 0 i ∙ ap (λ (k : ℕ). numbers_from 0 i ++ k ∷ []) (zero-add i)) ∙ filter-append p (numbers_from 0 i) (i ∷ [])

pub passing_yes : (p : ℕ → Bool) (i : ℕ) → p i ≡ true → filter p (numbers_from 0 (i + 1)) ≡ filter p (numbers_from 0 i) ++ i ∷ []
passing_yes p i passes = passing p i ∙ ap (λ (b : Bool). filter p (numbers_from 0 i) ++ cond b (i ∷ []) []) passes

pub passing_no : (p : ℕ → Bool) (i : ℕ) → p i ≡ false → filter p (numbers_from 0 (i + 1)) ≡ filter p (numbers_from 0 i)
passing_no p i fails = passing p i ∙ ap (λ (b : Bool). filter p (numbers_from 0 i) ++ cond b (i ∷ []) []) fails ∙ append-nil (filter p (numbers_from 0 i))

-- one step more, put behind those that pass, where it passes
pub kept_more : (old xs new : List ℕ) (p : ℕ → Bool) (i : ℕ) (test : Bool) → p i ≡ test → xs ≡ old ++ filter p (numbers_from 0 i) →
    new ≡ cond test (xs ++ i ∷ []) xs → new ≡ old ++ filter p (numbers_from 0 (i + 1))
kept_more old xs new p i true passes so_far more =
    more ∙ ap (λ (ys : List ℕ). ys ++ i ∷ []) so_far ∙ append_assoc old (filter p (numbers_from 0 i)) (i ∷ [])
    ∙ ap (λ (ys : List ℕ). old ++ ys) (sym (passing_yes p i passes))
kept_more old xs new p i false fails so_far same = same ∙ so_far ∙ ap (λ (ys : List ℕ). old ++ ys) (sym (passing_no p i fails))
