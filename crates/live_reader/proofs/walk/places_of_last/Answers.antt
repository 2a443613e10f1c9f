use Rattle.std.proofs.Common.{◌≡◌, ◌-◌, ◌++◌, ◌∷◌, [], List, ℕ, true, false, cond, drop, sym, ap, ◌∙◌, subst, arith}
use Rattle.std.specs.Prelude.{reverse}
use Rattle.std.specs.List.{list_any}
use Rattle.std.proofs.lemmas.Bool.{not-true, not-false}
use Rattle.cost_base.specs.Lists.{same_bytes}
use Rattle.live_reader.specs.Walks.{last_places}
use Rattle.live_reader.proofs.PlaceLaws.{AreGathered, none_gathered, left_out, kept, twice_reversed, emptied}
use Rattle.live_reader.proofs.walk.places_of_last.Goals as goal

pub loop-left-init : goal.loop-left-init
loop-left-init c = none_gathered c.args.steps.now c.new-names.result c.new-places.result.items c.new-names.ensures c.new-places.ensures.items

pub step_in-step-requires : goal.step_in-step-requires
step_in-step-requires c = omega (arith, c.loop-left-test.true, c.loop-left.invariant.within)

pub loop-left-preserved-in-Continue-branch-2 : goal.loop-left-preserved-in-Continue-branch-2
loop-left-preserved-in-Continue-branch-2 c =
    let step = c.step_in-step.result in
    let names = c.loop-left.names in
    let new : list_any (same_bytes step.name.now) names ≡ false =
    ap (λ n. list_any (same_bytes n) names) (sym c.as_bytes.ensures.value) ∙ not-true _ (sym c.in_ok-add.ensures.new ∙ c.if-branch.true) in
    subst (λ (ps : List ℕ). AreGathered c.args.steps.now (c.loop-left.left - 1) c.add.new.self ps) (sym c.in_ok-push.ensures.items)
    (kept c.args.steps.now c.loop-left.left step names c.add.new.self c.loop-left.places.items c.loop-left-test.true c.loop-left.invariant
    c.step_in-step.ensures new
    (c.in_ok-add.ensures.names ∙ ap (λ n. cond (list_any (same_bytes n) names) names (names ++ n ∷ [])) c.as_bytes.ensures.value
    ∙ ap (λ b. cond b names (names ++ step.name.now ∷ [])) new))

pub loop-left-preserved : goal.loop-left-preserved
loop-left-preserved c =
    let step = c.step_in-step.result in
    let names = c.loop-left.names in
    let there : list_any (same_bytes step.name.now) names ≡ true =
    ap (λ n. list_any (same_bytes n) names) (sym c.as_bytes.ensures.value) ∙ not-false _ (sym c.in_ok-add.ensures.new ∙ c.if-branch.false) in
    let same : c.add.new.self ≡ names =
    c.in_ok-add.ensures.names ∙ ap (λ n. cond (list_any (same_bytes n) names) names (names ++ n ∷ [])) c.as_bytes.ensures.value
    ∙ ap (λ b. cond b names (names ++ step.name.now ∷ [])) there in
    subst (λ (ns : List (List ℕ)). AreGathered c.args.steps.now (c.loop-left.left - 1) ns c.loop-left.places.items) (sym same)
    (left_out c.args.steps.now c.loop-left.left step names c.loop-left.places.items c.loop-left-test.true c.loop-left.invariant c.step_in-step.ensures there)

pub returns : goal.returns
returns c =
    c.reverse.ensures.items ∙ ap reverse c.loop-left.invariant.places_are ∙ twice_reversed _
    ∙ ap (λ n. last_places (drop n c.args.steps.now)) (emptied c.loop-left.left c.loop-left-test.false)
