use Rattle.std.proofs.Common.{◌+◌, ◌++◌, ◌∷◌, [], List, sym, subst}
use Rattle.json.specs.Json.{object}
use Rattle.live_reader.specs.declared.tree.Step.{Step}
use Rattle.live_reader.specs.Walks.{StepOver}
use Rattle.live_reader.proofs.WalkLaws.{walk_begins, walk_goes_on, walk_ends, object_inside}
use Rattle.live_reader.proofs.MemberLaws.{object_there, never_none}
use Rattle.live_reader.proofs.PlaceLaws.{over_more}
use Rattle.live_reader.proofs.walk.steps_at.Goals as goal

pub returns-in_default : goal.returns-in_default
returns-in_default c ms stands = absurd (never_none _ (c.in_default.ensures (object ms) stands))

pub loop-step-init : goal.loop-step-init
loop-step-init c ms stands =
    let there = object_there c.args.place c.in-Some.start (object ms) (c.in-Some.ensures (object ms) stands) in
    let inside = object_inside c.args.tape.now c.args.place ms stands in
    walk_begins c.args.tape.now (c.args.place + 1) c.in-Some.start ms inside.0 _ there.2 inside.1
    (subst (λ (l : List Step). StepOver c.args.tape.now l []) (sym c.new-steps.ensures.items) tt)

pub loop-step-preserved : goal.loop-step-preserved
loop-step-preserved c ms stands =
    let step = c.in-Some-step_at.step in
    walk_goes_on c.args.tape.now (c.args.place + 1) c.loop-step.next ms step _ _ (c.loop-step.invariant ms stands) c.in-Some-step_at.ensures.member
    (λ seen j value held. subst (λ (l : List Step). StepOver c.args.tape.now l (seen ++ record { name = step.name.now; place = step.place; value = j } ∷ []))
    (sym c.in_ok-push.ensures.items)
    (over_more c.args.tape.now c.loop-step.steps.items seen step j held value))

pub returns : goal.returns
returns c ms stands =
    walk_ends c.args.tape.now (c.args.place + 1) c.loop-step.next ms _ (c.loop-step.invariant ms stands) c.in_default-step_at.ensures.member
