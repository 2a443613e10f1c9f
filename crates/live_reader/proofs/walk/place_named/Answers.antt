use Rattle.std.proofs.Common.{◌+◌, refl, sym, ap, ◌∙◌, subst}
use Rattle.std.specs.Prelude.{option_map}
use Rattle.std.specs.Option.{option_and_then}
use Rattle.cost_base.specs.Lists.{same_bytes}
use Rattle.json.specs.Json.{object}
use Rattle.live_reader.specs.Places.{Stands, object_members, member_named}
use Rattle.live_reader.proofs.WalkLaws.{walk_begins, walk_goes_on, walk_ends, object_inside}
use Rattle.live_reader.proofs.MemberLaws.{last_place-here, last_place-before, object_there, no_members}
use Rattle.live_reader.proofs.walk.place_named.Goals as goal

pub returns-in_err-next : goal.returns-in_err-next
returns-in_err-next c j stands =
    c.from_residual.ensures ∙ sym (ap (λ o. option_map (λ m. m.place) (option_and_then (member_named c.args.name.now) o))
    (no_members c.args.place j (c.in_err-next.ensures j stands)))

pub loop-step-init : goal.loop-step-init
loop-step-init c ms stands =
    let there = object_there c.args.place c.in_ok-next.next (object ms) (c.in_ok-next.ensures (object ms) stands) in
    let inside = object_inside c.args.tape.now c.args.place ms stands in
    walk_begins c.args.tape.now (c.args.place + 1) c.in_ok-next.next ms inside.0 _ there.2 inside.1 refl

pub loop-step-preserved-then-eq : goal.loop-step-preserved-then-eq
loop-step-preserved-then-eq c ms stands =
    walk_goes_on c.args.tape.now (c.args.place + 1) c.loop-step.next ms c.in-Some.step _ _ (c.loop-step.invariant ms stands) c.in-Some.ensures.member
    (λ seen j value held. last_place-here (λ m. same_bytes m.name c.args.name.now) seen _
    (ap (λ n. same_bytes n c.args.name.now) (sym c.as_bytes.ensures.value) ∙ sym c.if-eq.ensures))

pub loop-step-preserved : goal.loop-step-preserved
loop-step-preserved c ms stands =
    walk_goes_on c.args.tape.now (c.args.place + 1) c.loop-step.next ms c.in-Some.step _ _ (c.loop-step.invariant ms stands) c.in-Some.ensures.member
    (λ seen j value held. last_place-before (λ m. same_bytes m.name c.args.name.now) seen _ c.loop-step.last
    (ap (λ n. same_bytes n c.args.name.now) (sym c.as_bytes.ensures.value) ∙ sym c.if-eq.ensures) held)

pub returns : goal.returns
returns c j stands =
    let there = object_there c.args.place c.in_ok-next.next j (c.in_ok-next.ensures j stands) in
    walk_ends c.args.tape.now (c.args.place + 1) c.loop-step.next there.0 _
    (c.loop-step.invariant there.0 (subst (Stands c.args.tape.now c.args.place) there.1 stands)) c.in_default.ensures.member
    ∙ sym (ap (λ x. option_map (λ m. m.place) (option_and_then (member_named c.args.name.now) (object_members c.args.place x))) there.1)
