use Rattle.std.proofs.Common.{◌≡◌, ◌+◌, Some, refl, sym, ap, ◌∙◌}
use Rattle.std.specs.Prelude.{option_map, is_some, nat_eq}
use Rattle.std.specs.Option.{option_eq}
use Rattle.std.proofs.lemmas.Bool.{ne_eqb, eq-eqb}
use Rattle.text_lines.specs.Numbers.{quad}
use Rattle.json.specs.Json.{object}
use Rattle.live_reader.specs.Places.{members_at}
use Rattle.live_reader.specs.JsonLsas.{is_quad, names_area}
use Rattle.live_reader.proofs.WalkLaws.{walk_begins, walk_goes_on, walk_ends, object_inside}
use Rattle.live_reader.proofs.MemberLaws.{last_place-here, last_place-before, object_there, never_none}
use Rattle.live_reader.proofs.PlaceLaws.{all_push, some_area, walk_breaks_area}
use Rattle.live_reader.proofs.walk.area_place.Goals as goal

pub returns-in_err-next : goal.returns-in_err-next
returns-in_err-next c ms stands = absurd (never_none _ (c.in_err-next.ensures (object ms) stands))

pub loop-step-init : goal.loop-step-init
loop-step-init c ms stands =
    let there = object_there c.args.place c.in_ok-next.next (object ms) (c.in_ok-next.ensures (object ms) stands) in
    let inside = object_inside c.args.tape.now c.args.place ms stands in
    walk_begins c.args.tape.now (c.args.place + 1) c.in_ok-next.next ms inside.0 _ there.2 inside.1 (refl, refl)

pub returns-in_err-quad : goal.returns-in_err-quad
returns-in_err-quad c ms stands =
    c.from_residual-in_err-quad.ensures ∙ sym (ap (option_map (option_map (λ m. m.place)))
    (walk_breaks_area c.args.tape.now c.args.area (c.args.place + 1) c.loop-step.next ms c.in-Some.step _ (c.loop-step.invariant ms stands)
    c.in-Some.ensures.member
    (ap quad (sym c.as_bytes.ensures.value) ∙ sym c.in_err-quad.ensures)))

pub loop-step-preserved-then-branch-area : goal.loop-step-preserved-then-branch-area
loop-step-preserved-then-branch-area c ms stands =
    let read : quad c.in-Some.step.name.now ≡ Some c.in_ok-quad.field-0 = ap quad (sym c.as_bytes.ensures.value) ∙ sym c.in_ok-quad.ensures in
    walk_goes_on c.args.tape.now (c.args.place + 1) c.loop-step.next ms c.in-Some.step _ _ (c.loop-step.invariant ms stands) c.in-Some.ensures.member
    (λ seen j value held. (
      all_push is_quad seen _ held.0 (ap is_some read),
      last_place-here (names_area c.args.area) seen _ (ap (λ o. option_eq nat_eq o (Some c.args.area)) read ∙
          eq-eqb c.in_ok-quad.field-0 c.args.area c.if-branch-area.true),
    ))

pub loop-step-preserved : goal.loop-step-preserved
loop-step-preserved c ms stands =
    let read : quad c.in-Some.step.name.now ≡ Some c.in_ok-quad.field-0 = ap quad (sym c.as_bytes.ensures.value) ∙ sym c.in_ok-quad.ensures in
    walk_goes_on c.args.tape.now (c.args.place + 1) c.loop-step.next ms c.in-Some.step _ _ (c.loop-step.invariant ms stands) c.in-Some.ensures.member
    (λ seen j value held. (
      all_push is_quad seen _ held.0 (ap is_some read),
      last_place-before (names_area c.args.area) seen _ c.loop-step.found (ap (λ o. option_eq nat_eq o (Some c.args.area)) read ∙ ne_eqb c.in_ok-quad.field-0
          c.args.area c.if-branch-area.false) held.1,
    ))

pub returns : goal.returns
returns c ms stands =
    let all = walk_ends c.args.tape.now (c.args.place + 1) c.loop-step.next ms _ (c.loop-step.invariant ms stands) c.in_default.ensures.member in
    ap Some all.1 ∙ sym (ap (option_map (option_map (λ m. m.place))) (some_area c.args.area (members_at (c.args.place + 1) ms) all.0))
