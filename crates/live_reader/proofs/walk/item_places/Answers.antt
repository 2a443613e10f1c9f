use Rattle.std.proofs.Common.{◌+◌, ◌++◌, ◌∷◌, [], List, ℕ, sym, subst}
use Rattle.json.specs.Json.{array}
use Rattle.live_reader.specs.Walks.{StandAt}
use Rattle.live_reader.proofs.WalkLaws.{items_begin, items_go_on, items_end, array_inside}
use Rattle.live_reader.proofs.MemberLaws.{array_there, never_none}
use Rattle.live_reader.proofs.PlaceLaws.{stand_more}
use Rattle.live_reader.proofs.walk.item_places.Goals as goal

pub returns-in_default : goal.returns-in_default
returns-in_default c js stands = absurd (never_none _ (c.in_default.ensures (array js) stands))

pub loop-end-init : goal.loop-end-init
loop-end-init c js stands =
    let there = array_there c.args.place c.in-Some.start (array js) (c.in-Some.ensures (array js) stands) in
    let inside = array_inside c.args.tape.now c.args.place js stands in
    items_begin c.args.tape.now (c.args.place + 1) c.in-Some.start js inside.0 _ there.2 inside.1
    (subst (λ (l : List ℕ). StandAt c.args.tape.now l []) (sym c.new-places.ensures.items) tt)

pub loop-end-preserved : goal.loop-end-preserved
loop-end-preserved c js stands =
    items_go_on c.args.tape.now (c.args.place + 1) c.loop-end.next c.in-Some-item_end.end js _ _ (c.loop-end.invariant js stands)
    c.in-Some-item_end.ensures.item
    (λ seen j value held. subst (λ (l : List ℕ). StandAt c.args.tape.now l (seen ++ record { place = c.loop-end.next; value = j } ∷ []))
    (sym c.in_ok-push.ensures.items)
    (stand_more c.args.tape.now c.loop-end.places.items seen c.loop-end.next j held value))

pub returns : goal.returns
returns c js stands =
    items_end c.args.tape.now (c.args.place + 1) c.loop-end.next js _ (c.loop-end.invariant js stands) c.in_default-item_end.ensures.item
