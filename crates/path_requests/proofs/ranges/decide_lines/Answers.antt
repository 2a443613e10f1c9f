use Rattle.std.proofs.Common.{◌≡◌, ◌-◌, ◌∙◌, ap, sym, arith, List, Option, drop, map}
use Rattle.std.specs.Prelude.{unwrap_or}
use Rattle.path_requests.specs.Meaning.{Range, AsItIs}
use Rattle.path_requests.specs.Chosen.{last_said}
use Rattle.path_requests.proofs.RangeSteps.{decided_more, decided_by_all, decided_by_none}
use Rattle.path_requests.proofs.ranges.decide_lines.Goals as goal

pub returns-in-Some : goal.returns-in-Some
returns-in-Some c =
    let d = c.args.names.now in
    let items = c.args.items.now in
    let place = c.loop-place.place in
    let range = c.in-Some.range in
    ap (λ (said : List (Option Range)). map (λ o. unwrap_or o range) said) c.loop-place.invariant
    ∙ decided_by_all d items (place - 1) place c.index-items-place.result range (omega (arith, c.loop-place-test.true))
    (omega (arith, c.loop-place-test.true, c.loop-place.auto.place)) (sym c.in-Some.ensures)

pub loop-place-preserved : goal.loop-place-preserved
loop-place-preserved c =
    let d = c.args.names.now in
    let items = c.args.items.now in
    let place = c.loop-place.place in
    c.decide_named.ensures (λ link. last_said d link (drop place items)) c.loop-place.invariant
    ∙ decided_more d items (place - 1) place c.index-items-place.result (omega (arith, c.loop-place-test.true))
    (omega (arith, c.loop-place-test.true, c.loop-place.auto.place)) (sym c.in-None.ensures)

pub returns : goal.returns
returns c =
    let d = c.args.names.now in
    let items = c.args.items.now in
    let none : c.loop-place.place ≡ 0 = omega (arith, c.loop-place-test.false) in
    ap (λ (said : List (Option Range)). map (λ o. unwrap_or o AsItIs) said)
    (c.loop-place.invariant ∙ ap (λ n. map (λ link. last_said d link (drop n items)) d.links) none)
    ∙ decided_by_none d items
