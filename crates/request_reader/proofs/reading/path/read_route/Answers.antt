use Rattle.std.proofs.Common.{◌∷◌, ◌∙◌, sym}
use Rattle.text_lines.specs.Lines.{words}
use Rattle.request_reader.specs.ReadingLines.{to_without}
use Rattle.request_reader.proofs.ReadingRoutes.{route_begin, route_more, route_off, route_done, route_cut, rest_shorter}
use Rattle.request_reader.proofs.reading.path.read_route.Goals as goal

pub returns-in_default-cut : goal.returns-in_default-cut
returns-in_default-cut c =
    route_cut (c.args.first.now ∷ to_without (words c.args.text.now)) c.loop-next.word.now
    c.in_default-cut.field-0.0.now c.in_default-cut.field-0.1.now (to_without (words c.loop-next.left.now))
    c.loop-next.hops.items
    c.loop-next.invariant c.in_default.ensures c.in_default-cut.ensures.parts c.in_default-cut.ensures.pieces

pub returns : goal.returns
returns c =
    route_done (c.args.first.now ∷ to_without (words c.args.text.now)) c.loop-next.word.now c.in_ok-last.last
    (to_without (words c.loop-next.left.now)) c.loop-next.hops.items c.from_items.result
    c.loop-next.invariant c.in_default.ensures c.in-None.ensures.pieces c.in_ok-last.ensures c.from_items.ensures

pub loop-next-init : goal.loop-next-init
loop-next-init c = route_begin c.args.first.now (to_without (words c.args.text.now)) c.new-hops.result.items c.new-hops.ensures.items

pub loop-next-smaller : goal.loop-next-smaller
loop-next-smaller c =
    rest_shorter c.in-Some.next.now (to_without (words c.loop-next.left.now)) (to_without (words c.in-Some.rest.now)) c.in-Some.ensures

pub loop-next-preserved : goal.loop-next-preserved
loop-next-preserved c =
    route_more (c.args.first.now ∷ to_without (words c.args.text.now)) c.loop-next.word.now c.in-Some.next.now
    (to_without (words c.loop-next.left.now)) (to_without (words c.in-Some.rest.now))
    c.loop-next.hops.items c.push_last.new.things.items c.in-Some-2.hop
    c.loop-next.invariant c.in-Some.ensures (sym c.in-Some-2.is ∙ c.in_ok-hop.ensures) c.in_ok-push_last.ensures.added

pub returns-in_default-2 : goal.returns-in_default-2
returns-in_default-2 c =
    route_off (c.args.first.now ∷ to_without (words c.args.text.now)) c.loop-next.word.now c.in-Some.next.now
    (to_without (words c.loop-next.left.now)) (to_without (words c.in-Some.rest.now))
    c.loop-next.hops.items c.loop-next.invariant c.in-Some.ensures (sym c.in_default-2.is ∙ c.in_ok-hop.ensures)
