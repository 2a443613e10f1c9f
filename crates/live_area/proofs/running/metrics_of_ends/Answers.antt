-- the end of each link is at its place
use Rattle.std.proofs.Common.{◌∙◌, ap, sym, List, slice_get, Some}
use Rattle.std.proofs.lemmas.Option.{slice_get-get_or}
use Rattle.cost_base.proofs.ListLemmas.{map_put}
use Rattle.lsdb_build.proofs.Pairs.{at_map}
use Rattle.lsa_writer.specs.declared.ends.LinkEnd.{LinkEnd}
use Rattle.lsa_writer.specs.Ends.{end_of}
use Rattle.live_area.specs.LiveCosts.{metric_among}
use Rattle.live_area.proofs.running.metrics_of_ends.Goals as goal

pub metric_of-requires : goal.metric_of-requires
metric_of-requires c =
    let links = c.args.links.now in
    let number = c.loop-number.number in
    let link = c.index-links-number.result in
    ap (λ (es : List LinkEnd). slice_get es number) c.requires
    ∙ at_map (end_of c.args.configs.now) links number link
    (slice_get-get_or links number link c.loop-number-test.true ∙ ap Some (sym c.index-links-number.is))

pub loop-number-preserved : goal.loop-number-preserved
loop-number-preserved c =
    map_put (metric_among c.args.configs.now c.args.found.now) c.args.links.now c.loop-number.number c.index-links-number.result
    c.loop-number-test.true c.index-links-number.is c.loop-number.metrics.items c.loop-number.invariant
    c.metric_of.result (c.metric_of.ensures c.args.found.now c.in_ok-by_end.ensures) c.push.new.self.items c.in_ok-push.ensures.items
