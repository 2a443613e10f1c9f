use Rattle.std.proofs.Common.{ap, ◌∙◌, map}
use Rattle.std.proofs.lemmas.List.{take_all}
use Rattle.cost_base.proofs.ListLemmas.{map_put}
use Rattle.lsdb_build.specs.Links.{link_among}
use Rattle.lsdb_build.proofs.links.links_by.Goals as goal

pub loop-port-preserved : goal.loop-port-preserved
loop-port-preserved c = λ transit are.
    map_put (link_among c.args.links.now transit) c.args.links.now c.loop-port.port-index c.port-item.result c.loop-port-test.true c.port-item.is
    c.loop-port.made.items (c.loop-port.invariant transit are) c.in_ok-link_of.field-0 (c.in_ok-link_of.ensures transit are)
    c.push.new.self.items c.in_ok-push.ensures.items

pub returns : goal.returns
returns c = λ transit are.
    c.loop-port.invariant transit are
    ∙ ap (map (link_among c.args.links.now transit)) (take_all c.loop-port.port-index c.args.links.now c.loop-port-test.false)
