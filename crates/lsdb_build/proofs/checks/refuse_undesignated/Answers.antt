use Rattle.std.proofs.Common.{List, ap, sym, ◌∙◌}
use Rattle.lsdb_build.specs.Neighbours.{Port}
use Rattle.lsdb_build.specs.Topology.{lacks_designated, at_port}
use Rattle.lsdb_build.proofs.FirstPlaces.{left_on, first_met, none_met}
use Rattle.lsdb_build.specs.declared.fault.TopologyFault.TheVariants.{NoDesignated}
use Rattle.lsdb_build.proofs.checks.refuse_undesignated.Goals as goal

pub loop-port-preserved : goal.loop-port-preserved
loop-port-preserved c =
    let test = λ (before : List Port) (q : Port). lacks_designated c.args.ports.now q in
    left_on test c.args.transit.now c.loop-port.port-index c.loop-port.invariant c.port-item.result c.loop-port-test.true c.port-item.is
    (sym (c.lacks_designated.ensures c.args.ports.now c.in_ok-ranks.ensures) ∙ c.if-lacks_designated.false)

pub returns-then-lacks_designated : goal.returns-then-lacks_designated
returns-then-lacks_designated c =
    let test = λ (before : List Port) (q : Port). lacks_designated c.args.ports.now q in
    rw c.refusal_at.ensures
    (ap (at_port NoDesignated) (first_met test c.args.transit.now c.loop-port.port-index c.loop-port.invariant
    c.port-item.result c.loop-port-test.true c.port-item.is
    (sym (c.lacks_designated.ensures c.args.ports.now c.in_ok-ranks.ensures) ∙ c.if-lacks_designated.true)))

pub returns : goal.returns
returns c =
    let test = λ (before : List Port) (q : Port). lacks_designated c.args.ports.now q in
    ap (at_port NoDesignated) (none_met test c.args.transit.now c.loop-port.port-index c.loop-port.invariant c.loop-port-test.false)
