use Rattle.std.proofs.Common.{reverse, take, map, ap, sym, ◌∙◌}
use Rattle.lsdb_build.specs.Topology.{at_port}
use Rattle.lsdb_build.specs.SubnetChecks.{fails, fault_of}
use Rattle.lsdb_build.specs.Tallies.{same_trait, kind_on}
use Rattle.lsdb_build.proofs.FirstPlaces.{first_met, none_met}
use Rattle.lsdb_build.proofs.Tallies.{tally_few, walked_on}
use Rattle.lsdb_build.proofs.checks.refuse_on_subnet.Goals as goal

pub add-requires : goal.add-requires
add-requires c = record {
  few = tally_few same_trait kind_on c.loop-port.seen.counts c.args.ports.now
      c.loop-port.port-index c.loop-port.invariant.seen c.requires c.kind_on.result;
}

pub loop-port-preserved : goal.loop-port-preserved
loop-port-preserved c =
    let ports = c.args.ports.now in
    let i = c.loop-port.port-index in
    let p = c.port-item.result in
    let before = reverse (take i ports) in
    walked_on same_trait kind_on (fails c.args.check) c.loop-port.seen.counts c.add.new.self.counts ports i p c.loop-port.invariant
    c.loop-port-test.true c.port-item.is c.kind_on.result c.kind_on.ensures
    (c.in_ok-add.ensures.added (map kind_on before) c.loop-port.invariant.seen)
    (sym (c.fails.ensures before c.loop-port.invariant.seen) ∙ c.if-fails.false)

pub returns-then-fails : goal.returns-then-fails
returns-then-fails c =
    let ports = c.args.ports.now in
    let i = c.loop-port.port-index in
    rw (c.refusal_at.ensures, c.fault_of.ensures)
    (ap (at_port (fault_of c.args.check))
    (first_met (fails c.args.check) ports i c.loop-port.invariant.left c.port-item.result c.loop-port-test.true
    c.port-item.is
    (sym (c.fails.ensures (reverse (take i ports)) c.loop-port.invariant.seen) ∙ c.if-fails.true)))

pub returns : goal.returns
returns c = ap (at_port (fault_of c.args.check))
    (none_met (fails c.args.check) c.args.ports.now c.loop-port.port-index c.loop-port.invariant.left
    c.loop-port-test.false)
