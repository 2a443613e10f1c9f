use Rattle.std.proofs.Common.{reverse, take, map, nat_eq, ap}
use Rattle.lsdb_build.specs.Topology.{is_second_of_address, at_port}
use Rattle.lsdb_build.specs.Tallies.{port_address}
use Rattle.lsdb_build.proofs.FirstPlaces.{none_met}
use Rattle.lsdb_build.proofs.Tallies.{tally_few, second_passed, second_met}
use Rattle.lsdb_build.specs.declared.fault.TopologyFault.TheVariants.{AddressTwice}
use Rattle.lsdb_build.proofs.checks.refuse_second_of_address.Goals as goal

pub add-requires : goal.add-requires
add-requires c = record {
  few = tally_few nat_eq port_address c.loop-port.seen.counts c.args.ports.now
      c.loop-port.port-index c.loop-port.invariant.seen c.requires c.port.inside.address;
}

pub loop-port-preserved : goal.loop-port-preserved
loop-port-preserved c =
    second_passed nat_eq port_address c.loop-port.seen.counts c.args.ports.now c.loop-port.port-index c.port-item.result
    c.loop-port.invariant c.loop-port-test.true c.port-item.is c.port.inside.address (ap port_address c.port.view_is)
    c.in_ok-add.field-0 c.in_ok-add.ensures.before c.add.new.self.counts
    (c.in_ok-add.ensures.added (map port_address (reverse (take c.loop-port.port-index c.args.ports.now))) c.loop-port.invariant.seen)
    c.if-branch-gt0.false

pub returns-then-branch-gt0 : goal.returns-then-branch-gt0
returns-then-branch-gt0 c =
    rw c.refusal_at.ensures
    (ap (at_port AddressTwice) (second_met nat_eq port_address c.loop-port.seen.counts c.args.ports.now c.loop-port.port-index c.port-item.result
    c.loop-port.invariant c.loop-port-test.true c.port-item.is c.port.inside.address (ap port_address c.port.view_is)
    c.in_ok-add.field-0 c.in_ok-add.ensures.before c.if-branch-gt0.true))

pub returns : goal.returns
returns c = ap (at_port AddressTwice)
    (none_met is_second_of_address c.args.ports.now c.loop-port.port-index c.loop-port.invariant.left
    c.loop-port-test.false)
