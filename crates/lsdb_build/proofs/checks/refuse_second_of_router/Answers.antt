use Rattle.std.proofs.Common.{reverse, take, map, ap}
use Rattle.lsdb_build.specs.Topology.{is_second_of_router, at_port}
use Rattle.lsdb_build.specs.Tallies.{same_member, member_of}
use Rattle.lsdb_build.proofs.FirstPlaces.{none_met}
use Rattle.lsdb_build.proofs.Tallies.{tally_few, second_passed, second_met}
use Rattle.lsdb_build.specs.declared.fault.TopologyFault.TheVariants.{SameRouterTwice}
use Rattle.lsdb_build.proofs.checks.refuse_second_of_router.Goals as goal

pub add-requires : goal.add-requires
add-requires c = record {
  few = tally_few same_member member_of c.loop-port.seen.counts c.args.ports.now
      c.loop-port.port-index c.loop-port.invariant.seen c.requires c.member_of.result;
}

pub loop-port-preserved : goal.loop-port-preserved
loop-port-preserved c =
    second_passed same_member member_of c.loop-port.seen.counts c.args.ports.now c.loop-port.port-index c.port-item.result
    c.loop-port.invariant c.loop-port-test.true c.port-item.is c.member_of.result c.member_of.ensures
    c.in_ok-add.field-0 c.in_ok-add.ensures.before c.add.new.self.counts
    (c.in_ok-add.ensures.added (map member_of (reverse (take c.loop-port.port-index c.args.ports.now))) c.loop-port.invariant.seen)
    c.if-branch-gt0.false

pub returns-then-branch-gt0 : goal.returns-then-branch-gt0
returns-then-branch-gt0 c =
    rw c.refusal_at.ensures
    (ap (at_port SameRouterTwice) (second_met same_member member_of c.loop-port.seen.counts c.args.ports.now c.loop-port.port-index c.port-item.result
    c.loop-port.invariant c.loop-port-test.true c.port-item.is c.member_of.result c.member_of.ensures
    c.in_ok-add.field-0 c.in_ok-add.ensures.before c.if-branch-gt0.true))

pub returns : goal.returns
returns c = ap (at_port SameRouterTwice)
    (none_met is_second_of_router c.args.ports.now c.loop-port.port-index c.loop-port.invariant.left
    c.loop-port-test.false)
