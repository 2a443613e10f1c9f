use Rattle.std.proofs.Common.{map, reverse, subst, take}
use Rattle.std.proofs.lemmas.List.{take_all}
use Rattle.lsdb_build.specs.Tallies.{IsTally, same_subnet, subnet_of}
use Rattle.lsdb_build.proofs.Tallies.{tally_on, tally_few, tally_whole}
use Rattle.lsdb_build.proofs.members.count_members.Goals as goal

pub add-requires : goal.add-requires
add-requires c = record {
  few = tally_few same_subnet subnet_of c.loop-port.members.counts c.args.ports.now
      c.loop-port.port-index c.loop-port.invariant c.requires c.subnet_of.result;
}

pub loop-port-preserved : goal.loop-port-preserved
loop-port-preserved c = tally_on same_subnet subnet_of c.add.new.self.counts c.args.ports.now c.loop-port.port-index
    c.port-item.result c.loop-port-test.true c.port-item.is c.subnet_of.result c.subnet_of.ensures
    (c.in_ok-add.ensures.added (map subnet_of (reverse (take c.loop-port.port-index c.args.ports.now)))
    c.loop-port.invariant)

pub returns : goal.returns
returns c = tally_whole same_subnet subnet_of c.loop-port.members.counts c.args.ports.now
    (subst (λ ps. IsTally same_subnet c.loop-port.members.counts (map subnet_of (reverse ps)))
    (take_all c.loop-port.port-index c.args.ports.now c.loop-port-test.false) c.loop-port.invariant)
