use Rattle.std.proofs.Common.{map, reverse, subst, take}
use Rattle.std.proofs.lemmas.List.{take_all}
use Rattle.lsdb_build.specs.Tallies.{IsTally, same_trait, rank_on}
use Rattle.lsdb_build.proofs.Tallies.{tally_on, tally_few, tally_whole}
use Rattle.lsdb_build.proofs.checks.count_ranks.Goals as goal

pub add-requires : goal.add-requires
add-requires c = record {
  few = tally_few same_trait rank_on c.loop-port.ranks.counts c.args.ports.now
      c.loop-port.port-index c.loop-port.invariant c.requires c.rank_on.result;
}

pub loop-port-preserved : goal.loop-port-preserved
loop-port-preserved c = tally_on same_trait rank_on c.add.new.self.counts c.args.ports.now c.loop-port.port-index
    c.port-item.result c.loop-port-test.true c.port-item.is c.rank_on.result c.rank_on.ensures
    (c.in_ok-add.ensures.added (map rank_on (reverse (take c.loop-port.port-index c.args.ports.now)))
    c.loop-port.invariant)

pub returns : goal.returns
returns c = tally_whole same_trait rank_on c.loop-port.ranks.counts c.args.ports.now
    (subst (λ ps. IsTally same_trait c.loop-port.ranks.counts (map rank_on (reverse ps)))
    (take_all c.loop-port.port-index c.args.ports.now c.loop-port-test.false) c.loop-port.invariant)
