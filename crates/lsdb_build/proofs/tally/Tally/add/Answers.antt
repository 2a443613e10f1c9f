use Rattle.lsdb_build.proofs.Tallies.{tally_more}
use Rattle.lsdb_build.proofs.tally.Tally.add.Goals as goal

pub returns-clause-added : goal.returns-clause-added
returns-clause-added g c = tally_more _ g.met.K.Eq.laws c.args.self.now.counts c.insert.new.self c.args.key _
    c.count-count.ensures c.in_ok-insert.ensures.updates
