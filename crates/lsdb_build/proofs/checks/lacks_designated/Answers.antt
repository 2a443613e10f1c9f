use Rattle.std.proofs.Common.{ap, ◌∙◌, true, nat_eq}
use Rattle.lsdb_build.specs.Tallies.{count_of, same_trait}
use Rattle.lsdb_build.proofs.Tallies.{designated_counted}
use Rattle.lsdb_build.proofs.checks.lacks_designated.Goals as goal

pub returns : goal.returns
returns c = λ all tally.
    ap (λ n. nat_eq n 0) (c.count.ensures
    ∙ ap (λ s. count_of same_trait c.args.ranks.now.counts (true, s)) c.subnet_of.ensures)
    ∙ designated_counted c.args.ranks.now.counts all c.args.port.now tally
