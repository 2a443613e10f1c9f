use Rattle.std.proofs.Common.{ap, ◌∙◌, not, nat_lt}
use Rattle.lsdb_build.specs.Tallies.{count_of, same_trait}
use Rattle.lsdb_build.proofs.Tallies.{kinds_counted}
use Rattle.lsdb_build.proofs.checks.is_mismatch.Goals as goal

pub returns : goal.returns
returns c = λ before tally.
    ap (nat_lt 0) (c.count.ensures
    ∙ ap (λ k. count_of same_trait c.args.seen.now.counts (not k.0, k.1)) c.kind_on-broadcast.ensures)
    ∙ kinds_counted c.args.seen.now.counts before c.args.port.now tally
