use Rattle.std.proofs.Common.{◌∙◌, ap, ◌+◌, true, false}
use Rattle.lsdb_build.specs.Tallies.{count_of, same_trait, subnet_of}
use Rattle.lsdb_build.proofs.Tallies.{both_counted}
use Rattle.lsdb_build.proofs.checks.members_before.Goals as goal

pub returns : goal.returns
returns c = λ before tally.
    let counts = c.args.seen.now.counts in
    ap (λ n. n + c.from-2.result) (c.from.ensures ∙ c.count.ensures ∙ ap (λ s. count_of same_trait counts (true, s)) c.subnet_of-subnet.ensures)
    ∙ ap (λ n. count_of same_trait counts (true, subnet_of c.args.port.now) + n) (c.from-2.ensures ∙ c.count-2.ensures
    ∙ ap (λ s. count_of same_trait counts (false, s)) c.subnet_of-subnet.ensures)
    ∙ both_counted counts before c.args.port.now tally
