use Rattle.std.proofs.Common.{ap, ◌∙◌}
use Rattle.lsdb_build.specs.Tallies.{count_of, same_subnet}
use Rattle.lsdb_build.proofs.Tallies.{members_counted}
use Rattle.lsdb_build.proofs.members.members_on.Goals as goal

pub returns : goal.returns
returns c = λ all tally. c.count.ensures ∙ ap (count_of same_subnet c.args.members.now.counts) c.subnet_of.ensures
    ∙ members_counted c.args.members.now.counts all c.args.port.now tally
