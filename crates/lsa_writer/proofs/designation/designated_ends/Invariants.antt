-- with the subnets that are left it is what all of them make
use Rattle.std.proofs.Common.{◌≡◌, ◌++◌, drop}
use Rattle.lsa_writer.specs.Ends.{designated_ends}
use Rattle.lsa_writer.proofs.designation.designated_ends.Given as goal

abbrev pub invariant-loop-members : goal.invariant-loop-members
invariant-loop-members l = l.made.items ++ designated_ends l.ends (drop l.members-index l.subnets) ≡ designated_ends l.ends l.subnets
