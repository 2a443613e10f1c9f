-- who is first so far, and the members that are left, make who is first of all
use Rattle.std.proofs.Common.{◌≡◌, drop}
use Rattle.lsa_writer.specs.Ends.{designated, first_in_rank, member_ends}
use Rattle.lsa_writer.proofs.designation.designated.Given as goal

abbrev pub invariant-loop-member : goal.invariant-loop-member
invariant-loop-member l = first_in_rank l.best (member_ends l.ends (drop l.member-index l.more)) ≡ designated (member_ends l.ends l.members)
