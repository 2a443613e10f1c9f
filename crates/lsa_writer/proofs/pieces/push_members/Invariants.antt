-- with the members that are left it is what all of them add
use Rattle.std.proofs.Common.{◌≡◌, ◌++◌, drop}
use Rattle.std.specs.Prelude.{flat_map}
use Rattle.std.specs.Int.{to_be_bytes, w32}
use Rattle.lsa_writer.specs.Ends.{member_ends}
use Rattle.lsa_writer.specs.WrittenLsas.{routers_in}
use Rattle.lsa_writer.proofs.pieces.push_members.Given as goal

abbrev pub invariant-loop-member : goal.invariant-loop-member
invariant-loop-member l =
    l.bytes.items ++ flat_map (to_be_bytes w32) (routers_in (member_ends l.ends (drop l.member-index l.members)))
    ≡ l.fn.bytes.items ++ flat_map (to_be_bytes w32) (routers_in (member_ends l.ends l.members))
