use Rattle.std.proofs.Common.{Bor, List, ℕ, map}
use Rattle.set_reader.proofs.MemberLaws.{MembersTo}
use Rattle.set_reader.proofs.reading.members.read_members.Given as goal

-- the members stand for the numbers that were read
abbrev pub invariant-loop-number : goal.invariant-loop-number
invariant-loop-number l = MembersTo l.fn.requests l.fn.taken l.fn.numbers l.number-index l.members.items
    (map {A = Bor (List ℕ)} {B = List ℕ} (λ edges. edges.now) l.seen.keys)
