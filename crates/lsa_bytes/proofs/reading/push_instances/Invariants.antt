use Rattle.std.proofs.Common.{length}
use Rattle.lsa_bytes.proofs.ReadSoFar.{IsUnderway}
use Rattle.lsa_bytes.proofs.reading.push_instances.Given as goal

abbrev pub invariant-loop-rest : goal.invariant-loop-rest
invariant-loop-rest l = IsUnderway l.bytes l.rest l.instances.items

abbrev pub decreases-loop-rest : goal.decreases-loop-rest
decreases-loop-rest l = length l.rest
