use Rattle.std.proofs.Common.{◌≡◌, length}
use Rattle.lsa_bytes.proofs.Counting.{IsMidway}
use Rattle.lsa_bytes.proofs.reading.database_of.Given as goal

abbrev pub invariant-loop-instance : goal.invariant-loop-instance
invariant-loop-instance l = record {
  midway : IsMidway l.fn.instances.items l.instance-iterator.rest.items l.reader;
  long : l.instance-iterator.rest.len ≡ length l.instance-iterator.rest.items;
}
