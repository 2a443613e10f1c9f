use Rattle.std.proofs.Common.{take}
use Rattle.lsa_bytes.specs.Newest.{HasNewest}
use Rattle.lsa_bytes.proofs.newest.Newest.among.Given as goal

abbrev pub invariant-loop-instance : goal.invariant-loop-instance
invariant-loop-instance l = HasNewest l.newest.by_name (take l.instance-index l.instances)
