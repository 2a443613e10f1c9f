-- with the subnets that are left it is what all of them add
use Rattle.std.proofs.Common.{◌≡◌, ◌++◌, drop}
use Rattle.lsa_bytes.specs.Written.{bytes_of_all}
use Rattle.lsa_writer.specs.WrittenLsas.{network_lsas}
use Rattle.lsa_writer.proofs.writing.push_network_lsas.Given as goal

abbrev pub invariant-loop-i : goal.invariant-loop-i
invariant-loop-i l = l.bytes.items ++ bytes_of_all (network_lsas l.ends (drop l.i l.subnets)) ≡ l.fn.bytes.items ++ bytes_of_all (network_lsas l.ends l.subnets)
