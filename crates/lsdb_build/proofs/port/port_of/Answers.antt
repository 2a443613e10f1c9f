use Rattle.std.proofs.Common.{rules}
use Rattle.lsdb_build.proofs.port.port_of.Goals as goal

pub returns-in-Some : goal.returns-in-Some
returns-in-Some c = search rules
