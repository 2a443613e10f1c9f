use Rattle.std.proofs.Common.{◌≡◌, take}
use Rattle.std.specs.List.{filter}
use Rattle.lsdb_build.specs.Neighbours.{is_linked}
use Rattle.lsdb_build.proofs.links.linked_ports.Given as goal

abbrev pub invariant-loop-port : goal.invariant-loop-port
invariant-loop-port l = l.found.items ≡ filter (is_linked l.ports) (take l.port-index l.ports)
