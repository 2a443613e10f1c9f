use Rattle.std.proofs.Common.{◌≡◌, ◌++◌, drop}
use Rattle.lsdb_build.specs.Neighbours.{ports_of}
use Rattle.lsdb_build.proofs.port.push_ports.Given as goal

abbrev pub invariant-loop-interface : goal.invariant-loop-interface
invariant-loop-interface l = record {
  found : l.into.items ++ ports_of l.area l.router (drop l.interface-index l.interface-items) ≡ l.fn.into.items ++ ports_of l.area l.router l.interface-items;
  items : l.interface-items ≡ l.config.interfaces;
}
