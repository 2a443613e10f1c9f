use Rattle.std.proofs.Common.{◌≡◌, ◌++◌, drop, take, All}
use Rattle.interface_model.specs.Records.{IsRouter}
use Rattle.lsdb_build.specs.Neighbours.{ports_from, ports}
use Rattle.lsdb_build.proofs.port.active_ports.Given as goal

abbrev pub invariant-loop-config : goal.invariant-loop-config
invariant-loop-config l = record {
  found : l.found.items ++ ports_from l.area l.router (drop l.config-index l.configs) ≡ ports l.area l.configs;
  place : l.router ≡ l.config-index;
  valid : All IsRouter (take l.config-index l.configs);
}
