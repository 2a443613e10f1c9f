-- Those before are as their type keeps.
use Rattle.std.proofs.Common.{All, take}
use Rattle.interface_model.specs.Records.{Router, IsRouter}
use Rattle.lsa_writer.specs.OneGraph.{IsRangedId}
use Rattle.lsa_writer.proofs.ranges.keeps_configs.Given as goal

abbrev pub invariant-loop-config : goal.invariant-loop-config
invariant-loop-config l = record {
  valid : All IsRouter (take l.config-index l.configs);
  ids : All (λ (config : Router). IsRangedId config.router_id) (take l.config-index l.configs);
}
