-- One more is as its type keeps.
use Rattle.std.proofs.Common.{List, All, subst}
use Rattle.std.proofs.lemmas.List.{take_all}
use Rattle.std.proofs.lemmas.List.Elements.{All-more}
use Rattle.interface_model.specs.Records.{Router, IsRouter}
use Rattle.lsa_writer.specs.OneGraph.{IsRangedId}
use Rattle.lsa_writer.proofs.ranges.keeps_configs.Goals as goal

pub loop-config-preserved : goal.loop-config-preserved
loop-config-preserved c = record {
  valid = All-more IsRouter c.args.configs.now c.loop-config.config-index c.config-item.result c.loop-config-test.true
      c.loop-config.invariant.valid (subst (λ (r : Router). IsRouter r) c.config-item.is c.keeps_config.ensures.valid);
  ids = All-more (λ (r : Router). IsRangedId r.router_id) c.args.configs.now c.loop-config.config-index
      c.config-item.result c.loop-config-test.true c.loop-config.invariant.ids
      (subst (λ (r : Router). IsRangedId r.router_id) c.config-item.is c.keeps_config.ensures.id);
}

pub returns-clause-valid : goal.returns-clause-valid
returns-clause-valid c = subst (λ (left : List Router). All IsRouter left)
    (take_all c.loop-config.config-index c.args.configs.now c.loop-config-test.false) c.loop-config.invariant.valid

pub returns-clause-ids : goal.returns-clause-ids
returns-clause-ids c = subst (λ (left : List Router). All (λ (r : Router). IsRangedId r.router_id) left)
    (take_all c.loop-config.config-index c.args.configs.now c.loop-config-test.false) c.loop-config.invariant.ids
