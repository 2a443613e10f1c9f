use Rattle.std.proofs.Common.{◌++◌, ◌∙◌, ap}
use Rattle.lsa_bytes.specs.declared.Lsa.{Lsa}
use Rattle.live_area.specs.Differences.{lsa_lines}
use Rattle.live_area.proofs.LineSteps.{lsa_end, lsa_step}
use Rattle.live_area.proofs.routers.push_router_lines.Goals as goal

pub loop-lsa-preserved : goal.loop-lsa-preserved
loop-lsa-preserved c = λ ends all has.
    lsa_step (lsa_lines c.args.configs.now ends) c.args.lsas.now c.loop-lsa.lsa-index c.lsa-item.result c.loop-lsa.lines.items _ _ c.loop-lsa-test.true
    (c.in_ok-push_lsa_lines.ensures ends all has
    ∙ ap (λ (lsa : Lsa). c.loop-lsa.lines.items ++ lsa_lines c.args.configs.now ends lsa) c.lsa-item.is) (c.loop-lsa.invariant ends all has)

pub returns : goal.returns
returns c = λ ends all has.
    lsa_end (lsa_lines c.args.configs.now ends) c.args.lsas.now c.loop-lsa.lsa-index c.loop-lsa.lines.items _ c.loop-lsa-test.false
    (c.loop-lsa.invariant ends all has)
