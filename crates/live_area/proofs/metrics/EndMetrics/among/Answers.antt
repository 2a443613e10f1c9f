use Rattle.std.proofs.Common.{List, sym, subst}
use Rattle.std.proofs.lemmas.List.{take_all, take_more}
use Rattle.live_area.specs.declared.links.LiveLink.{LiveLink}
use Rattle.live_area.specs.Indexes.{HasLinkMetrics}
use Rattle.live_area.proofs.metrics.EndMetrics.among.Goals as goal

pub loop-link-preserved : goal.loop-link-preserved
loop-link-preserved c =
    subst (λ (links : List LiveLink). HasLinkMetrics c.add.new.self.by_name c.args.ends.now links)
    (sym (take_more c.args.links.now c.loop-link.link-index _ c.loop-link-test.true))
    (c.in_ok-add.ensures c.args.ends.now _ c.loop-link.invariant)

pub returns : goal.returns
returns c =
    subst (λ (links : List LiveLink). HasLinkMetrics c.loop-link.metrics.by_name c.args.ends.now links)
    (take_all c.loop-link.link-index c.args.links.now c.loop-link-test.false) c.loop-link.invariant
