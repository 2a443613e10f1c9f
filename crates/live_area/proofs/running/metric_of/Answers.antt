use Rattle.std.proofs.Common.{Bool, cond, None, ap, sym, ◌∙◌}
use Rattle.lsa_writer.specs.Ends.{end_of}
use Rattle.live_area.specs.LiveLinks.{metric_at}
use Rattle.live_area.proofs.running.metric_of.Goals as goal

pub returns-then-has_router_id : goal.returns-then-has_router_id
returns-then-has_router_id c = λ live has.
    let end = end_of c.args.configs.now c.args.link.now in
    c.metric_at.ensures end live has c.requires
    ∙ sym (ap (λ (b : Bool). cond b (metric_at end live) None) (sym c.has_router_id.ensures ∙ c.if-has_router_id.true))

pub returns-else-has_router_id : goal.returns-else-has_router_id
returns-else-has_router_id c = λ live has.
    let end = end_of c.args.configs.now c.args.link.now in
    sym (ap (λ (b : Bool). cond b (metric_at end live) None) (sym c.has_router_id.ensures ∙ c.if-has_router_id.false))
