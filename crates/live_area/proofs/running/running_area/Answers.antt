-- What was made is the area with the costs at which it runs.
use Rattle.std.proofs.Common.{◌≡◌, ◌∙◌, ap, subst, sym, List, map}
use Rattle.lsdb_build.specs.Graphs.{Database, IsAreaDatabase}
use Rattle.lsa_bytes.specs.declared.Lsa.{Lsa}
use Rattle.live_area.specs.LiveCosts.{costed_from, live_metric, with_live_costs}
use Rattle.live_area.proofs.RunningAreas.{running_is, running_is_area}
use Rattle.live_area.proofs.running.running_area.Goals.{After-from_items}
use Rattle.live_area.proofs.running.running_area.Goals as goal

made : (c : After-from_items) → ◌≡◌ {A = Database}
    (record { routers = c.lsdb.inside.routers; links = c.from_items.result; subnets = c.lsdb.inside.subnets })
    (with_live_costs c.args.configs.now c.args.live.now (record {
      routers = c.lsdb.inside.routers;
      links = c.lsdb.inside.links;
      subnets = c.lsdb.inside.subnets;
    }))
made c =
    let d : Database = record { routers = c.lsdb.inside.routers; links = c.lsdb.inside.links; subnets = c.lsdb.inside.subnets } in
    running_is c.args.configs.now c.args.live.now d c.as_slice.result.now c.from_items.result c.in_ok-metrics.metrics.items
    c.as_slice.ensures
    (c.in_ok-metrics.ensures ∙ ap (λ (lsas : List Lsa). map (live_metric c.args.configs.now lsas) c.as_slice.result.now) c.as_slice-2.ensures.items)
    (c.from_items.ensures ∙ c.in_ok-links.ensures
    ∙ ap (λ links. costed_from c.deref.result.now 0 links) (c.as_slice-3.ensures ∙ sym c.as_slice.ensures)
    ∙ ap (λ metrics. costed_from metrics 0 c.as_slice.result.now) c.deref.ensures.value)

pub invariant_of-result : goal.invariant_of-result
invariant_of-result c =
    let d : Database = record { routers = c.lsdb.inside.routers; links = c.lsdb.inside.links; subnets = c.lsdb.inside.subnets } in
    subst (λ (e : Database). IsAreaDatabase e) (sym (made (goal.at.invariant_of-result c).After-from_items))
    (running_is_area c.args.configs.now c.args.live.now d c.as_slice-2.ensures.kept c.lsdb.invariant)

pub returns-clause-costs : goal.returns-clause-costs
returns-clause-costs c =
    made (goal.at.returns-clause-costs c).After-from_items ∙ ap (λ (d : Database). with_live_costs c.args.configs.now c.args.live.now d) c.lsdb.view_is
