use Rattle.std.proofs.Common.{◌↔◌, subst, ℕ, List, IsTrue}
use Rattle.area_graph.specs.Paths.{Ends}
use Rattle.area_graph.specs.Distances.{OtherEdgesLeadToMore}
use Rattle.area_graph.proofs.Leads.{leads_only}
use Rattle.area_graph.proofs.only_cheapest.is_only_cheapest.Goals as goal

pub returns : goal.returns
returns c =
    let graph = c.args.graph.now in
    let point = c.args.point.now in
    let path = c.args.wanted.now.path.now.edges in
    let d = c.in_ok-distances.distances.items in
    let ends : Ends = record { start = c.args.wanted.now.path.now.start; end = c.args.wanted.now.end; excluded = c.args.wanted.now.excluded.now } in
    let leads = subst (λ (ds : List ℕ). IsTrue c.leads.result ↔ OtherEdgesLeadToMore graph point c.args.wanted.now.excluded.now ds path)
    c.as_slice-2.ensures.value c.leads.ensures.leads in
    let only = leads_only graph point ends d path c.keeps_conditions.ensures.fits c.requires.fits
    c.in_ok-distances.ensures.numbers.count c.in_ok-distances.ensures.distances.reached c.in_ok-distances.ensures.distances.settled
    c.leads.ensures.below c.requires.path in
    (λ yes. only.0 (leads.0 yes), λ is_only. leads.1 (only.1 is_only))
