-- There is a variable for each link, and its price may be one.
use Rattle.std.proofs.Common.{◌∙◌, ap, sym, subst, List, length, All}
use Rattle.std.proofs.lemmas.List.Elements.{All-map}
use Rattle.cost_base.specs.Lists.{numbers_from}
use Rattle.cost_base.proofs.ListLemmas.{length-map-numbers_from}
use Rattle.area_graph.specs.declared.Price.{Price}
use Rattle.area_graph.specs.declared.Price.TheVariants.{Var}
use Rattle.lsdb_build.specs.Graphs.{IsLinkPrice}
use Rattle.present_costs.proofs.links.priced_by_links.Goals as goal

pub graph_of-requires-clause-one_each : goal.graph_of-requires-clause-one_each
graph_of-requires-clause-one_each c =
    ap length (c.as_slice.ensures.value ∙ c.in_ok-prices.ensures)
    ∙ length-map-numbers_from Var 0 (length c.links.result.now) ∙ ap length c.links.ensures.value

pub graph_of-requires-clause-priced : goal.graph_of-requires-clause-priced
graph_of-requires-clause-priced c =
    subst (λ (prices : List Price). All IsLinkPrice prices) (sym (c.as_slice.ensures.value ∙ c.in_ok-prices.ensures))
    (All-map IsLinkPrice Var (numbers_from 0 (length c.links.result.now)) (λ k d below. tt))
