use Rattle.std.proofs.Common.{◌≡◌, ◌∙◌, ap, sym, subst, arith, List, length, map}
use Rattle.std.specs.Prelude.{All, IfOk}
use Rattle.std.proofs.lemmas.List.{length-map}
use Rattle.std.proofs.lemmas.List.Elements.{All-map}
use Rattle.area_graph.specs.declared.Price.{Price}
use Rattle.area_graph.specs.declared.Price.TheVariants.{Fixed}
use Rattle.lsdb_build.specs.declared.Linked.{Linked}
use Rattle.lsdb_build.specs.Graphs.{IsLinkPrice, graph_at}
use Rattle.wanted_paths.proofs.names.Names.outline.Goals as goal

pub graph-requires-clause-one_each : goal.graph-requires-clause-one_each
graph-requires-clause-one_each c =
    let links = c.links.result.now in
    ap length (c.as_slice.ensures.value ∙ c.in_ok-prices.ensures) ∙ length-map {B = Price} links (λ (link : Linked). Fixed 1) ∙ ap length c.links.ensures.value

pub graph-requires-clause-priced : goal.graph-requires-clause-priced
graph-requires-clause-priced c =
    subst (λ (prices : List Price). All IsLinkPrice prices) (sym (c.as_slice.ensures.value ∙ c.in_ok-prices.ensures))
    (All-map IsLinkPrice (λ (link : Linked). Fixed 1) c.links.result.now (λ k link below. omega arith))

pub returns : goal.returns
returns c =
    let are = c.as_slice.ensures.value ∙ c.in_ok-prices.ensures ∙ ap (λ (links : List Linked). map (λ (link : Linked). Fixed 1) links) c.links.ensures.value in
    subst (λ (prices : List Price). IfOk c.graph.result (λ graph. graph ≡ graph_at c.args.self.now prices)) are c.graph.ensures
