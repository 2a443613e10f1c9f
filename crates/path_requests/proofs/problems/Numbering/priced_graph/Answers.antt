use Rattle.std.proofs.Common.{◌≡◌, ◌∙◌, ap, sym, subst, List, length, IfOk}
use Rattle.std.specs.Prelude.{All}
use Rattle.area_graph.specs.declared.Price.{Price}
use Rattle.area_graph.specs.Area.{Area}
use Rattle.lsdb_build.specs.Graphs.{Database, IsLinkPrice, graph_at}
use Rattle.path_requests.proofs.Assembled.{prices_link}
use Rattle.path_requests.proofs.WholeProblems.{prices_count}
use Rattle.path_requests.proofs.problems.Numbering.priced_graph.Goals as goal

pub graph-requires-clause-one_each : goal.graph-requires-clause-one_each
graph-requires-clause-one_each c =
    let a = c.args.self.now.choices.now.asked in
    let d = c.args.self.now.choices.now.database in
    ap length (c.as_slice.ensures.value ∙ c.in_ok-prices.ensures) ∙ prices_count a d 0 d.links
    ∙ ap (λ (base : Database). length base.links) (sym c.names.ensures)

pub graph-requires-clause-priced : goal.graph-requires-clause-priced
graph-requires-clause-priced c =
    let a = c.args.self.now.choices.now.asked in
    let d = c.args.self.now.choices.now.database in
    subst (λ (prices : List Price). All IsLinkPrice prices) (sym (c.as_slice.ensures.value ∙ c.in_ok-prices.ensures))
    (prices_link a d 0 d.links c.request_file-request_file.ensures.asked c.links-links.ensures.base.each_link c.requires)

pub returns : goal.returns
returns c =
    let d = c.args.self.now.choices.now.database in
    subst (λ (prices : List Price). IfOk c.graph.result (λ (g : Area). g ≡ graph_at d prices)) (c.as_slice.ensures.value ∙ c.in_ok-prices.ensures)
    (subst (λ (base : Database). IfOk c.graph.result (λ (g : Area). g ≡ graph_at base c.as_slice.result.now)) c.names.ensures c.graph.ensures)
