use Rattle.std.proofs.Common.{◌∙◌, ap, sym, List, ℕ}
use Rattle.std.specs.Prelude.{filter, unwrap_or, ◌==◌}
use Rattle.cost_base.specs.Lists.{first_of}
use Rattle.area_graph.specs.Area.{edge_at}
use Rattle.wanted_paths.proofs.LookUps.{edge_to_first}
use Rattle.wanted_paths.proofs.routes.edge_to.Goals as goal

pub returns : goal.returns
returns c =
    c.unwrap_or.ensures ∙ ap (λ o. unwrap_or o 0) c.first_into.ensures
    ∙ ap (λ (es : List ℕ). unwrap_or (first_of (filter (λ e. (edge_at c.args.graph.now e).to == c.args.router) es)) 0) c.edges_out.ensures
    ∙ sym (edge_to_first c.args.graph.now c.args.from c.args.router)
