-- The graph by links is the one that is looked at.
use Rattle.std.proofs.Common.{◌≤◌, List, sym, subst, length, All, IfOk}
use Rattle.area_graph.specs.declared.Edge.{Edge}
use Rattle.area_graph.specs.Area.{Area}
use Rattle.area_graph.specs.Costs.{IsPriced}
use Rattle.design_problem.specs.declared.problem.Request.{Request}
use Rattle.rival_separation.specs.Askers.{ArePathsOf}
use Rattle.present_costs.specs.AtCosts.{graph_by_links}
use Rattle.change_steps.specs.Outcomes.{AreStepsFound}
use Rattle.change_commands.proofs.steps.steps_of_moves.Goals as goal

pub find_steps-steps-requires-clause-priced : goal.find_steps-steps-requires-clause-priced
find_steps-steps-requires-clause-priced c =
    subst (λ (graph : Area). All (λ (edge : Edge). IsPriced (length c.args.moves.now.present) edge.price) graph.edges) (sym c.in_ok-graph.ensures)
    c.requires.priced

pub find_steps-steps-requires-clause-requests : goal.find_steps-steps-requires-clause-requests
find_steps-steps-requires-clause-requests c =
    subst (λ (graph : Area). ArePathsOf graph c.requests_of.result.now) (sym c.in_ok-graph.ensures)
    (subst (λ (requests : List Request). ArePathsOf (graph_by_links c.args.network.now.lsdb) requests) (sym c.requests_of.ensures) c.requires.requests)

pub find_steps-steps-requires-clause-few : goal.find_steps-steps-requires-clause-few
find_steps-steps-requires-clause-few c = subst (λ (requests : List Request). length requests ≤ 10000) (sym c.requests_of.ensures) c.requires.few

pub returns : goal.returns
returns c =
    subst (λ (graph : Area). IfOk c.find_steps-steps.result (AreStepsFound
    (record { graph = graph; requests = c.args.network.now.problem.requests; moves = c.args.moves.now }) c.args.nodes)) c.in_ok-graph.ensures
    (subst (λ (requests : List Request). IfOk c.find_steps-steps.result (AreStepsFound
    (record { graph = c.in_ok-graph.graph; requests = requests; moves = c.args.moves.now }) c.args.nodes)) c.requests_of.ensures c.find_steps-steps.ensures)
