-- The moves to the wanted costs were looked at.
use Rattle.std.proofs.Common.{◌∙◌, ◌<◌, ℕ, List, sym, ap, subst, length, All, IfOk}
use Rattle.std.proofs.lemmas.List.{length-map}
use Rattle.lsdb_build.specs.Graphs.{Database}
use Rattle.path_requests.specs.Meaning.{present_cost}
use Rattle.present_costs.specs.AtCosts.{graph_by_links}
use Rattle.change_steps.specs.Rollouts.{CostMoves}
use Rattle.change_commands.specs.Steps.{ReportsSteps}
use Rattle.change_commands.proofs.StepRuns.{paths_by_links, priced_links}
use Rattle.change_commands.proofs.steps.report_of_wanted.Goals as goal

pub moves_to-requires-clause-present : goal.moves_to-requires-clause-present
moves_to-requires-clause-present c =
    ap length c.requires.present ∙ length-map c.args.network.now.lsdb.links (present_cost c.args.network.now.request_file)
    ∙ sym (ap (λ (d : Database). length d.links) c.requires.names)

pub moves_to-requires-clause-above : goal.moves_to-requires-clause-above
moves_to-requires-clause-above c = subst (λ (cs : List ℕ). All (λ cost. 0 < cost) cs) (sym c.requires.present) c.requires.network.above

pub report_of_moves-report-requires-clause-priced : goal.report_of_moves-report-requires-clause-priced
report_of_moves-report-requires-clause-priced c =
    priced_links c.args.network.now.lsdb (length c.in_ok-moves.moves.present)
    (ap (λ (m : CostMoves). length m.present) c.in_ok-moves.ensures ∙ ap length c.requires.present
    ∙ length-map c.args.network.now.lsdb.links (present_cost c.args.network.now.request_file))

pub report_of_moves-report-requires-clause-requests : goal.report_of_moves-report-requires-clause-requests
report_of_moves-report-requires-clause-requests c = paths_by_links c.args.network.now c.requires.network c.keeps_conditions.ensures

pub returns : goal.returns
returns c =
    let network = c.args.network.now in
    subst (λ (m : CostMoves). IfOk c.report_of_moves-report.result (ReportsSteps c.args.words.nodes c.args.words.by c.args.names.now
    (record { graph = graph_by_links network.lsdb; requests = network.problem.requests; moves = m })))
    c.in_ok-moves.ensures c.report_of_moves-report.ensures
