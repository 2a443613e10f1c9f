-- A link more, and its line.
use Rattle.std.proofs.Common.{ℕ, ◌∙◌, ap, sym, arith, List, length, get_or, ◌<◌}
use Rattle.std.specs.Prelude.{Some}
use Rattle.std.proofs.lemmas.Option.{slice_get-get_or}
use Rattle.area_graph.specs.Area.{Area, edge_at}
use Rattle.lsdb_build.specs.declared.Linked.{Linked}
use Rattle.design_problem.specs.Problems.{DesignProblem}
use Rattle.present_costs.proofs.NotedLaws.{price_of_link}
use Rattle.change_commands.specs.ChangedLines.{changed_cost}
use Rattle.change_commands.proofs.ChangedLaws.{changed_step}
use Rattle.change_commands.proofs.changed_lines.changed_lines.Goals as goal

pub loop-i-preserved : goal.loop-i-preserved
loop-i-preserved c =
    let a = c.args.network.now.request_file in
    let d = c.args.network.now.lsdb in
    let w = c.args.costs.now in
    let i = c.loop-i.i in
    let link = c.link-item.result in
    let within : i < length d.links = omega (arith, c.loop-i-test.true, ap length c.links-link-items.ensures.value) in
    let is = c.link-item.is ∙ ap (λ (links : List Linked). get_or links i link) c.links-link-items.ensures.value in
    changed_step a d w i link link c.price_of_link.result c.changed_cost-cost.result c.loop-i.lines.items c.push_changed.new.lines.items within is
    (c.price_of_link.ensures ∙ ap (λ (g : Area). (edge_at g i).price) (c.graph_of-graph.ensures ∙ ap (λ (p : DesignProblem). p.graph) c.requires)
    ∙ price_of_link a d i link (slice_get-get_or d.links i link within ∙ ap Some (sym is)))
    (c.changed_cost-cost.ensures ∙ ap (λ (cost : ℕ). changed_cost c.price_of_link.result cost w) c.present_cost.ensures)
    c.in_ok-push_changed.ensures c.loop-i.invariant
