use Rattle.std.proofs.Common.{◌-◌, ◌<◌, sym, subst, arith, List, length}
use Rattle.design_problem.specs.Problems.{request_ends}
use Rattle.set_separation.specs.declared.prefix_tree.Step.{Step}
use Rattle.set_separation.specs.PrefixTrees.{step_at}
use Rattle.set_separation.proofs.DeviationLemmas.{step_known}
use Rattle.set_separation.proofs.deviation.vertex_of.Goals as goal

pub edge_of-requires : goal.edge_of-requires
edge_of-requires c =
    let g = c.args.outlook.now.graph.now in
    let within : c.args.place - 1 < length c.args.tree.now = omega (arith, c.requires.place, c.if-place-eq0.false) in
    subst (λ (steps : List Step). (step_at steps (c.args.place - 1)).edge < length g.edges) (sym c.steps.ensures)
    (step_known g (request_ends c.args.outlook.now.request.now) c.requires.tree.0 c.args.tree.now c.requires.tree.1
    (c.args.place - 1) within)
