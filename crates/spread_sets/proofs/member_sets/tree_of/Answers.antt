use Rattle.std.proofs.Common.{◌≡◌, ◌∙◌, sym, subst, ap, List, [], get_or}
use Rattle.design_problem.specs.declared.problem.Request.{Request}
use Rattle.set_separation.specs.declared.prefix_tree.Step.{Step}
use Rattle.set_separation.specs.PrefixTrees.{IsGrown}
use Rattle.spread_sets.specs.Spreads.{edges_of, paths_of}
use Rattle.spread_sets.proofs.MadeSets.{next_path, set_path}
use Rattle.spread_sets.proofs.member_sets.tree_of.Goals as goal

pub loop-member-init : goal.loop-member-init
loop-member-init c =
    let p = c.args.problem.now in
    subst (λ (steps : List Step). IsGrown (paths_of p c.args.members.now) [] steps) (sym c.new-tree.ensures) (set_path p c.args.members.now c.requires)

pub loop-member-preserved : goal.loop-member-preserved
loop-member-preserved c =
    let p = c.args.problem.now in
    let members = c.args.members.now in
    let index = c.loop-member.member-index in
    let edges : c.as_slice.result.now ≡ edges_of p (get_or members index 0) = c.as_slice.ensures
    ∙ ap (λ (r : Request). r.path.edges) c.request_of-request.ensures in
    next_path p members index c.loop-member.tree c.insert.new.self c.as_slice.result.now c.loop-member-test.true edges
    c.loop-member.invariant c.in_ok-insert.ensures
