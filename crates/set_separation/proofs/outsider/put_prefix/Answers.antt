use Rattle.std.proofs.Common.{◌-◌, ◌≤◌, ◌∷◌, [], ◌++◌, ◌∙◌, ap, sym, subst, arith, ℕ, List, length, reverse}
use Rattle.design_problem.specs.Problems.{request_ends}
use Rattle.spf_ties.specs.Distances.{Findings}
use Rattle.rival_separation.proofs.RivalLemmas.{other_path}
use Rattle.set_separation.specs.declared.prefix_tree.Step.{Step}
use Rattle.set_separation.specs.PrefixTrees.{step_at}
use Rattle.set_separation.proofs.PutPrefixes.{IsPutBack, put_more, put_short, put_whole}
use Rattle.set_separation.proofs.outsider.put_prefix.Goals as goal

pub add_to_path-requires : goal.add_to_path-requires
add_to_path-requires c =
    let short = put_short c.args.outlook.now.graph.now (request_ends c.args.outlook.now.request.now) c.requires.tree.0 c.args.tree.now c.requires.tree.1
    c.keeps_conditions.ensures.fits c.args.place c.loop-at.at c.loop-at.room.path c.requires.place c.loop-at-test.true
    c.loop-at.invariant.path in
    let costs = ap (λ (r : Findings). length r.costs) c.loop-at.invariant.rest in
    let count = c.requires.room.vertices in
    omega arith

pub loop-at-preserved : goal.loop-at-preserved
loop-at-preserved c =
    let steps = c.args.tree.now in
    let i = c.loop-at.at - 1 in
    let path = c.loop-at.room.path in
    let other = c.loop-at-test.true in
    let before : (step_at steps i).place ≤ i = c.requires.tree.1.grown.before i (let known = c.loop-at.invariant.path.known in omega (arith, other)) in
    let path_is = ap (λ (r : Findings). r.path) c.add_to_path.ensures
    ∙ ap (λ (ss : List Step). path ++ (step_at ss i).edge ∷ []) c.steps.ensures in
    let put = put_more steps c.args.place c.loop-at.at path c.add_to_path.new.self.path other
    (let known = c.loop-at.invariant.path.known in omega arith) c.loop-at.invariant.path path_is in
    record {
      rest = other_path c.args.room.now c.loop-at.room c.add_to_path.new.self _ c.loop-at.invariant.rest c.add_to_path.ensures;
      path = subst (λ (ss : List Step). IsPutBack steps c.args.place (step_at ss i).place c.add_to_path.new.self.path) (sym c.steps.ensures) put;
    }

pub returns : goal.returns
returns c = λ wanted done tree.
    let old : Findings = c.args.room.now in
    let turned = put_whole wanted done c.args.tree.now tree c.args.place c.loop-at.at c.loop-at.room.path c.loop-at-test.false c.loop-at.invariant.path in
    c.reverse_path.ensures
    ∙ ap (λ (r : Findings). let moved : Findings = record r { path = reverse r.path } in moved) c.loop-at.invariant.rest
    ∙ ap (λ (es : List ℕ). let moved : Findings = record old { path = es } in moved) turned
