use Rattle.std.proofs.Common.{rules, ◌≡◌, ◌++◌, ◌∷◌, subst, List, ℕ}
use Rattle.std.specs.Prelude.{All}
use Rattle.std.proofs.lemmas.List.Elements.{All-head, All-tail}
use Rattle.set_separation.specs.PrefixTrees.{IsGrown}
use Rattle.spread_sets.specs.Spreads.{paths_of}
use Rattle.spread_sets.specs.MemberSets.{IsMemberSet, sets_in}
use Rattle.spread_sets.proofs.MadeSets.{has_trees_more, trees_more}
use Rattle.spread_sets.proofs.member_sets.with_trees.Goals as goal

pub loop-members-preserved : goal.loop-members-preserved
loop-members-preserved c =
    let p = c.args.problem.now in
    let set = c.in-Some.members in
    let later = c.next.new.self.rest.items in
    let rest : c.loop-members.members-iterator.rest.items ≡ set ∷ later = search rules in
    let kept = subst (All (IsMemberSet p)) rest c.loop-members.invariant.kept in
    let old = c.loop-members.grown.items in
    let new = c.push.new.self.items in
    record {
      able = tt;
      ends = tt;
      sets = trees_more p old new set c.in_ok-tree.tree later c.args.sets.items
          (subst (λ (sets : List (List ℕ)). sets_in old ++ sets ≡ c.args.sets.items) rest c.loop-members.invariant.sets)
          c.in_ok-push.ensures.items;
      trees = has_trees_more p old new set c.in_ok-tree.tree c.loop-members.invariant.trees
          (All-head (IsMemberSet p) set later kept)
          (subst (λ (s : List ℕ). IsGrown (paths_of p s) (paths_of p s) c.in_ok-tree.tree) c.as_slice.ensures
          c.in_ok-tree.ensures) c.in_ok-push.ensures.items;
      kept = All-tail (IsMemberSet p) set later kept;
    }
