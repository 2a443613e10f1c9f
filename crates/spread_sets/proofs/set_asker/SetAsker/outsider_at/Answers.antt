use Rattle.std.proofs.Common.{rules, true, false, ◌≡◌, sym, subst, slice_index}
use Rattle.set_separation.specs.SeenTrees.{IsTiedHere}
use Rattle.spread_sets.specs.declared.member_sets.MemberSet.{MemberSet}
use Rattle.spread_sets.specs.SetAskers.{member_set_at, no_member_set}
use Rattle.spread_sets.specs.Sources.{IsOutsiderTooCheap}
use Rattle.spread_sets.specs.Spreads.{paths_of}
use Rattle.spread_sets.proofs.SetAskerLaws.{IsSeenAs, found_seen, tree_seen}
use Rattle.spread_sets.proofs.set_asker.SetAsker.outsider_at.Goals.{After-set_at-set}
use Rattle.spread_sets.proofs.set_asker.SetAsker.outsider_at.Goals as goal

-- the set at the place
abbrev set : After-set_at-set → MemberSet
set c = member_set_at c.args.survey.now.sets.now (slice_index c.args.self.now.order c.args.place)

seen : (c : After-set_at-set) → IsSeenAs c.args.survey.now.problem.now c.args.survey.now.point.now (set c).members c.outlook_at-outlook.result
seen c = record {
  graph = c.outlook_at-outlook.ensures.graph;
  request = c.outlook_at-outlook.ensures.request;
  point = c.outlook_at-outlook.ensures.point;
}

tree : (c : After-set_at-set) → IsTiedHere c.outlook_at-outlook.result (paths_of c.args.survey.now.problem.now (set c).members) c.set_at-set.result.now.tree
tree c =
    let p = c.args.survey.now.problem.now in
    let ready = c.requires.asker.trees (slice_index c.args.self.now.order c.args.place) no_member_set (c.requires.asker.known c.args.place 0 c.requires.place)
    in
    subst (λ (m : MemberSet). IsTiedHere c.outlook_at-outlook.result (paths_of p (set c).members) m.tree) (sym c.set_at-set.ensures)
    (tree_seen p c.args.survey.now.point.now (set c) c.outlook_at-outlook.result c.keeps_problem_on_graph.ensures.problem ready.has_tree c.requires.tied
    (seen c))

pub find_outsider_at_hand-requires-clause-tree : goal.find_outsider_at_hand-requires-clause-tree
find_outsider_at_hand-requires-clause-tree c =
    let at = (goal.at.find_outsider_at_hand-requires-clause-tree c).After-set_at-set in
    (paths_of c.args.survey.now.problem.now (set at).members, tree at)

pub returns-then-not-find_outsider_at_hand-clause-outsider : goal.returns-then-not-find_outsider_at_hand-clause-outsider
returns-then-not-find_outsider_at_hand-clause-outsider c =
    let at = (goal.at.returns-then-not-find_outsider_at_hand-clause-outsider c).After-set_at-set in
    let p = c.args.survey.now.problem.now in
    record {
      tied = c.requires.tied;
      dearer = found_seen p c.args.survey.now.point.now (set at).members c.find_outsider_at_hand.new.room.path false
          c.outlook_at-outlook.result (seen at) (c.if-not-find_outsider_at_hand.ensures.outsider (paths_of p (set at).members) (tree at));
    }

pub returns-clause-outsider : goal.returns-clause-outsider
returns-clause-outsider c =
    let at = (goal.at.returns-clause-outsider c).After-set_at-set in
    let p = c.args.survey.now.problem.now in
    let laid_out : c.in_ok-edges.edges ≡ c.find_outsider_at_hand.new.room.path = search rules in
    subst (IsOutsiderTooCheap p c.args.survey.now.point.now (set at).members) (sym laid_out)
    (found_seen p c.args.survey.now.point.now (set at).members c.find_outsider_at_hand.new.room.path true
    c.outlook_at-outlook.result (seen at) (c.if-not-find_outsider_at_hand.ensures.outsider (paths_of p (set at).members) (tree at)))
