use Rattle.std.proofs.Common.{sym, subst, slice_index}
use Rattle.set_separation.specs.SeenTrees.{IsTiedHere}
use Rattle.spread_sets.specs.declared.member_sets.MemberSet.{MemberSet}
use Rattle.spread_sets.specs.SetAskers.{member_set_at, no_member_set}
use Rattle.spread_sets.specs.Spreads.{paths_of}
use Rattle.spread_sets.proofs.SetAskerLaws.{IsSeenAs, lead_seen, tree_seen}
use Rattle.spread_sets.proofs.set_asker.SetAsker.leads_at.Goals.{After-set_at-set}
use Rattle.spread_sets.proofs.set_asker.SetAsker.leads_at.Goals as goal

-- the set at the place
abbrev set : After-set_at-set → MemberSet
set c = member_set_at c.args.survey.now.sets.now (slice_index c.args.self.now.order c.args.place)

seen : (c : After-set_at-set) → IsSeenAs c.args.survey.now.problem.now c.args.survey.now.point.now (set c).members c.outlook_at-outlook.result
seen c = record {
  graph = c.outlook_at-outlook.ensures.graph;
  request = c.outlook_at-outlook.ensures.request;
  point = c.outlook_at-outlook.ensures.point;
}

tree : (c : After-set_at-set) → IsTiedHere c.outlook_at-outlook.result (paths_of c.args.survey.now.problem.now (set c).members) c.set_at-set.result.now.tree
tree c =
    let p = c.args.survey.now.problem.now in
    let ready = c.requires.asker.trees (slice_index c.args.self.now.order c.args.place) no_member_set (c.requires.asker.known c.args.place 0 c.requires.place)
    in
    subst (λ (m : MemberSet). IsTiedHere c.outlook_at-outlook.result (paths_of p (set c).members) m.tree) (sym c.set_at-set.ensures)
    (tree_seen p c.args.survey.now.point.now (set c) c.outlook_at-outlook.result c.keeps_problem_on_graph.ensures.problem ready.has_tree c.requires.tied
    (seen c))

pub paths_lead-requires-clause-tree : goal.paths_lead-requires-clause-tree
paths_lead-requires-clause-tree c =
    let at = (goal.at.paths_lead-requires-clause-tree c).After-set_at-set in
    (paths_of c.args.survey.now.problem.now (set at).members, tree at)

pub returns-clause-answer : goal.returns-clause-answer
returns-clause-answer c =
    let at = (goal.at.returns-clause-answer c).After-set_at-set in
    let p = c.args.survey.now.problem.now in
    lead_seen p c.args.survey.now.point.now (set at).members c.paths_lead.result c.outlook_at-outlook.result (seen at)
    (c.paths_lead.ensures.outsider (paths_of p (set at).members) (tree at))
