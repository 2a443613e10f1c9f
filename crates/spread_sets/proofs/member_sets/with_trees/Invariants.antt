use Rattle.std.proofs.Common.{◌≡◌, ◌++◌}
use Rattle.std.specs.Prelude.{All}
use Rattle.spread_sets.specs.MemberSets.{HasTree, IsMemberSet, sets_in}
use Rattle.spread_sets.proofs.member_sets.with_trees.Given as goal

-- the sets so far, and those that are left
abbrev pub invariant-loop-members : goal.invariant-loop-members
invariant-loop-members l = record {
  able : goal.iterator-loop-members.can_next l.members-iterator;
  ends : goal.iterator-loop-members.is_finite l.members-iterator;
  sets : sets_in l.grown.items ++ l.members-iterator.rest.items ≡ l.fn.sets.items;
  trees : All (HasTree l.problem) l.grown.items;
  kept : All (IsMemberSet l.problem) l.members-iterator.rest.items;
}
