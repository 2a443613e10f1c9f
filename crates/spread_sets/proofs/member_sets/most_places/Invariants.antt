use Rattle.std.proofs.Common.{◌+◌, ◌≤◌, length, take}
use Rattle.std.specs.Prelude.{All}
use Rattle.spread_sets.specs.declared.member_sets.MemberSet.{MemberSet}
use Rattle.spread_sets.proofs.member_sets.most_places.Given as goal

-- no tree of the first sets has more places
abbrev pub invariant-loop-set : goal.invariant-loop-set
invariant-loop-set l = All (λ (set : MemberSet). length set.tree + 1 ≤ l.most) (take l.set-index l.sets)
