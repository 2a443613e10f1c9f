use Rattle.std.proofs.Common.{List, subst}
use Rattle.spread_sets.specs.declared.member_sets.MemberSet.{MemberSet}
use Rattle.spread_sets.specs.SetAskers.{IsAskerOfSets}
use Rattle.spread_sets.proofs.source.Spreads.new.Goals as goal

pub invariant_of-result : goal.invariant_of-result
invariant_of-result g c = record {
  problem = c.requires.problem;
  sets = c.requires.sets;
  asker = subst (λ (sets : List MemberSet). IsAskerOfSets c.args.problem.now sets c.in_ok-asker.asker) c.deref.ensures.value c.in_ok-asker.ensures;
}
