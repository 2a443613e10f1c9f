use Rattle.std.proofs.Common.{◌≡◌}
use Rattle.design_problem.specs.Earnest.{IsLeastPoint}
use Rattle.form_search.specs.AdvisorsAsked.{AreAllTold, AreCalledAlong, IsPick}
use Rattle.form_search.specs.Calls.{Leaves}
use Rattle.form_search.specs.NextEntries.{IsDesk}
use Rattle.form_search.proofs.GrowingTrees.{IsGrowing, left_of}
use Rattle.form_search.proofs.searching.search.Given as goal

abbrev pub invariant-boxes : goal.invariant-boxes
invariant-boxes g l = record {
  left : Leaves g.S.FormSource (λ P. P) l.initial.source l.source l.initial.pool l.pool;
  growing : IsGrowing (g.S.FormSource.accepted l.initial.source) l.limits.top l.limits.nodes l.pool l.costs l.tree;
  desk : IsDesk l.limits.top (g.S.FormSource.count l.initial.source) l.desk;
  advisors : AreCalledAlong (IsLeastPoint (g.S.FormSource.accepted l.initial.source))
      (IsPick (λ b c. c.vtable ≡ b.vtable) (λ b. (goal.Advisor-dyn g (b.vtable, b.value)).state b.value)
      (λ b. (goal.Advisor-dyn g (b.vtable, b.value)).would) (λ b. (goal.Advisor-dyn g (b.vtable, b.value)).left))
      (AreAllTold (λ b c. c.vtable ≡ b.vtable) (λ b. (goal.Advisor-dyn g (b.vtable, b.value)).state b.value)
      (λ b. (goal.Advisor-dyn g (b.vtable, b.value)).after))
      l.costs l.tree l.initial.advisors.items l.advisors.items;
}

abbrev pub decreases-boxes : goal.decreases-boxes
decreases-boxes g l = left_of l.limits.nodes (g.S.FormSource.possible_forms l.initial.source) l.pool l.tree
