use Rattle.std.proofs.Common.{◌≡◌, ◌<◌, ℕ, None, get_or, length, slice_index}
use Rattle.rival_separation.specs.Askers.{MayShare}
use Rattle.spread_sets.specs.SetAskers.{IsAskerOfSets, IsOutsiderIfAny, member_set_at}
use Rattle.spread_sets.proofs.set_asker.SetAsker.cheap_outsiders.Given as goal

-- the outsiders of the first sets of the order are told
abbrev pub invariant-loop-place : goal.invariant-loop-place
invariant-loop-place l = record {
  asker : IsAskerOfSets l.problem l.sets l.self;
  order : l.self.order ≡ l.fn.self.order;
  shared : MayShare l.problem.graph l.point l.self.room l.shared;
  count : length l.outsiders.items ≡ length l.sets;
  told : (i : ℕ) → i < l.place → IsOutsiderIfAny l.problem l.point (member_set_at l.sets (slice_index l.fn.self.order i)).members
      (get_or l.outsiders.items (slice_index l.fn.self.order i) None);
}
