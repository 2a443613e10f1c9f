use Rattle.std.proofs.Common.{◌≡◌, ◌<◌, ℕ, slice_index}
use Rattle.rival_separation.specs.Askers.{MayShare}
use Rattle.spread_sets.specs.SetAskers.{IsAskerOfSets, member_set_at}
use Rattle.spread_sets.specs.Spreads.{Shares}
use Rattle.spread_sets.proofs.set_asker.SetAsker.each_shares.Given as goal

-- the first sets of the order share
abbrev pub invariant-loop-place : goal.invariant-loop-place
invariant-loop-place l = record {
  asker : IsAskerOfSets l.problem l.sets l.self;
  order : l.self.order ≡ l.fn.self.order;
  shared : MayShare l.problem.graph l.point l.self.room l.shared;
  shares : (i : ℕ) → i < l.place → Shares l.problem l.point (member_set_at l.sets (slice_index l.fn.self.order i)).members;
}
