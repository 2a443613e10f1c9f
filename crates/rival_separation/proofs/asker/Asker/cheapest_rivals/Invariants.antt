use Rattle.std.proofs.Common.{◌≡◌, ◌<◌, ℕ, None, get_or, length, slice_index}
use Rattle.design_problem.specs.Problems.{request_at}
use Rattle.rival_separation.specs.Askers.{IsAskerFor, IsCheapestIfAny, MayShare}
use Rattle.rival_separation.proofs.asker.Asker.cheapest_rivals.Given as goal

abbrev pub invariant-loop-place : goal.invariant-loop-place
invariant-loop-place l = record {
  asker : IsAskerFor l.graph l.requests l.self;
  order : l.self.order ≡ l.fn.self.order;
  shared : MayShare l.graph l.point l.self.room l.shared;
  count : length l.rivals.items ≡ length l.requests;
  told : (i : ℕ) → i < l.place → IsCheapestIfAny l.graph l.point (request_at l.requests (slice_index l.fn.self.order i))
      (get_or l.rivals.items (slice_index l.fn.self.order i) None);
}
