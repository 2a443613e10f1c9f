use Rattle.std.proofs.Common.{◌≡◌, ◌<◌, ℕ, slice_index}
use Rattle.design_problem.specs.Problems.{request_at}
use Rattle.rival_separation.specs.Askers.{IsAskerFor, MayShare, RequestLeads}
use Rattle.rival_separation.proofs.asker.Asker.each_leads.Given as goal

abbrev pub invariant-loop-place : goal.invariant-loop-place
invariant-loop-place l = record {
  asker : IsAskerFor l.graph l.requests l.self;
  order : l.self.order ≡ l.fn.self.order;
  shared : MayShare l.graph l.point l.self.room l.shared;
  leads : (i : ℕ) → i < l.place → RequestLeads l.graph l.point (request_at l.requests (slice_index l.fn.self.order i));
}
