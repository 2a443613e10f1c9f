use Rattle.std.proofs.Common.{◌≡◌, drop}
use Rattle.cost_base.specs.Fakes.{kept_at}
use Rattle.cost_base.proofs.memory_sink.MemorySink.kept.Given as goal

abbrev pub invariant-loop-pair : goal.invariant-loop-pair
invariant-loop-pair l = kept_at l.self.fail.items l.call ≡ kept_at (drop l.pair-index l.self.fail.items) l.call
