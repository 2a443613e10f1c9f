use Rattle.std.proofs.Common.{◌∙◌}
use Rattle.live_area.proofs.running.metrics_among.Goals as goal

pub metrics_of_ends-requires : goal.metrics_of_ends-requires
metrics_of_ends-requires c = c.deref.ensures.value ∙ c.in_ok-ends.ensures
