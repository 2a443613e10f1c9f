use Rattle.std.proofs.Common.{rules}
use Rattle.cost_base.proofs.sure_sink.SureSinkSink.put.Goals as goal

pub returns-else-piece-self-clause-dropped : goal.returns-else-piece-self-clause-dropped
returns-else-piece-self-clause-dropped c = search rules
