use Rattle.request_reader.proofs.ReadingRoutes.{cut_tells}
use Rattle.request_reader.proofs.reading.path.is_router.Goals as goal

pub returns : goal.returns
returns c = cut_tells c.cut.result (λ p. p.0.now) (λ p. p.1.now) 58 c.args.word.now c.is_none.result c.is_none.ensures c.cut.ensures.pieces c.cut.ensures.parts
