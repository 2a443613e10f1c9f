use Rattle.answer_lines.specs.Grammar.{AtCost}
use Rattle.evidence_reader.proofs.stage_sections.cost_at.Goals as goal

pub returns-in-None : goal.returns-in-None
returns-in-None c = λ of router. c.fault_at.ensures.stops (AtCost of router) (λ e. cc) (c.in-None.ensures of router) (c.begins_cost.ensures of router)
