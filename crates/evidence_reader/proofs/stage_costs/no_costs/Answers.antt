use Rattle.answer_lines.specs.Grammar.{AtFloor}
use Rattle.evidence_reader.proofs.stage_costs.no_costs.Goals as goal

pub returns-in-None : goal.returns-in-None
returns-in-None c = c.fault_at.ensures.stops AtFloor (λ e. cc) c.in-None.ensures c.begins_floor.ensures
