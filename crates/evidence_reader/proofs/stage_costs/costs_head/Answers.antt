use Rattle.answer_lines.specs.Grammar.{AtCosts}
use Rattle.evidence_reader.proofs.stage_costs.costs_head.Goals as goal

pub returns-in-None : goal.returns-in-None
returns-in-None c = c.fault_at.ensures.stops AtCosts (λ e. cc) c.in-None.ensures c.begins_costs.ensures
