use Rattle.answer_lines.specs.Grammar.{AtVerdict}
use Rattle.evidence_reader.proofs.stage_head.verdict_at.Goals as goal

pub returns-in-None : goal.returns-in-None
returns-in-None c = c.fault_at.ensures.stops AtVerdict (λ e. cc) c.in-None.ensures c.begins_verdict.ensures
