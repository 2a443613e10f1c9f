use Rattle.answer_lines.specs.Grammar.{AtRows}
use Rattle.evidence_reader.proofs.stage_rows.rows_count.Goals as goal

pub returns-in-None : goal.returns-in-None
returns-in-None c = c.fault_at.ensures.stops AtRows (λ e. cc) c.in-None.ensures c.begins_rows.ensures
