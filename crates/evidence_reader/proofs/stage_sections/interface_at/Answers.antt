use Rattle.answer_lines.specs.Grammar.{AtInterface}
use Rattle.evidence_reader.proofs.stage_sections.interface_at.Goals as goal

pub returns-in-None : goal.returns-in-None
returns-in-None c = λ of router. c.fault_at.ensures.stops (AtInterface of router) (λ e. cc) (c.in-None.ensures of router) (c.begins_interface.ensures of router)
