-- The report of the answer.
use Rattle.design_commands.proofs.Making.{answered}
use Rattle.design_commands.proofs.design.report_of_design.Goals as goal

pub returns-clause-made : goal.returns-clause-made
returns-clause-made g c =
    answered _ _ _ _ c.in_ok-answer.answer c.report_of_answer.result c.in_ok-answer.ensures.answered c.in_ok-answer.ensures.asked
    c.report_of_answer.ensures
