-- The report of the answer.
use Rattle.design_commands.proofs.Making.{answered}
use Rattle.design_commands.proofs.total.total_of_problem.Goals as goal

pub returns-clause-made : goal.returns-clause-made
returns-clause-made g c =
    answered _ _ _ _ c.in_ok-answer.answer c.report_of_total.result c.in_ok-answer.ensures.answered c.in_ok-answer.ensures.asked
    c.report_of_total.ensures
