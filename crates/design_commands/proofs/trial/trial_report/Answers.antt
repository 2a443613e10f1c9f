-- The report of the texts that were made.
use Rattle.std.proofs.Common.{refl}
use Rattle.form_search.proofs.AdvisorLaws.{left_alike}
use Rattle.design_commands.proofs.trial.trial_report.Goals as goal

pub returns-clause-tried : goal.returns-clause-tried
returns-clause-tried g c = c.report_of_texts.ensures.tried

pub returns-clause-asked : goal.returns-clause-asked
returns-clause-asked g c = c.report_of_texts.ensures.asked

pub returns-clause-advisors : goal.returns-clause-advisors
returns-clause-advisors g c = c.report_of_texts.ensures.advisors

pub returns-in_err-made-clause-advisors : goal.returns-in_err-made-clause-advisors
returns-in_err-made-clause-advisors g c = left_alike _ _ _ refl
