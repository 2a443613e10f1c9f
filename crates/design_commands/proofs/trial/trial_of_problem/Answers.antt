-- The report of the answer.
use Rattle.std.proofs.Common.{refl, subst}
use Rattle.wide_fraction.specs.SearchLimits.{SearchLimits, limits_seen}
use Rattle.design_commands.specs.Designs.{IsAnswerTo}
use Rattle.design_commands.specs.Trials.{trial_limits}
use Rattle.design_commands.proofs.Asking.{same_asked}
use Rattle.design_commands.proofs.Making.{trial_answered}
use Rattle.design_commands.proofs.trial.trial_of_problem.Goals as goal

pub returns-clause-made : goal.returns-clause-made
returns-clause-made g c =
    let p = c.args.problem.now in
    let a = c.in_ok-answer.answer in
    trial_answered c.args.trial.blocks c.args.trial.start p _ a c.report_of_trial.result
    (subst (λ (limits : SearchLimits). IsAnswerTo limits p a) c.trial_limits.ensures c.in_ok-answer.ensures.answered)
    (same_asked _ _ _ _ _ p p (limits_seen c.trial_limits.result) trial_limits _ _ a refl c.trial_limits.ensures c.in_ok-answer.ensures.asked)
    c.report_of_trial.ensures.tries c.report_of_trial.ensures.text
