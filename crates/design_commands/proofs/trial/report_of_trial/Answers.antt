-- What is reported of an answer may be written of every input with its problem.
use Rattle.std.proofs.Common.{sym, ◌∙◌, ap}
use Rattle.design_problem.specs.declared.answer.Verdict.TheVariants.{Impossible, Undecided}
use Rattle.design_problem.specs.Answers.{AnswerParts, lines_in}
use Rattle.design_commands.proofs.Trials.{best_lines, best_text, best_tried, costless_text, impossible_tried, undecided_tried}
use Rattle.design_commands.proofs.trial.report_of_trial.Goals as goal

pub best_report-requires-clause-lines : goal.best_report-requires-clause-lines
best_report-requires-clause-lines c =
    best_lines c.args.problem.now c.args.answer.now c.in-Optimal.greatest c.lines_in.result.now c.requires.answered
    (sym (ap (λ (a : AnswerParts). a.verdict) c.answer.view_is) ∙ c.in-Optimal.is)
    (c.lines_in.ensures ∙ ap (λ (a : AnswerParts). lines_in a.costs) c.answer.view_is)

pub returns-in-Optimal-clause-tries : goal.returns-in-Optimal-clause-tries
returns-in-Optimal-clause-tries c =
    best_tried c.args.trial.blocks c.args.trial.start c.args.problem.now c.args.answer.now c.in-Optimal.greatest
    c.lines_in.result.now c.best_report.result c.requires.answered
    (sym (ap (λ (a : AnswerParts). a.verdict) c.answer.view_is) ∙ c.in-Optimal.is)
    (c.lines_in.ensures ∙ ap (λ (a : AnswerParts). lines_in a.costs) c.answer.view_is)
    c.best_report.ensures

pub returns-in-Impossible-clause-tries : goal.returns-in-Impossible-clause-tries
returns-in-Impossible-clause-tries c =
    impossible_tried c.args.trial.blocks c.args.trial.start c.args.problem.now c.args.answer.now c.costless_report.result c.requires.answered
    (sym (ap (λ (a : AnswerParts). a.verdict) c.answer.view_is) ∙ c.in-Impossible.is) c.costless_report.ensures

pub returns-in-Undecided-clause-tries : goal.returns-in-Undecided-clause-tries
returns-in-Undecided-clause-tries c =
    undecided_tried c.args.trial.blocks c.args.trial.start c.args.problem.now c.args.answer.now c.in-Undecided.field-0
    c.costless_report-in-Undecided.result c.requires.answered
    (sym (ap (λ (a : AnswerParts). a.verdict) c.answer.view_is) ∙ c.in-Undecided.is) c.costless_report-in-Undecided.ensures

pub returns-in-Optimal-clause-text : goal.returns-in-Optimal-clause-text
returns-in-Optimal-clause-text c =
    best_text c.args.trial.blocks c.args.trial.start c.args.problem.now c.args.answer.now c.in-Optimal.greatest c.lines_in.result.now c.best_report.result
    (sym (ap (λ (a : AnswerParts). a.verdict) c.answer.view_is) ∙ c.in-Optimal.is)
    (c.lines_in.ensures ∙ ap (λ (a : AnswerParts). lines_in a.costs) c.answer.view_is)
    c.best_report.ensures

pub returns-in-Impossible-clause-text : goal.returns-in-Impossible-clause-text
returns-in-Impossible-clause-text c =
    costless_text c.args.trial.blocks c.args.trial.start c.args.problem.now c.args.answer.now Impossible _ c.costless_report.result
    (sym (ap (λ (a : AnswerParts). a.verdict) c.answer.view_is) ∙ c.in-Impossible.is) c.costless_report.ensures

pub returns-in-Undecided-clause-text : goal.returns-in-Undecided-clause-text
returns-in-Undecided-clause-text c =
    costless_text c.args.trial.blocks c.args.trial.start c.args.problem.now c.args.answer.now (Undecided c.in-Undecided.field-0) _
    c.costless_report-in-Undecided.result
    (sym (ap (λ (a : AnswerParts). a.verdict) c.answer.view_is) ∙ c.in-Undecided.is) c.costless_report-in-Undecided.ensures
