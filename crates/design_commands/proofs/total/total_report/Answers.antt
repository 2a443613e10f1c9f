-- The text of an answer to the problem that was read, with its least total, may be written.
use Rattle.std.proofs.Common.{refl, inr}
use Rattle.std.proofs.lemmas.Result.{err_from_is_err_and}
use Rattle.form_search.proofs.AdvisorLaws.{left_alike}
use Rattle.wide_fraction.specs.SearchLimits.{limits_seen}
use Rattle.input_files.specs.declared.problem.View.TheVariants.{AsRequested}
use Rattle.input_files.specs.Outcomes.{outcome}
use Rattle.input_files.specs.Stops.{files_named}
use Rattle.design_commands.proofs.Asking.{same_asked}
use Rattle.design_commands.proofs.Making.{gave_made_of, wanting_alone}
use Rattle.design_commands.proofs.TotalRuns.{total_found}
use Rattle.design_commands.proofs.total.total_report.Goals as goal

pub returns-clause-read : goal.returns-clause-read
returns-clause-read g c =
    let given = g.S.Shelf.gave c.args.shelf.now c.read_problem.new.shelf in
    let names = files_named c.args.words in
    let p = c.in_ok-problem.problem in
    gave_made_of given (outcome AsRequested names) _ p c.total_of_problem.result c.or_stop.result _ _
    c.in_ok-problem.ensures.read c.total_of_problem.ensures.made c.or_stop.ensures
    (λ report r. total_found given (limits_seen c.args.limits.now) names p r.answer report _ c.in_ok-problem.ensures.read r.to r.made
    (λ d same. same_asked _ _ _ _ _ p d.problem (limits_seen c.args.limits.now) (limits_seen c.args.limits.now) _ _ _ same refl r.asked))

pub returns-clause-stopped : goal.returns-clause-stopped
returns-clause-stopped g c = wanting_alone c.total_of_problem.result c.or_stop.result _ c.or_stop.ensures

pub returns-in_err-problem-clause-advisors : goal.returns-in_err-problem-clause-advisors
returns-in_err-problem-clause-advisors g c = left_alike _ _ _ refl

pub returns-in_err-problem-clause-stopped : goal.returns-in_err-problem-clause-stopped
returns-in_err-problem-clause-stopped g c =
    let p = err_from_is_err_and c.from_residual.result c.from_residual.ensures.1 in
    rw (p.1, p.2) (inr refl)
