-- The problem was read, then the answer's file, and its bytes were judged.
use Rattle.std.proofs.Common.{sym, subst}
use Rattle.std.proofs.lemmas.Result.{err_from_is_err_and}
use Rattle.design_problem.specs.Problems.{DesignProblem}
use Rattle.input_files.specs.declared.problem.View.TheVariants.{AsRequested}
use Rattle.input_files.specs.Readings.{Gave}
use Rattle.input_files.specs.Outcomes.{Input, outcome}
use Rattle.input_files.specs.Stops.{IsReadAs, files_named}
use Rattle.input_files.proofs.Problems.{IsProblemOf}
use Rattle.input_files.proofs.Stops.{gave_stop, gave_then}
use Rattle.evidence_commands.specs.Checks.{IsJudged, claim_with}
use Rattle.evidence_commands.proofs.check.check_files.Goals as goal

pub returns-in_err-problem : goal.returns-in_err-problem
returns-in_err-problem g c =
    let p = err_from_is_err_and c.from_residual.result c.from_residual.ensures.1 in
    rw (p.1, p.2) (gave_stop (g.S.Shelf.gave c.args.shelf.now c.read_problem.new.shelf)
    (outcome AsRequested (files_named c.args.words)) (λ d. claim_with d.problem c.args.answer.now) _ c.in_err-problem.ensures.read)

pub returns : goal.returns
returns g c =
    let a = c.args.shelf.now in
    let b = c.read_problem.new.shelf in
    let d = c.check_file.new.shelf in
    gave_then (g.S.Shelf.gave a b) (g.S.Shelf.gave b d) (g.S.Shelf.gave a d)
    (outcome AsRequested (files_named c.args.words)) (λ (input : Input). claim_with input.problem c.args.answer.now)
    IsProblemOf (λ judgement claim. IsJudged claim judgement) c.in_ok-problem.problem c.check_file.result
    (g.met.S.Shelf.gave_more a b d) c.in_ok-problem.ensures.read
    (λ (input : Input) is.
    subst (λ (p : DesignProblem). Gave (g.S.Shelf.gave b d) (λ came. IsReadAs (claim_with p c.args.answer.now) came
    (λ judgement claim. IsJudged claim judgement) c.check_file.result)) (sym is.0) c.check_file.ensures)
