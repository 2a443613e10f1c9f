-- The problem in a view, or the first fault of resolution in it.
use Rattle.std.proofs.Common.{◌≡◌, sym, ◌∙◌, ap, subst, []}
use Rattle.design_problem.specs.Problems.{DesignProblem}
use Rattle.input_files.specs.declared.problem.View.{View}
use Rattle.input_files.specs.Outcomes.{resolution_refused, viewed_fault, viewed_problem}
use Rattle.input_files.specs.Stops.{files_named}
use Rattle.input_files.proofs.Present.{present_low}
use Rattle.input_files.proofs.Problems.{resolution_stops}
use Rattle.input_files.proofs.Readings.{says_unless}
use Rattle.input_files.proofs.problem.resolution.Goals as goal

pub returns-in-Ok-clause-present : goal.returns-in-Ok-clause-present
returns-in-Ok-clause-present c = λ same.
    ap (λ (p : DesignProblem). p.low) c.in-Ok.ensures.made.1
    ∙ subst (λ (v : View). (viewed_problem v c.args.request_file.now c.args.lsdb.now).low ≡ []) (sym same) (present_low c.args.request_file.now c.args.lsdb.now)

pub returns-in-Ok-clause-read : goal.returns-in-Ok-clause-read
returns-in-Ok-clause-read c =
    let asked = c.args.request_file.now in
    let d = c.args.lsdb.now in
    record {
      said = viewed_problem c.args.view asked d;
      ends = says_unless (resolution_refused (files_named c.args.words) d) (viewed_problem c.args.view asked d)
          (viewed_fault c.args.view asked d) c.in-Ok.ensures.made.0;
      fits = c.in-Ok.ensures.made.1;
    }

pub returns-in-Err-clause-read : goal.returns-in-Err-clause-read
returns-in-Err-clause-read c =
    resolution_stops (files_named c.args.words) c.args.lsdb.now (viewed_problem c.args.view c.args.request_file.now c.args.lsdb.now)
    (viewed_fault c.args.view c.args.request_file.now c.args.lsdb.now) c.in-Err.refusal c.stop_of_resolution.result
    c.in-Err.ensures.refused c.stop_of_resolution.ensures
