-- What was written of the report is right for what came of the files.
use Rattle.std.proofs.Common.{◌≡◌, refl, sym, ap, subst, [], Err, Some, None}
use Rattle.form_search.proofs.AdvisorLaws.{left_alike}
use Rattle.command_words.specs.declared.job.WordsStop.{WordsStop}
use Rattle.command_words.specs.Jobs.{seen}
use Rattle.command_words.specs.Commands.{job_of}
use Rattle.text_lines.specs.Arguments.{texts}
use Rattle.designer_command.specs.Runs.{MayWrite, MayWriteAsking}
use Rattle.designer_command.proofs.Asking.{asking_none, job_done, refused_meets, run_meets}
use Rattle.designer_command.proofs.Runs.{made_meets, wants_none, writes_none}
use Rattle.report_writer.proofs.Cuts.{made_by_pieces, none_by_pieces, text_by_pieces}
use Rattle.designer_command.proofs.top_call.run.Goals as goal

pub returns-in-Ok : goal.returns-in-Ok
returns-in-Ok g c =
    let a = c.args.shelf.now in
    let b = c.job_report-made.new.shelf in
    let o = c.args.out.now in
    let p = c.write_made.new.out in
    let did =
    job_done (g.S.Shelf.gave a b) _ (seen c.in-Ok.job) c.job_report-made.result c.report_of.result c.job_report-made.ensures.made
    c.report_of.ensures in
    record {
      meets = run_meets (texts c.args.words.now) _ (g.S.Shelf.gave a b) _ _ _ (g.K.Sink.handed o p) (g.K.Sink.got o) (g.K.Sink.got p)
          (g.K.Sink.faults o) (g.K.Sink.faults p) c.write_made.result (Some (seen c.in-Ok.job)) did.came c.in-Ok.ensures.job did.given
          (g.met.S.Shelf.gave_told a b did.came did.given) (g.met.S.Shelf.gave_counted a b did.came did.given)
          (made_meets (p ≡ o) (MayWriteAsking (MayWrite (Some (seen c.in-Ok.job)) did.came) _) (g.K.Sink.handed o p) (g.K.Sink.got o)
          (g.K.Sink.got p) (g.K.Sink.faults o) (g.K.Sink.faults p) c.report_of.result c.write_made.result
          (asking_none (MayWrite (Some (seen c.in-Ok.job)) did.came) _ (writes_none (Some (seen c.in-Ok.job)) did.came)) (g.met.K.Sink.handed_got o p)
          (λ same. record {
            written = subst (λ sink. g.K.Sink.handed o sink []) (sym same)
                (g.met.K.Sink.handed_none o);
            same = ap (λ sink. g.K.Sink.got sink) same;
          })
          did.so.done c.write_made.ensures.written)
          did.so.begun;
      pieces = made_by_pieces g.K.Sink.handed o p c.report_of.result c.write_made.result c.write_made.ensures.pieces;
      held = g.met.S.Shelf.gave_held a b did.came did.given;
      advisors = c.job_report-made.ensures.advisors;
    }

pub returns-in-Err-Refused-clause-meets : goal.returns-in-Err-Refused-clause-meets
returns-in-Err-Refused-clause-meets g c =
    let a = c.args.shelf.now in
    let o = c.args.out.now in
    let p = c.write_report.new.out in
    let words = texts c.args.words.now in
    let none : job_of words ≡ None = c.in-Err-Refused.ensures.refused (ap (λ (stop : WordsStop). Err stop) c.in-Err-Refused.field-0-is) in
    refused_meets words _ (g.S.Shelf.gave a a) _ _ _ (g.K.Sink.handed o p) (g.K.Sink.got o) (g.K.Sink.got p) (g.K.Sink.faults o)
    (g.K.Sink.faults p) c.usage_report.result c.write_report.result none (g.met.S.Shelf.gave_none a)
    (g.met.S.Shelf.gave_counted a a [] (g.met.S.Shelf.gave_none a)) (g.met.K.Sink.handed_got o p) c.usage_report.ensures
    c.write_report.ensures.written refl

pub returns-in-Err-Refused-clause-pieces : goal.returns-in-Err-Refused-clause-pieces
returns-in-Err-Refused-clause-pieces g c =
    text_by_pieces g.K.Sink.handed c.args.out.now c.write_report.new.out c.usage_report.result.text
    c.write_report.result c.write_report.ensures.pieces

pub returns-in-Err-Refused-clause-advisors : goal.returns-in-Err-Refused-clause-advisors
returns-in-Err-Refused-clause-advisors g c = left_alike _ _ _ refl

pub returns-in-Err-OutOfMemory-clause-meets : goal.returns-in-Err-OutOfMemory-clause-meets
returns-in-Err-OutOfMemory-clause-meets g c =
    let a = c.args.shelf.now in
    record {
      came = [];
      given = g.met.S.Shelf.gave_none a;
      told = tt;
      counted = g.met.S.Shelf.gave_counted a a [] (g.met.S.Shelf.gave_none a);
      written = record { written = g.met.K.Sink.handed_none c.args.out.now; same = refl };
      begun = λ wanting. wants_none (job_of (texts c.args.words.now));
    }

pub returns-in-Err-OutOfMemory-clause-pieces : goal.returns-in-Err-OutOfMemory-clause-pieces
returns-in-Err-OutOfMemory-clause-pieces g c = none_by_pieces g.K.Sink.handed c.args.out.now c.args.out.now _ refl

pub returns-in-Err-OutOfMemory-clause-advisors : goal.returns-in-Err-OutOfMemory-clause-advisors
returns-in-Err-OutOfMemory-clause-advisors g c = left_alike _ _ _ refl
