-- The file with costs was read, and the configuration was rewritten.
use Rattle.std.proofs.Common.{◌≡◌, ℕ, List, Ok, refl, ◌∙◌, subst}
use Rattle.std.proofs.lemmas.Result.{err_from_is_err_and}
use Rattle.std.specs.Prelude.{Vec}
use Rattle.std.specs.declared.alloc.Global.{Global}
use Rattle.input_files.specs.declared.stop.Stop.TheVariants as stops
use Rattle.input_files.specs.Readings.{Ready}
use Rattle.input_files.specs.Outcomes.{file_read, longest_answer}
use Rattle.input_files.proofs.Stops.{gave_made, gave_stop, gave_wanting}
use Rattle.evidence_commands.specs.Rewrites.{Revision, IsRevised}
use Rattle.evidence_commands.proofs.rewrite.rewrite_by_file.Goals as goal

pub returns-in_err-bytes : goal.returns-in_err-bytes
returns-in_err-bytes g c =
    let p = err_from_is_err_and c.from_residual.result c.from_residual.ensures.1 in
    rw (p.1, p.2) (gave_stop (g.S.Shelf.gave c.args.shelf.now c.read_answer_file.new.shelf) (file_read longest_answer c.args.answer.now)
    (λ bytes. Ready (record { config = c.args.config.now; bytes = bytes })) _ c.in_err-bytes.ensures.read)

pub returns : goal.returns
returns g c =
    gave_made (g.S.Shelf.gave c.args.shelf.now c.read_answer_file.new.shelf) (file_read longest_answer c.args.answer.now)
    (λ bytes. Ready (record { config = c.args.config.now; bytes = bytes })) (λ (bytes : Vec ℕ Global) read. bytes.items ≡ read)
    (λ revised revision. IsRevised revision revised) c.in_ok-bytes.bytes (Ok c.in_ok-revised_by_text.field-0) c.in_ok-bytes.ensures.read
    (λ read same.
    let revision : Revision = record { config = c.args.config.now; bytes = read } in
    record {
      said = revision;
      ends = refl;
      fits = subst (λ (bytes : List ℕ). IsRevised (record { config = c.args.config.now; bytes = bytes }) c.in_ok-revised_by_text.field-0)
          (c.deref.ensures.value ∙ same) c.in_ok-revised_by_text.ensures;
    })

pub returns-in_err-revised_by_text : goal.returns-in_err-revised_by_text
returns-in_err-revised_by_text g c =
    let p = err_from_is_err_and c.from_residual-in_err-revised_by_text.result c.from_residual-in_err-revised_by_text.ensures.1 in
    let gave = g.S.Shelf.gave c.args.shelf.now c.read_answer_file.new.shelf in
    rw (p.1, p.2) (gave_stop gave (file_read longest_answer c.args.answer.now)
    (λ bytes. Ready (record { config = c.args.config.now; bytes = bytes })) stops.OutOfMemory
    (gave_wanting gave (file_read longest_answer c.args.answer.now) _ _ c.in_ok-bytes.ensures.read))
