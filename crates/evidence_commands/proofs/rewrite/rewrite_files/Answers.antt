-- The configuration was read, then the answer's file, and the configuration was rewritten.
use Rattle.std.proofs.Common.{◌≡◌, subst}
use Rattle.std.proofs.lemmas.Result.{err_from_is_err_and}
use Rattle.input_files.specs.Readings.{Gave}
use Rattle.input_files.specs.Outcomes.{ConfigFile, config_read}
use Rattle.input_files.specs.Stops.{IsReadAs}
use Rattle.input_files.proofs.Stops.{gave_stop, gave_then}
use Rattle.evidence_commands.specs.Rewrites.{IsRevised, revision_with}
use Rattle.evidence_commands.proofs.rewrite.rewrite_files.Goals as goal

pub returns-in_err-text : goal.returns-in_err-text
returns-in_err-text g c =
    let p = err_from_is_err_and c.from_residual.result c.from_residual.ensures.1 in
    rw (p.1, p.2) (gave_stop (g.S.Shelf.gave c.args.shelf.now c.read_config_text.new.shelf)
    (config_read c.args.config.now) (λ file. revision_with file c.args.answer.now) _ c.in_err-text.ensures)

pub returns : goal.returns
returns g c =
    let a = c.args.shelf.now in
    let b = c.read_config_text.new.shelf in
    let d = c.rewrite_by_file.new.shelf in
    gave_then (g.S.Shelf.gave a b) (g.S.Shelf.gave b d) (g.S.Shelf.gave a d) (config_read c.args.config.now)
    (λ file. revision_with file c.args.answer.now) (λ (text : ConfigFile) file. text ≡ file)
    (λ revised revision. IsRevised revision revised) c.in_ok-text.text c.rewrite_by_file.result
    (g.met.S.Shelf.gave_more a b d) c.in_ok-text.ensures
    (λ file is.
    subst (λ (f : ConfigFile). Gave (g.S.Shelf.gave b d) (λ came. IsReadAs (revision_with f c.args.answer.now) came
    (λ revised revision. IsRevised revision revised) c.rewrite_by_file.result)) is c.rewrite_by_file.ensures)
