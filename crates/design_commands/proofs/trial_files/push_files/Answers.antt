-- A file more for a name more.
use Rattle.std.proofs.Common.{◌∙◌, arith}
use Rattle.design_commands.proofs.MadeNames.{files_turn}
use Rattle.design_commands.proofs.trial_files.push_files.Goals as goal

pub loop-place-preserved : goal.loop-place-preserved
loop-place-preserved c =
    files_turn c.args.names.now c.args.texts.now c.loop-place.files.items c.push.new.self.items _ c.loop-place.place _ _
    c.as_bytes.result.now c.as_bytes-in-loop-place.result.now c.in_ok-file_of.field-0 c.loop-place-test.true
    (omega (arith, c.requires, c.loop-place-test.true)) c.in_ok-push.ensures.items c.in_ok-file_of.ensures
    (c.as_bytes.ensures ∙ c.index-names-place.is) (c.as_bytes-in-loop-place.ensures ∙ c.index-texts-place.is)
    c.loop-place.invariant
