-- The names of a search's files.
use Rattle.std.proofs.Common.{◌≡◌, refl, ◌∙◌}
use Rattle.text_lines.specs.Arguments.{texts}
use Rattle.command_words.specs.Jobs.{search_seen}
use Rattle.designer_command.specs.Runs.{input_files_of, searched}
use Rattle.designer_command.proofs.dispatch.words.Goals as goal

pub returns : goal.returns
returns c =
    let same : input_files_of c.deref.result.now (texts c.deref-2.result.now) ≡ searched (search_seen c.args.search.now) =
    rw (c.deref.ensures, c.deref-2.ensures.value) refl in
    c.files.ensures ∙ same
