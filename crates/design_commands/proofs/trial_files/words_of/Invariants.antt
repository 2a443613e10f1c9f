-- The words so far are the first names.
use Rattle.std.proofs.Common.{◌≡◌, take}
use Rattle.text_lines.specs.Arguments.{texts}
use Rattle.design_commands.proofs.trial_files.words_of.Given as goal

abbrev pub invariant-loop-name : goal.invariant-loop-name
invariant-loop-name l = texts l.words.items ≡ take l.name-index l.names
