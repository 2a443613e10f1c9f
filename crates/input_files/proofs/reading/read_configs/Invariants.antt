-- This came of those that were read, and the others are left.
use Rattle.std.proofs.Common.{drop}
use Rattle.text_lines.specs.Arguments.{texts}
use Rattle.input_files.specs.Readings.{Gave}
use Rattle.input_files.proofs.Configs.{Progress}
use Rattle.input_files.proofs.reading.read_configs.Given as goal

abbrev pub invariant-loop-name : goal.invariant-loop-name
invariant-loop-name g l =
    Gave (g.S.Shelf.gave l.initial.shelf l.shelf) (λ came. Progress (texts l.names) (texts (drop l.name-index l.names)) l.configs.items came)
