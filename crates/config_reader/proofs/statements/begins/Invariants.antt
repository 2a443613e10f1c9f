use Rattle.std.proofs.Common.{◌≡◌, length}
use Rattle.text_lines.specs.Lines.{words}
use Rattle.config_reader.specs.Statements.{begin_with}
use Rattle.config_reader.proofs.statements.begins.Given as goal

-- what is left of both tells what the whole tells
abbrev pub invariant-loop-word : goal.invariant-loop-word
invariant-loop-word l = begin_with (words l.wanted) (words l.left) ≡ begin_with (words l.fn.wanted) (words l.fn.text)

abbrev pub decreases-loop-word : goal.decreases-loop-word
decreases-loop-word l = length (words l.wanted)
