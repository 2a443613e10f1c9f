use Rattle.std.proofs.Common.{◌≡◌, ◌≤◌, length}
use Rattle.text_lines.specs.Lines.{words}
use Rattle.text_lines.proofs.word_reader.skip_separators.Given as goal

-- what was passed held no word
abbrev pub invariant-loop-left : goal.invariant-loop-left
invariant-loop-left l = record { same : words l.left ≡ words l.text; shorter : length l.left ≤ length l.text }

abbrev pub decreases-loop-left : goal.decreases-loop-left
decreases-loop-left l = length l.left
