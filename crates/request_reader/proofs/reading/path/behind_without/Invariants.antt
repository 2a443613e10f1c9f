use Rattle.std.proofs.Common.{◌≡◌, length}
use Rattle.text_lines.specs.Lines.{words}
use Rattle.request_reader.specs.ReadingLines.{behind_without}
use Rattle.request_reader.proofs.reading.path.behind_without.Given as goal

-- the word stands among the words that are left
abbrev pub invariant-loop-word : goal.invariant-loop-word
invariant-loop-word l = behind_without (words l.fn.text) ≡ behind_without (words l.left)

abbrev pub decreases-loop-word : goal.decreases-loop-word
decreases-loop-word l = length (words l.left)
