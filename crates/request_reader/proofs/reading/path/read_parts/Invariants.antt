use Rattle.std.proofs.Common.{length}
use Rattle.text_lines.specs.Lines.{words}
use Rattle.text_lines.proofs.WordLists.{SaidTo}
use Rattle.request_reader.specs.ReadingLines.{part_of}
use Rattle.request_reader.proofs.reading.path.read_parts.Given as goal

-- the parts stand for the words that were read
abbrev pub invariant-loop-word : goal.invariant-loop-word
invariant-loop-word l = SaidTo part_of (words l.fn.text) (words l.left) l.parts.items

abbrev pub decreases-loop-word : goal.decreases-loop-word
decreases-loop-word l = length (words l.left)
