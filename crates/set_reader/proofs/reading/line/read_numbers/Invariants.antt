use Rattle.std.proofs.Common.{length}
use Rattle.text_lines.specs.Lines.{words}
use Rattle.text_lines.specs.Numbers.{number}
use Rattle.text_lines.proofs.WordLists.{SaidTo}
use Rattle.set_reader.proofs.reading.line.read_numbers.Given as goal

-- the numbers stand for the words that were read
abbrev pub invariant-loop-word : goal.invariant-loop-word
invariant-loop-word l = SaidTo (λ word. number word 9999999999) (words l.fn.text) (words l.left) l.numbers.items

abbrev pub decreases-loop-word : goal.decreases-loop-word
decreases-loop-word l = length (words l.left)
