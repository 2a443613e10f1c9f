use Rattle.std.proofs.Common.{arith, inl}
use Rattle.text_lines.proofs.WordSteps.{length-words-le}
use Rattle.text_lines.proofs.word_reader.word_count.Goals as goal

pub count-requires-clause-fits : goal.count-requires-clause-fits
count-requires-clause-fits c = inl (rw c.new.ensures (omega (arith, length-words-le c.args.text.now)))
