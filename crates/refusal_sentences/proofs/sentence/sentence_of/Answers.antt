use Rattle.std.proofs.Common.{rules}
use Rattle.refusal_sentences.proofs.sentence.sentence_of.Goals as goal

pub returns : goal.returns
returns c = search rules
