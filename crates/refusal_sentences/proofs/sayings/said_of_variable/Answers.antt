use Rattle.std.proofs.Common.{rules}
use Rattle.refusal_sentences.proofs.sayings.said_of_variable.Goals as goal

pub returns : goal.returns
returns c = search rules
