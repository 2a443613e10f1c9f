use Rattle.std.proofs.lemmas.Result.{IfOk-weaker}
use Rattle.answer_lines.proofs.LineEntries.{line_found}
use Rattle.answer_lines.proofs.entries.entry_of.Goals as goal

pub returns : goal.returns
returns c = IfOk-weaker c.entry_of_words.result _ _ (λ found h. line_found c.args.line.now found h) c.entry_of_words.ensures
