use Rattle.std.proofs.lemmas.Iterator.Consumers.{nth_from_yields_List, YieldsList-from_first}
use Rattle.text_lines.proofs.word_reader.word_at.Goals as goal

pub returns : goal.returns
returns c = nth_from_yields_List _ _ c.args.place c.nth.ensures.ran (YieldsList-from_first (λ x. x.now) (λ s. s) _ c.new.ensures)
