use Rattle.std.proofs.Common.{rules}
use Rattle.sections_reader.proofs.whose_text.text_by_head.Goals as goal

pub returns-then-eq-2 : goal.returns-then-eq-2
returns-then-eq-2 c = search rules
