use Rattle.std.proofs.Common.{sym, ◌∙◌}
use Rattle.answer_lines.specs.Words.{words_left}
use Rattle.answer_lines.proofs.EntryWords.{only_refute, parts-some}
use Rattle.answer_lines.proofs.entries.refute_of.Goals as goal

pub returns-then-is_done : goal.returns-then-is_done
returns-then-is_done c =
    only_refute (words_left c.args.words) (λ ps bounds some small e. parts-some ps some (sym e ∙ c.is_done.ensures.0 c.if-is_done.true))
