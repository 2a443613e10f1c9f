use Rattle.std.proofs.Common.{◌∙◌, sym}
use Rattle.answer_lines.specs.Words.{words_left}
use Rattle.answer_lines.proofs.ListParts.{not-both}
use Rattle.answer_lines.proofs.NumberWords.{no_number}
use Rattle.answer_lines.proofs.rows.numbers_of.Goals as goal

pub returns-in_default : goal.returns-in_default
returns-in_default c =
    λ ns all e.
    no_number c.loop-left.numbers.items ns (words_left c.loop-left.left) all (sym e ∙ c.loop-left.invariant.words)
    (λ empty. not-both c.is_done.result (c.is_done.ensures.1 empty) c.loop-left-test.true)
    c.in_default.ensures
