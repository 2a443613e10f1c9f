use Rattle.std.proofs.Common.{◌≡◌, ◌==◌, false, sym, ap, ◌∙◌, length}
use Rattle.std.proofs.lemmas.Bool.{false_from_ne_true}
use Rattle.text_lines.specs.Lines.{ends_word}
use Rattle.text_lines.proofs.WordSteps.{words-cut}
use Rattle.text_lines.proofs.word_reader.first_word.Goals as goal

pub returns-clause-words : goal.returns-clause-words
returns-clause-words c =
    let begins : ends_word c.skip_separators-start.result.now ≡ false =
    false_from_ne_true (ends_word c.skip_separators-start.result.now)
    (λ e. cc (
      ap (λ s. length s == 0) (c.skip_separators-start.ensures.start e),
      c.is_empty.ensures,
      c.if-is_empty.false,
    )) in
    rw (c.split_at.ensures.front, c.split_at.ensures.back)
    (sym c.skip_separators-start.ensures.words
    ∙ words-cut c.skip_separators-start.result.now c.word_length-end.result begins c.word_length-end.ensures.whole c.word_length-end.ensures.end)
