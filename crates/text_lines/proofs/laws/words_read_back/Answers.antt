use Rattle.text_lines.proofs.WordLaws.{words-join, words-indented}
use Rattle.text_lines.proofs.laws.words_read_back.Goals as goal

pub returns : goal.returns
returns c = λ ws ones. (words-join ws ones, words-indented ws ones)
