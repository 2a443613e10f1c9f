use Rattle.std.proofs.Common.{sym, ◌∙◌, ap}
use Rattle.whole_numbers.specs.Fractions.{gcd}
use Rattle.whole_numbers.proofs.Divisors.{gcd_step}
use Rattle.whole_numbers.proofs.common_divisor.gcd_with_word.Goals as goal

pub returns-else-word-eq0 : goal.returns-else-word-eq0
returns-else-word-eq0 c =
    c.from.ensures ∙ c.gcd_of_words.ensures ∙ ap (gcd c.args.word) c.rest_by_word.ensures ∙ sym (gcd_step c.args.value c.args.word)
