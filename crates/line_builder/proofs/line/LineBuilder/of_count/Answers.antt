-- Its word, the count, and the numbers behind it.
use Rattle.std.proofs.Common.{◌∙◌, ap, sym, map, ℕ, List, ◌∷◌, ◌++◌}
use Rattle.cost_base.specs.Decimal.{decimal}
use Rattle.line_builder.specs.Words.{with_words}
use Rattle.line_builder.proofs.WordLaws.{spaced-with}
use Rattle.line_builder.proofs.line.LineBuilder.of_count.Goals as goal

pub returns : goal.returns
returns c =
    let words = map decimal c.args.numbers.now in
    let count = decimal c.args.count in
    c.in_ok-numbers.ensures
    ∙ ap (λ (first : List ℕ). with_words first words) (c.in_ok-number.ensures
    ∙ ap (λ (n : ℕ). c.in_ok-line.line ++ 32 ∷ decimal n) c.from.ensures
    ∙ ap (λ (first : List ℕ). first ++ 32 ∷ count) c.in_ok-line.ensures)
    ∙ sym (spaced-with c.args.word.now (count ∷ words))
