-- What a `halve` line says before its basis. No public clause cites it.
use Rattle.std.specs.Prelude.{ℕ, List, ◌∷◌}
use Rattle.cost_base.specs.Decimal.{decimal}
use Rattle.design_problem.specs.AnswerRanges.{IsIndex, IsCost}
use Rattle.design_problem.specs.Text.{step_word, ratio_word, IsPrintedRatio}
use Rattle.answer_lines.specs.declared.entries.HalveFront.{HalveFront}

-- the words of a `halve` line behind `halve`, with these words as its basis
abbrev pub front_words : HalveFront → List (List ℕ) → List (List ℕ)
front_words front rest = decimal front.var ∷ decimal front.value ∷ step_word front.step ∷ ratio_word front.left ∷ ratio_word front.right ∷ rest

-- the numbers before a `halve` line's basis are within their types, and its fractions are printed ones
pub record IsHalveFront (front : HalveFront) : Type 0 where
  pub var : IsIndex front.var
  pub value : IsCost front.value
  pub left : IsPrintedRatio front.left
  pub right : IsPrintedRatio front.right
