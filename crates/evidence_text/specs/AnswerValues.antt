-- Answers as values of their type.
use Rattle.std.specs.Prelude.{length}
use Rattle.design_problem.specs.Answers.{AnswerParts}
use Rattle.design_problem.specs.AnswerRanges.{HasBounds, IsRowNumber}
use Rattle.design_problem.specs.Text.{FitsAnswer}

-- a value of the type of answers; its rows stand in a vector, so their number has 64 bits
pub record IsAnswerValue (a : AnswerParts) : Type 0 where
  pub fits : FitsAnswer a
  pub bounds : HasBounds a
  pub count : IsRowNumber (length a.rows)
