use Rattle.answer_lines.specs.Words.{words_left}
use Rattle.begun_lines.proofs.TruthLaws.{through}
use Rattle.answer_lines.proofs.ListParts.{not-both}
use Rattle.begun_lines.proofs.BegunRows.{numbers-off, numbers-on}
use Rattle.begun_lines.proofs.rows.are_numbers.Goals as goal

pub returns-in_default : goal.returns-in_default
returns-in_default c = (
  λ yes. absurd (cc),
  λ numbers. absurd
      (numbers-off (words_left c.loop-left.left) (λ empty. not-both c.is_done.result (c.is_done.ensures.1 empty) c.loop-left-test.true) c.in_default.ensures
      (c.loop-left.invariant.0 numbers)),
)

pub loop-left-preserved : goal.loop-left-preserved
loop-left-preserved c = through c.loop-left.invariant
    (numbers-on (words_left c.loop-left.left) (words_left c.in-Some.rest) c.in-Some.field-0-0 c.in-Some.ensures.0
    c.in-Some.ensures.1)
