-- The first word with a mark has the first mark.
use Rattle.std.proofs.Common.{◌≡◌, ◌*◌, ◌/◌, ◌^◌, ◌∙◌, ap, sym, arith, w64}
use Rattle.std.specs.Int.{trailing_zeros}
use Rattle.integer_pivots.proofs.MarkLaws.{none_up_to, one_word}
use Rattle.integer_pivots.proofs.marked.next_word.Goals as goal

pub returns-then-marks-ne0-clause-passed : goal.returns-then-marks-ne0-clause-passed
returns-then-marks-ne0-clause-passed c =
    let marks = c.in_either-marks.result in
    let whole : trailing_zeros w64 (marks / 2 ^ 0) ≡ trailing_zeros w64 marks = ap (λ m. trailing_zeros w64 m) (omega arith) in
    none_up_to c.args.first.now c.args.second.now (c.args.from * 64) c.loop-word.word 0 marks c.column_of.result
    c.in_either-marks.ensures c.in_either-marks.type_inv (omega (arith, c.if-marks-ne0.true)) (omega (arith, c.loop-word.auto.word))
    (λ k behind before. c.loop-word.invariant k behind (omega (arith, before))) (omega (arith, c.column_of.ensures, whole))

pub loop-word-preserved : goal.loop-word-preserved
loop-word-preserved c =
    one_word c.args.first.now c.args.second.now (c.args.from * 64) c.loop-word.word c.loop-word.invariant
    (sym c.in_either-marks.ensures ∙ omega (arith, c.if-marks-ne0.false))
