use Rattle.std.proofs.Common.{◌^◌, arith}
use Rattle.answer_lines.proofs.RatioWords.{negative_is, positive_none}
use Rattle.answer_lines.proofs.ratios.integer_of.Goals as goal

pub returns-in-Some : goal.returns-in-Some
returns-in-Some c = negative_is (2 ^ 127) c.args.word.now c.in-Some.digits.now c.negative_of.result c.in-Some.ensures c.negative_of.ensures

pub returns-in_err-size-in-None : goal.returns-in_err-size-in-None
returns-in_err-size-in-None c =
    rw c.from_residual.ensures
    (positive_none (2 ^ 127) c.args.word.now c.in-None.ensures
    (λ n small e. c.in_err-size-in-None.ensures n (omega arith) e))
