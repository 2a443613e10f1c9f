use Rattle.std.proofs.Common.{arith}
use Rattle.answer_lines.specs.Words.{words_left}
use Rattle.answer_lines.proofs.ListParts.{rest-is}
use Rattle.answer_lines.proofs.entries.bound_of.Goals as goal

pub returns-in_err-value : goal.returns-in_err-value
returns-in_err-value c =
    rw c.from_residual-in_err-value.ensures
    (λ var value rest known small e. c.in_err-value.ensures value rest (omega arith) (rest-is (words_left c.args.words) _ _ _ _ c.in_ok-var.ensures.1 e))
