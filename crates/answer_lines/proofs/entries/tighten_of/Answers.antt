use Rattle.std.proofs.Common.{arith}
use Rattle.answer_lines.specs.Words.{words_left}
use Rattle.answer_lines.proofs.ListParts.{rest-is}
use Rattle.answer_lines.proofs.EntryWords.{only_tighten}
use Rattle.answer_lines.proofs.entries.tighten_of.Goals as goal

pub returns-in_err-side : goal.returns-in_err-side
returns-in_err-side c =
    rw c.from_residual-in_err-side.ensures
    (only_tighten (words_left c.args.words)
    (λ v side b row hv hb hr e.
    c.in_err-side.ensures side _ (rest-is (words_left c.args.words) _ _ _ _ c.in_ok-var.ensures.1 e)))

pub returns-in_err-value : goal.returns-in_err-value
returns-in_err-value c =
    rw c.from_residual-in_err-value.ensures
    (only_tighten (words_left c.args.words) (λ v side b row hv hb hr e. c.in_err-value.ensures b _ (omega arith)
    (rest-is (words_left c.in_ok-var.behind_var) _ _ _ _ c.in_ok-side.ensures (rest-is (words_left c.args.words) _ _ _ _ c.in_ok-var.ensures.1 e))))
