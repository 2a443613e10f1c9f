use Rattle.std.proofs.Common.{◌≡◌, ◌∷◌, sym, ◌∙◌, arith}
use Rattle.cost_base.specs.Decimal.{decimal}
use Rattle.text_lines.proofs.Printed.{decimal-same}
use Rattle.answer_lines.specs.Words.{words_left}
use Rattle.answer_lines.proofs.ListParts.{rest-is, head-is}
use Rattle.answer_lines.proofs.entries.part_of.Goals as goal

pub returns-in_err-multiplier : goal.returns-in_err-multiplier
returns-in_err-multiplier c =
    rw c.from_residual-in_err-multiplier.ensures
    (λ row m rest known some small e. c.in_err-multiplier.ensures m rest (omega arith) (rest-is (words_left c.args.words) _ _ _ _ c.in_ok-row.ensures.1 e))

pub returns-then-multiplier-eq0 : goal.returns-then-multiplier-eq0
returns-then-multiplier-eq0 c =
    λ row m rest known some small e.
    let at_m : words_left c.in_ok-row.behind_row ≡ decimal m ∷ rest = rest-is (words_left c.args.words) _ _ _ _ c.in_ok-row.ensures.1 e in
    let same : decimal m ≡ decimal c.in_ok-multiplier.multiplier =
    head-is (decimal m) (decimal c.in_ok-multiplier.multiplier) rest (words_left c.in_ok-multiplier.rest)
    (sym at_m ∙ c.in_ok-multiplier.ensures.1) in
    omega (arith, decimal-same m c.in_ok-multiplier.multiplier same)
