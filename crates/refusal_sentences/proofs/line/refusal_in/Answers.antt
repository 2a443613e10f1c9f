use Rattle.std.proofs.Common.{◌++◌, ◌∷◌, ap, Some}
use Rattle.cost_base.specs.Decimal.{decimal}
use Rattle.refusal_sentences.proofs.Cuts.{decimal-no_space}
use Rattle.refusal_sentences.proofs.line.refusal_in.Goals as goal

pub returns-in_err-number : goal.returns-in_err-number
returns-in_err-number c number place file below is =
    absurd (c.in_err-number.ensures (decimal number) (file ++ 32 ∷ decimal place) (decimal-no_space number) is)

pub returns-in_err-file : goal.returns-in_err-file
returns-in_err-file c number place file below is =
    let first = c.in_ok-number.ensures (decimal number) (file ++ 32 ∷ decimal place) (decimal-no_space number) is in
    absurd (c.in_err-file.ensures file (decimal place) (decimal-no_space place) first.1)

pub returns-in_err-number_in : goal.returns-in_err-number_in
returns-in_err-number_in c number place file below is =
    let first = c.in_ok-number.ensures (decimal number) (file ++ 32 ∷ decimal place) (decimal-no_space number) is in
    let none = c.in_err-number_in.ensures number below first.0 in
    cc

pub returns : goal.returns
returns c number place file below is =
    let first = c.in_ok-number.ensures (decimal number) (file ++ 32 ∷ decimal place) (decimal-no_space number) is in
    let last = c.in_ok-file.ensures file (decimal place) (decimal-no_space place) first.1 in
    let read = c.in_ok-number_in.ensures number below first.0 in
    record { number = cc; file = ap Some last.0; place = last.1 }
