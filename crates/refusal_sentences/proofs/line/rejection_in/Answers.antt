use Rattle.std.proofs.Common.{refl}
use Rattle.cost_base.specs.Decimal.{decimal}
use Rattle.refusal_sentences.proofs.Cuts.{decimal-no_space}
use Rattle.refusal_sentences.proofs.line.rejection_in.Goals as goal

pub returns-in_err-number : goal.returns-in_err-number
returns-in_err-number c number place below is =
    absurd (c.in_err-number.ensures (decimal number) (decimal place) (decimal-no_space number) is)

pub returns-in_err-number_in : goal.returns-in_err-number_in
returns-in_err-number_in c number place below is =
    let first = c.in_ok-number.ensures (decimal number) (decimal place) (decimal-no_space number) is in
    let none = c.in_err-number_in.ensures number below first.0 in
    cc

pub returns : goal.returns
returns c number place below is =
    let first = c.in_ok-number.ensures (decimal number) (decimal place) (decimal-no_space number) is in
    let read = c.in_ok-number_in.ensures number below first.0 in
    record { number = cc; file = refl; place = first.1 }
