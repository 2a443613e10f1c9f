use Rattle.std.proofs.Common.{sym, ap, ◌∙◌, Some}
use Rattle.text_lines.proofs.Printed.{decimal-same}
use Rattle.refusal_sentences.proofs.line.number_in.Goals as goal

pub returns : goal.returns
returns c number below is =
    ap Some (decimal-same _ _ (sym c.in_ok-printed_number.ensures.0 ∙ is))
