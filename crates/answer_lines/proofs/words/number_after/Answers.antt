use Rattle.answer_lines.proofs.LineFronts.{number_behind}
use Rattle.answer_lines.proofs.words.number_after.Goals as goal

pub returns : goal.returns
returns c = number_behind c.args.line.now c.args.front.now c.in_ok-text.text.now c.args.greatest c.printed_number.result
    c.in_ok-text.ensures c.printed_number.ensures
