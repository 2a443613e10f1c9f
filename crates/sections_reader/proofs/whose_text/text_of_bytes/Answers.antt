use Rattle.std.proofs.Common.{sym, ◌∙◌}
use Rattle.answer_lines.proofs.LineFronts.{split-whole}
use Rattle.sections_reader.proofs.HeadLines.{head-alone, head-first}
use Rattle.sections_reader.proofs.whose_text.text_of_bytes.Goals as goal

pub returns-in-Some : goal.returns-in-Some
returns-in-Some c =
    let bytes = c.args.bytes.now in
    c.text_by_head.ensures ∙ sym (head-first bytes c.in-Some.line.now _ c.in-Some.ensures.parts
    (split-whole 10 bytes c.in-Some.line.now _ c.in-Some.ensures.pieces))

pub returns-in-None : goal.returns-in-None
returns-in-None c =
    let bytes = c.args.bytes.now in
    c.text_by_head-in-None.ensures ∙ sym (head-alone bytes (split-whole 10 bytes bytes _ c.in-None.ensures.pieces))
