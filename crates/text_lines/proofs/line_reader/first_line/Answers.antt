use Rattle.std.proofs.Common.{◌+◌, arith, add-one}
use Rattle.std.proofs.lemmas.List.{take_rest}
use Rattle.text_lines.proofs.Pieces.{first_line-at, first_line-none}
use Rattle.text_lines.proofs.line_reader.first_line.Goals as goal

pub returns-in-Some : goal.returns-in-Some
returns-in-Some c =
    rw (take_rest c.args.bytes.now (c.in-Some.end + 1), add-one c.in-Some.end)
    (first_line-at c.args.bytes.now c.in-Some.end (omega (arith, c.in-Some.ensures))
    (λ j below e. c.in-Some.ensures.0.before j (omega arith) below e) c.in-Some.ensures.1)

pub returns-in-None : goal.returns-in-None
returns-in-None c = first_line-none c.args.bytes.now c.requires (λ j below e. c.in-None.ensures j (omega arith) below e)
