use Rattle.std.proofs.Common.{◌+◌, arith, add-one}
use Rattle.std.proofs.lemmas.List.{take_rest}
use Rattle.text_lines.proofs.Pieces.{split-at, split-none}
use Rattle.text_lines.proofs.number_reader.cut.Goals as goal

pub returns-in_err-end-clause-pieces : goal.returns-in_err-end-clause-pieces
returns-in_err-end-clause-pieces c =
    rw c.from_residual.ensures (split-none c.args.byte c.args.text.now (λ j below e. c.in_err-end.ensures j (omega arith) below e))

pub returns-clause-pieces : goal.returns-clause-pieces
returns-clause-pieces c =
    rw (take_rest c.args.text.now (c.in_ok-end.end + 1), add-one c.in_ok-end.end)
    (split-at c.args.byte c.args.text.now c.in_ok-end.end (omega (arith, c.in_ok-end.ensures))
    (λ j below e. c.in_ok-end.ensures.0.before j (omega arith) below e) c.in_ok-end.ensures.1)
