use Rattle.std.proofs.Common.{refl}
use Rattle.text_lines.specs.Numbers.{split}
use Rattle.answer_lines.proofs.LineFronts.{split-whole}
use Rattle.answer_lines.proofs.text_left.TextLeft.any_line.Goals as goal

pub returns-in_err-line : goal.returns-in_err-line
returns-in_err-line c =
    let rest = c.args.self.left.now in
    rw c.from_residual.ensures (split-whole 10 rest rest _ c.in_err-line.ensures.pieces)

pub returns : goal.returns
returns c = (
  c.in_ok-line.ensures.parts,
  split-whole 10 c.args.self.left.now c.in_ok-line.line.now (split 10 c.in_ok-line.left.now) c.in_ok-line.ensures.pieces,
  refl,
)
