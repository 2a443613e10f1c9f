use Rattle.text_lines.proofs.LineLaws.{lines-append, lines-append-end}
use Rattle.text_lines.proofs.laws.lines_add.Goals as goal

pub returns : goal.returns
returns c = (lines-append, lines-append-end)
