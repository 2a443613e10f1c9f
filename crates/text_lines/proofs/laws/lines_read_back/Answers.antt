use Rattle.text_lines.proofs.LineLaws.{lines-concat}
use Rattle.text_lines.proofs.laws.lines_read_back.Goals as goal

pub returns : goal.returns
returns c = lines-concat
