use Rattle.std.proofs.Common.{rules}
use Rattle.text_lines.proofs.line_reader.numbered.Goals as goal

pub returns-then-text-longest : goal.returns-then-text-longest
returns-then-text-longest c = search rules
