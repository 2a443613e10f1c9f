use Rattle.std.proofs.Common.{◌≡◌, ◌++◌, drop}
use Rattle.database_commands.specs.Compares.{difference_text}
use Rattle.database_commands.proofs.differences.text_of_lines.Given as goal

-- with the lines that are left it is the whole text
abbrev pub invariant-loop-line : goal.invariant-loop-line
invariant-loop-line l = l.text.items ++ difference_text l.lsdb (drop l.line-index l.lines) ≡ difference_text l.fn.lsdb l.fn.lines
