use Rattle.std.proofs.Common.{◌≡◌, ◌++◌, map, drop}
use Rattle.text_lines.specs.Lines.{with_ends}
use Rattle.spread_sets.specs.Answers.{set_row_line}
use Rattle.path_commands.specs.Spreads.{set_rows_lines}
use Rattle.path_commands.proofs.spread_text.push_set_rows.Given as goal

-- the text so far, with the rows that are left
abbrev pub invariant-loop-row : goal.invariant-loop-row
invariant-loop-row l = l.text.items ++ with_ends (map set_row_line (drop l.row-index l.rows)) ≡ l.fn.text.items ++ with_ends (set_rows_lines l.rows)
