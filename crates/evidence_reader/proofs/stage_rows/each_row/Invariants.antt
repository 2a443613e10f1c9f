use Rattle.std.proofs.Common.{◌≡◌, ◌-◌, length, map}
use Rattle.design_problem.specs.Text.{row_line}
use Rattle.answer_lines.specs.Grammar.{AtRow}
use Rattle.answer_lines.specs.Going.{Goes}
use Rattle.evidence_reader.proofs.stage_rows.each_row.Given as goal

abbrev pub invariant-loop : goal.invariant-loop
invariant-loop l = record {
  count_is : length l.rows.items ≡ l.counter;
  goes : Goes (AtRow l.count) l.text (map row_line l.rows.items) (AtRow (l.count - l.counter)) l.left;
}
