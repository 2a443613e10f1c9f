use Rattle.std.proofs.Common.{◌≡◌, ℕ, ◌<◌, length, map, take, get_or}
use Rattle.std.specs.Prelude.{All}
use Rattle.design_problem.specs.declared.form.Row.{Row}
use Rattle.design_problem.specs.Forms.{IsSmallForm}
use Rattle.design_problem.specs.Rows.{IsRow, form_of_row}
use Rattle.evidence_checker.proofs.RowLaws.{FirstIsLeft}
use Rattle.evidence_checker.proofs.rows.forms_of.Given as goal

abbrev pub invariant-loop-index : goal.invariant-loop-index
invariant-loop-index l = record {
  rows : (k : ℕ) (d : Row) → k < l.index → IsRow l.problem (get_or l.rows k d);
  forms : l.forms.items ≡ map (form_of_row l.problem) (take l.index l.rows);
  small : All (IsSmallForm (length l.problem.low)) l.forms.items;
  first : FirstIsLeft l.problem l.rows l.index;
}
