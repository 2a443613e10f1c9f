-- The lines of the parts of a conflict's text are short enough.
use Rattle.std.proofs.Common.{◌≡◌, ℕ, ◌≤◌, sym, ap, subst, List, length, arith}
use Rattle.std.specs.Prelude.{Some}
use Rattle.area_graph.specs.Area.{FitsGraph}
use Rattle.design_problem.specs.declared.answer.CapTree.{CapTree}
use Rattle.design_problem.specs.declared.form.Row.{Row}
use Rattle.design_problem.specs.declared.tree.Entry.{Entry}
use Rattle.design_problem.specs.Problems.{DesignProblem, IsProblem, restricted}
use Rattle.design_problem.specs.Rows.{IsRow, LeadsEach, forms_of_rows}
use Rattle.design_problem.specs.Answers.{greatest_bound, whole_box}
use Rattle.design_problem.specs.Text.{tree_lines, row_line, rows_lines}
use Rattle.design_problem.proofs.TreeShapes.{sound_whole}
use Rattle.evidence_text.specs.Lines.{AreShort}
use Rattle.printed_rows.proofs.AnswerLines.{rows_lines_short, trees_short}
use Rattle.printed_rows.proofs.CapBoxes.{cost_bounds, low_below_greatest_bound}
use Rattle.printed_rows.proofs.RowLines.{rows_short}
use Rattle.printed_rows.proofs.SheetLaws.{sheet_names}
use Rattle.printed_rows.proofs.TreeCopies.{whole_length}
use Rattle.cost_branching.specs.Pools.{Differ}
use Rattle.printed_rows.proofs.TreeLines.{IsPrintable, tree_short}
use Rattle.least_conflict.specs.Conflicts.{IsTreeOfRequests}
use Rattle.printed_parts.specs.SharedParts.{at_greatest_bound}

pub rows_part_short : (p : DesignProblem) (top nodes : ℕ) (members : List ℕ) (rows : List Row) (tree : List Entry) →
    IsProblem p → FitsGraph p.graph → IsTreeOfRequests p top nodes members rows tree → AreShort (rows_lines rows)
rows_part_short p top nodes members rows tree kept graph told = rows_lines_short row_line rows told.few (rows_short p rows kept graph told.sheet.true_rows)

-- the tree can be printed
printable : (p : DesignProblem) (top nodes : ℕ) (members : List ℕ) (rows : List Row) (tree : List Entry) → IsProblem p →
    greatest_bound p ≤ 65535 → nodes ≤ 10000000 → IsTreeOfRequests p top nodes members rows tree →
    IsPrintable (at_greatest_bound p tree)
printable p top nodes members rows tree kept small budget told =
    let over = told.printed.earnest in
    let whole = whole_length 1 tree (sound_whole (forms_of_rows p rows) (whole_box p) tree over.sound) in
    record {
      cap = small;
      count = omega (arith, whole, told.printed.few);
      entries = λ k d k_in. (told.short k d k_in).0;
      lines = tree_short (LeadsEach (restricted p members)) top (length p.low) (length rows) _ (whole_box p) tree
          (cost_bounds p (greatest_bound p) kept (low_below_greatest_bound p kept) small) told.few over.earnest told.short
          (sheet_names (IsRow p) Differ rows tree told.sheet);
    }

tree_part_short : (p : DesignProblem) (top nodes : ℕ) (members : List ℕ) (rows : List Row) (tree : List Entry)
    (word : List ℕ) → IsProblem p → greatest_bound p ≤ 65535 → nodes ≤ 10000000 → length word ≤ 20 →
    IsTreeOfRequests p top nodes members rows tree → AreShort (tree_lines word (Some (at_greatest_bound p tree)))
tree_part_short p top nodes members rows tree word kept small budget brief told =
    trees_short word (Some (at_greatest_bound p tree)) brief (printable p top nodes members rows tree kept small budget told)

-- and the tree that was made of it
pub made_part_short : (p : DesignProblem) (top nodes : ℕ) (members : List ℕ) (rows : List Row) (tree : List Entry)
    (word : List ℕ) (made : CapTree) → IsProblem p → made ≡ at_greatest_bound p tree → made.cap ≤ 65535 → nodes ≤ 10000000 →
    length word ≤ 20 → IsTreeOfRequests p top nodes members rows tree → AreShort (tree_lines word (Some made))
made_part_short p top nodes members rows tree word made kept same made_small budget brief told =
    let small : greatest_bound p ≤ 65535 = omega (arith, ap (λ (t : CapTree). t.cap) same, made_small) in
    subst (λ (t : CapTree). AreShort (tree_lines word (Some t))) (sym same) (tree_part_short p top nodes members rows tree word kept small budget brief told)
