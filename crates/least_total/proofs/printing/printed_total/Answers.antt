-- The tree names none but the forms of the rows and that of the total.
use Rattle.std.proofs.Common.{rules, ◌≡◌, ℕ, ◌+◌, sym, ◌∙◌, ap, subst, List, length}
use Rattle.std.specs.Prelude.{All}
use Rattle.design_problem.specs.declared.tree.Entry.{Entry}
use Rattle.printed_rows.specs.NamedRows.{NamesBelow}
use Rattle.printed_rows.specs.NewNumbers.{IsTreePrinted}
use Rattle.least_total.specs.declared.printing.PoolForm.{PoolForm}
use Rattle.least_total.specs.Printing.{moved_from, with_total_last}
use Rattle.least_total.proofs.PrintedTotals.{names_last, names_placed}
use Rattle.least_total.proofs.printing.printed_total.Goals as goal

pub moved_from-requires-clause-known : goal.moved_from-requires-clause-known
moved_from-requires-clause-known c =
    let t = c.args.tree in
    let count : c.len.result ≡ length t.rows.items = search rules in
    subst (λ (n : ℕ). All (NamesBelow (n + 1)) t.tree) (sym count) (names_placed c.requires.0 c.requires.1 c.requires.2 c.requires.3 t c.requires.4)

pub printed-requires : goal.printed-requires
printed-requires c =
    let t = c.args.tree in
    let count : c.len.result ≡ length t.rows.items = search rules in
    let moved : c.in_ok-tree.tree ≡ moved_from t.before (length t.rows.items) t.tree = c.in_ok-tree.ensures
    ∙ ap (λ (n : ℕ). moved_from t.before n t.tree) count in
    let names : All (NamesBelow (length (with_total_last t.rows.items))) c.in_ok-tree.tree =
    subst (λ (es : List Entry). All (NamesBelow (length (with_total_last t.rows.items))) es) (sym moved)
    (names_last c.requires.0 c.requires.1 c.requires.2 c.requires.3 t c.requires.4) in
    subst (λ (fs : List PoolForm). All (NamesBelow (length fs)) c.in_ok-tree.tree) (sym c.in_ok-forms.ensures) names

pub returns : goal.returns
returns c =
    let t = c.args.tree in
    let count : c.len.result ≡ length t.rows.items = search rules in
    let moved : c.in_ok-tree.tree ≡ moved_from t.before (length t.rows.items) t.tree = c.in_ok-tree.ensures
    ∙ ap (λ (n : ℕ). moved_from t.before n t.tree) count in
    let kept = c.in_ok-rows.field-0.rows.items in
    let tree = c.in_ok-rows.field-0.tree in
    let by_forms : IsTreePrinted (with_total_last t.rows.items) c.in_ok-tree.tree kept tree =
    subst (λ (fs : List PoolForm). IsTreePrinted fs c.in_ok-tree.tree kept tree) c.in_ok-forms.ensures
    c.in_ok-rows.ensures in
    record {
      kept = kept;
      is_printed = subst (λ (es : List Entry). IsTreePrinted (with_total_last t.rows.items) es kept tree) moved by_forms;
      rows = c.in_ok-rows_in.ensures;
    }
