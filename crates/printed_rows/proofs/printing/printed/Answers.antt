-- The rows that the tree names are marked, numbered and kept.
use Rattle.std.proofs.Common.{rules, ◌≡◌, ◌^◌, ◌<◌, ◌∙◌, ap, sym, List, ℕ, Bool, length}
use Rattle.cost_base.specs.Marks.{is_marked}
use Rattle.printed_rows.specs.NamedRows.{is_row_named}
use Rattle.printed_rows.specs.NewNumbers.{kept_rows}
use Rattle.printed_rows.proofs.PrintLaws.{numbers_agree, tree_known, tree_numbered}
use Rattle.printed_rows.proofs.printing.printed.Goals as goal

pub new_tree-requires : goal.new_tree-requires
new_tree-requires g c =
    let tree = c.args.tree.now in
    let marks = c.as_slice.result.now in
    let numbers = c.as_slice-2.result.now in
    let counted : length c.mark_tree.new.marks.items ≡ length c.args.rows.items = search rules in
    let are = tree_numbered tree (length c.args.rows.items) c.in_ok-marks.marks.items c.mark_tree.new.marks.items marks
    c.in_ok-numbers.numbers.items numbers c.in_ok-marks.ensures.none c.mark_tree.ensures counted
    c.as_slice.ensures.value c.in_ok-numbers.ensures c.as_slice-2.ensures.value in
    (is_marked marks, are.are, tree_known (is_row_named tree) (length c.args.rows.items) marks numbers tree are (λ row is. is) c.requires)

pub returns : goal.returns
returns g c =
    let tree = c.args.tree.now in
    let old = c.args.rows.items in
    let marks = c.as_slice.result.now in
    let numbers = c.as_slice-2.result.now in
    let counted : length c.mark_tree.new.marks.items ≡ length old = search rules in
    let are = tree_numbered tree (length old) c.in_ok-marks.marks.items c.mark_tree.new.marks.items marks
    c.in_ok-numbers.numbers.items numbers c.in_ok-marks.ensures.none c.mark_tree.ensures counted
    c.as_slice.ensures.value c.in_ok-numbers.ensures c.as_slice-2.ensures.value in
    let known = tree_known (is_row_named tree) (length old) marks numbers tree are (λ row is. is) c.requires in
    let again : c.as_slice-3.result.now ≡ marks = c.as_slice-3.ensures.value ∙ sym c.as_slice.ensures.value in
    let small : length c.in_ok-rows.rows.items < 2 ^ 64 = search rules in
    record {
      kept = record {
        same = c.in_ok-rows.ensures ∙ ap (λ (ms : List Bool). kept_rows (is_marked ms) old) again ∙ ap (λ (t : ℕ → Bool). kept_rows t old) are.same;
        few = small;
      };
      tree_is = c.in_ok-tree.ensures ∙ numbers_agree (is_marked marks) (is_row_named tree) (length numbers) numbers tree are.same are.are known;
    }
