-- The rows that the trees name are marked, numbered and kept.
use Rattle.std.proofs.Common.{rules, ◌≡◌, ◌^◌, ◌<◌, ◌∙◌, ap, sym, List, ℕ, Bool, length}
use Rattle.cost_base.specs.Marks.{is_marked}
use Rattle.printed_rows.specs.NamedRows.{is_row_named_in}
use Rattle.printed_rows.specs.NewNumbers.{kept_rows}
use Rattle.printed_rows.proofs.PrintLaws.{trees_agree, trees_known, trees_numbered}
use Rattle.printed_rows.proofs.printing.printed_all.Goals as goal

pub new_trees-requires : goal.new_trees-requires
new_trees-requires g c =
    let trees = c.args.trees.now in
    let marks = c.as_slice.result.now in
    let numbers = c.as_slice-2.result.now in
    let counted : length c.mark_trees.new.marks.items ≡ length c.args.rows.items = search rules in
    let are = trees_numbered trees (length c.args.rows.items) c.in_ok-marks.marks.items c.mark_trees.new.marks.items marks
    c.in_ok-numbers.numbers.items numbers c.in_ok-marks.ensures.none c.mark_trees.ensures counted
    c.as_slice.ensures.value c.in_ok-numbers.ensures c.as_slice-2.ensures.value in
    (is_marked marks, are.are, trees_known (length c.args.rows.items) marks numbers trees are c.requires)

pub returns : goal.returns
returns g c =
    let trees = c.args.trees.now in
    let old = c.args.rows.items in
    let marks = c.as_slice.result.now in
    let numbers = c.as_slice-2.result.now in
    let counted : length c.mark_trees.new.marks.items ≡ length old = search rules in
    let are = trees_numbered trees (length old) c.in_ok-marks.marks.items c.mark_trees.new.marks.items marks
    c.in_ok-numbers.numbers.items numbers c.in_ok-marks.ensures.none c.mark_trees.ensures counted
    c.as_slice.ensures.value c.in_ok-numbers.ensures c.as_slice-2.ensures.value in
    let known = trees_known (length old) marks numbers trees are c.requires in
    let again : c.as_slice-3.result.now ≡ marks = c.as_slice-3.ensures.value ∙ sym c.as_slice.ensures.value in
    let small : length c.in_ok-rows.rows.items < 2 ^ 64 = search rules in
    record {
      kept = record {
        same = c.in_ok-rows.ensures ∙ ap (λ (ms : List Bool). kept_rows (is_marked ms) old) again ∙ ap (λ (t : ℕ → Bool). kept_rows t old) are.same;
        few = small;
      };
      trees_are = c.in_ok-trees.ensures ∙ trees_agree (is_marked marks) (is_row_named_in trees) (length numbers) numbers trees are.same are.are known;
    }
