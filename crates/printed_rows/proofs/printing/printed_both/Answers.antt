-- The rows that the trees name are marked, numbered and kept.
use Rattle.std.proofs.Common.{rules, ◌≡◌, ◌^◌, ◌<◌, ◌∙◌, ap, sym, subst, List, ℕ, Bool, length}
use Rattle.std.specs.Option.{option_copied}
use Rattle.cost_base.specs.Marks.{is_marked}
use Rattle.printed_rows.specs.NewNumbers.{kept_rows, named_in}
use Rattle.printed_rows.proofs.PrintLaws.{both_numbered, first_named, second_named, tree_agrees, if_any_known}
use Rattle.printed_rows.proofs.printing.printed_both.Goals as goal

pub new_if_any-requires : goal.new_if_any-requires
new_if_any-requires g c =
    let proof = option_copied c.args.proof in
    let undecided = option_copied c.args.undecided in
    let marks = c.as_slice.result.now in
    let numbers = c.as_slice-2.result.now in
    let n = length c.args.rows.items in
    let counted : length c.mark_if_any-2.new.marks.items ≡ n = search rules in
    let are = both_numbered proof undecided n c.in_ok-marks.marks.items c.mark_if_any.new.marks.items
    c.mark_if_any-2.new.marks.items marks c.in_ok-numbers.numbers.items numbers c.in_ok-marks.ensures.none
    c.mark_if_any.ensures c.mark_if_any-2.ensures counted c.as_slice.ensures.value c.in_ok-numbers.ensures
    c.as_slice-2.ensures.value in
    (is_marked marks, are.are, if_any_known (named_in proof undecided) n marks numbers proof are (first_named proof undecided) c.requires.proof)

pub new_if_any-requires-2 : goal.new_if_any-requires-2
new_if_any-requires-2 g c =
    let proof = option_copied c.args.proof in
    let undecided = option_copied c.args.undecided in
    let marks = c.as_slice.result.now in
    let numbers = c.as_slice-3.result.now in
    let n = length c.args.rows.items in
    let counted : length c.mark_if_any-2.new.marks.items ≡ n = search rules in
    let are = both_numbered proof undecided n c.in_ok-marks.marks.items c.mark_if_any.new.marks.items
    c.mark_if_any-2.new.marks.items marks c.in_ok-numbers.numbers.items numbers c.in_ok-marks.ensures.none
    c.mark_if_any.ensures c.mark_if_any-2.ensures counted c.as_slice.ensures.value c.in_ok-numbers.ensures
    c.as_slice-3.ensures.value in
    (is_marked marks, are.are, if_any_known (named_in proof undecided) n marks numbers undecided are (second_named proof undecided) c.requires.undecided)

pub returns : goal.returns
returns g c =
    let proof = option_copied c.args.proof in
    let undecided = option_copied c.args.undecided in
    let named = named_in proof undecided in
    let marks = c.as_slice.result.now in
    let n = length c.args.rows.items in
    let counted : length c.mark_if_any-2.new.marks.items ≡ n = search rules in
    let first = both_numbered proof undecided n c.in_ok-marks.marks.items c.mark_if_any.new.marks.items
    c.mark_if_any-2.new.marks.items marks c.in_ok-numbers.numbers.items c.as_slice-2.result.now
    c.in_ok-marks.ensures.none c.mark_if_any.ensures c.mark_if_any-2.ensures counted c.as_slice.ensures.value
    c.in_ok-numbers.ensures c.as_slice-2.ensures.value in
    let second = both_numbered proof undecided n c.in_ok-marks.marks.items c.mark_if_any.new.marks.items
    c.mark_if_any-2.new.marks.items marks c.in_ok-numbers.numbers.items c.as_slice-3.result.now
    c.in_ok-marks.ensures.none c.mark_if_any.ensures c.mark_if_any-2.ensures counted c.as_slice.ensures.value
    c.in_ok-numbers.ensures c.as_slice-3.ensures.value in
    let again : c.as_slice-4.result.now ≡ marks = c.as_slice-4.ensures.value ∙ sym c.as_slice.ensures.value in
    let small : length c.in_ok-rows.rows.items < 2 ^ 64 = search rules in
    record {
      kept = record {
        same = c.from_items.ensures ∙ c.in_ok-rows.ensures
            ∙ ap (λ (ms : List Bool). kept_rows (is_marked ms) c.args.rows.items) again
            ∙ ap (λ (t : ℕ → Bool). kept_rows t c.args.rows.items) first.same;
        few = subst (λ k. k < 2 ^ 64) (ap length (sym c.from_items.ensures)) small;
      };
      proof_is = tree_agrees (is_marked marks) named (length c.as_slice-2.result.now) c.as_slice-2.result.now proof
          c.in_ok-proof.proof first.same first.are
          (if_any_known named n marks c.as_slice-2.result.now proof first (first_named proof undecided)
          c.requires.proof) c.in_ok-proof.ensures;
      undecided_is = tree_agrees (is_marked marks) named (length c.as_slice-3.result.now) c.as_slice-3.result.now
          undecided c.in_ok-undecided.undecided second.same second.are
          (if_any_known named n marks c.as_slice-3.result.now undecided second (second_named proof undecided)
          c.requires.undecided) c.in_ok-undecided.ensures;
    }
