use Rattle.std.proofs.Common.{◌≡◌, ◌∙◌, sym, ap, List, ℕ}
use Rattle.change_commands.specs.WantedMoves.{moved_links, steps_of}
use Rattle.change_commands.proofs.WantedMoveLaws.{moves_kept, most_as}
use Rattle.change_commands.proofs.wanted_moves.moves_to.Goals as goal

pub invariant_of-result : goal.invariant_of-result
invariant_of-result c =
    let present = c.args.present.items in
    let wanted = c.args.wanted.items in
    let moved : moved_links c.as_slice-3.result.now c.as_slice-4.result.now ≡ moved_links present wanted =
    ap (λ (p : List ℕ). moved_links p c.as_slice-4.result.now) c.as_slice-3.ensures.value
    ∙ ap (moved_links present) c.as_slice-4.ensures.value in
    moves_kept c.args.by c.args.names.now present wanted c.from_items.result c.from_items-2.result c.from_items-3.result
    c.from_items.ensures c.from_items-2.ensures
    (c.from_items-3.ensures ∙ c.in_ok-steps.ensures ∙ ap (steps_of c.args.by c.args.names.now) moved)
    (c.requires.wanted ∙ sym c.requires.present) c.requires.above (most_as c.args.present.items c.as_slice.result.now c.as_slice.ensures.value
    c.keeps_bits.ensures)
    c.requires.positive (most_as c.args.wanted.items c.as_slice-2.result.now c.as_slice-2.ensures.value c.keeps_bits-2.ensures)
