use Rattle.std.proofs.Common.{◌≡◌, ℕ, ◌<◌, Bool, List, length, subst, sym}
use Rattle.std.specs.Prelude.{All, slice_index_or}
use Rattle.design_problem.specs.declared.tree.Entry.{Entry}
use Rattle.printed_rows.specs.NamedRows.{IsKnown, NamesKnown}
use Rattle.printed_rows.proofs.NamedLaws.{named_weaker}
use Rattle.printed_rows.proofs.NumberLaws.{order_kept}
use Rattle.printed_rows.proofs.new_numbers.new_entries.Goals as goal

-- what the present entry names is known
item_known : (named : ℕ → Bool) (n i : ℕ) (entries : List Entry) (entry : Entry) → All (NamesKnown named n) entries → i < length entries →
    entry ≡ slice_index_or entries i entry → NamesKnown named n entry
item_known named n i entries entry known i_in is = subst (λ (e : Entry). NamesKnown named n e) (sym is) (known i entry i_in)

pub renumbered_entry-requires-clause-known : goal.renumbered_entry-requires-clause-known
renumbered_entry-requires-clause-known c =
    let n = length c.args.numbers.now in
    named_weaker (IsKnown c.requires.0 n) (λ row. row < n) c.entry-item.result (λ row is. is.0)
    (item_known c.requires.0 n c.loop-entry.entry-index c.args.entries.now c.entry-item.result c.requires.2 c.loop-entry-test.true c.entry-item.is)

pub renumbered_entry-requires-clause-order : goal.renumbered_entry-requires-clause-order
renumbered_entry-requires-clause-order c =
    let n = length c.args.numbers.now in
    order_kept c.requires.0 n c.args.numbers.now c.entry-item.result c.requires.1
    (item_known c.requires.0 n c.loop-entry.entry-index c.args.entries.now c.entry-item.result c.requires.2 c.loop-entry-test.true c.entry-item.is)
