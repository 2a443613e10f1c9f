use Rattle.begun_lines.specs.BegunLines.{LeafWords, ParentWords, EntryWords}
use Rattle.begun_lines.proofs.BegunKinds.{first_holds, first_fails, entry_kinds, leaf_entry, parent_entry}
use Rattle.begun_lines.proofs.entries.becomes_entry.Goals as goal

pub returns-then-becomes_leaf : goal.returns-then-becomes_leaf
returns-then-becomes_leaf c =
    first_holds {said = EntryWords} {first = LeafWords} leaf_entry c.args.line.text.now c.args.line.room
    c.becomes_leaf.result c.if-becomes_leaf.true c.becomes_leaf.ensures

pub returns-else-becomes_leaf : goal.returns-else-becomes_leaf
returns-else-becomes_leaf c =
    first_fails {said = EntryWords} {first = LeafWords} {second = ParentWords} entry_kinds parent_entry
    c.args.line.text.now c.args.line.room c.becomes_leaf.result c.becomes_parent.result
    c.if-becomes_leaf.false c.becomes_leaf.ensures c.becomes_parent.ensures
