use Rattle.std.proofs.Common.{rules, ◌<◌, ◌≤◌, length}
use Rattle.printed_rows.specs.NamedRows.{names}
use Rattle.cost_base.proofs.MarkLaws.{all_marked, marked_more}
use Rattle.printed_rows.proofs.row_marks.mark_entries.Goals as goal

pub loop-entry-preserved : goal.loop-entry-preserved
loop-entry-preserved c =
    let xs = c.args.entries.now in
    let i = c.loop-entry.entry-index in
    let within : i < length xs = search rules in
    marked_more names c.args.marks.now.items c.loop-entry.marks.items c.mark_entry.new.marks.items xs i
    c.entry-item.result within c.entry-item.is c.loop-entry.invariant c.mark_entry.ensures

pub returns : goal.returns
returns c =
    let past : length c.args.entries.now ≤ c.loop-entry.entry-index = search rules in
    all_marked names c.args.marks.now.items c.loop-entry.marks.items c.args.entries.now c.loop-entry.entry-index past c.loop-entry.invariant
