use Rattle.std.proofs.Common.{rules, ◌<◌, ◌≤◌, length, get_or}
use Rattle.std.proofs.lemmas.List.{get_or_default}
use Rattle.printed_rows.specs.NamedRows.{part_names}
use Rattle.cost_base.proofs.MarkLaws.{all_marked, marked_more}
use Rattle.printed_rows.proofs.row_marks.mark_parts.Goals as goal

pub loop-row-preserved : goal.loop-row-preserved
loop-row-preserved c =
    let xs = c.args.parts.now in
    let i = c.loop-row.row-index in
    let within : i < length xs = search rules in
    marked_more part_names c.args.marks.now.items c.loop-row.marks.items c.mark.new.marks.items xs i
    (get_or xs i (0, 0)) within (get_or_default xs i (0, 0) (get_or xs i (0, 0)) within) c.loop-row.invariant
    c.mark.ensures

pub returns : goal.returns
returns c =
    let past : length c.args.parts.now ≤ c.loop-row.row-index = search rules in
    all_marked part_names c.args.marks.now.items c.loop-row.marks.items c.args.parts.now c.loop-row.row-index past c.loop-row.invariant
