use Rattle.std.proofs.Common.{rules, ◌<◌, ◌≤◌, length, get_or}
use Rattle.std.proofs.lemmas.List.{get_or_default}
use Rattle.design_problem.specs.declared.tree.Member.TheVariants.{Low as ByLow}
use Rattle.printed_rows.specs.NamedRows.{member_names}
use Rattle.cost_base.proofs.MarkLaws.{all_marked, marked_more}
use Rattle.printed_rows.proofs.row_marks.mark_basis.Goals as goal

pub loop-member-preserved : goal.loop-member-preserved
loop-member-preserved c =
    let xs = c.args.basis.now in
    let i = c.loop-member.member-index in
    let within : i < length xs = search rules in
    marked_more member_names c.args.marks.now.items c.loop-member.marks.items c.mark_member.new.marks.items xs i
    (get_or xs i (ByLow 0 0)) within (get_or_default xs i (ByLow 0 0) (get_or xs i (ByLow 0 0)) within)
    c.loop-member.invariant c.mark_member.ensures

pub returns : goal.returns
returns c =
    let past : length c.args.basis.now ≤ c.loop-member.member-index = search rules in
    all_marked member_names c.args.marks.now.items c.loop-member.marks.items c.args.basis.now c.loop-member.member-index past c.loop-member.invariant
