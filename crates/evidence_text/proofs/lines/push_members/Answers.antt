use Rattle.std.proofs.Common.{◌+◌, ◌∙◌, drop, get_or, sym}
use Rattle.design_problem.specs.declared.tree.Member.TheVariants.{Low}
use Rattle.design_problem.specs.Text.{member_words, members_words}
use Rattle.line_builder.specs.Words.{with_words}
use Rattle.evidence_text.proofs.WordLaws.{members_turn, room_left}
use Rattle.evidence_text.proofs.lines.push_members.Goals as goal

pub push_member-requires : goal.push_member-requires
push_member-requires c =
    let line = c.loop-member.line in
    let i = c.loop-member.member-index in
    let members = c.args.members.now in
    room_left (with_words line (member_words (get_or members i (Low 0 0)))) _ (members_words (drop (i + 1) members))
    (sym (members_turn line members i (Low 0 0) c.loop-member-test.true) ∙ c.loop-member.invariant) c.requires
