use Rattle.answer_lines.proofs.EntryWords.{member_shorter}
use Rattle.text_lines.specs.Numbers.{split}
use Rattle.begun_lines.proofs.BegunEntries.{member_skip, member_last}
use Rattle.begun_lines.proofs.entries.goes_on_with_members.Goals as goal

pub loop-rest-init : goal.loop-rest-init
loop-rest-init c = (λ on. on, λ on. on)

pub loop-rest-smaller : goal.loop-rest-smaller
loop-rest-smaller c = member_shorter (split 32 c.loop-rest.text.now) (split 32 c.in-Some.rest.now) c.in-Some.ensures.0 c.in-Some.ensures.2

pub loop-rest-preserved : goal.loop-rest-preserved
loop-rest-preserved c =
    let skip = member_skip c.loop-rest.text.now c.in-Some.rest.now c.args.line.room c.in-Some.ensures.0 c.in-Some.ensures.1 c.in-Some.ensures.2 in
    (λ on. c.loop-rest.invariant.0 (skip.1 on), λ on. skip.0 (c.loop-rest.invariant.1 on))

pub returns : goal.returns
returns c =
    let last = member_last c.loop-rest.text.now c.args.line.room c.in_default.ensures c.ends_with_member.result c.ends_with_member.ensures in
    (λ is. c.loop-rest.invariant.0 (last.0 is), λ on. last.1 (c.loop-rest.invariant.1 on))
