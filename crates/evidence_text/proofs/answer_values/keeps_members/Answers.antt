-- One more is within its bounds.
use Rattle.std.proofs.Common.{List, All, subst}
use Rattle.std.proofs.lemmas.List.{take_all}
use Rattle.std.proofs.lemmas.List.Elements.{All-more}
use Rattle.design_problem.specs.declared.tree.Member.{Member}
use Rattle.design_problem.specs.AnswerRanges.{BoundsMember}
use Rattle.evidence_text.proofs.answer_values.keeps_members.Goals as goal

pub loop-member-preserved : goal.loop-member-preserved
loop-member-preserved c = All-more BoundsMember c.args.members.now c.loop-member.member-index _ c.loop-member-test.true
    c.loop-member.invariant c.keeps_member.ensures

pub returns : goal.returns
returns c = subst (λ (left : List Member). All BoundsMember left)
    (take_all c.loop-member.member-index c.args.members.now c.loop-member-test.false) c.loop-member.invariant
