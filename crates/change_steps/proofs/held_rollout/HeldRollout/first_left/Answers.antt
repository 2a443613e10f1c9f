use Rattle.std.proofs.Common.{◌∙◌, arith, sym}
use Rattle.change_steps.proofs.MarkedLaws.{follows_by, none_follow_more}
use Rattle.change_steps.proofs.held_rollout.HeldRollout.first_left.Goals as goal

pub loop-step-preserved : goal.loop-step-preserved
loop-step-preserved c =
    none_follow_more c.args.self.now.rollout c.args.self.now.held c.args.done.now c.loop-step.step c.loop-step.invariant
    (sym c.may_follow.ensures ∙ c.if-may_follow.false)

pub returns-then-may_follow : goal.returns-then-may_follow
returns-then-may_follow c =
    follows_by c.args.self.now.rollout c.args.self.now.held c.args.done.now c.loop-step.step
    (let below = c.loop-step-test.true in let count = c.step_count-step-end.ensures in omega (arith, below, count))
    (sym c.may_follow.ensures ∙ c.if-may_follow.true)

pub returns : goal.returns
returns c = λ k follows. c.loop-step.invariant k
    (let past = c.loop-step-test.false in let count = c.step_count-step-end.ensures in let known = follows.known in omega (arith, past, count, known)) follows
