use Rattle.std.proofs.Common.{◌∙◌, ◌++◌, ℕ, ap, append-nil, arith, filter, sym}
use Rattle.cost_base.specs.Lists.{numbers_from}
use Rattle.change_steps.specs.Kinds.{has_kind, kind_of_step}
use Rattle.change_steps.proofs.HeldRolloutLaws.{kept_more}
use Rattle.change_steps.proofs.held_rollout.HeldRollout.put_steps.Goals as goal

pub loop-step-init : goal.loop-step-init
loop-step-init c = sym (append-nil c.args.steps.now.items)

pub kind-requires : goal.kind-requires
kind-requires c = let below = c.loop-step-test.true in let count = c.step_count-step-end.ensures in omega (arith, below, count)

pub loop-step-preserved : goal.loop-step-preserved
loop-step-preserved c =
    kept_more c.args.steps.now.items c.loop-step.steps.items c.push_if.new.things.items
    (λ k. has_kind c.args.kind (kind_of_step c.args.self.now.rollout c.args.self.now.held k)) c.loop-step.step c.is_kind.result
    (ap (has_kind c.args.kind) (sym c.kind.ensures) ∙ sym c.is_kind.ensures) c.loop-step.invariant c.in_ok-push_if.ensures

pub returns : goal.returns
returns c =
    c.loop-step.invariant
    ∙ ap (λ (n : ℕ). c.args.steps.now.items ++ filter (λ k. has_kind c.args.kind (kind_of_step c.args.self.now.rollout c.args.self.now.held k))
    (numbers_from 0 n))
    (let past = c.loop-step-test.false in let most = c.loop-step.auto.step-end in let count = c.step_count-step-end.ensures in omega (arith, past, most, count))
