use Rattle.std.proofs.Common.{◌∙◌, ℕ, List, ap, take_all}
use Rattle.cost_base.specs.Marks.{is_one_of}
use Rattle.change_steps.specs.States.{marks_of}
use Rattle.change_steps.proofs.StateLaws.{after_more}
use Rattle.change_steps.proofs.state.State.after.Goals as goal

pub loop-step-init : goal.loop-step-init
loop-step-init c = record { state = c.in_ok-state.ensures.state; done = c.in_ok-state.ensures.none }

pub do_step-requires-clause-state : goal.do_step-requires-clause-state
do_step-requires-clause-state c = c.loop-step.invariant.state

pub do_step-requires-clause-step : goal.do_step-requires-clause-step
do_step-requires-clause-step c = c.requires c.loop-step.step-index 0 c.loop-step-test.true

pub loop-step-preserved : goal.loop-step-preserved
loop-step-preserved c = record {
  state = c.do_step.ensures.state;
  done = after_more c.args.rollout.now c.loop-step.state.done.items c.do_step.new.self.done.items c.args.steps.now c.loop-step.step-index
      c.loop-step-test.true (c.requires c.loop-step.step-index 0 c.loop-step-test.true) c.loop-step.invariant.done c.do_step.ensures.done;
}

pub returns-clause-state : goal.returns-clause-state
returns-clause-state c = c.loop-step.invariant.state

pub returns-clause-done : goal.returns-clause-done
returns-clause-done c =
    c.loop-step.invariant.done
    ∙ ap (λ (xs : List ℕ). marks_of c.args.rollout.now (is_one_of xs)) (take_all c.loop-step.step-index c.args.steps.now c.loop-step-test.false)
