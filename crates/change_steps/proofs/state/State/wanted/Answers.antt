use Rattle.std.proofs.Common.{arith}
use Rattle.change_steps.proofs.StateLaws.{wanted_all, wanted_more}
use Rattle.change_steps.proofs.state.State.wanted.Goals as goal

pub loop-step-preserved : goal.loop-step-preserved
loop-step-preserved c = record {
  state = c.do_step.ensures.state;
  done = wanted_more c.args.rollout.now c.loop-step.state.done.items c.do_step.new.self.done.items c.loop-step.step
      (let below = c.loop-step-test.true in let count = c.step_count-step-end.ensures in omega (arith, below, count))
      c.loop-step.invariant.done c.do_step.ensures.done;
}

pub returns-clause-all : goal.returns-clause-all
returns-clause-all c = wanted_all c.args.rollout.now c.loop-step.state.done.items c.loop-step.step
    (let past = c.loop-step-test.false in let count = c.step_count-step-end.ensures in omega (arith, past, count)) c.loop-step.invariant.done
