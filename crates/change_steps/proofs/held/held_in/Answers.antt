use Rattle.std.proofs.Common.{arith}
use Rattle.change_steps.proofs.HeldLaws.{held_all, held_if, held_none}
use Rattle.change_steps.proofs.held.held_in.Goals as goal

pub loop-number-init : goal.loop-number-init
loop-number-init c = record { room = c.requires.room; held = held_none c.args.rollout.now c.new-held.result.items c.new-held.ensures.items }

pub is_only_in_both-is_held-requires-clause-known : goal.is_only_in_both-is_held-requires-clause-known
is_only_in_both-is_held-requires-clause-known c = let below = c.loop-number-test.true in let count = c.request_count-number-end.ensures in
    omega (arith, below, count)

pub is_only_in_both-is_held-requires-clause-room : goal.is_only_in_both-is_held-requires-clause-room
is_only_in_both-is_held-requires-clause-room c = c.loop-number.invariant.room

pub returns-in_err-push_if-clause-room : goal.returns-in_err-push_if-clause-room
returns-in_err-push_if-clause-room c = c.is_only_in_both-is_held.ensures.room

pub loop-number-preserved : goal.loop-number-preserved
loop-number-preserved c = record {
  room = c.is_only_in_both-is_held.ensures.room;
  held = held_if c.args.rollout.now c.loop-number.number c.loop-number.held.items c.push_if.new.things.items c.args.present.now.done.items
      c.args.wanted.now.done.items c.is_only_in_both-is_held.result c.loop-number.invariant.held c.requires.none c.requires.all
      c.is_only_in_both-is_held.ensures.both.0 c.is_only_in_both-is_held.ensures.both.1 c.in_ok-push_if.ensures;
}

pub returns-clause-room : goal.returns-clause-room
returns-clause-room c = c.loop-number.invariant.room

pub returns-clause-held : goal.returns-clause-held
returns-clause-held c =
    held_all c.args.rollout.now c.loop-number.held.items c.loop-number.number
    (let past = c.loop-number-test.false in let most = c.loop-number.auto.number-end in let count = c.request_count-number-end.ensures in
    omega (arith, past, most, count)) c.loop-number.invariant.held
