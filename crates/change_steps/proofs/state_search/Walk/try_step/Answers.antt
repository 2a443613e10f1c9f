use Rattle.std.proofs.Common.{◌∙◌, List, Bool, arith, subst}
use Rattle.std.proofs.lemmas.Bool.{both_ways}
use Rattle.change_steps.specs.States.{MayFollow}
use Rattle.change_steps.proofs.WalkLaws.{round_uses_up, round_tests}
use Rattle.change_steps.proofs.state_search.Walk.try_step.Goals as goal

pub returns-then-nodes-len : goal.returns-then-nodes-len
returns-then-nodes-len c =
    round_uses_up c.args.held_rollout.now c.args.nodes c.args.self.now c.args.step c.requires.walk c.requires.new
    (let full = c.if-nodes-len.true in let count = c.len.ensures in omega (arith, full, count))

pub returns-then-not-safe : goal.returns-then-not-safe
returns-then-not-safe c =
    round_tests c.args.held_rollout.now c.args.nodes c.args.self.now c.test.new.self c.args.step c.requires.walk
    (let room = c.if-nodes-len.false in let count = c.len.ensures in omega (arith, room, count)) c.in_ok-safe.ensures.walk c.in_ok-safe.ensures.tested
    c.in_ok-safe.ensures.order (λ safe. absurd (both_ways c.in_ok-safe.safe c.if-not-safe.true (c.in_ok-safe.ensures.safe.1 safe)))

pub returns-in-Some : goal.returns-in-Some
returns-in-Some c =
    round_tests c.args.held_rollout.now c.args.nodes c.args.self.now c.test.new.self c.args.step c.requires.walk
    (let room = c.if-nodes-len.false in let count = c.len.ensures in omega (arith, room, count)) c.in_ok-safe.ensures.walk c.in_ok-safe.ensures.tested
    c.in_ok-safe.ensures.order
    (λ safe. (
      c.in-Some.field-0,
      subst (λ (m : List Bool). MayFollow c.args.held_rollout.now.rollout c.args.held_rollout.now.held m c.in-Some.field-0)
          (c.deref.ensures.value ∙ c.in_ok-safe.ensures.here c.if-not-safe.false) c.in-Some.ensures,
    ))
