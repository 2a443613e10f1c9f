use Rattle.std.proofs.Common.{◌≡◌, ◌∙◌, ◌&&◌, ℕ, All, List, Bool, Vec, Global, ap, arith, length, map, refl, set, subst, sym, true}
use Rattle.std.specs.Prelude.{not}
use Rattle.std.proofs.lemmas.List.Elements.{All-push}
use Rattle.cost_base.specs.Marks.{is_marked}
use Rattle.spf_ties.specs.Distances.{Findings, IsRoomFor}
use Rattle.change_steps.specs.declared.found.Blocked.{Blocked}
use Rattle.change_steps.specs.declared.state.State.{State}
use Rattle.change_steps.specs.Kinds.{comes_between, kind_of_step}
use Rattle.change_steps.specs.States.{MayFollow}
use Rattle.change_steps.specs.Outcomes.{IsBarrier}
use Rattle.change_steps.specs.Search.{IsStateOf}
use Rattle.change_steps.proofs.EndLaws.{all_blocked, blocked_step, blocks_here, none_barred, none_blocked, unblocked_step}
use Rattle.change_steps.proofs.MarkedLaws.{follows_by}
use Rattle.change_steps.proofs.ending.blocked_in.Goals as goal
use Rattle.change_steps.proofs.ending.blocked_in.Goals.{Then-may_follow, then-may_follow+in_ok-push, else-may_follow}

pub loop-step-init : goal.loop-step-init
loop-step-init c = record {
  room = c.requires.room;
  state = c.requires.state;
  done = refl;
  steps = none_blocked c.args.held_rollout.now c.args.state.now.done.items c.new-blocked.result.items c.new-blocked.ensures.items;
  each = none_barred c.args.held_rollout.now c.args.tested.now c.args.state.now.done.items c.new-blocked.result.items c.new-blocked.ensures.items;
}

pub may_follow-requires-clause-count : goal.may_follow-requires-clause-count
may_follow-requires-clause-count c = ap length c.deref.ensures.value ∙ c.loop-step.invariant.state.count

pub may_follow-requires-clause-step : goal.may_follow-requires-clause-step
may_follow-requires-clause-step c = let below = c.loop-step-test.true in let count = c.step_count-step-end.ensures in omega (arith, below, count)

follows : (c : Then-may_follow) → MayFollow c.args.held_rollout.now.rollout c.args.held_rollout.now.held c.loop-step.state.done.items c.loop-step.step
follows c =
    subst (λ (m : List Bool). MayFollow c.args.held_rollout.now.rollout c.args.held_rollout.now.held m c.loop-step.step) c.deref.ensures.value
    (follows_by c.args.held_rollout.now.rollout c.args.held_rollout.now.held c.deref.result.now c.loop-step.step
    (let below = c.loop-step-test.true in let count = c.step_count-step-end.ensures in omega (arith, below, count))
    (sym c.may_follow.ensures ∙ c.if-may_follow.true))

pub blocked_by-requires-clause-room : goal.blocked_by-requires-clause-room
blocked_by-requires-clause-room c = c.loop-step.invariant.room

pub blocked_by-requires-clause-state : goal.blocked_by-requires-clause-state
blocked_by-requires-clause-state c = c.loop-step.invariant.state

pub blocked_by-requires-clause-follows : goal.blocked_by-requires-clause-follows
blocked_by-requires-clause-follows c = follows (goal.at.blocked_by-requires-clause-follows c).Then-may_follow

pub blocked_by-requires-clause-greatest : goal.blocked_by-requires-clause-greatest
blocked_by-requires-clause-greatest c =
    blocks_here c.args.held_rollout.now c.args.tested.now c.loop-step.state.done.items c.args.state.now.done.items c.loop-step.step c.loop-step.invariant.done
    c.requires.greatest (follows (goal.at.blocked_by-requires-clause-greatest c).Then-may_follow)

pub returns-in_err-push-clause-room : goal.returns-in_err-push-clause-room
returns-in_err-push-clause-room c = c.blocked_by.ensures.room

pub loop-step-preserved : goal.loop-step-preserved
loop-step-preserved c =
    let p = c.args.held_rollout.now in
    let marks = c.args.state.now.done.items in
    let step = c.loop-step.step in
    let tested : c.may_follow.result ≡ (comes_between (kind_of_step p.rollout p.held step) && not (is_marked marks step)) =
    c.may_follow.ensures ∙ ap (λ (m : List Bool). comes_between (kind_of_step p.rollout p.held step) && not (is_marked m step))
    (c.deref.ensures.value ∙ c.loop-step.invariant.done) in
    elim c.if-may_follow.branch [
      | then-may_follow+in_ok-push w ↦
          let pushed = ap (λ (v : Vec Blocked Global). v.items) w.blocked-is ∙ w.in_ok-push.ensures.items in
          record {
            room = subst (λ (f : Findings). IsRoomFor p.rollout.graph f) (sym w.room-is) w.blocked_by.ensures.room;
            state = subst (λ (s : State). IsStateOf p.rollout s) (sym w.state-is) w.blocked_by.ensures.state;
            done = ap (λ (s : State). s.done.items) w.state-is ∙ w.blocked_by.ensures.done ∙ c.loop-step.invariant.done;
            steps = blocked_step marks p c.loop-step.blocked.items c.if-may_follow.blocked.items w.blocked_by.result step (sym tested ∙ w.if-may_follow.true)
                w.blocked_by.ensures.blocked.step_is pushed c.loop-step.invariant.steps;
            each = subst (λ (xs : List Blocked). All (λ b. IsBarrier p.rollout p.held c.args.tested.now (set marks b.step true) b.by) xs) (sym pushed)
                (All-push (λ b. IsBarrier p.rollout p.held c.args.tested.now (set marks b.step true) b.by) c.loop-step.blocked.items w.blocked_by.result
                c.loop-step.invariant.each
                (subst (λ (k : ℕ). IsBarrier p.rollout p.held c.args.tested.now (set marks k true) w.blocked_by.result.by)
                (sym w.blocked_by.ensures.blocked.step_is)
                (subst (λ (m : List Bool). IsBarrier p.rollout p.held c.args.tested.now (set m step true) w.blocked_by.result.by) c.loop-step.invariant.done
                w.blocked_by.ensures.blocked.barrier)));
          }
      | else-may_follow w ↦
          let same = ap (λ (v : Vec Blocked Global). v.items) w.blocked-is in
          record {
            room = subst (λ (f : Findings). IsRoomFor p.rollout.graph f) (sym w.room-is) c.loop-step.invariant.room;
            state = subst (λ (s : State). IsStateOf p.rollout s) (sym w.state-is) c.loop-step.invariant.state;
            done = ap (λ (s : State). s.done.items) w.state-is ∙ c.loop-step.invariant.done;
            steps = unblocked_step marks p c.if-may_follow.blocked.items step (sym tested ∙ w.if-may_follow.false)
                (ap (map (λ (x : Blocked). x.step)) same ∙ c.loop-step.invariant.steps);
            each = subst (λ (xs : List Blocked). All (λ b. IsBarrier p.rollout p.held c.args.tested.now (set marks b.step true) b.by) xs) (sym same)
                c.loop-step.invariant.each;
          }
    ]

pub returns-clause-room : goal.returns-clause-room
returns-clause-room c = c.loop-step.invariant.room

pub returns-clause-blocked : goal.returns-clause-blocked
returns-clause-blocked c =
    all_blocked c.args.held_rollout.now c.args.tested.now c.args.state.now.done.items c.loop-step.blocked.items c.loop-step.step
    (let past = c.loop-step-test.false in let most = c.loop-step.auto.step-end in let count = c.step_count-step-end.ensures in omega (arith, past, most, count))
    c.loop-step.invariant.steps c.loop-step.invariant.each
