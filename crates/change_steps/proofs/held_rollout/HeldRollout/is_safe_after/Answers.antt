use Rattle.std.proofs.Common.{◌∙◌, ℕ, All, List, get_or, refl, subst, sym, take_all}
use Rattle.std.proofs.lemmas.List.Elements.{All-more}
use Rattle.cost_base.specs.Marks.{is_marked}
use Rattle.spf_ties.specs.Distances.{Findings, IsRoomFor}
use Rattle.change_steps.specs.Rollouts.{Rollout}
use Rattle.change_steps.specs.Orders.{IsOnlyIn}
use Rattle.change_steps.proofs.held_rollout.HeldRollout.is_safe_after.Goals as goal
use Rattle.change_steps.proofs.held_rollout.HeldRollout.is_safe_after.Goals.{else-not-spares-via-then-not-spares+else-not-is_only, else-not-spares-via-else-not-spares}

pub loop-number-preserved : goal.loop-number-preserved
loop-number-preserved c = elim c.else-not-spares.branch [
  | else-not-spares-via-then-not-spares+else-not-is_only w ↦ record {
    room = subst (λ (f : Findings). IsRoomFor c.args.self.now.rollout.graph f) (sym w.room-is)
        (subst (λ (r : Rollout). IsRoomFor r.graph w.is_only.new.room) w.rollout.ensures w.is_only.ensures.room);
    safe = All-more (IsOnlyIn c.args.self.now.rollout (is_marked c.args.state.now.done.items)) c.held-number-items.result.now c.loop-number.number-index 0
        c.loop-number-test.true c.loop-number.invariant.safe (subst (λ (r : Rollout). IsOnlyIn r (is_marked c.args.state.now.done.items)
        (get_or c.held-number-items.result.now c.loop-number.number-index 0)) w.rollout.ensures (w.is_only.ensures.only.0 w.if-not-is_only.false));
  }
  | else-not-spares-via-else-not-spares w ↦ record {
    room = subst (λ (f : Findings). IsRoomFor c.args.self.now.rollout.graph f) (sym w.room-is) c.loop-number.invariant.room;
    safe = All-more (IsOnlyIn c.args.self.now.rollout (is_marked c.args.state.now.done.items)) c.held-number-items.result.now c.loop-number.number-index 0
        c.loop-number-test.true c.loop-number.invariant.safe
        (c.spares.ensures w.if-not-spares.false c.requires.before.0 c.requires.before.1
        (subst (λ (xs : List ℕ). All (IsOnlyIn c.args.self.now.rollout c.requires.before.0) xs) (sym c.held-number-items.ensures) c.requires.before.2
        c.loop-number.number-index 0 c.loop-number-test.true));
  }
]

pub returns-clause-safe : goal.returns-clause-safe
returns-clause-safe c = (
  λ true_is. subst (λ (xs : List ℕ). All (IsOnlyIn c.args.self.now.rollout (is_marked c.args.state.now.done.items)) xs)
      (take_all c.loop-number.number-index c.held-number-items.result.now c.loop-number-test.false ∙ c.held-number-items.ensures) c.loop-number.invariant.safe,
  λ all. refl,
)
