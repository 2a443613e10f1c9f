use Rattle.std.proofs.Common.{◌∙◌, ℕ, All, List, get_or, subst, sym, take_all}
use Rattle.std.proofs.lemmas.Bool.{both_ways}
use Rattle.std.proofs.lemmas.List.Elements.{All-more}
use Rattle.cost_base.specs.Marks.{is_marked}
use Rattle.spf_ties.specs.Distances.{IsRoomFor}
use Rattle.change_steps.specs.Rollouts.{Rollout}
use Rattle.change_steps.specs.Orders.{IsOnlyIn}
use Rattle.change_steps.specs.Outcomes.{IsFirstLost}
use Rattle.change_steps.proofs.MarkedLaws.{lost_at}
use Rattle.change_steps.proofs.held_rollout.HeldRollout.first_lost.Goals as goal

pub returns-then-not-is_only-clause-lost : goal.returns-then-not-is_only-clause-lost
returns-then-not-is_only-clause-lost c =
    subst (λ (xs : List ℕ). IsFirstLost c.args.self.now.rollout xs (is_marked c.args.state.now.done.items)
    (get_or c.held-number-items.result.now c.loop-number.number-index 0))
    c.held-number-items.ensures
    (lost_at c.args.self.now.rollout c.held-number-items.result.now (is_marked c.args.state.now.done.items) c.loop-number.number-index c.loop-number-test.true
    c.loop-number.invariant.safe (λ only. both_ways c.is_only.result c.if-not-is_only.true
    (c.is_only.ensures.only.1 (subst (λ (r : Rollout). IsOnlyIn r (is_marked c.args.state.now.done.items)
    (get_or c.held-number-items.result.now c.loop-number.number-index 0)) (sym c.rollout.ensures) only))))

pub loop-number-preserved : goal.loop-number-preserved
loop-number-preserved c = record {
  room = subst (λ (r : Rollout). IsRoomFor r.graph c.is_only.new.room) c.rollout.ensures c.is_only.ensures.room;
  safe = All-more (IsOnlyIn c.args.self.now.rollout (is_marked c.args.state.now.done.items)) c.held-number-items.result.now c.loop-number.number-index 0
      c.loop-number-test.true c.loop-number.invariant.safe (subst (λ (r : Rollout). IsOnlyIn r (is_marked c.args.state.now.done.items)
      (get_or c.held-number-items.result.now c.loop-number.number-index 0)) c.rollout.ensures (c.is_only.ensures.only.0 c.if-not-is_only.false));
}

pub returns-clause-lost : goal.returns-clause-lost
returns-clause-lost c =
    subst (λ (xs : List ℕ). All (IsOnlyIn c.args.self.now.rollout (is_marked c.args.state.now.done.items)) xs)
    (take_all c.loop-number.number-index c.held-number-items.result.now c.loop-number-test.false ∙ c.held-number-items.ensures) c.loop-number.invariant.safe
