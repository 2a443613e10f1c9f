use Rattle.std.proofs.Common.{◌≡◌, ◌<◌, ◌∙◌, ℕ, All, List, ap, length, length-set, subst, sym}
use Rattle.cost_base.specs.Marks.{is_marked}
use Rattle.area_graph.specs.declared.Point.{Point}
use Rattle.change_steps.proofs.StateCosts.{length-costs_in}
use Rattle.change_steps.proofs.StateLaws.{undo_costs, variables_known, point_is}
use Rattle.change_steps.proofs.state.State.undo_step.Goals as goal
use Rattle.change_steps.proofs.state.State.undo_step.Goals.{After-present}

as_long : (c : After-present) → length c.args.self.now.point.values ≡ length c.args.rollout.now.moves.present
as_long c = ap (λ (p : Point). length p.values) c.requires.state.point ∙ length-costs_in c.args.rollout.now.moves (is_marked c.args.self.now.done.items)

pub put-requires-clause-known : goal.put-requires-clause-known
put-requires-clause-known c =
    subst (λ (n : ℕ). All (λ v. v < n) c.variables.result.now) (sym (as_long (goal.at.put-requires-clause-known c).After-present))
    (subst (λ (xs : List ℕ). All (λ v. v < length c.args.rollout.now.moves.present) xs) (sym c.variables.ensures)
    (variables_known c.args.rollout.now c.args.step c.keeps_conditions.ensures c.requires.step))

pub put-requires-clause-costs : goal.put-requires-clause-costs
put-requires-clause-costs c = ap length c.present.ensures ∙ sym (as_long (goal.at.put-requires-clause-costs c).After-present)

pub returns-clause-state : goal.returns-clause-state
returns-clause-state c = record {
  count = length-set c.args.self.now.done.items c.args.step _ ∙ c.requires.state.count;
  point = point_is c.args.self.now.point.scale c.put.new.values _ (ap (λ (p : Point). p.scale) c.requires.state.point)
      (undo_costs c.args.rollout.now c.args.self.now.done.items c.put.new.values c.args.self.now.point.values c.present.result.now c.variables.result.now
      c.args.step
      c.keeps_conditions.ensures c.requires.step c.requires.state.count (ap (λ (p : Point). p.values) c.requires.state.point) c.variables.ensures
      c.present.ensures c.put.ensures.count c.put.ensures.put);
}
