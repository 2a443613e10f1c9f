use Rattle.std.specs.Option.{option_copied}
use Rattle.evidence_text.proofs.PutLines.{turn, stop_at, next_short, costs_turn}
use Rattle.evidence_text.proofs.put_parts.put_lines_of_costs.Goals as goal

pub put_cost_line-requires : goal.put_cost_line-requires
put_cost_line-requires g c =
    let step = costs_turn (option_copied c.loop-cost.before) c.args.costs.now c.loop-cost.cost-index c.cost-item.result c.loop-cost-test.true c.cost-item.is in
    next_short _ _ step c.loop-cost.invariant

pub returns-in_err-put_cost_line : goal.returns-in_err-put_cost_line
returns-in_err-put_cost_line g c =
    let step = costs_turn (option_copied c.loop-cost.before) c.args.costs.now c.loop-cost.cost-index c.cost-item.result c.loop-cost-test.true c.cost-item.is in
    stop_at c.from_residual.result c.from_residual.ensures.0 _ _ step c.loop-cost.invariant c.in_err-put_cost_line.ensures

pub loop-cost-preserved : goal.loop-cost-preserved
loop-cost-preserved g c =
    let step = costs_turn (option_copied c.loop-cost.before) c.args.costs.now c.loop-cost.cost-index c.cost-item.result c.loop-cost-test.true c.cost-item.is in
    turn _ _ step c.loop-cost.invariant c.in_ok-put_cost_line.ensures
