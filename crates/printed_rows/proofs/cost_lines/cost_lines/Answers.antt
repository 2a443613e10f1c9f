-- A line more for a name more.
use Rattle.std.proofs.Common.{◌≡◌, rules}
use Rattle.printed_rows.specs.PrintedCosts.{named_cost}
use Rattle.printed_rows.proofs.CostLaws.{line_of_name}
use Rattle.printed_rows.proofs.cost_lines.cost_lines.Goals as goal

pub loop-name-preserved : goal.loop-name-preserved
loop-name-preserved c =
    let made : c.in_ok-cost_line.field-0 ≡ named_cost c.args.costs.now c.name-item.result = search rules in
    line_of_name c.args.costs.now c.args.names.now c.loop-name.name-index c.name-item.result c.loop-name.lines.items c.in_ok-cost_line.field-0
    (search rules) c.name-item.is c.loop-name.invariant made c.push.new.self.items c.in_ok-push.ensures.items
