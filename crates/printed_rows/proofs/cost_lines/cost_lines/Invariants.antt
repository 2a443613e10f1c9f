use Rattle.std.proofs.Common.{take}
use Rattle.design_problem.specs.Answers.{CostLinesOf}
use Rattle.printed_rows.proofs.cost_lines.cost_lines.Given as goal

-- the lines so far are those of the first names
abbrev pub invariant-loop-name : goal.invariant-loop-name
invariant-loop-name l = CostLinesOf l.costs (take l.name-index l.names) l.lines.items
