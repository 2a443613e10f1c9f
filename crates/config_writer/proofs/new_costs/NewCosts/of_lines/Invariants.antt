use Rattle.std.proofs.Common.{◌≡◌, ◌≤◌, ℕ, List, None, drop, take, All}
use Rattle.config_reader.specs.Sections.{cost_after}
use Rattle.config_writer.specs.Rewriting.{costs_of}
use Rattle.config_writer.specs.Writing.{look_up}
use Rattle.config_writer.proofs.new_costs.NewCosts.of_lines.Given as goal

-- what is left makes of the costs what all lines make of none
abbrev pub invariant-loop-line : goal.invariant-loop-line
invariant-loop-line l = record {
  costs : (name : List ℕ) → cost_after (costs_of (drop l.line-index l.lines)) name (look_up name l.costs) ≡ cost_after (costs_of l.lines) name None;
  within : All (λ line. line.cost ≤ 65535) (take l.line-index l.lines);
}
