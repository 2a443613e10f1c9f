-- The variables before the counter were put.
use Rattle.std.proofs.Common.{◌≡◌}
use Rattle.cost_base.specs.Lists.{numbers_from}
use Rattle.integer_pivots.proofs.first_lines.unit_leads.Given as goal

abbrev pub invariant-loop-var : goal.invariant-loop-var
invariant-loop-var l = l.leads.items ≡ numbers_from 0 l.var
