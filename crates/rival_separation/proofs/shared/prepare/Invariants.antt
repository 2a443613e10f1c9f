use Rattle.std.proofs.Common.{◌≤◌}
use Rattle.rival_separation.specs.Outlooks.{lead_in}
use Rattle.rival_separation.proofs.shared.prepare.Given as goal

abbrev pub invariant-loop-later : goal.invariant-loop-later
invariant-loop-later g l = lead_in l.first ≤ l.limit
