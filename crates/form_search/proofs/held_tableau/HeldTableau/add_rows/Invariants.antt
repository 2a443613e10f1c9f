use Rattle.std.proofs.Common.{◌≡◌}
use Rattle.form_search.specs.Tables.{StandsAt}
use Rattle.form_search.proofs.held_tableau.HeldTableau.add_rows.Given as goal

abbrev pub invariant-loop-row : goal.invariant-loop-row
invariant-loop-row l = record {
  stands : StandsAt l.fn.self.tableau.top l.fn.self.tableau.costs l.forms l.self;
  at : l.self.held ≡ l.row;
}
