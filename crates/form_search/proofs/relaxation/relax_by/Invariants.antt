-- The tableau stands over the box with the forms of a pool that grew, and each round that goes on adds a possible form.
use Rattle.std.proofs.Common.{◌≡◌, length}
use Rattle.form_search.specs.Calls.{Leaves}
use Rattle.form_search.specs.Tables.{StandsAt}
use Rattle.form_search.proofs.MissingForms.{missing}
use Rattle.form_search.proofs.relaxation.relax_by.Given as goal

abbrev pub invariant-rounds : goal.invariant-rounds
invariant-rounds g l = record {
  left : Leaves g.S.FormSource (λ P. P) l.initial.source l.source l.initial.pool l.pool;
  stands : StandsAt l.initial.table.tableau.top l.costs l.pool l.table;
  places : length l.point.values ≡ length l.initial.point.values;
}

abbrev pub decreases-rounds : goal.decreases-rounds
decreases-rounds g l = missing (g.S.FormSource.possible_forms l.source) l.pool
