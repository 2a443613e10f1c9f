use Rattle.std.proofs.Common.{arith}
use Rattle.std.proofs.lemmas.Int.{ints}
use Rattle.design_problem.specs.OpenPlaces.{first_place}
use Rattle.form_search.proofs.NextEntries.{next_refute}
use Rattle.form_search.proofs.propagation.entry_of.Goals as goal

pub returns-then-most-lt0-clause-entry : goal.returns-then-most-lt0-clause-entry
returns-then-most-lt0-clause-entry c forms row_in same =
    next_refute forms c.args.row (first_place c.args.tree.now.places) c.args.form.now c.costs.result.now
    c.in_ok-refute_by.field-0 row_in same (c.costs.ensures c.requires.open)
    (rw (Rattle.std.proofs.Common.sym c.greatest_over-most.ensures) (omega (arith, ints))) c.in_ok-refute_by.ensures
