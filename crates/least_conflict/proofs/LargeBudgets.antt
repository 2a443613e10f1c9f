-- Where no tree uses the budget up, the requests are settled; a budget of about twice as many entries as there are
-- points is used up by none.
use Rattle.std.proofs.Common.{arith, length}
use Rattle.design_problem.specs.Rows.{forms_of_rows}
use Rattle.design_problem.proofs.TreeShapes.{few_entries}
use Rattle.design_problem.specs.Answers.{whole_box}
use Rattle.printed_rows.proofs.CapBoxes.{bounds_box}
use Rattle.least_conflict.specs.declared.conflict.Conflict.TheVariants.{Fit, Least, Undecided}
use Rattle.least_conflict.specs.Laws.{ConflictSufficientIfLarge, ConflictSettlesIfSufficient}

pub sufficient_settle : ConflictSettlesIfSufficient
sufficient_settle p top nodes (Fit w) cannot found = tt
sufficient_settle p top nodes (Least members rows tree without) cannot found = tt
sufficient_settle p top nodes (Undecided members rows tree) cannot found =
    absurd (cannot members rows tree found.set found.told.sheet.true_rows found.told.printed.earnest found.undone found.used_up)

pub large_suffice : ConflictSufficientIfLarge
large_suffice p top nodes kept enough members rows tree set true_rows earnest undone used_up =
    let few = (few_entries (length p.low) (forms_of_rows p rows) (whole_box p) tree
    (bounds_box p kept) earnest.sound).undecided undone in
    absurd (omega (arith, few, enough, used_up))
