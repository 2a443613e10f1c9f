-- The tree that used the budget up is printed behind those of the cores.
use Rattle.std.proofs.Common.{refl}
use Rattle.std.proofs.lemmas.Result.{IfOk-weaker}
use Rattle.least_change.specs.Telling.{IsUndecidedEvidenceTold, IsUndecidedPrinted}
use Rattle.least_change.proofs.KnownTrees.{as_many_trees}
use Rattle.least_change.proofs.ShownLaws.{known_told, most_names, undecided_evidence_told, undecided_names_rows}
use Rattle.least_change.proofs.telling.undecided_evidence.Goals as goal

pub told_cores-requires-clause-counted : goal.told_cores-requires-clause-counted
told_cores-requires-clause-counted c =
    as_many_trees c.args.question.now c.args.pool.forms c.args.known.sets.items c.args.known.trees.items c.requires.known.cores

pub told_cores-requires-clause-names : goal.told_cores-requires-clause-names
told_cores-requires-clause-names c =
    most_names c.args.question.now c.args.known.sets.items c.requires.known.most c.args.known.cover c.requires.known.is_most

pub undecided_cores-requires-clause-names : goal.undecided_cores-requires-clause-names
undecided_cores-requires-clause-names c =
    let q = c.args.question.now in
    let named = c.in_ok-named.named in
    let told = known_told q c.args.pool c.args.known.sets.items c.args.known.trees.items c.args.known.cover named c.requires.known c.in_ok-named.ensures in
    undecided_names_rows q c.args.pool c.requires.known.most named c.args.undecided _ c.requires.pool told c.requires.undecided refl

pub undecided_cores-requires-clause-counted : goal.undecided_cores-requires-clause-counted
undecided_cores-requires-clause-counted c =
    let q = c.args.question.now in
    let named = c.in_ok-named.named in
    let told = known_told q c.args.pool c.args.known.sets.items c.args.known.trees.items c.args.known.cover named c.requires.known c.in_ok-named.ensures in
    as_many_trees q c.args.pool.forms named.sets.items named.trees.items told.known

pub returns : goal.returns
returns c =
    let q = c.args.question.now in
    let named = c.in_ok-named.named in
    IfOk-weaker c.undecided_cores.result (IsUndecidedPrinted c.args.pool.rows named c.args.undecided) (IsUndecidedEvidenceTold q c.args.undecided)
    (undecided_evidence_told q c.args.pool c.args.known.sets.items c.args.known.trees.items c.args.known.cover named c.args.undecided
    c.keeps_conditions.ensures.problem.problem
    c.keeps_conditions.ensures.present c.requires.pool c.requires.known c.in_ok-named.ensures c.requires.undecided) c.undecided_cores.ensures
