-- What is told of the set at which the budget was used up.
use Rattle.least_conflict.proofs.Asking.{told_undecided}
use Rattle.least_conflict.proofs.ShrinkingLaws.{undecided_found}
use Rattle.least_conflict.proofs.finding.undecided.Goals as goal

pub returns-clause-found : goal.returns-clause-found
returns-clause-found c = λ top nodes used_up. undecided_found c.args.problem.now top nodes c.args.set c.in_ok-members.field-0 used_up
    c.requires.tried (c.in_ok-members.ensures top nodes used_up.tree)

pub returns-clause-told : goal.returns-clause-told
returns-clause-told c =
    let used_up = c.requires.used_up in
    told_undecided c.args.problem.now used_up.0 used_up.1 c.args.set c.in_ok-members.field-0 (c.in_ok-members.ensures used_up.0 used_up.1 used_up.2.tree)
