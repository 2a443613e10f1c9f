-- There are costs without each member.
use Rattle.std.proofs.Common.{ℕ, List, subst, sym}
use Rattle.least_conflict.specs.Conflicts.{IsLeastConflictShown}
use Rattle.least_conflict.proofs.Asking.{told_least}
use Rattle.least_conflict.proofs.ShrinkingLaws.{least_found}
use Rattle.least_conflict.proofs.finding.least.Goals as goal

pub returns-clause-found : goal.returns-clause-found
returns-clause-found c = λ top nodes refuted.
    let p = c.args.problem.now in
    let told = c.in_ok-members.field-0 in
    subst (λ (lists : List (List ℕ)). IsLeastConflictShown p top nodes told.members told.rows told.tree lists) (sym c.from_items.ensures)
    (least_found p top nodes c.args.conflict c.args.without.items told c.keeps_problem_on_graph.ensures.problem refuted c.requires.counted c.requires.fits
    (c.in_ok-members.ensures top nodes refuted.tree))

pub returns-clause-told : goal.returns-clause-told
returns-clause-told c =
    let refuted = c.requires.conflict in
    told_least c.args.problem.now refuted.0 refuted.1 c.args.conflict c.in_ok-members.field-0 c.args.without.items _
    (c.in_ok-members.ensures refuted.0 refuted.1 refuted.2.tree) c.from_items.ensures
