-- What is kept is a tree at a cap below that of the undecided one.
use Rattle.std.proofs.Common.{◌≤◌, subst, arith}
use Rattle.std.proofs.lemmas.Result.{IfOk-weaker}
use Rattle.least_bound.specs.declared.so_far.Best.{Best}
use Rattle.least_bound.specs.declared.so_far.Best.TheVariants.{NoCosts, Costs, Between}
use Rattle.least_bound.specs.Caps.{BestHolds}
use Rattle.least_bound.proofs.Settling.{told_best}
use Rattle.least_bound.proofs.ValidAnswers.{kept_below}
use Rattle.least_bound.proofs.so_far.SoFar.answer.Goals as goal

pub undecided-requires-clause-trees : goal.undecided-requires-clause-trees
undecided-requires-clause-trees c =
    let p = c.args.problem.now in
    let top = c.requires.so_far.0 in
    let nodes = c.requires.so_far.1 in
    let holds = c.requires.so_far.3 in
    let best : BestHolds p top nodes c.args.pool c.args.self.most (NoCosts c.in-NoCosts.tree) =
    subst (λ (b : Best). BestHolds p top nodes c.args.pool c.args.self.most b) c.in-NoCosts.is holds.best in
    let below : c.args.self.least ≤ c.in-NoCosts.tree.cap = omega (arith, holds.ordered, best.1) in
    (top, nodes, c.requires.so_far.2, kept_below p top nodes c.args.pool c.args.self.least c.in-NoCosts.tree.cap c.args.self.kept below holds.kept, best.2)

pub undecided-requires-in-Between-clause-trees : goal.undecided-requires-in-Between-clause-trees
undecided-requires-in-Between-clause-trees c =
    let p = c.args.problem.now in
    let top = c.requires.so_far.0 in
    let nodes = c.requires.so_far.1 in
    let holds = c.requires.so_far.3 in
    let best : BestHolds p top nodes c.args.pool c.args.self.most (Between c.in-Between.costs c.in-Between.tree) =
    subst (λ (b : Best). BestHolds p top nodes c.args.pool c.args.self.most b) c.in-Between.is holds.best in
    let below : c.args.self.least ≤ c.in-Between.tree.cap = omega (arith, holds.ordered, best.2) in
    (top, nodes, c.requires.so_far.2, kept_below p top nodes c.args.pool c.args.self.least c.in-Between.tree.cap c.args.self.kept below holds.kept, best.3)

pub returns-in-NoCosts-clause-tells : goal.returns-in-NoCosts-clause-tells
returns-in-NoCosts-clause-tells c =
    IfOk-weaker c.undecided.result _ _ (λ a tells. told_best c.args.problem.now c.args.self.kept c.args.self.best (NoCosts c.in-NoCosts.tree) a c.in-NoCosts.is
    tells)
    c.undecided.ensures.tells

pub returns-in-Costs-clause-tells : goal.returns-in-Costs-clause-tells
returns-in-Costs-clause-tells c =
    IfOk-weaker c.optimal.result _ _ (λ a tells. told_best c.args.problem.now c.args.self.kept c.args.self.best (Costs c.in-Costs.costs) a c.in-Costs.is tells)
    c.optimal.ensures.tells

pub returns-in-Between-clause-tells : goal.returns-in-Between-clause-tells
returns-in-Between-clause-tells c =
    IfOk-weaker c.undecided-in-Between.result _ _
    (λ a tells. told_best c.args.problem.now c.args.self.kept c.args.self.best (Between c.in-Between.costs c.in-Between.tree) a c.in-Between.is tells)
    c.undecided-in-Between.ensures.tells
