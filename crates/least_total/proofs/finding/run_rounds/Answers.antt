-- What a round finds brings the ends nearer.
use Rattle.std.proofs.Common.{subst}
use Rattle.least_total.specs.declared.rounds.Round.{Round}
use Rattle.least_total.specs.declared.rounds.Round.TheVariants.{Costs, Refuted}
use Rattle.least_total.specs.Rounds.{IsRound}
use Rattle.least_total.proofs.finding.run_rounds.Goals as goal

pub loop-most-preserved-in-Costs : goal.loop-most-preserved-in-Costs
loop-most-preserved-in-Costs c =
    let p = c.args.problem.now in
    let limits = c.args.limits.now in
    let found : IsRound p limits.top limits.nodes c.args.cap c.in-Some.most (Costs c.in-Costs.costs) =
    subst (λ (r : Round). IsRound p limits.top limits.nodes c.args.cap c.in-Some.most r) c.in-Costs.is
    c.in_ok-costs.ensures in
    c.with_costs-so_far.ensures.holds p limits.top limits.nodes c.args.cap c.keeps_problem_on_graph.ensures.problem c.loop-most.invariant found.0

pub loop-most-preserved : goal.loop-most-preserved
loop-most-preserved c =
    let p = c.args.problem.now in
    let limits = c.args.limits.now in
    let found : IsRound p limits.top limits.nodes c.args.cap c.in-Some.most (Refuted c.in-Refuted.tree) =
    subst (λ (r : Round). IsRound p limits.top limits.nodes c.args.cap c.in-Some.most r) c.in-Refuted.is
    c.in_ok-costs.ensures in
    c.without-so_far.ensures.holds p limits.top limits.nodes c.args.cap c.loop-most.invariant found
