-- The costs' total is at least what bounds the least one.
use Rattle.std.proofs.Common.{◌∙◌, ap}
use Rattle.least_total.specs.Totals.{total}
use Rattle.least_total.proofs.RoundLaws.{so_far_costs}
use Rattle.least_total.proofs.so_far.SoFar.with_costs.Goals as goal

pub returns-clause-holds : goal.returns-clause-holds
returns-clause-holds c = λ p top nodes cap problem holds fit.
    so_far_costs p top nodes cap c.args.self c.args.costs c.total_of.result problem holds fit
    (c.total_of.ensures.total ∙ ap total c.as_slice.ensures) c.total_of.ensures.small
