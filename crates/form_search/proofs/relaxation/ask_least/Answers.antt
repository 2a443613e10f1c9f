use Rattle.form_search.proofs.CostPoints.{cost_point}
use Rattle.form_search.proofs.relaxation.ask_least.Goals as goal

pub ask-requires-clause-point : goal.ask-requires-clause-point
ask-requires-clause-point g c =
    cost_point (g.S.FormSource.count c.args.source.now) c.args.costs.now c.args.point.now c.requires.ranges c.requires.least.inside c.requires.small
