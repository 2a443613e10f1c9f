-- The form of the total at a point is `most` times the scale less the sum of the values.
use Rattle.least_total.proofs.OverLaws.{over_tells}
use Rattle.least_total.proofs.totals.is_over.Goals as goal

pub returns : goal.returns
returns c = over_tells c.args.point.now c.args.most c.from.result c.sum_of.result c.from.ensures c.sum_of.ensures
