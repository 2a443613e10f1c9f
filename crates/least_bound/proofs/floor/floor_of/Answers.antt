-- Where no bound is the greatest, there is no variable.
use Rattle.std.proofs.Common.{◌∙◌, sym, arith}
use Rattle.printed_rows.proofs.CostLaws.{greatest-none}
use Rattle.least_bound.proofs.floor.floor_of.Goals as goal

pub returns : goal.returns
returns c = greatest-none c.args.low.now (λ k below same. c.loop-var.invariant k (omega arith) (same ∙ sym c.greatest_of-greatest.ensures))
