-- The sizes are multiplied and compared as they are.
use Rattle.std.proofs.Common.{◌^◌}
use Rattle.integer_pivots.proofs.Sizes.{positive_size, size_of}
use Rattle.integer_pivots.proofs.TurnLaws.{AreKept, kept_fits, kept_product, kept_test, negated_number, product_of_read}
use Rattle.integer_pivots.proofs.turned_line.Turn.keeps.Goals as goal
use Rattle.integer_pivots.proofs.turned_line.Turn.keeps.Goals.{After-abs}

kept : (c : After-abs) → AreKept c.args.self.multiplier c.args.most c.args.self.factor c.args.entering c.abs.result
kept c = record {
  multiplier = c.requires.multiplier;
  factor = c.requires.factor;
  most_in = c.requires.most;
  entering = c.requires.entering;
  size = c.abs.ensures.value;
}

pub overflow_mul-result : goal.overflow_mul-result
overflow_mul-result c =
    product_of_read c.args.self.multiplier c.args.most (positive_size c.args.self.multiplier (2 ^ 30) c.requires.multiplier)
    (size_of c.args.most (2 ^ 30) c.requires.most)

pub abs-requires : goal.abs-requires
abs-requires c = negated_number c.args.self.factor c.requires.factor

pub overflow_mul-result-2 : goal.overflow_mul-result-2
overflow_mul-result-2 c =
    kept_product c.args.self.multiplier c.args.most c.args.self.factor c.args.entering c.abs.result
    (kept (goal.at.overflow_mul-result-2 c).After-abs)

pub overflow_add-result : goal.overflow_add-result
overflow_add-result c =
    kept_fits c.args.self.multiplier c.args.most c.args.self.factor c.args.entering c.abs.result (kept (goal.at.overflow_add-result c).After-abs)

pub returns : goal.returns
returns c =
    kept_test c.args.self.multiplier c.args.most c.args.self.factor c.args.entering c.abs.result (kept (goal.at.returns c).After-abs)
