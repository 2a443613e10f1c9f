use Rattle.std.proofs.Common.{rules}
use Rattle.wide_fraction.proofs.word_arithmetic.bounded_sum.Goals as goal

pub returns-then-unsigned_abs-most : goal.returns-then-unsigned_abs-most
returns-then-unsigned_abs-most c = search rules
