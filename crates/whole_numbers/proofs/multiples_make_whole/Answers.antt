use Rattle.std.specs.Prelude.{pos, ◌*ℤ◌}
use Rattle.std.proofs.Common.{◌/◌}
use Rattle.whole_numbers.proofs.Multiples.{stands_over, left_divides_lcm, right_divides_lcm, lcm_positive}
use Rattle.whole_numbers.proofs.multiples_make_whole.Goals as goal

pub returns : goal.returns
returns c = record {
  whole = λ q L divides. (q.numerator *ℤ pos (L / q.denominator), stands_over q L divides);
  left = left_divides_lcm;
  right = right_divides_lcm;
  positive = lcm_positive;
}
