-- Each number stands over the divisor.
use Rattle.std.proofs.Common.{sym, ◌∙◌, ap, subst, w64}
use Rattle.std.specs.Prelude.{ℤ, ◌*ℤ◌, nat_abs}
use Prim.Native.Nat.{◌∣◌}
use Rattle.std.proofs.lemmas.Int.{to_z-of_z}
use Rattle.whole_numbers.specs.Lists.{number_at}
use Rattle.whole_numbers.proofs.Sizes.{positive_is, size_positive}
use Rattle.integer_pivots.specs.Lines.{IsReduced}
use Rattle.integer_pivots.proofs.LineLaws.{reduced_by_one}
use Rattle.integer_pivots.proofs.Quotients.{bits_of, read_divides, read_times}
use Rattle.integer_pivots.proofs.line.Line.put_over.Goals as goal

pub over-self-requires-clause-whole : goal.over-self-requires-clause-whole
over-self-requires-clause-whole c =
    read_divides c.args.part c.args.self.now.denominator c.ranges.part c.requires.sizes.0 c.requires.denominator

pub over-self-requires-2-clause-whole : goal.over-self-requires-2-clause-whole
over-self-requires-2-clause-whole c =
    read_divides c.args.part c.args.self.now.constant c.ranges.part c.requires.sizes.1 c.requires.constant

pub divide-requires-clause-whole : goal.divide-requires-clause-whole
divide-requires-clause-whole c k k_in =
    subst (λ (p : ℤ). nat_abs p ∣ nat_abs (number_at c.args.self.now.numbers k)) (sym (to_z-of_z w64 c.args.part c.ranges.part)) (c.requires.numbers k k_in)

pub returns-then-part-eq1 : goal.returns-then-part-eq1
returns-then-part-eq1 c =
    subst (λ (z : ℤ). IsReduced c.args.self.now c.args.self.now (nat_abs z)) (sym (bits_of c.args.part 1 c.ranges.part c.if-part-eq1.true))
    (reduced_by_one c.args.self.now)

pub returns : goal.returns
returns c = record {
  positive = size_positive c.args.part c.requires.part;
  denominator = read_times c.over-self.result c.args.part c.args.self.now.denominator c.requires.part c.ranges.part
      c.over-self.type_inv c.requires.sizes.0 c.over-self.ensures.times;
  constant = read_times c.over-self-2.result c.args.part c.args.self.now.constant c.requires.part c.ranges.part
      c.over-self-2.type_inv c.requires.sizes.1 c.over-self-2.ensures.times;
  count = c.divide.ensures.count;
  numbers = λ k k_in. sym (c.divide.ensures.numbers k k_in)
      ∙ ap (λ (z : ℤ). number_at c.divide.new.numbers k *ℤ z)
      (to_z-of_z w64 c.args.part c.ranges.part ∙ positive_is c.args.part c.requires.part);
}
