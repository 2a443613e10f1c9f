-- What is in common goes out, and the greatest number is the reach.
use Rattle.std.proofs.Common.{rules, ◌^◌, sym, ap, subst, length, arith}
use Rattle.std.specs.Prelude.{nat_abs}
use Rattle.integer_pivots.specs.Numbers.{AllWithin}
use Rattle.integer_pivots.proofs.Sizes.{read, read_known}
use Rattle.integer_pivots.proofs.LineLaws.{IsCommonPart, lowest_over_common, reduced_within}
use Rattle.integer_pivots.proofs.line.Line.reduce.Goals as goal
use Rattle.integer_pivots.proofs.line.Line.reduce.Goals.{After-common_part-part}

common : (c : After-common_part-part) → IsCommonPart c.args.self.now (length c.args.self.now.numbers) (read c.common_part-part.result)
common c =
    subst (IsCommonPart c.args.self.now (length c.args.self.now.numbers)) (sym (read_known c.common_part-part.result c.common_part-part.type_inv))
    record {
      positive = c.common_part-part.ensures.positive;
      denominator = c.common_part-part.ensures.denominator;
      constant = c.common_part-part.ensures.constant;
      numbers = c.common_part-part.ensures.numbers;
      greatest = c.common_part-part.ensures.greatest;
    }

pub put_over-requires-clause-denominator : goal.put_over-requires-clause-denominator
put_over-requires-clause-denominator c = (common (goal.at.put_over-requires-clause-denominator c).After-common_part-part).denominator

pub put_over-requires-clause-constant : goal.put_over-requires-clause-constant
put_over-requires-clause-constant c = (common (goal.at.put_over-requires-clause-constant c).After-common_part-part).constant

pub put_over-requires-clause-numbers : goal.put_over-requires-clause-numbers
put_over-requires-clause-numbers c = (common (goal.at.put_over-requires-clause-numbers c).After-common_part-part).numbers

pub greatest-self-requires : goal.greatest-self-requires
greatest-self-requires c =
    subst (AllWithin (2 ^ 62)) (sym c.as_slice.ensures)
    (reduced_within c.args.self.now c.put_over.new.self (nat_abs (read c.common_part-part.result)) (2 ^ 62) c.put_over.ensures c.requires.numbers)

pub returns-clause-lowered : goal.returns-clause-lowered
returns-clause-lowered c =
    let old = c.args.self.now in
    let put = c.put_over.new.self in
    let r = c.put_over.ensures in
    record {
      part = nat_abs (read c.common_part-part.result);
      reduced = record { positive = r.positive; denominator = r.denominator; constant = r.constant; count = r.count; numbers = r.numbers };
      positive = search rules;
      lowest = lowest_over_common old put (read c.common_part-part.result) (common (goal.at.returns-clause-lowered c).After-common_part-part) r;
      reach_positive = search rules;
      within = search rules;
    }

pub returns-clause-least : goal.returns-clause-least
returns-clause-least c most all =
    let within = reduced_within c.args.self.now c.put_over.new.self (nat_abs (read c.common_part-part.result)) most c.put_over.ensures all in
    let least = c.greatest-self.ensures.least most (subst (AllWithin most) (sym c.as_slice.ensures) within) in
    omega (arith, least, ap nat_abs (read_known c.greatest-self.result c.greatest-self.type_inv))

pub returns-clause-reached : goal.returns-clause-reached
returns-clause-reached c most all =
    let least = c.greatest-self.ensures.least most (subst (AllWithin most) (sym c.as_slice.ensures) all) in
    omega (arith, least, ap nat_abs (read_known c.greatest-self.result c.greatest-self.type_inv))
