-- The line that is read from a line of fractions, over its least common denominator, where that is within the bounds.
use Prim.Native.Nat.{◌∣◌}
use Rattle.std.proofs.Common.{List, ◌≡◌, suc, sym, subst, length, arith}
use Rattle.std.specs.Prelude.{ℤ, nat_abs}
use Rattle.whole_numbers.specs.Fractions.{Fraction}
use Rattle.integer_pivots.proofs.Sizes.{read}
use Rattle.table_kernel.specs.ReadBack.{IsLeastDenominator}
use Rattle.table_kernel.proofs.ReadLines.{constant_refused, is_line, is_read, least_read, number_refused}
use Rattle.table_kernel.proofs.Refusals.{on_err}
use Rattle.table_kernel.proofs.read_back.read_line.Goals.{In-Some}
use Rattle.table_kernel.proofs.read_back.read_line.Goals as goal

least : (c : In-Some) → IsLeastDenominator c.args.fractions.now (read c.in-Some.denominator)
least c = least_read c.args.fractions.now c.in-Some.denominator c.in-Some.ensures

pub number_over-requires-clause-whole : goal.number_over-requires-clause-whole
number_over-requires-clause-whole c =
    let is = least (goal.at.number_over-requires-clause-whole c).In-Some in
    subst (λ (q : Fraction). q.denominator ∣ nat_abs (read c.in-Some.denominator)) (sym c.constant.ensures)
    (is.common 0 (omega (arith, c.requires.fractions)))

pub returns-in_default-number_over-clause-refused : goal.returns-in_default-number_over-clause-refused
returns-in_default-number_over-clause-refused c =
    constant_refused c.args.fractions.now (read c.in-Some.denominator) c.constant.result (least
    (goal.at.returns-in_default-number_over-clause-refused c).In-Some)
    c.constant.ensures c.in_default-number_over.ensures

pub read_numbers-requires-clause-whole : goal.read_numbers-requires-clause-whole
read_numbers-requires-clause-whole c = (least (goal.at.read_numbers-requires-clause-whole c).In-Some).common

pub returns-in_err-read_numbers-clause-refused : goal.returns-in_err-read_numbers-clause-refused
returns-in_err-read_numbers-clause-refused c =
    on_err c.from_residual.result
    (number_refused c.args.fractions.now (read c.in-Some.denominator) (length c.args.line.now.numbers)
    (least (goal.at.returns-in_err-read_numbers-clause-refused c).In-Some) c.requires.fractions c.in_err-read_numbers.ensures.refused)

pub returns-clause-line : goal.returns-clause-line
returns-clause-line c =
    let g = c.greatest-line in
    is_line c.args.fractions.now (read c.in-Some.denominator) (read c.in-Some-number_over.constant) g.result c.read_numbers.new.numbers c.as_slice-2.result.now
    (least (goal.at.returns-clause-line c).In-Some) c.as_slice-2.ensures c.in_ok-read_numbers.ensures.small g.ensures.within g.ensures.least g.ensures.from_zero

pub returns-clause-read : goal.returns-clause-read
returns-clause-read c =
    is_read c.args.fractions.now (read c.in-Some.denominator) c.in-Some-number_over.constant (read c.greatest-line.result) c.read_numbers.new.numbers
    c.constant.result (least (goal.at.returns-clause-read c).In-Some) (omega (arith, c.requires.fractions, c.read_numbers.ensures.count))
    c.constant.ensures c.in-Some-number_over.ensures
    (λ k k_in. c.in_ok-read_numbers.ensures.read k (omega (arith, k_in, c.read_numbers.ensures.count)))

pub denominator_of-requires : goal.denominator_of-requires
denominator_of-requires c =
    record { width = subst (λ (zs : List ℤ). length c.args.fractions.now ≡ suc (length zs)) (sym c.as_slice.ensures) c.requires.fractions }

pub number_over-requires-clause-denominator : goal.number_over-requires-clause-denominator
number_over-requires-clause-denominator c =
    let is = least (goal.at.number_over-requires-clause-denominator c).In-Some in
    (is.positive, is.small)

pub read_numbers-requires-clause-fractions : goal.read_numbers-requires-clause-fractions
read_numbers-requires-clause-fractions c = c.requires.fractions

pub read_numbers-requires-clause-few : goal.read_numbers-requires-clause-few
read_numbers-requires-clause-few c = c.requires.few

pub read_numbers-requires-clause-denominator : goal.read_numbers-requires-clause-denominator
read_numbers-requires-clause-denominator c =
    let is = least (goal.at.read_numbers-requires-clause-denominator c).In-Some in
    (is.positive, is.small)

pub returns-clause-count : goal.returns-clause-count
returns-clause-count c = c.read_numbers.ensures.count

pub returns-in_err-read_numbers-clause-count : goal.returns-in_err-read_numbers-clause-count
returns-in_err-read_numbers-clause-count c = c.read_numbers.ensures.count
