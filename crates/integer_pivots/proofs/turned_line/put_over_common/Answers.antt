-- What the number and the divisor have in common goes into both.
use Rattle.std.proofs.Common.{◌≡◌, ◌^◌, ◌<◌, ◌≤◌, sym, ◌∙◌, ap, subst, arith, w64, of_z}
use Rattle.std.specs.Prelude.{ℤ, pos, ◌*ℤ◌, nat_abs}
use Prim.Native.Nat.{◌∣◌}
use Rattle.std.proofs.lemmas.Int.{fits_signed_from_abs}
use Rattle.whole_numbers.specs.Fractions.{gcd}
use Rattle.whole_numbers.specs.Lists.{number_at}
use Rattle.whole_numbers.proofs.Divisors.{gcd_is}
use Rattle.whole_numbers.proofs.Laws.{times_one}
use Rattle.whole_numbers.proofs.Sizes.{size_positive}
use Rattle.integer_pivots.specs.declared.reciprocal.Divisor.{Divisor}
use Rattle.integer_pivots.specs.Reciprocals.{IsReciprocal}
use Rattle.integer_pivots.proofs.Quotients.{bits_of, common_all, common_one}
use Rattle.integer_pivots.proofs.Sizes.{read, read_known, read_number, size_most, small_read}
use Rattle.integer_pivots.proofs.TurnedOver.{multiplied_small, put_alone, put_numbers}
use Rattle.integer_pivots.proofs.turned_line.put_over_common.Goals as goal
use Rattle.integer_pivots.proofs.turned_line.put_over_common.Goals.{After-shared_with-common}

small : (d : Divisor) → IsReciprocal d → nat_abs d.number ≤ 2 ^ 30
small d is = size_most d.number (2 ^ 30) is.positive is.small

one : (d : Divisor) → IsReciprocal d → of_z w64 d.number ≡ 1 → d.number ≡ pos 1
one d is bits = bits_of d.number 1 (fits_signed_from_abs w64 d.number (omega (arith, small d is))) bits

at_most : (z : ℤ) → nat_abs z ≤ 2 ^ 30 → nat_abs (read z) ≤ 2 ^ 62
at_most z z_small = omega (arith, small_read z z_small)

pub returns-then-part-eq1-clause-common : goal.returns-then-part-eq1-clause-common
returns-then-part-eq1-clause-common c = common_one c.args.number c.args.part.number (one c.args.part c.requires.part c.if-part-eq1.true)

pub returns-then-part-eq1-clause-numbers : goal.returns-then-part-eq1-clause-numbers
returns-then-part-eq1-clause-numbers c =
    put_alone c.args.column c.args.number c.args.numbers.now c.set.new.self c.args.part.number (read c.args.number) c.requires.column c.set.ensures
    (ap (λ (z : ℤ). read c.args.number *ℤ z) (one c.args.part c.requires.part c.if-part-eq1.true) ∙ times_one (read c.args.number)
    ∙ read_known c.args.number c.ranges.number.sfits)

pub divides-requires-clause-reciprocal : goal.divides-requires-clause-reciprocal
divides-requires-clause-reciprocal c = c.requires.part

pub divides-requires-clause-size : goal.divides-requires-clause-size
divides-requires-clause-size c = at_most c.args.number c.requires.number

pub over-requires-clause-reciprocal : goal.over-requires-clause-reciprocal
over-requires-clause-reciprocal c = c.requires.part

pub over-requires-clause-size : goal.over-requires-clause-size
over-requires-clause-size c = at_most c.args.number c.requires.number

pub over-requires-clause-whole : goal.over-requires-clause-whole
over-requires-clause-whole c = c.divides.ensures.0 c.if-divides.true

pub returns-then-divides-clause-reciprocal : goal.returns-then-divides-clause-reciprocal
returns-then-divides-clause-reciprocal c = c.requires.part

pub returns-then-divides-clause-numbers : goal.returns-then-divides-clause-numbers
returns-then-divides-clause-numbers c =
    put_alone c.args.column c.args.number c.args.numbers.now c.set-then-divides.new.self c.args.part.number (read c.over.result)
    c.requires.column c.set-then-divides.ensures
    (ap (λ (z : ℤ). z *ℤ c.args.part.number) (read_known c.over.result c.over.type_inv) ∙ c.over.ensures
    ∙ read_known c.args.number c.ranges.number.sfits)

pub returns-then-divides-clause-common : goal.returns-then-divides-clause-common
returns-then-divides-clause-common c =
    common_all c.args.number c.args.part.number c.requires.part.positive
    (subst (λ (z : ℤ). nat_abs c.args.part.number ∣ nat_abs z) (read_known c.args.number c.ranges.number.sfits)
    (c.divides.ensures.0 c.if-divides.true))

part_is : (c : After-shared_with-common) → read c.args.part.number ≡ c.args.part.number
part_is c =
    read_number c.args.part.number
    (let small = size_most c.args.part.number (2 ^ 30) c.requires.part.positive c.requires.part.small in omega (arith, small))

some : (c : After-shared_with-common) → 0 < nat_abs c.shared_with-common.result.number
some c = size_positive c.shared_with-common.result.number c.shared_with-common.ensures.reciprocal.positive

pub shared_with-common-requires-clause-reciprocal : goal.shared_with-common-requires-clause-reciprocal
shared_with-common-requires-clause-reciprocal c = c.requires.part

pub shared_with-common-requires-clause-size : goal.shared_with-common-requires-clause-size
shared_with-common-requires-clause-size c = at_most c.args.number c.requires.number

pub over-requires-2-clause-reciprocal : goal.over-requires-2-clause-reciprocal
over-requires-2-clause-reciprocal c = c.shared_with-common.ensures.reciprocal

pub over-requires-2-clause-size : goal.over-requires-2-clause-size
over-requires-2-clause-size c = at_most c.args.part.number (small c.args.part c.requires.part)

pub over-requires-3-clause-reciprocal : goal.over-requires-3-clause-reciprocal
over-requires-3-clause-reciprocal c = c.shared_with-common.ensures.reciprocal

pub over-requires-3-clause-size : goal.over-requires-3-clause-size
over-requires-3-clause-size c = at_most c.args.number c.requires.number

pub over-requires-2-clause-whole : goal.over-requires-2-clause-whole
over-requires-2-clause-whole c =
    subst (λ (z : ℤ). nat_abs c.shared_with-common.result.number ∣ nat_abs z)
    (sym (part_is (goal.at.over-requires-2-clause-whole c).After-shared_with-common))
    (subst (λ (z : ℤ). nat_abs z ∣ nat_abs c.args.part.number) (sym c.shared_with-common.ensures.value)
    (gcd_is (nat_abs (read c.args.number)) (nat_abs c.args.part.number)).1)

pub over-requires-3-clause-whole : goal.over-requires-3-clause-whole
over-requires-3-clause-whole c =
    subst (λ (z : ℤ). nat_abs z ∣ nat_abs (read c.args.number)) (sym c.shared_with-common.ensures.value)
    (gcd_is (nat_abs (read c.args.number)) (nat_abs c.args.part.number)).0

pub multiply_first-requires-clause-sizes : goal.multiply_first-requires-clause-sizes
multiply_first-requires-clause-sizes c k k_in =
    let a = (goal.at.multiply_first-requires-clause-sizes c).After-shared_with-common in
    multiplied_small (number_at c.args.numbers.now k) (read c.over-2.result) c.shared_with-common.result.number c.args.part.number
    (ap (λ (z : ℤ). z *ℤ c.shared_with-common.result.number) (read_known c.over-2.result c.over-2.type_inv) ∙ c.over-2.ensures ∙ part_is a)
    (some a) (c.requires.before k k_in)

pub returns-clause-reciprocal : goal.returns-clause-reciprocal
returns-clause-reciprocal c = c.shared_with-common.ensures.reciprocal

pub returns-clause-common : goal.returns-clause-common
returns-clause-common c =
    c.shared_with-common.ensures.value
    ∙ ap (λ (z : ℤ). pos (gcd (nat_abs z) (nat_abs c.args.part.number))) (read_known c.args.number c.ranges.number.sfits)

pub returns-clause-numbers : goal.returns-clause-numbers
returns-clause-numbers c =
    let a = (goal.at.returns-clause-numbers c).After-shared_with-common in
    let common = c.shared_with-common.result.number in
    put_numbers c.args.column c.args.number c.args.numbers.now c.multiply_first.new.numbers c.set-2.new.self c.args.part.number common
    (read c.over-2.result) (read c.over-3.result) c.requires.column c.multiply_first.ensures.long c.multiply_first.ensures.first
    c.multiply_first.ensures.others c.set-2.ensures
    (ap (λ (z : ℤ). z *ℤ common) (read_known c.over-2.result c.over-2.type_inv) ∙ c.over-2.ensures ∙ part_is a)
    (ap (λ (z : ℤ). z *ℤ common) (read_known c.over-3.result c.over-3.type_inv) ∙ c.over-3.ensures
    ∙ read_known c.args.number c.ranges.number.sfits)
