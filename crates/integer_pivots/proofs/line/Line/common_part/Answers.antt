-- What one more number has in common with those before it; up to the next mark all are 0.
use Rattle.std.proofs.Common.{◌+◌, ◌∙◌, ap, List, length, arith, w64, to_z}
use Rattle.std.specs.Prelude.{ℤ, pos, nat_abs}
use mathlib.Core.Path.{ap₂}
use Rattle.whole_numbers.specs.Fractions.{gcd}
use Rattle.whole_numbers.specs.Lists.{number_at}
use Rattle.integer_pivots.proofs.Sizes.{read, read_known, read_number}
use Rattle.integer_pivots.proofs.LineLaws.{IsCommonPart, common_first, common_more, common_passed, common_rest}
use Rattle.integer_pivots.proofs.line.Line.common_part.Goals as goal
use Rattle.integer_pivots.proofs.line.Line.common_part.Goals.{Then-part-eq1, After-loop-column}

pub loop-column-init : goal.loop-column-init
loop-column-init c =
    let line = c.args.self.now in
    let common = common_passed line 0 c.next-column.result (read c.common_with-part.result)
    (common_first line (read c.common_with-part.result) c.requires.positive
    (read_known c.common_with-part.result c.common_with-part.type_inv ∙ c.common_with-part.ensures.value
    ∙ ap₂ (λ (y z : ℤ). pos (gcd (nat_abs y) (nat_abs z)))
    (read_number line.constant (omega (arith, c.requires.constant)))
    (read_number line.denominator (omega (arith, c.requires.denominator))))) (omega arith) c.next-column.ensures.passed in
    record { common = common; until = c.next-column.ensures.within }

pub loop-column-preserved : goal.loop-column-preserved
loop-column-preserved c =
    let line = c.args.self.now in
    let i = c.loop-column.column in
    let small = c.requires.numbers i (pos 0) (omega (arith, ap length c.as_slice-numbers.ensures, c.loop-column-test.true)) in
    let common = common_passed line (i + 1) c.next-column-in-loop-column.result (read c.common_with-part-in-loop-column.result)
    (common_more line i (to_z w64 c.loop-column.part-bits) (read c.common_with-part-in-loop-column.result) c.loop-column.invariant.common
    (read_known c.common_with-part-in-loop-column.result c.common_with-part-in-loop-column.type_inv
    ∙ c.common_with-part-in-loop-column.ensures.value
    ∙ ap (λ (xs : List ℤ). pos (gcd (nat_abs (read (number_at xs i))) (nat_abs (to_z w64 c.loop-column.part-bits)))) c.as_slice-numbers.ensures
    ∙ ap (λ (z : ℤ). pos (gcd (nat_abs z) (nat_abs (to_z w64 c.loop-column.part-bits)))) (read_number (number_at line.numbers i) (omega (arith, small)))))
    c.next-column-in-loop-column.ensures.from c.next-column-in-loop-column.ensures.passed in
    record { common = common; until = c.next-column-in-loop-column.ensures.within }

-- nothing but 1 is in common
one : (c : Then-part-eq1) → IsCommonPart c.args.self.now (length c.args.self.now.numbers) (pos 1)
one c =
    common_rest c.args.self.now c.loop-column.column (to_z w64 c.loop-column.part-bits) c.loop-column.invariant.common
    (ap (to_z w64) c.if-part-eq1.true) (omega (arith, ap length c.as_slice-numbers.ensures, c.loop-column-test.true))

pub returns-then-part-eq1-clause-denominator : goal.returns-then-part-eq1-clause-denominator
returns-then-part-eq1-clause-denominator c = (one (goal.at.returns-then-part-eq1-clause-denominator c).Then-part-eq1).denominator

pub returns-then-part-eq1-clause-constant : goal.returns-then-part-eq1-clause-constant
returns-then-part-eq1-clause-constant c = (one (goal.at.returns-then-part-eq1-clause-constant c).Then-part-eq1).constant

pub returns-then-part-eq1-clause-numbers : goal.returns-then-part-eq1-clause-numbers
returns-then-part-eq1-clause-numbers c = (one (goal.at.returns-then-part-eq1-clause-numbers c).Then-part-eq1).numbers

pub returns-then-part-eq1-clause-greatest : goal.returns-then-part-eq1-clause-greatest
returns-then-part-eq1-clause-greatest c = (one (goal.at.returns-then-part-eq1-clause-greatest c).Then-part-eq1).greatest

pub returns-clause-numbers : goal.returns-clause-numbers
returns-clause-numbers c k k_in =
    c.loop-column.invariant.common.numbers k (omega (arith, k_in, ap length c.as_slice-numbers.ensures, c.loop-column-test.false))

pub returns-clause-greatest : goal.returns-clause-greatest
returns-clause-greatest c d below above all =
    c.loop-column.invariant.common.greatest d below above (λ k k_in. all k (omega (arith, k_in, c.loop-column.invariant.until)))
