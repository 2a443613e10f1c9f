-- One more term is added.
use Rattle.std.proofs.Common.{◌+◌, ◌^◌, ◌≤◌, ◌∙◌, ap, subst, get_or, arith, FitsSigned, to_z}
use mathlib.Core.Path.{ap₂}
use Rattle.std.specs.Int.{w128}
use Rattle.std.specs.Prelude.{ℤ, ◌+ℤ◌, ◌*ℤ◌, nat_abs}
use Rattle.std.proofs.Math.Nat.{mul-le-mul_right}
use Rattle.design_problem.specs.Forms.{no_term}
use Rattle.fraction_table.proofs.MultiplierSteps.{read_back}
use Rattle.integer_pivots.proofs.Sizes.{read_number}
use Rattle.table_kernel.specs.Lines.{column_of}
use Rattle.table_kernel.proofs.Columns.{column_long}
use Rattle.table_kernel.proofs.LineSums.{IsPartSum, summed_all, summed_first, term_part}
use Rattle.table_kernel.proofs.WideNumbers.{read_of, wide_step}
use Rattle.table_kernel.proofs.kernel.Kernel.row_entry.Goals as goal
use Rattle.table_kernel.proofs.kernel.Kernel.row_entry.Goals.{After-product_of-sum}

pub loop-term-init : goal.loop-term-init
loop-term-init c =
    summed_first (2 ^ 60) (2 ^ 76) (column_of c.args.self.now c.args.column) c.terms-term-items.result.now c.args.form.now.coefficients
    c.terms-term-items.ensures.terms (omega (arith, mul-le-mul_right (2 ^ 60) c.requires.light))

pub low_entry-requires-clause-var : goal.low_entry-requires-clause-var
low_entry-requires-clause-var c =
    let known = c.terms-term-items.ensures.known c.loop-term.term-index no_term c.loop-term-test.true in
    omega (arith, known, c.requires.count)

pub product_of-sum-requires-clause-factor : goal.product_of-sum-requires-clause-factor
product_of-sum-requires-clause-factor c =
    let t = get_or c.terms-term-items.result.now c.loop-term.term-index no_term in
    let part = term_part (2 ^ 60) (2 ^ 76) (column_of c.args.self.now c.args.column) c.terms-term-items.result.now c.loop-term.term-index no_term _
    c.loop-term-test.true c.loop-term.invariant in
    let small : nat_abs t.coefficient ≤ 2 ^ 16 = omega (arith, part) in
    omega (arith, small, ap nat_abs (read_number t.coefficient (omega (arith, small))))

pub product_of-sum-requires-clause-number : goal.product_of-sum-requires-clause-number
product_of-sum-requires-clause-number c =
    let small = c.low_entry.ensures.size in
    omega (arith, small, ap nat_abs (read_back c.low_entry.result (omega (arith, small))))

step : (c : After-product_of-sum) →
    FitsSigned w128 (to_z w128 c.loop-term.sum-bits +ℤ read_of c.product_of-sum.result)
    × IsPartSum (2 ^ 60) (2 ^ 76) (column_of c.args.self.now c.args.column) c.terms-term-items.result.now (c.loop-term.term-index + 1)
    (read_of (to_z w128 c.loop-term.sum-bits +ℤ read_of c.product_of-sum.result))
step c =
    let ts = c.terms-term-items.result.now in
    let index = c.loop-term.term-index in
    let t = get_or ts index no_term in
    let zs = column_of c.args.self.now c.args.column in
    let part = term_part (2 ^ 60) (2 ^ 76) zs ts index no_term _ c.loop-term-test.true c.loop-term.invariant in
    let light : nat_abs t.coefficient ≤ 2 ^ 16 = omega (arith, part) in
    let small = c.low_entry.ensures.size in
    wide_step zs ts index no_term (to_z w128 c.loop-term.sum-bits) c.product_of-sum.result c.loop-term-test.true
    (subst (λ (z : ℤ). nat_abs z ≤ 2 ^ 60) c.low_entry.ensures.number small)
    (c.product_of-sum.ensures ∙ ap₂ (λ (x y : ℤ). x *ℤ y)
    (read_number t.coefficient (omega (arith, light)))
    (read_back c.low_entry.result (omega (arith, small)) ∙ c.low_entry.ensures.number))
    light c.loop-term.invariant

pub overflow_add-sum : goal.overflow_add-sum
overflow_add-sum c = (step (goal.at.overflow_add-sum c).After-product_of-sum).0

pub loop-term-preserved : goal.loop-term-preserved
loop-term-preserved c = (step (goal.at.loop-term-preserved c).After-product_of-sum).1

pub returns-clause-number : goal.returns-clause-number
returns-clause-number c =
    let k = c.args.self.now in
    summed_all (2 ^ 60) (2 ^ 76) (column_of k c.args.column) c.terms-term-items.result.now c.loop-term.term-index _ c.args.form.now.coefficients
    c.loop-term-test.false c.terms-term-items.ensures.terms
    (omega (arith, c.requires.count, column_long k c.requires.kernel.shaped c.args.column)) c.loop-term.invariant

pub returns-clause-size : goal.returns-clause-size
returns-clause-size c = omega (arith, c.loop-term.invariant.size)
