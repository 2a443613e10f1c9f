-- The multiple is taken away in one more column.
use Rattle.std.proofs.Common.{◌≡◌, ℕ, ◌+◌, ◌≤◌, ◌^◌, sym, ◌∙◌, ap, subst, List, length, arith}
use Rattle.std.specs.Prelude.{ℤ, pos, ◌-ℤ◌, ◌*ℤ◌, nat_abs, slice_index_or}
use Rattle.whole_numbers.specs.Lists.{number_at}
use Rattle.integer_pivots.proofs.Sizes.{read, read_number}
use Rattle.integer_pivots.proofs.PartSums.{multiple_fits}
use Rattle.integer_pivots.proofs.TouchedColumns.{AreTouched, all_touched, next_as_before, one_touched}
use Rattle.integer_pivots.proofs.TurnLaws.{taken_fits, taken_read, taken_small, zero_taken}
use Rattle.integer_pivots.proofs.turned_line.take_away.Goals as goal
use Rattle.integer_pivots.proofs.turned_line.take_away.Goals.{After-as_slice}

-- the number is as before
here : (c : After-as_slice) → number_at c.as_slice.result.now (slice_index_or c.args.touched.now c.loop-index.index 0)
    ≡ number_at c.args.numbers.now (slice_index_or c.args.touched.now c.loop-index.index 0)
here c =
    ap (λ (xs : List ℤ). number_at xs (slice_index_or c.args.touched.now c.loop-index.index 0)) c.as_slice.ensures
    ∙ next_as_before (λ k z. z ≡ (number_at c.args.numbers.now k -ℤ (read c.args.factor *ℤ number_at c.args.line.now k)))
    c.args.line.now c.args.touched.now c.requires.touched c.loop-index.index c.args.numbers.now c.loop-index.numbers
    c.loop-index-test.true c.loop-index.invariant

line_small : (c : After-as_slice) → nat_abs (number_at c.args.line.now (slice_index_or c.args.touched.now c.loop-index.index 0)) ≤ 2 ^ 30
line_small c =
    c.requires.line (slice_index_or c.args.touched.now c.loop-index.index 0) (pos 0) (c.requires.touched.before c.loop-index.index c.loop-index-test.true)

number_small : (c : After-as_slice) → nat_abs (number_at c.args.numbers.now (slice_index_or c.args.touched.now c.loop-index.index 0)) ≤ 2 ^ 61
number_small c =
    c.requires.sizes (slice_index_or c.args.touched.now c.loop-index.index 0) (pos 0)
    (omega (arith, c.requires.touched.before c.loop-index.index c.loop-index-test.true, c.requires.long))

pub overflow_mul-factor : goal.overflow_mul-factor
overflow_mul-factor c =
    let a = (goal.at.overflow_mul-factor c).After-as_slice in
    multiple_fits c.args.factor (number_at c.args.line.now (slice_index_or c.args.touched.now c.loop-index.index 0))
    (let e = c.requires.factor in omega (arith, e)) (line_small a)

pub overflow_sub-number : goal.overflow_sub-number
overflow_sub-number c =
    let a = (goal.at.overflow_sub-number c).After-as_slice in
    let column = slice_index_or c.args.touched.now c.loop-index.index 0 in
    taken_fits (number_at c.as_slice.result.now column) c.args.factor (number_at c.args.line.now column)
    (subst (λ (z : ℤ). nat_abs z ≤ 2 ^ 61) (sym (here a)) (number_small a)) c.requires.factor (line_small a)

pub loop-index-preserved : goal.loop-index-preserved
loop-index-preserved c =
    let a = (goal.at.loop-index-preserved c).After-as_slice in
    let f = c.args.factor in
    let olds = c.args.numbers.now in
    let line = c.args.line.now in
    let column = slice_index_or c.args.touched.now c.loop-index.index 0 in
    let P = λ (k : ℕ) (z : ℤ). z ≡ (number_at olds k -ℤ (read f *ℤ number_at line k)) in
    subst (AreTouched P c.args.touched.now (c.loop-index.index + 1) olds) (sym c.set.ensures)
    (one_touched P line c.args.touched.now c.requires.touched c.loop-index.index olds c.loop-index.numbers
    (read (read (number_at c.as_slice.result.now column) -ℤ read (read f *ℤ read (number_at line column))))
    c.loop-index-test.true c.requires.long c.loop-index.invariant
    (ap (λ (z : ℤ). read (read z -ℤ read (read f *ℤ read (number_at line column)))) (here a)
    ∙ ap read (taken_read (number_at olds column) f (number_at line column) (number_small a) c.requires.factor (line_small a))
    ∙ read_number (number_at olds column -ℤ (f *ℤ number_at line column))
    (taken_small (number_at olds column) f (number_at line column) (number_small a) c.requires.factor (line_small a))
    ∙ ap (λ (g : ℤ). number_at olds column -ℤ (g *ℤ number_at line column)) (sym (read_number f (let e = c.requires.factor in omega (arith, e))))))

pub returns-clause-each : goal.returns-clause-each
returns-clause-each c k k_in =
    let f = c.args.factor in
    let olds = c.args.numbers.now in
    let line = c.args.line.now in
    let P = λ (i : ℕ) (z : ℤ). z ≡ (number_at olds i -ℤ (read f *ℤ number_at line i)) in
    let all : c.loop-index.index ≡ length c.args.touched.now = omega (arith, c.loop-index-test.false, c.loop-index.auto.index-end) in
    all_touched P line c.args.touched.now c.requires.touched olds c.loop-index.numbers
    (subst (λ (i : ℕ). AreTouched P c.args.touched.now i olds c.loop-index.numbers) all c.loop-index.invariant)
    (λ i none. zero_taken (number_at olds i) (read f) (number_at line i) none) k (omega (arith, k_in, c.requires.long))
    ∙ ap (λ (g : ℤ). number_at olds k -ℤ (g *ℤ number_at line k)) (read_number f (let e = c.requires.factor in omega (arith, e)))
