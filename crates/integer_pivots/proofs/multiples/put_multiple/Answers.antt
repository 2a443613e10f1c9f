-- One more place is done, and up to the next mark nothing is to be put.
use Rattle.std.proofs.Common.{zero-add, ℕ, FitsSigned, w64, ◌+◌, ◌-◌, ◌^◌, ◌<◌, ◌≤◌, arith, length, ap, sym, subst, ◌∙◌}
use Rattle.std.specs.Prelude.{◌≡◌, ℤ, pos, ◌+ℤ◌, ◌*ℤ◌, nat_abs, List, slice_set}
use Rattle.whole_numbers.specs.Lists.{number_at}
use Rattle.integer_pivots.specs.Numbers.{more_sums}
use Rattle.integer_pivots.proofs.Sizes.{read, read_number}
use Rattle.integer_pivots.proofs.PartSums.{multiple_fits, partly, partly_all, partly_long, partly_passed, put_step}
use Rattle.integer_pivots.proofs.multiples.put_multiple.Goals as goal
use Rattle.integer_pivots.proofs.multiples.put_multiple.Goals.{After-as_slice, In-loop-column}

module _ (c : In-loop-column) where
  -- there are as many sums as numbers all the time
  long : length c.loop-column.sums ≡ length c.args.numbers.now
  long = ap length c.loop-column.invariant ∙ partly_long c.loop-column.column c.args.sums.now (read c.args.factor) c.args.numbers.now ∙ c.requires.long

  inside : c.loop-column.column < length c.args.numbers.now
  inside = omega (arith, ap length c.as_slice-line.ensures, c.loop-column-test.true)

  -- the number at the counter is the line's, and small
  here : number_at c.as_slice-line.result.now c.loop-column.column ≡ number_at c.args.numbers.now c.loop-column.column
  here = ap (λ (xs : List ℤ). number_at xs c.loop-column.column) c.as_slice-line.ensures

  small : nat_abs (number_at c.as_slice-line.result.now c.loop-column.column) ≤ 2 ^ 30
  small = subst (λ (z : ℤ). nat_abs z ≤ 2 ^ 30) (sym here) (c.requires.numbers c.loop-column.column (pos 0) inside)

-- one more multiple fits, and the sums with it are those up to the next place
module _ (c : After-as_slice) where
  step : FitsSigned w64 (read (number_at c.as_slice.result.now c.loop-column.column) +ℤ read
      (read c.args.factor *ℤ read (number_at c.args.numbers.now c.loop-column.column)))
      × (slice_set c.as_slice.result.now c.loop-column.column (read (read (number_at c.as_slice.result.now c.loop-column.column)
      +ℤ read (read c.args.factor *ℤ read (number_at c.args.numbers.now c.loop-column.column))))
      ≡ partly (c.loop-column.column + 1) c.args.sums.now (read c.args.factor) c.args.numbers.now)
  step =
      let i = c.loop-column.column in
      let z_in : i < length c.args.numbers.now = omega (arith, ap length c.as_slice-line.ensures, c.loop-column-test.true) in
      let sum_in : i < length c.args.sums.now = omega (arith, z_in, c.requires.long) in
      let same = read_number c.args.factor (let e : nat_abs c.args.factor < 2 ^ 63 = omega (arith, c.requires.factor) in e) in
      put_step c.args.sums.now c.args.factor (read c.args.factor) c.args.numbers.now i c.as_slice.result.now
      sum_in z_in c.requires.factor same (c.requires.numbers i (pos 0) z_in) (c.requires.sums i (pos 0) sum_in)
      (c.as_slice.ensures ∙ c.loop-column.invariant)

pub loop-column-init : goal.loop-column-init
loop-column-init c =
    sym (ap (λ j. partly j c.args.sums.now (read c.args.factor) c.args.numbers.now) (sym (zero-add c.next-column.result))
    ∙ partly_passed 0 c.next-column.result c.args.sums.now (read c.args.factor) c.args.numbers.now
    (λ k from before. c.next-column.ensures.passed k from (omega (arith, before))))

pub bounds-as_slice-column : goal.bounds-as_slice-column
bounds-as_slice-column c =
    let a = (goal.at.bounds-as_slice-column c).In-loop-column in
    omega (arith, ap length c.as_slice.ensures, long a, inside a)

pub set-requires : goal.set-requires
set-requires c =
    let a = (goal.at.set-requires c).In-loop-column in
    omega (arith, long a, inside a)

pub overflow_mul-factor : goal.overflow_mul-factor
overflow_mul-factor c =
    multiple_fits c.args.factor (number_at c.as_slice-line.result.now c.loop-column.column) c.requires.factor
    (small (goal.at.overflow_mul-factor c).In-loop-column)

pub overflow_add-sum : goal.overflow_add-sum
overflow_add-sum c =
    let a = (goal.at.overflow_add-sum c).After-as_slice in
    subst (λ (z : ℤ). FitsSigned w64 (read (number_at c.as_slice.result.now c.loop-column.column) +ℤ read (read c.args.factor *ℤ read z)))
    (sym (here (goal.at.overflow_add-sum c).In-loop-column)) (step a).0

pub loop-column-preserved : goal.loop-column-preserved
loop-column-preserved c =
    let i = c.loop-column.column in
    let next = c.next-column-in-loop-column in
    let now = c.as_slice.result.now in
    c.set.ensures
    ∙ ap (λ (xs : List ℤ). slice_set xs i (read (read (number_at now i) +ℤ read (read c.args.factor *ℤ read (number_at c.as_slice-line.result.now i)))))
    (sym c.as_slice.ensures)
    ∙ ap (λ (z : ℤ). slice_set now i (read (read (number_at now i) +ℤ read (read c.args.factor *ℤ read z))))
    (here (goal.at.loop-column-preserved c).In-loop-column)
    ∙ (step (goal.at.loop-column-preserved c).After-as_slice).1
    ∙ sym (partly_passed (i + 1) (next.result - (i + 1)) c.args.sums.now (read c.args.factor) c.args.numbers.now
    (λ k from before. passed k from (omega (arith, before, next.ensures.from))))
    ∙ ap (λ j. partly j c.args.sums.now (read c.args.factor) c.args.numbers.now) (omega (arith, next.ensures.from))
  where
    passed : (k : ℕ) → c.loop-column.column + 1 ≤ k → k < c.next-column-in-loop-column.result → number_at c.args.numbers.now k ≡ pos 0
    passed k from before = c.next-column-in-loop-column.ensures.passed k from before

pub returns : goal.returns
returns c =
    let same = read_number c.args.factor (let e : nat_abs c.args.factor < 2 ^ 63 = omega (arith, c.requires.factor) in e) in
    c.loop-column.invariant
    ∙ partly_all c.loop-column.column c.args.sums.now (read c.args.factor) c.args.numbers.now
    (omega (arith, c.loop-column-test.false, c.requires.long, ap length c.as_slice-line.ensures))
    ∙ ap (λ (f : ℤ). more_sums c.args.sums.now f c.args.numbers.now) same
