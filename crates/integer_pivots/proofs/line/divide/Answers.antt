-- One more number is over the divisor, and those up to the next mark are 0.
use Rattle.std.proofs.Common.{◌≡◌, ℕ, ◌<◌, sym, ◌∙◌, ap, subst, List, length, arith}
use Rattle.std.specs.Prelude.{ℤ, pos, ◌*ℤ◌, nat_abs}
use Prim.Native.Nat.{◌∣◌}
use Rattle.whole_numbers.specs.Lists.{number_at}
use Rattle.integer_pivots.proofs.Sizes.{read, read_known, read_number}
use Rattle.integer_pivots.proofs.Quotients.{read_divides}
use Rattle.integer_pivots.proofs.MarkedWalks.{walk_goes_on}
use Rattle.integer_pivots.proofs.line.divide.Goals as goal
use Rattle.integer_pivots.proofs.line.divide.Goals.{After-as_slice-in-loop-column}

inside : (c : After-as_slice-in-loop-column) → c.loop-column.column < length c.args.numbers.now
inside c = omega (arith, ap length c.as_slice.ensures, c.loop-column-test.true, c.loop-column.invariant.count)

-- the number at the counter is as before
here : (c : After-as_slice-in-loop-column) → number_at c.as_slice-in-loop-column.result.now c.loop-column.column ≡
    number_at c.args.numbers.now c.loop-column.column
here c =
    ap (λ (xs : List ℤ). number_at xs c.loop-column.column) c.as_slice-in-loop-column.ensures
    ∙ c.loop-column.invariant.rest c.loop-column.column (omega arith)

pub over-requires-clause-whole : goal.over-requires-clause-whole
over-requires-clause-whole c =
    let a = (goal.at.over-requires-clause-whole c).After-as_slice-in-loop-column in
    let i = c.loop-column.column in
    subst (λ (z : ℤ). nat_abs (read c.args.part) ∣ nat_abs (read z)) (sym (here a))
    (read_divides c.args.part (number_at c.args.numbers.now i) c.ranges.part (c.requires.sizes i (pos 0) (inside a)) (c.requires.whole i (inside a)))

pub loop-column-preserved : goal.loop-column-preserved
loop-column-preserved c =
    let a = (goal.at.loop-column-preserved c).After-as_slice-in-loop-column in
    let i = c.loop-column.column in
    let olds = c.args.numbers.now in
    let small = c.requires.sizes i (pos 0) (inside a) in
    let P = λ (k : ℕ) (z : ℤ). (z *ℤ read c.args.part) ≡ number_at olds k in
    walk_goes_on P olds i c.loop-column.numbers c.set.new.self (read c.over.result) c.next-column-in-loop-column.result
    c.loop-column.invariant (inside a)
    (ap (λ (z : ℤ). z *ℤ read c.args.part) (read_known c.over.result c.over.type_inv)
    ∙ c.over.ensures.times ∙ ap read (here a) ∙ read_number (number_at olds i) (omega (arith, small)))
    c.set.ensures c.next-column-in-loop-column.ensures.from c.next-column-in-loop-column.ensures.passed
    (λ k none. ap (λ (z : ℤ). z *ℤ read c.args.part) none ∙ lib.IntN.zero-*ℤ (read c.args.part) ∙ sym none)
