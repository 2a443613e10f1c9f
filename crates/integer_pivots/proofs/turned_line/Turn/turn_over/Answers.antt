-- One more number has turned, over what is in common with it, too; up to the next mark both lists are 0.
use Rattle.std.proofs.Common.{◌≡◌, ◌+◌, ◌*◌, ◌^◌, ◌<◌, ◌≤◌, sym, ◌∙◌, ap, subst, length, List, arith}
use Rattle.std.specs.Prelude.{ℤ, nat_abs}
use Rattle.whole_numbers.specs.Lists.{number_at}
use Rattle.integer_pivots.specs.Turns.{turned_number}
use Rattle.integer_pivots.proofs.Sizes.{read, read_known}
use Rattle.integer_pivots.proofs.TurnedOver.{first_small, none_turned, one_turned, passed_turned, small_as_read, turned_read}
use Rattle.integer_pivots.proofs.turned_line.Turn.turn_over.Goals as goal

pub loop-column-init : goal.loop-column-init
loop-column-init c =
    let turned = passed_turned c.args.self c.args.numbers.now c.args.entering.now c.args.part 0 c.next_of_both-column.result c.args.numbers.now c.args.part
    (none_turned c.args.self c.args.numbers.now c.args.entering.now c.args.part c.requires.part) (omega arith)
    c.next_of_both-column.ensures.passed in
    record { turned = turned; until = c.next_of_both-column.ensures.within }

pub turned_small-number-requires : goal.turned_small-number-requires
turned_small-number-requires c =
    let t = c.args.self in
    let i = c.loop-column.column in
    let olds = c.args.numbers.now in
    let line = c.args.entering.now in
    let here : number_at c.as_slice.result.now i ≡ number_at olds i =
    ap (λ (xs : List ℤ). number_at xs i) c.as_slice.ensures ∙ c.loop-column.invariant.turned.rest i (omega arith) in
    let there : number_at c.as_slice-line.result.now i ≡ number_at line i = ap (λ (xs : List ℤ). number_at xs i) c.as_slice-line.ensures in
    subst (λ (z : ℤ). nat_abs t.multiplier * nat_abs (read z) + nat_abs t.factor * nat_abs (read (number_at c.as_slice-line.result.now i)) ≤ 2 ^ 30) (sym here)
    (subst (λ (z : ℤ). nat_abs t.multiplier * nat_abs (read (number_at olds i)) + nat_abs t.factor * nat_abs (read z) ≤ 2 ^ 30) (sym there)
    (small_as_read t (number_at olds i) (number_at line i)
    (c.requires.small i (omega (arith, c.loop-column-test.true, c.requires.long, ap length c.as_slice-line.ensures)))))

pub put_over_common-part-requires-clause-part : goal.put_over_common-part-requires-clause-part
put_over_common-part-requires-clause-part c = c.loop-column.invariant.turned.reciprocal

pub put_over_common-part-requires-clause-column : goal.put_over_common-part-requires-clause-column
put_over_common-part-requires-clause-column c =
    omega (arith, c.loop-column-test.true, c.requires.long, ap length c.as_slice-line.ensures, c.loop-column.invariant.turned.count)

pub put_over_common-part-requires-clause-number : goal.put_over_common-part-requires-clause-number
put_over_common-part-requires-clause-number c =
    omega (arith, ap nat_abs (read_known c.turned_small-number.result c.turned_small-number.type_inv), c.turned_small-number.ensures.size)

pub put_over_common-part-requires-clause-before : goal.put_over_common-part-requires-clause-before
put_over_common-part-requires-clause-before c =
    first_small c.args.self c.args.numbers.now c.args.entering.now c.args.part c.loop-column.column c.loop-column.numbers
    c.loop-column.part c.loop-column.invariant.turned (omega (arith, c.loop-column-test.true, c.requires.long, ap length c.as_slice-line.ensures))
    c.requires.small

pub next_of_both-column-requires-in-loop-column-clause-long : goal.next_of_both-column-requires-in-loop-column-clause-long
next_of_both-column-requires-in-loop-column-clause-long c =
    c.put_over_common-part.ensures.numbers.count ∙ c.loop-column.invariant.turned.count ∙ c.requires.long

pub next_of_both-column-requires-in-loop-column-clause-column : goal.next_of_both-column-requires-in-loop-column-clause-column
next_of_both-column-requires-in-loop-column-clause-column c =
    omega (
      arith,
      c.loop-column-test.true,
      c.requires.long,
      ap length c.as_slice-line.ensures,
      c.loop-column.invariant.turned.count,
      c.put_over_common-part.ensures.numbers.count,
    )

pub loop-column-preserved : goal.loop-column-preserved
loop-column-preserved c =
    let i = c.loop-column.column in
    let line = c.args.entering.now in
    let inside : i < length c.args.numbers.now = omega (arith, c.loop-column-test.true, c.requires.long, ap length c.as_slice-line.ensures) in
    let next = c.next_of_both-column-in-loop-column in
    let here : number_at c.as_slice.result.now i ≡ number_at c.args.numbers.now i =
    ap (λ (xs : List ℤ). number_at xs i) c.as_slice.ensures ∙ c.loop-column.invariant.turned.rest i (omega arith) in
    let there : number_at c.as_slice-line.result.now i ≡ number_at line i = ap (λ (xs : List ℤ). number_at xs i) c.as_slice-line.ensures in
    let turned = passed_turned c.args.self c.args.numbers.now line c.args.part (i + 1) next.result c.put_over_common-part.new.numbers
    c.put_over_common-part.result
    (one_turned c.args.self c.args.numbers.now line c.args.part i c.loop-column.numbers c.loop-column.part
    (read c.turned_small-number.result) c.put_over_common-part.new.numbers c.put_over_common-part.result c.loop-column.invariant.turned
    (read_known c.turned_small-number.result c.turned_small-number.type_inv
    ∙ c.turned_small-number.ensures.turned
    ∙ ap (λ (z : ℤ). turned_number c.args.self (read z) (read (number_at c.as_slice-line.result.now i))) here
    ∙ ap (λ (z : ℤ). turned_number c.args.self (read (number_at c.args.numbers.now i)) (read z)) there
    ∙ turned_read c.args.self (number_at c.args.numbers.now i) (number_at line i)
    (c.requires.small i inside))
    c.put_over_common-part.ensures.reciprocal c.put_over_common-part.ensures.common c.put_over_common-part.ensures.numbers)
    next.ensures.from next.ensures.passed in
    record { turned = turned; until = next.ensures.within }

pub returns-clause-count : goal.returns-clause-count
returns-clause-count c = c.loop-column.invariant.turned.count

pub returns-clause-reciprocal : goal.returns-clause-reciprocal
returns-clause-reciprocal c = c.loop-column.invariant.turned.reciprocal

pub returns-clause-divides : goal.returns-clause-divides
returns-clause-divides c = c.loop-column.invariant.turned.divides

pub returns-clause-each : goal.returns-clause-each
returns-clause-each c k k_in =
    c.loop-column.invariant.turned.done k (omega (arith, k_in, c.requires.long, c.loop-column-test.false, ap length c.as_slice-line.ensures))

pub returns-clause-greatest : goal.returns-clause-greatest
returns-clause-greatest c d below all =
    c.loop-column.invariant.turned.greatest d below (λ k k_in. all k (omega (arith, k_in, c.loop-column.invariant.until, c.loop-column.invariant.turned.count)))
