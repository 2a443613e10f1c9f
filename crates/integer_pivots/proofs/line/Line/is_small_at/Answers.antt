-- A number over the part is small where it is at most so many parts.
use Rattle.std.proofs.Common.{◌≡◌, ℕ, ◌*◌, ◌^◌, ◌<◌, ◌≤◌, ◌↔◌, refl, sym, ◌∙◌, ap, subst, length, arith}
use Rattle.std.specs.Prelude.{ℤ, pos, ◌*ℤ◌, ◌<ℤ◌, nat_abs}
use Prim.Native.Nat.{◌∣◌}
use Rattle.integer_pivots.specs.Turns.{turned_entry}
use Rattle.integer_pivots.proofs.FailedTests.{failed, never}
use Rattle.integer_pivots.proofs.Sizes.{read, read_known, read_number}
use Rattle.integer_pivots.proofs.LowestSteps.{part_small, ratio_small, turn_sizes}
use Rattle.integer_pivots.proofs.WrittenPlaces.{all_more}
use Rattle.integer_pivots.proofs.line.Line.is_small_at.Goals as goal
use Rattle.integer_pivots.proofs.line.Line.is_small_at.Goals.{Start, In-loop-c, After-over}
use Rattle.integer_pivots.proofs.LineReads.{number_small}

sizes : (c : Start) → (nat_abs c.args.turn.multiplier ≤ 2 ^ 30) × (nat_abs c.args.turn.factor ≤ 2 ^ 30) × (pos 0 <ℤ c.args.turn.multiplier)
sizes c = turn_sizes c.args.turn c.args.column c.args.entering.now c.args.self.now c.requires.pivot c.requires.turn

part_is : (c : Start) → read c.args.lowest.part ≡ c.args.lowest.part
part_is c =
    let small = part_small c.args.turn c.args.column c.args.entering.now c.args.self.now c.args.lowest.part
    c.requires.pivot c.requires.turn c.requires.lowest.part in
    read_number c.args.lowest.part (omega (arith, small))

inside : (c : In-loop-c) → c.loop-c.c < length c.args.self.now.numbers
inside c = omega (arith, ap length c.as_slice-c-end.ensures, c.loop-c-test.true)

pub loop-c-init : goal.loop-c-init
loop-c-init c k k_in = absurd (omega (arith, k_in))

pub turned_entry-number-requires-clause-inside : goal.turned_entry-number-requires-clause-inside
turned_entry-number-requires-clause-inside c = omega (arith, ap length c.as_slice-c-end.ensures, c.loop-c-test.true)

pub turned_entry-number-requires-clause-across : goal.turned_entry-number-requires-clause-across
turned_entry-number-requires-clause-across c = omega (arith, ap length c.as_slice-c-end.ensures, c.loop-c-test.true, c.requires.pivot.long)

pub turned_entry-number-requires-clause-small : goal.turned_entry-number-requires-clause-small
turned_entry-number-requires-clause-small c = number_small c.args.self.now c.requires.pivot.turning c.loop-c.c

pub turned_entry-number-requires-clause-entering : goal.turned_entry-number-requires-clause-entering
turned_entry-number-requires-clause-entering c = c.requires.pivot.across

pub turned_entry-number-requires-clause-multiplier : goal.turned_entry-number-requires-clause-multiplier
turned_entry-number-requires-clause-multiplier c = (sizes (goal.at.turned_entry-number-requires-clause-multiplier c).Start).0

pub turned_entry-number-requires-clause-factor : goal.turned_entry-number-requires-clause-factor
turned_entry-number-requires-clause-factor c = (sizes (goal.at.turned_entry-number-requires-clause-factor c).Start).1

pub over-requires-clause-part : goal.over-requires-clause-part
over-requires-clause-part c =
    subst (λ (z : ℤ). pos 0 <ℤ z) (sym (part_is (goal.at.over-requires-clause-part c).Start)) c.requires.lowest.part.positive

pub over-requires-clause-whole : goal.over-requires-clause-whole
over-requires-clause-whole c =
    let p = goal.at.over-requires-clause-whole c in
    subst (λ (z : ℤ). nat_abs z ∣ nat_abs (read c.turned_entry-number.result)) (sym (part_is p.Start))
    (subst (λ (z : ℤ). nat_abs c.args.lowest.part ∣ nat_abs z)
    (sym (read_known c.turned_entry-number.result c.turned_entry-number.type_inv ∙ c.turned_entry-number.ensures.value))
    (c.requires.lowest.part.numbers c.loop-c.c (inside p.In-loop-c)))

pub over-requires-clause-size : goal.over-requires-clause-size
over-requires-clause-size c =
    omega (arith, ap nat_abs (read_known c.turned_entry-number.result c.turned_entry-number.type_inv), c.turned_entry-number.ensures.size)

-- the quotient as it is read is small exactly where the number is
told : (c : After-over) → read c.args.lowest.part ≡ c.args.lowest.part →
    (nat_abs (read c.over.result) ≤ 2 ^ 30)
    ↔ (nat_abs (turned_entry c.args.turn c.args.column c.args.entering.now c.args.self.now c.loop-c.c) ≤ 2 ^ 30 * nat_abs c.args.lowest.part)
told c is =
    ratio_small (read c.over.result) c.args.lowest.part
    (turned_entry c.args.turn c.args.column c.args.entering.now c.args.self.now c.loop-c.c) c.requires.lowest.part.positive
    (ap (λ (z : ℤ). z *ℤ c.args.lowest.part) (read_known c.over.result c.over.type_inv)
    ∙ ap (λ (z : ℤ). c.over.result *ℤ z) (sym is) ∙ c.over.ensures.times
    ∙ read_known c.turned_entry-number.result c.turned_entry-number.type_inv ∙ c.turned_entry-number.ensures.value)

pub returns-then-not-within : goal.returns-then-not-within
returns-then-not-within c =
    let p = goal.at.returns-then-not-within c in
    never
    (λ small. failed c.within.result c.if-not-within.true c.within.ensures
    ((told p.After-over (part_is p.Start)).1 (small c.loop-c.c (inside p.In-loop-c))))

pub loop-c-preserved : goal.loop-c-preserved
loop-c-preserved c =
    let p = goal.at.loop-c-preserved c in
    all_more (λ (k : ℕ). nat_abs (turned_entry c.args.turn c.args.column c.args.entering.now c.args.self.now k) ≤ 2 ^ 30 * nat_abs c.args.lowest.part)
    c.loop-c.c c.loop-c.invariant
    ((told p.After-over (part_is p.Start)).0 (c.within.ensures.0 c.if-not-within.false))

pub returns : goal.returns
returns c = (
  λ holds k k_in. c.loop-c.invariant k (omega (arith, k_in, ap length c.as_slice-c-end.ensures, c.loop-c-test.false)),
  λ small. refl,
)
