-- One more number is over the part; with the denominator and the constant they make the line that has turned.
use Rattle.std.proofs.Common.{◌≡◌, ◌+◌, ◌^◌, ◌<◌, ◌≤◌, sym, ◌∙◌, ap, subst, length, arith, FitsSigned, w64}
use Rattle.std.specs.Prelude.{ℤ, pos, ◌*ℤ◌, ◌<ℤ◌, ◌≤ℤ◌, nat_abs}
use Prim.Native.Nat.{◌∣◌}
use Rattle.std.proofs.lemmas.Int.{fits_signed_from_abs, ints}
use Rattle.whole_numbers.specs.Lists.{number_at}
use Rattle.integer_pivots.specs.Numbers.{AllWithin}
use Rattle.integer_pivots.specs.Turns.{turned_entry}
use Rattle.integer_pivots.proofs.Sizes.{positive_size, read, read_known, read_number, wider}
use Rattle.integer_pivots.proofs.TurnLaws.{wide, wide_number}
use Rattle.integer_pivots.proofs.LowestSteps.{IsOverPart, after_same, part_small, turn_sizes, turned_to, written_small}
use Rattle.integer_pivots.proofs.WrittenPlaces.{AreWritten, none_written, one_written}
use Rattle.integer_pivots.proofs.line.Line.turn_to.Goals as goal
use Rattle.integer_pivots.proofs.line.Line.turn_to.Goals.{Start, In-loop-c, After-turned_entry-number, After-as_slice, After-loop-c}
use Rattle.integer_pivots.proofs.LineReads.{number_small}

sizes : (c : Start) → (nat_abs c.args.turn.multiplier ≤ 2 ^ 30) × (nat_abs c.args.turn.factor ≤ 2 ^ 30) × (pos 0 <ℤ c.args.turn.multiplier)
sizes c = turn_sizes c.args.turn c.args.column c.args.entering.now c.args.self.now c.requires.pivot c.requires.turn

part_is : (c : Start) → read c.args.lowest.part ≡ c.args.lowest.part
part_is c =
    let small = part_small c.args.turn c.args.column c.args.entering.now c.args.self.now c.args.lowest.part
    c.requires.pivot c.requires.turn c.requires.lowest.part in
    read_number c.args.lowest.part (omega (arith, small))

denominator_is : (c : Start) → read c.args.lowest.denominator ≡ c.args.lowest.denominator
denominator_is c =
    let small = positive_size c.args.lowest.denominator (2 ^ 30) (c.requires.lowest.positive, c.requires.small.denominator) in
    read_number c.args.lowest.denominator (omega (arith, small))

inside : (c : In-loop-c) → c.loop-c.c < length c.args.self.now.numbers
inside c = omega (arith, ap length c.as_slice-c-end.ensures, c.loop-c-test.true)

-- the number at the counter is as before
here : (c : In-loop-c) → number_at c.loop-c.self.numbers c.loop-c.c ≡ number_at c.args.self.now.numbers c.loop-c.c
here c = c.loop-c.invariant.rest c.loop-c.c (omega arith)

-- so what it turns to is, too
number_is : (c : After-turned_entry-number) → number_at c.loop-c.self.numbers c.loop-c.c ≡ number_at c.args.self.now.numbers c.loop-c.c →
    read c.turned_entry-number.result ≡ turned_entry c.args.turn c.args.column c.args.entering.now c.args.self.now c.loop-c.c
number_is c same =
    read_known c.turned_entry-number.result c.turned_entry-number.type_inv ∙ c.turned_entry-number.ensures.value
    ∙ after_same c.args.turn c.args.column c.args.entering.now c.loop-c.self c.args.self.now c.loop-c.c same

pub loop-c-init : goal.loop-c-init
loop-c-init c =
    none_written (IsOverPart c.args.turn c.args.column c.args.entering.now c.args.self.now c.args.lowest.part) (pos 0) c.args.self.now.numbers

pub turned_entry-number-requires-clause-inside : goal.turned_entry-number-requires-clause-inside
turned_entry-number-requires-clause-inside c =
    omega (arith, ap length c.as_slice-c-end.ensures, c.loop-c-test.true, c.loop-c.invariant.count)

pub turned_entry-number-requires-clause-across : goal.turned_entry-number-requires-clause-across
turned_entry-number-requires-clause-across c = omega (arith, ap length c.as_slice-c-end.ensures, c.loop-c-test.true, c.requires.pivot.long)

pub turned_entry-number-requires-clause-small : goal.turned_entry-number-requires-clause-small
turned_entry-number-requires-clause-small c =
    subst (λ (z : ℤ). nat_abs z ≤ 2 ^ 30) (sym (here (goal.at.turned_entry-number-requires-clause-small c).In-loop-c))
    (number_small c.args.self.now c.requires.pivot.turning c.loop-c.c)

pub turned_entry-number-requires-clause-entering : goal.turned_entry-number-requires-clause-entering
turned_entry-number-requires-clause-entering c = c.requires.pivot.across

pub turned_entry-number-requires-clause-multiplier : goal.turned_entry-number-requires-clause-multiplier
turned_entry-number-requires-clause-multiplier c = (sizes (goal.at.turned_entry-number-requires-clause-multiplier c).Start).0

pub turned_entry-number-requires-clause-factor : goal.turned_entry-number-requires-clause-factor
turned_entry-number-requires-clause-factor c = (sizes (goal.at.turned_entry-number-requires-clause-factor c).Start).1

pub over-requires-clause-part : goal.over-requires-clause-part
over-requires-clause-part c =
    subst (λ (z : ℤ). pos 0 <ℤ z) (sym (part_is (goal.at.over-requires-clause-part c).Start)) c.requires.lowest.part.positive

pub over-requires-clause-whole : goal.over-requires-clause-whole
over-requires-clause-whole c =
    let p = goal.at.over-requires-clause-whole c in
    subst (λ (z : ℤ). nat_abs z ∣ nat_abs (read c.turned_entry-number.result)) (sym (part_is p.Start))
    (subst (λ (z : ℤ). nat_abs c.args.lowest.part ∣ nat_abs z)
    (sym (number_is p.After-turned_entry-number (here p.In-loop-c)))
    (c.requires.lowest.part.numbers c.loop-c.c (inside p.In-loop-c)))

pub over-requires-clause-size : goal.over-requires-clause-size
over-requires-clause-size c =
    omega (arith, ap nat_abs (read_known c.turned_entry-number.result c.turned_entry-number.type_inv), c.turned_entry-number.ensures.size)

pub set-requires : goal.set-requires
set-requires c = omega (arith, ap length c.as_slice-c-end.ensures, c.loop-c-test.true, c.loop-c.invariant.count)

pub loop-c-preserved : goal.loop-c-preserved
loop-c-preserved c =
    let p = goal.at.loop-c-preserved c in
    let P = IsOverPart c.args.turn c.args.column c.args.entering.now c.args.self.now c.args.lowest.part in
    subst (AreWritten P (pos 0) c.args.self.now.numbers (c.loop-c.c + 1)) (sym c.set.ensures)
    (one_written P (pos 0) c.args.self.now.numbers c.loop-c.c c.loop-c.self.numbers (read c.over.result) c.loop-c.invariant (inside p.In-loop-c)
    (ap (λ (z : ℤ). z *ℤ c.args.lowest.part) (read_known c.over.result c.over.type_inv)
    ∙ ap (λ (z : ℤ). c.over.result *ℤ z) (sym (part_is p.Start)) ∙ c.over.ensures.times
    ∙ number_is p.After-turned_entry-number (here p.In-loop-c)))

pub overflow_cast-self : goal.overflow_cast-self
overflow_cast-self c =
    let size = c.requires.small.constant in
    subst (FitsSigned w64) (sym (wide_number c.args.lowest.constant (omega (arith, size))))
    (fits_signed_from_abs w64 c.args.lowest.constant (omega (arith, size)))

past : (c : After-loop-c) → length c.args.self.now.numbers ≤ c.loop-c.c
past c = omega (arith, ap length c.as_slice-c-end.ensures, c.loop-c-test.false)

news_small : (c : After-loop-c) → AllWithin (2 ^ 30) c.loop-c.self.numbers
news_small c =
    written_small c.args.turn c.args.column c.args.entering.now c.args.self.now c.args.lowest.part c.loop-c.c c.loop-c.self.numbers
    c.requires.lowest.part.positive c.requires.small.numbers c.loop-c.invariant (past c)

pub greatest-self-requires : goal.greatest-self-requires
greatest-self-requires c =
    subst (AllWithin (2 ^ 62)) (sym c.as_slice.ensures)
    (wider (2 ^ 30) (2 ^ 62) c.loop-c.self.numbers (omega arith) (news_small (goal.at.greatest-self-requires c).After-loop-c))

pub returns-clause-line : goal.returns-clause-line
returns-clause-line c =
    let p = goal.at.returns-clause-line c in
    let g = c.greatest-self.ensures in
    let reach = read_known c.greatest-self.result c.greatest-self.type_inv in
    let least = g.least (2 ^ 30) (subst (AllWithin (2 ^ 30)) (sym c.as_slice.ensures) (news_small p.After-loop-c)) in
    record {
      positive = subst (λ (z : ℤ). pos 0 <ℤ z) (sym (denominator_is p.Start)) c.requires.lowest.positive;
      denominator = subst (λ (z : ℤ). z ≤ℤ pos (2 ^ 30)) (sym (denominator_is p.Start)) c.requires.small.denominator;
      reach_positive = subst (λ (z : ℤ). pos 0 ≤ℤ z) (sym reach) g.from_zero;
      reach = subst (λ (z : ℤ). z ≤ℤ pos (2 ^ 30)) (sym reach) (omega (arith, ints, least, g.from_zero));
      numbers = subst (λ (z : ℤ). AllWithin (nat_abs z) c.loop-c.self.numbers) (sym reach)
          (subst (AllWithin (nat_abs c.greatest-self.result)) c.as_slice.ensures g.within);
    }

constant_is : (k : ℤ) → nat_abs k ≤ 2 ^ 62 → read (wide k) ≡ k
constant_is k small = ap read (wide_number k (omega (arith, small))) ∙ read_number k (omega (arith, small))

pub returns-clause-turned : goal.returns-clause-turned
returns-clause-turned c =
    let p = goal.at.returns-clause-turned c in
    turned_to c.args.turn c.args.column c.args.entering.now c.args.self.now c.args.lowest c.loop-c.c _ c.requires.lowest
    c.requires.pivot.inside (denominator_is p.Start) (constant_is c.args.lowest.constant c.requires.small.constant) c.loop-c.invariant (past p.After-loop-c)

pub returns-clause-denominator : goal.returns-clause-denominator
returns-clause-denominator c = denominator_is (goal.at.returns-clause-denominator c).Start

pub returns-clause-constant : goal.returns-clause-constant
returns-clause-constant c = constant_is c.args.lowest.constant c.requires.small.constant
