-- The numbers turn, and what they have in common goes out.
use Rattle.std.proofs.Common.{◌≡◌, ℕ, ◌*◌, ◌/◌, ◌^◌, ◌<◌, ◌≤◌, sym, ◌∙◌, ap, subst, List, arith, FitsSigned, w64}
use Rattle.std.specs.Prelude.{ℤ, pos, ◌*ℤ◌, ◌<ℤ◌, ◌≤ℤ◌, nat_abs}
use Rattle.std.specs.Int.Signed.{quot_z}
use Prim.Native.Nat.{◌∣◌}
use Rattle.std.proofs.lemmas.Int.{fits_signed_from_abs, ints, unsigned_abs-mul}
use Rattle.std.proofs.lemmas.Nat.Gcd.{le_of_dvd}
use Rattle.std.proofs.Math.Nat.{dvd-mul_right, le-div_iff_mul-le, mul-le-mul_left}
use Rattle.whole_numbers.specs.Lists.{number_at}
use Rattle.whole_numbers.proofs.FractionLaws.{product_positive}
use Rattle.whole_numbers.proofs.Sizes.{size_positive}
use Rattle.integer_pivots.specs.declared.line.Line.{Line}
use Rattle.integer_pivots.specs.declared.turned_line.Turn.{Turn}
use Rattle.integer_pivots.specs.Numbers.{AllWithin, greatest_of}
use Rattle.integer_pivots.specs.Turns.{IsTurning, turned_number}
use Rattle.integer_pivots.proofs.Sizes.{number_within, positive_size, product_read, read, read_known, read_number, size_of, small_read}
use Rattle.integer_pivots.proofs.TurnLaws.{greatest_within, product_of_read, turn_positive, turn_small, wide, wide_number}
use Rattle.integer_pivots.proofs.TurnedLines.{begins_turning, factor_high, over_fits, over_read, positive_bits, scaled, turned_within}
use Rattle.integer_pivots.proofs.line.Line.turn.Goals as goal
use Rattle.integer_pivots.proofs.line.Line.turn.Goals.{Start, After-constant_after, After-turn_numbers-part}

reach_small : (c : Start) → (nat_abs c.args.self.now.reach ≤ 2 ^ 30) × (nat_abs c.args.entering.now.reach ≤ 2 ^ 30)
reach_small c = (
  size_of c.args.self.now.reach (2 ^ 30) (c.requires.pivot.turning.reach_positive, c.requires.pivot.turning.reach),
  size_of c.args.entering.now.reach (2 ^ 30) (c.requires.pivot.across.reach_positive, c.requires.pivot.across.reach),
)

sizes : (c : Start) → (nat_abs c.args.turn.multiplier ≤ 2 ^ 30) × (nat_abs c.args.turn.factor ≤ 2 ^ 30)
sizes c =
    let small = turn_small (number_at c.args.self.now.numbers c.args.column) (number_at c.args.entering.now.numbers c.args.column) in
    let number = number_within (nat_abs c.args.self.now.reach) c.args.self.now.numbers c.args.column c.requires.pivot.turning.numbers in
    let pivot = number_within (nat_abs c.args.entering.now.reach) c.args.entering.now.numbers c.args.column c.requires.pivot.across.numbers in
    let reaches = reach_small c in
    subst (λ (t : Turn). (nat_abs t.multiplier ≤ 2 ^ 30) × (nat_abs t.factor ≤ 2 ^ 30)) (sym c.requires.turn)
    (omega (arith, small.0, pivot, reaches.1), omega (arith, small.1, number, reaches.0))

multiplier_positive : (c : Start) → pos 0 <ℤ c.args.turn.multiplier
multiplier_positive c =
    subst (λ (t : Turn). pos 0 <ℤ t.multiplier) (sym c.requires.turn)
    (turn_positive (number_at c.args.self.now.numbers c.args.column) (number_at c.args.entering.now.numbers c.args.column) c.requires.pivot.pivot)

denominator_is : (c : Start) → read (read c.args.self.now.denominator *ℤ read c.args.turn.multiplier) ≡ (c.args.self.now.denominator *ℤ c.args.turn.multiplier)
denominator_is c =
    product_read c.args.self.now.denominator c.args.turn.multiplier
    (positive_size c.args.self.now.denominator (2 ^ 30) (c.requires.pivot.turning.positive, c.requires.pivot.turning.denominator)) (sizes c).0

pub most_after-most-requires-clause-multiplier : goal.most_after-most-requires-clause-multiplier
most_after-most-requires-clause-multiplier c = (sizes (goal.at.most_after-most-requires-clause-multiplier c).Start).0

pub most_after-most-requires-clause-factor : goal.most_after-most-requires-clause-factor
most_after-most-requires-clause-factor c = (sizes (goal.at.most_after-most-requires-clause-factor c).Start).1

pub most_after-most-requires-clause-most : goal.most_after-most-requires-clause-most
most_after-most-requires-clause-most c =
    small_read c.args.self.now.reach (reach_small (goal.at.most_after-most-requires-clause-most c).Start).0

pub most_after-most-requires-clause-entering : goal.most_after-most-requires-clause-entering
most_after-most-requires-clause-entering c =
    small_read c.args.entering.now.reach (reach_small (goal.at.most_after-most-requires-clause-entering c).Start).1

pub most_after-most-requires-clause-denominator : goal.most_after-most-requires-clause-denominator
most_after-most-requires-clause-denominator c =
    small_read c.args.entering.now.denominator
    (positive_size c.args.entering.now.denominator (2 ^ 30) (c.requires.pivot.across.positive, c.requires.pivot.across.denominator))

pub constant_after-requires-clause-multiplier : goal.constant_after-requires-clause-multiplier
constant_after-requires-clause-multiplier c = (sizes (goal.at.constant_after-requires-clause-multiplier c).Start).0

pub constant_after-requires-clause-factor : goal.constant_after-requires-clause-factor
constant_after-requires-clause-factor c = (sizes (goal.at.constant_after-requires-clause-factor c).Start).1

-- numbers are within a reach as it is read
as_read : (reach : ℤ) (zs : List ℤ) → nat_abs reach ≤ 2 ^ 30 → AllWithin (nat_abs reach) zs → AllWithin (nat_abs (read reach)) zs
as_read reach zs small within = subst (λ (z : ℤ). AllWithin (nat_abs z) zs) (sym (read_number reach (omega (arith, small)))) within

-- the line once its denominator and its constant have turned
abbrev middle : After-constant_after → Line
middle c = record {
  denominator = read (read c.args.self.now.denominator *ℤ read c.args.turn.multiplier);
  constant = read (wide c.constant_after.result);
  numbers = c.args.self.now.numbers;
  reach = c.args.self.now.reach;
}

constant_is : (c : After-constant_after) → read (wide c.constant_after.result) ≡ turned_number c.args.turn c.args.self.now.constant c.args.entering.now.constant
constant_is c =
    let size = c.requires.may.constant in
    let t = turned_number c.args.turn c.args.self.now.constant c.args.entering.now.constant in
    ap (λ (z : ℤ). read (wide z)) c.constant_after.ensures ∙ ap read (wide_number t (omega (arith, size))) ∙ read_number t (omega (arith, size))

turning : (c : After-constant_after) → pos 0 <ℤ c.args.turn.multiplier →
    read (read c.args.self.now.denominator *ℤ read c.args.turn.multiplier) ≡ (c.args.self.now.denominator *ℤ c.args.turn.multiplier) →
    IsTurning c.args.turn c.args.column c.args.entering.now (middle c)
turning c positive is =
    begins_turning c.args.turn c.args.column c.args.entering.now c.args.self.now
    (read (read c.args.self.now.denominator *ℤ read c.args.turn.multiplier)) (read (wide c.constant_after.result))
    c.requires.pivot c.requires.turn c.requires.may positive is (constant_is c)

pub overflow_cast-self : goal.overflow_cast-self
overflow_cast-self c =
    let size = c.requires.may.constant in
    let t = turned_number c.args.turn c.args.self.now.constant c.args.entering.now.constant in
    subst (FitsSigned w64) (sym (ap wide c.constant_after.ensures ∙ wide_number t (omega (arith, size))))
    (fits_signed_from_abs w64 t (omega (arith, size)))

pub overflow_mul-self : goal.overflow_mul-self
overflow_mul-self c =
    let l = c.requires.pivot.turning in
    product_of_read c.args.self.now.denominator c.args.turn.multiplier
    (positive_size c.args.self.now.denominator (2 ^ 30) (l.positive, l.denominator)) (sizes (goal.at.overflow_mul-self c).Start).0

pub turn_numbers-part-requires-clause-turning : goal.turn_numbers-part-requires-clause-turning
turn_numbers-part-requires-clause-turning c =
    let p = goal.at.turn_numbers-part-requires-clause-turning c in
    turning p.After-constant_after (multiplier_positive p.Start) (denominator_is p.Start)

pub turn_numbers-part-requires-clause-touched : goal.turn_numbers-part-requires-clause-touched
turn_numbers-part-requires-clause-touched c = c.requires.touched

-- the greatest size after the turn, over what went out
over_is : (c : After-turn_numbers-part) → read (quot_z (read c.most_after-most.result) (read c.turn_numbers-part.result))
    ≡ pos (nat_abs c.most_after-most.result / nat_abs c.turn_numbers-part.result)
over_is c =
    over_read c.most_after-most.result c.turn_numbers-part.result c.most_after-most.ensures.from_zero c.turn_numbers-part.ensures.turned.positive
    c.most_after-most.type_inv c.turn_numbers-part.type_inv

pub nonzero_div-most : goal.nonzero_div-most
nonzero_div-most c =
    let part = c.turn_numbers-part.result in (
      positive_bits part c.turn_numbers-part.ensures.turned.positive (record { sfits = c.turn_numbers-part.type_inv }),
      over_fits c.most_after-most.result part c.most_after-most.ensures.from_zero c.turn_numbers-part.ensures.turned.positive
          c.most_after-most.type_inv c.turn_numbers-part.type_inv,
    )

pub reach_by-self-requires-clause-from_zero : goal.reach_by-self-requires-clause-from_zero
reach_by-self-requires-clause-from_zero c =
    subst (λ (z : ℤ). pos 0 ≤ℤ z) (sym (over_is (goal.at.reach_by-self-requires-clause-from_zero c).After-turn_numbers-part)) (omega (arith, ints))

pub reach_by-self-requires-clause-most : goal.reach_by-self-requires-clause-most
reach_by-self-requires-clause-most c =
    let p = goal.at.reach_by-self-requires-clause-most c in
    let most = c.most_after-most.ensures in
    let reaches = reach_small p.Start in
    let new = c.turn_numbers-part.new.self in
    let t = turning p.After-constant_after (multiplier_positive p.Start) (denominator_is p.Start) in
    let over = c.turn_numbers-part.ensures.turned in
    let denominator = positive_size c.args.entering.now.denominator (2 ^ 30) (c.requires.pivot.across.positive, c.requires.pivot.across.denominator) in
    let own = subst (λ (z : ℤ). nat_abs c.args.turn.factor * nat_abs z ≤ nat_abs c.most_after-most.result)
    (read_number c.args.entering.now.denominator (omega (arith, denominator))) most.own in
    subst (λ (z : ℤ). AllWithin (nat_abs z) c.turn_numbers-part.new.self.numbers) (sym (over_is p.After-turn_numbers-part))
    (turned_within c.args.turn c.args.column c.args.entering.now (middle p.After-constant_after) t new c.turn_numbers-part.result
    (nat_abs (read c.args.self.now.reach)) (nat_abs (read c.args.entering.now.reach)) (nat_abs c.most_after-most.result)
    (nat_abs c.most_after-most.result / nat_abs c.turn_numbers-part.result) over
    (as_read c.args.self.now.reach c.args.self.now.numbers reaches.0 c.requires.pivot.turning.numbers)
    (as_read c.args.entering.now.reach c.args.entering.now.numbers reaches.1 c.requires.pivot.across.numbers)
    most.numbers own (λ x fits. (le-div_iff_mul-le (size_positive c.turn_numbers-part.result over.positive)).1 fits))

pub reach_by-self-requires-clause-sizes : goal.reach_by-self-requires-clause-sizes
reach_by-self-requires-clause-sizes c =
    let p = goal.at.reach_by-self-requires-clause-sizes c in
    let old = c.args.self.now in
    let entering = c.args.entering.now in
    let over = c.turn_numbers-part.ensures.turned in
    turned_within c.args.turn c.args.column entering (middle p.After-constant_after)
    (turning p.After-constant_after (multiplier_positive p.Start) (denominator_is p.Start)) c.turn_numbers-part.new.self c.turn_numbers-part.result
    (greatest_of old.numbers) (greatest_of entering.numbers) (2 ^ 30) (2 ^ 30) over (greatest_within old.numbers) (greatest_within entering.numbers)
    c.requires.may.small.numbers c.requires.may.small.own (below c.turn_numbers-part.result (size_positive c.turn_numbers-part.result over.positive))
  where
    below : (part : ℤ) → 0 < nat_abs part → (x : ℕ) → x * nat_abs part ≤ 2 ^ 30 → x ≤ 2 ^ 30
    below part some x fits =
        let more : x * 1 ≤ x * nat_abs part = mul-le-mul_left x some in
        omega (arith, more, fits)

divides : (c : After-turn_numbers-part) →
    read (read c.args.self.now.denominator *ℤ read c.args.turn.multiplier) ≡ (c.args.self.now.denominator *ℤ c.args.turn.multiplier) →
    nat_abs c.turn_numbers-part.new.self.denominator ∣ (nat_abs c.args.self.now.denominator * nat_abs c.args.turn.multiplier)
divides c is =
    let new = c.turn_numbers-part.new.self in
    subst (λ (n : ℕ). nat_abs c.turn_numbers-part.new.self.denominator ∣ n)
    (sym (unsigned_abs-mul new.denominator c.turn_numbers-part.result)
    ∙ ap nat_abs (c.turn_numbers-part.ensures.turned.denominator ∙ is)
    ∙ unsigned_abs-mul c.args.self.now.denominator c.args.turn.multiplier)
    (dvd-mul_right (nat_abs new.denominator) (nat_abs c.turn_numbers-part.result))

pub returns-clause-divides : goal.returns-clause-divides
returns-clause-divides c =
    let p = goal.at.returns-clause-divides c in
    divides p.After-turn_numbers-part (denominator_is p.Start)

pub returns-clause-line : goal.returns-clause-line
returns-clause-line c =
    let p = goal.at.returns-clause-line c in
    let old = c.args.self.now in
    let new = c.turn_numbers-part.new.self in
    let over = c.turn_numbers-part.ensures.turned in
    let t = turning p.After-constant_after (multiplier_positive p.Start) (denominator_is p.Start) in
    let positive = factor_high new.denominator c.turn_numbers-part.result over.positive
    (subst (λ (z : ℤ). pos 0 <ℤ z) (sym over.denominator) t.positive) in
    let some = product_positive (nat_abs old.denominator) (nat_abs c.args.turn.multiplier)
    (size_positive old.denominator c.requires.pivot.turning.positive) (size_positive c.args.turn.multiplier (multiplier_positive p.Start)) in
    let most = le_of_dvd some (divides p.After-turn_numbers-part (denominator_is p.Start)) in
    let small = c.requires.may.denominator in
    let reach = c.reach_by-self.ensures in
    let reach_is = sym (read_known c.reach_by-self.result c.reach_by-self.type_inv) in
    record {
      positive = positive;
      denominator = omega (arith, ints, most, small, positive);
      reach_positive = subst (λ (z : ℤ). pos 0 ≤ℤ z) reach_is reach.from_zero;
      reach = subst (λ (z : ℤ). z ≤ℤ pos (2 ^ 30)) reach_is (let least = reach.small in let from = reach.from_zero in omega (arith, ints, least, from));
      numbers = subst (λ (z : ℤ). AllWithin (nat_abs z) c.turn_numbers-part.new.self.numbers) reach_is reach.within;
    }

pub returns-clause-turned : goal.returns-clause-turned
returns-clause-turned c =
    let p = goal.at.returns-clause-turned c in
    let turn = c.args.turn in
    let old = c.args.self.now in
    let entering = c.args.entering.now in
    let new = c.turn_numbers-part.new.self in
    let part = c.turn_numbers-part.result in
    let over = c.turn_numbers-part.ensures.turned in
    let t = turning p.After-constant_after (multiplier_positive p.Start) (denominator_is p.Start) in
    let D_is : (old.denominator *ℤ turn.multiplier) ≡ (new.denominator *ℤ part) = sym (denominator_is p.Start) ∙ sym over.denominator in
    record {
      positive = factor_high new.denominator part over.positive (subst (λ (z : ℤ). pos 0 <ℤ z) (sym over.denominator) t.positive);
      count = over.count;
      constant = scaled new.constant (turned_number turn old.constant entering.constant) (old.denominator *ℤ turn.multiplier) new.denominator part D_is
          (sym (constant_is p.After-constant_after) ∙ sym over.constant);
      others = λ k k_in apart. scaled (number_at new.numbers k) (turned_number turn (number_at old.numbers k) (number_at entering.numbers k))
          (old.denominator *ℤ turn.multiplier) new.denominator part D_is (sym (over.others k k_in apart));
      own = scaled (number_at new.numbers c.args.column) (turn.factor *ℤ entering.denominator)
          (old.denominator *ℤ turn.multiplier) new.denominator part D_is (sym over.own);
    }

pub returns-clause-lowest : goal.returns-clause-lowest
returns-clause-lowest c d below above all = c.turn_numbers-part.ensures.lowest d below above all
