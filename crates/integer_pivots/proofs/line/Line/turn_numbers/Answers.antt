-- Over 1 nothing is multiplied, and the line is in lowest terms as it stands.
use Rattle.std.proofs.Common.{◌≡◌, ◌^◌, sym, ◌∙◌, ap, subst, List, length, arith, w64, get_or-set_same, get_or-set_other}
use Rattle.std.specs.Prelude.{ℤ, pos, ◌-ℤ◌, ◌*ℤ◌, nat_abs}
use Prim.Native.Nat.{◌∣◌}
use Rattle.std.proofs.lemmas.Int.{fits_signed_from_abs, ints}
use Rattle.std.proofs.lemmas.List.{length-set}
use Rattle.std.proofs.Math.Nat.{eq-one_of_dvd-one}
use mathlib.Core.Path.{ap₂}
use Rattle.whole_numbers.specs.Lists.{number_at}
use Rattle.whole_numbers.proofs.Laws.{times_one}
use Rattle.integer_pivots.specs.Numbers.{AllWithin}
use Rattle.integer_pivots.specs.Turns.{AreNonZeros}
use Rattle.integer_pivots.proofs.Quotients.{bits_of}
use Rattle.integer_pivots.proofs.Sizes.{read, read_number, size_of, wider}
use Rattle.integer_pivots.proofs.TurnedLines.{once_turned, own_fits, own_read, turning_denominator, turning_factor, turning_once, turning_within}
use Rattle.integer_pivots.proofs.line.Line.turn_numbers.Goals as goal
use Rattle.integer_pivots.proofs.line.Line.turn_numbers.Goals.{Then-self-eq1}

pub take_away-requires-clause-long : goal.take_away-requires-clause-long
take_away-requires-clause-long c = c.requires.turning.long ∙ sym (ap length c.as_slice-line.ensures)

pub take_away-requires-clause-sizes : goal.take_away-requires-clause-sizes
take_away-requires-clause-sizes c = turning_within c.args.turn c.args.column c.args.entering.now c.args.self.now c.requires.turning

pub take_away-requires-clause-factor : goal.take_away-requires-clause-factor
take_away-requires-clause-factor c =
    let small = turning_factor c.args.turn c.args.column c.args.entering.now c.args.self.now c.requires.turning in
    omega (arith, small, ap nat_abs (read_number c.args.turn.factor (omega (arith, small))))

pub take_away-requires-clause-line : goal.take_away-requires-clause-line
take_away-requires-clause-line c =
    let e = c.requires.turning.across in
    subst (AllWithin (2 ^ 30)) (sym c.as_slice-line.ensures)
    (wider (nat_abs c.args.entering.now.reach) (2 ^ 30) c.args.entering.now.numbers
    (size_of c.args.entering.now.reach (2 ^ 30) (e.reach_positive, e.reach)) e.numbers)

pub take_away-requires-clause-touched : goal.take_away-requires-clause-touched
take_away-requires-clause-touched c =
    subst (λ (zs : List ℤ). AreNonZeros zs (length zs) c.args.touched.now) (sym c.as_slice-line.ensures) c.requires.touched

pub overflow_mul-turn : goal.overflow_mul-turn
overflow_mul-turn c = own_fits c.args.turn c.args.column c.args.entering.now c.args.self.now c.requires.turning

one : (c : Then-self-eq1) → c.args.self.now.denominator ≡ pos 1
one c =
    let small = turning_denominator c.args.turn c.args.column c.args.entering.now c.args.self.now c.requires.turning in
    bits_of c.args.self.now.denominator 1 (fits_signed_from_abs w64 c.args.self.now.denominator (omega (arith, small))) c.if-self-eq1.true

pub returns-then-self-eq1-clause-turned : goal.returns-then-self-eq1-clause-turned
returns-then-self-eq1-clause-turned c =
    let turn = c.args.turn in
    let column = c.args.column in
    let old = c.args.self.now in
    let entering = c.args.entering.now in
    let t = c.requires.turning in
    let aways = c.take_away.new.numbers in
    let q = read (read c.args.turn.factor *ℤ read c.args.entering.now.denominator) in
    let once = turning_once turn column entering old t (one (goal.at.returns-then-self-eq1-clause-turned c).Then-self-eq1) in
    let small = turning_factor turn column entering old t in
    record {
      positive = omega (arith, ints);
      denominator = times_one old.denominator;
      constant = times_one old.constant;
      count = ap length c.set.ensures ∙ length-set aways column q ∙ c.take_away.ensures.count;
      others = λ k k_in apart.
          times_one (number_at c.set.new.self k) ∙ ap (λ (zs : List ℤ). number_at zs k) c.set.ensures
          ∙ get_or-set_other aways column k q (pos 0) apart ∙ c.take_away.ensures.each k k_in
          ∙ ap₂ (λ (f : ℤ) (zs : List ℤ). number_at old.numbers k -ℤ (f *ℤ number_at zs k))
          (read_number turn.factor (omega (arith, small))) c.as_slice-line.ensures
          ∙ once_turned turn (number_at old.numbers k) (number_at entering.numbers k) once;
      own = times_one (number_at c.set.new.self column) ∙ ap (λ (zs : List ℤ). number_at zs column) c.set.ensures
          ∙ get_or-set_same aways column q (pos 0) (omega (arith, t.inside, c.take_away.ensures.count))
          ∙ own_read turn column entering old t;
    }

pub returns-then-self-eq1-clause-lowest : goal.returns-then-self-eq1-clause-lowest
returns-then-self-eq1-clause-lowest c d below above all =
    eq-one_of_dvd-one (subst (λ (z : ℤ). d ∣ nat_abs z) (one (goal.at.returns-then-self-eq1-clause-lowest c).Then-self-eq1) below)
