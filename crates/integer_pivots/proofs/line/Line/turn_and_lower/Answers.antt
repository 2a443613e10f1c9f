-- What all numbers that have turned have in common goes out.
use Rattle.std.proofs.Common.{◌^◌, sym, ◌∙◌, ap, subst, List, length, arith, get_or-set_same, get_or-set_other}
use Rattle.std.specs.Prelude.{ℤ, pos, ◌*ℤ◌, ◌<ℤ◌, ◌≤ℤ◌, nat_abs}
use Prim.Native.Nat.{◌∣◌}
use Rattle.std.proofs.lemmas.Int.{ints}
use Rattle.std.proofs.lemmas.List.{length-set}
use mathlib.Core.Path.{ap₂}
use Rattle.whole_numbers.specs.Fractions.{gcd}
use Rattle.whole_numbers.specs.Lists.{number_at}
use Rattle.integer_pivots.specs.declared.line.Line.{Line}
use Rattle.integer_pivots.specs.Turns.{IsTurnedOver}
use Rattle.integer_pivots.proofs.Sizes.{read, read_known, read_number, size_most}
use Rattle.integer_pivots.proofs.TurnedLines.{IsTurnPart, constant_read, denominator_read, lowest_over_turn, own_fits, own_read, own_small, turn_part, turning_denominator, turning_small}
use Rattle.integer_pivots.proofs.line.Line.turn_and_lower.Goals as goal
use Rattle.integer_pivots.proofs.line.Line.turn_and_lower.Goals.{After-turn_over-part, After-set}

pub overflow_mul-own : goal.overflow_mul-own
overflow_mul-own c = own_fits c.args.turn c.args.column c.args.entering.now c.args.self.now c.requires.turning

pub new-requires : goal.new-requires
new-requires c =
    let t = c.requires.turning in
    let small = t.denominator in
    let least = subst (λ (z : ℤ). c.common_with-common.result ≤ℤ z) (denominator_read c.args.turn c.args.column c.args.entering.now c.args.self.now t)
    c.common_with-common.ensures.least in
    subst (λ (z : ℤ). (pos 0 <ℤ z) × (z ≤ℤ pos (2 ^ 30))) (sym (read_known c.common_with-common.result c.common_with-common.type_inv))
    (c.common_with-common.ensures.positive, omega (arith, ints, least, small))

pub shared_with-part-requires-clause-size : goal.shared_with-part-requires-clause-size
shared_with-part-requires-clause-size c = own_small c.args.turn c.args.column c.args.entering.now c.args.self.now c.requires.turning

pub turn_over-part-requires-clause-long : goal.turn_over-part-requires-clause-long
turn_over-part-requires-clause-long c = c.requires.turning.long

pub turn_over-part-requires-clause-small : goal.turn_over-part-requires-clause-small
turn_over-part-requires-clause-small c k k_in =
    turning_small c.args.turn c.args.column c.args.entering.now c.args.self.now c.requires.turning k

common : (c : After-turn_over-part) → IsTurnPart c.args.turn c.args.entering.now c.args.self.now c.turn_over-part.result.number
common c =
    let turn = c.args.turn in
    let old = c.args.self.now in
    let entering = c.args.entering.now in
    let t = c.requires.turning in
    turn_part c.args.turn c.args.entering.now c.args.self.now c.new.result.number c.shared_with-part.result.number c.turn_over-part.result.number
    (c.new.ensures.number ∙ read_known c.common_with-common.result c.common_with-common.type_inv ∙ c.common_with-common.ensures.value
    ∙ ap₂ (λ (y z : ℤ). pos (gcd (nat_abs y) (nat_abs z)))
    (constant_read turn c.args.column entering old t) (denominator_read turn c.args.column entering old t))
    (c.shared_with-part.ensures.value
    ∙ ap (λ (z : ℤ). pos (gcd (nat_abs z) (nat_abs c.new.result.number))) (own_read turn c.args.column entering old t))
    c.turn_over-part.ensures.reciprocal.positive c.turn_over-part.ensures.divides
    (λ d below turned. c.turn_over-part.ensures.greatest d below
    turned)

pub over-self-requires-clause-size : goal.over-self-requires-clause-size
over-self-requires-clause-size c =
    let old = c.args.self.now in
    let t = c.requires.turning in
    omega (
      arith,
      ap nat_abs (denominator_read c.args.turn c.args.column c.args.entering.now old t),
      turning_denominator c.args.turn c.args.column c.args.entering.now old t,
    )

pub over-self-requires-clause-whole : goal.over-self-requires-clause-whole
over-self-requires-clause-whole c =
    subst (λ (z : ℤ). nat_abs c.turn_over-part.result.number ∣ nat_abs z)
    (sym (denominator_read c.args.turn c.args.column c.args.entering.now c.args.self.now c.requires.turning))
    (common (goal.at.over-self-requires-clause-whole c).After-turn_over-part).denominator

pub over-self-requires-2-clause-size : goal.over-self-requires-2-clause-size
over-self-requires-2-clause-size c =
    let small = c.requires.turning.constant in
    omega (arith, ap nat_abs (constant_read c.args.turn c.args.column c.args.entering.now c.args.self.now c.requires.turning), small)

pub over-self-requires-2-clause-whole : goal.over-self-requires-2-clause-whole
over-self-requires-2-clause-whole c =
    subst (λ (z : ℤ). nat_abs c.turn_over-part.result.number ∣ nat_abs z)
    (sym (constant_read c.args.turn c.args.column c.args.entering.now c.args.self.now c.requires.turning))
    (common (goal.at.over-self-requires-2-clause-whole c).After-turn_over-part).constant

pub over-requires-clause-size : goal.over-requires-clause-size
over-requires-clause-size c = own_small c.args.turn c.args.column c.args.entering.now c.args.self.now c.requires.turning

pub over-requires-clause-whole : goal.over-requires-clause-whole
over-requires-clause-whole c =
    subst (λ (z : ℤ). nat_abs c.turn_over-part.result.number ∣ nat_abs z)
    (sym (own_read c.args.turn c.args.column c.args.entering.now c.args.self.now c.requires.turning))
    (common (goal.at.over-requires-clause-whole c).After-turn_over-part).own

abbrev lowered : After-set → Line
lowered c = record {
  denominator = read c.over-self.result;
  constant = read c.over-self-2.result;
  numbers = c.set.new.self;
  reach = c.args.self.now.reach;
}

turned : (c : After-set) → IsTurnedOver c.args.turn c.args.column c.args.entering.now c.args.self.now (lowered c) c.turn_over-part.result.number
turned c =
    let turn = c.args.turn in
    let column = c.args.column in
    let old = c.args.self.now in
    let entering = c.args.entering.now in
    let t = c.requires.turning in
    let part = c.turn_over-part.result.number in
    let mids = c.turn_over-part.new.numbers in
    let q = read c.over.result in
    record {
      positive = c.turn_over-part.ensures.reciprocal.positive;
      denominator = ap (λ (z : ℤ). z *ℤ part) (read_known c.over-self.result c.over-self.type_inv) ∙ c.over-self.ensures ∙
          denominator_read turn column entering old t;
      constant = ap (λ (z : ℤ). z *ℤ part) (read_known c.over-self-2.result c.over-self-2.type_inv) ∙ c.over-self-2.ensures ∙
          constant_read turn column entering old t;
      count = ap length c.set.ensures ∙ length-set mids column q ∙ c.turn_over-part.ensures.count;
      others = λ k k_in apart.
          ap (λ (z : ℤ). z *ℤ part) (ap (λ (zs : List ℤ). number_at zs k) c.set.ensures ∙ get_or-set_other mids column k q (pos 0) apart)
          ∙ c.turn_over-part.ensures.each k k_in;
      own = ap (λ (z : ℤ). z *ℤ part) (ap (λ (zs : List ℤ). number_at zs column) c.set.ensures
          ∙ get_or-set_same mids column q (pos 0) (omega (arith, t.inside, c.turn_over-part.ensures.count))
          ∙ read_known c.over.result c.over.type_inv) ∙ c.over.ensures ∙ own_read turn column entering old t;
    }

pub returns-clause-turned : goal.returns-clause-turned
returns-clause-turned c =
    let r = c.turn_over-part.ensures.reciprocal in
    let a = (goal.at.returns-clause-turned c).After-set in
    let small = size_most c.turn_over-part.result.number (2 ^ 30) r.positive r.small in
    subst (λ (z : ℤ). IsTurnedOver c.args.turn c.args.column c.args.entering.now c.args.self.now (lowered a) z)
    (sym (read_number c.turn_over-part.result.number (omega (arith, small)))) (turned a)

pub returns-clause-lowest : goal.returns-clause-lowest
returns-clause-lowest c =
    let a = (goal.at.returns-clause-lowest c).After-set in
    lowest_over_turn c.args.turn c.args.column c.args.entering.now c.args.self.now (lowered a) c.turn_over-part.result.number c.requires.turning
    (common (goal.at.returns-clause-lowest c).After-turn_over-part) (turned a)
