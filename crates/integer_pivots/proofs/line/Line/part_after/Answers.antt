-- What one more number has in common with those before it.
use Rattle.std.proofs.Common.{◌≡◌, ◌*◌, ◌^◌, ◌<◌, ◌≤◌, ◌∙◌, ap, length, arith, w64, to_z}
use Rattle.std.specs.Prelude.{ℤ, pos, ◌<ℤ◌, nat_abs}
use Rattle.std.specs.Int.{w128}
use Rattle.std.proofs.lemmas.Int.{fits_signed_from_abs, to_z_pos, to_z-of_z, unsigned_abs-mul}
use mathlib.Core.Path.{ap₂}
use Rattle.whole_numbers.specs.Fractions.{gcd}
use Rattle.whole_numbers.proofs.Sizes.{size_positive}
use Rattle.integer_pivots.specs.Turns.{turned_number}
use Rattle.integer_pivots.proofs.Sizes.{product_read, read, read_known}
use Rattle.integer_pivots.proofs.TurnLaws.{product_of_read}
use Rattle.integer_pivots.proofs.LowestSteps.{first_small, line_denominator, part_all, part_first, part_more, turn_sizes}
use Rattle.integer_pivots.proofs.line.Line.part_after.Goals as goal
use Rattle.integer_pivots.proofs.line.Line.part_after.Goals.{Start, After-greatest_common_divisor-part}
use Rattle.integer_pivots.proofs.LineReads.{number_small}

sizes : (c : Start) → (nat_abs c.args.turn.multiplier ≤ 2 ^ 30) × (nat_abs c.args.turn.factor ≤ 2 ^ 30) × (pos 0 <ℤ c.args.turn.multiplier)
sizes c = turn_sizes c.args.turn c.args.column c.args.entering.now c.args.self.now c.requires.pivot c.requires.turn

pub constant_after-requires-clause-multiplier : goal.constant_after-requires-clause-multiplier
constant_after-requires-clause-multiplier c = (sizes (goal.at.constant_after-requires-clause-multiplier c).Start).0

pub constant_after-requires-clause-factor : goal.constant_after-requires-clause-factor
constant_after-requires-clause-factor c = (sizes (goal.at.constant_after-requires-clause-factor c).Start).1

pub overflow_mul-denominator : goal.overflow_mul-denominator
overflow_mul-denominator c =
    product_of_read c.args.self.now.denominator c.args.turn.multiplier (line_denominator c.args.self.now c.requires.pivot.turning)
    (sizes (goal.at.overflow_mul-denominator c).Start).0

-- what the constant and the denominator have in common
value : (c : After-greatest_common_divisor-part) → nat_abs c.args.turn.multiplier ≤ 2 ^ 30 →
    c.greatest_common_divisor-part.result
    ≡ gcd (nat_abs (turned_number c.args.turn c.args.self.now.constant c.args.entering.now.constant))
    (nat_abs c.args.self.now.denominator * nat_abs c.args.turn.multiplier)
value c small =
    c.greatest_common_divisor-part.ensures.value
    ∙ ap₂ gcd
    (c.unsigned_abs-constant.ensures.value
    ∙ ap nat_abs (to_z-of_z w128 c.constant_after.result (record { sfits = c.constant_after.type_inv }) ∙ c.constant_after.ensures))
    (c.from.ensures ∙ c.unsigned_abs.ensures.value
    ∙ ap nat_abs (product_read c.args.self.now.denominator c.args.turn.multiplier (line_denominator c.args.self.now c.requires.pivot.turning) small)
    ∙ unsigned_abs-mul c.args.self.now.denominator c.args.turn.multiplier)

fits : (c : After-greatest_common_divisor-part) → (nat_abs c.args.turn.multiplier ≤ 2 ^ 30) × (pos 0 <ℤ c.args.turn.multiplier) →
    c.greatest_common_divisor-part.result < 2 ^ 63
fits c m =
    let line = c.args.self.now in
    let l = c.requires.pivot.turning in
    let small = first_small (nat_abs (turned_number c.args.turn line.constant c.args.entering.now.constant)) (nat_abs line.denominator)
    (nat_abs c.args.turn.multiplier) (size_positive line.denominator l.positive) (size_positive c.args.turn.multiplier m.1)
    (line_denominator line l) m.0 in
    omega (arith, small, value c m.0)

pub overflow_cast-part : goal.overflow_cast-part
overflow_cast-part c =
    let p = goal.at.overflow_cast-part c in
    let m = sizes p.Start in
    let e = fits p.After-greatest_common_divisor-part (m.0, m.2) in
    fits_signed_from_abs w64 (pos c.greatest_common_divisor-part.result) (omega (arith, e))

pub loop-c-init : goal.loop-c-init
loop-c-init c =
    let p = goal.at.loop-c-init c in
    let m = sizes p.Start in
    let e = fits p.After-greatest_common_divisor-part (m.0, m.2) in
    part_first c.args.turn c.args.column c.args.entering.now c.args.self.now (to_z w64 c.greatest_common_divisor-part.result)
    c.requires.pivot.turning.positive m.2
    (to_z_pos w64 c.greatest_common_divisor-part.result (omega (arith, e)) ∙ ap pos (value p.After-greatest_common_divisor-part m.0))

pub turned_entry-requires-clause-inside : goal.turned_entry-requires-clause-inside
turned_entry-requires-clause-inside c = omega (arith, ap length c.as_slice-c-end.ensures, c.loop-c-test.true)

pub turned_entry-requires-clause-across : goal.turned_entry-requires-clause-across
turned_entry-requires-clause-across c = omega (arith, ap length c.as_slice-c-end.ensures, c.loop-c-test.true, c.requires.pivot.long)

pub turned_entry-requires-clause-small : goal.turned_entry-requires-clause-small
turned_entry-requires-clause-small c = number_small c.args.self.now c.requires.pivot.turning c.loop-c.c

pub turned_entry-requires-clause-entering : goal.turned_entry-requires-clause-entering
turned_entry-requires-clause-entering c = c.requires.pivot.across

pub turned_entry-requires-clause-multiplier : goal.turned_entry-requires-clause-multiplier
turned_entry-requires-clause-multiplier c = (sizes (goal.at.turned_entry-requires-clause-multiplier c).Start).0

pub turned_entry-requires-clause-factor : goal.turned_entry-requires-clause-factor
turned_entry-requires-clause-factor c = (sizes (goal.at.turned_entry-requires-clause-factor c).Start).1

pub loop-c-preserved : goal.loop-c-preserved
loop-c-preserved c =
    part_more c.args.turn c.args.column c.args.entering.now c.args.self.now c.loop-c.c (to_z w64 c.loop-c.part-bits)
    (read c.common_with-part.result) c.loop-c.invariant
    (read_known c.common_with-part.result c.common_with-part.type_inv ∙ c.common_with-part.ensures.value
    ∙ ap (λ (z : ℤ). pos (gcd (nat_abs z) (nat_abs (to_z w64 c.loop-c.part-bits))))
    (read_known c.turned_entry.result c.turned_entry.type_inv ∙ c.turned_entry.ensures.value))

pub returns : goal.returns
returns c =
    part_all c.args.turn c.args.column c.args.entering.now c.args.self.now c.loop-c.c (to_z w64 c.loop-c.part-bits)
    (omega (arith, ap length c.as_slice-c-end.ensures, c.loop-c-test.false, c.loop-c.auto.c-end)) c.loop-c.invariant
