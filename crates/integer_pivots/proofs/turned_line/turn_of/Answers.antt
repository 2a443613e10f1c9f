-- 1 and 0 need no division; else both numbers are over what they have in common.
use Rattle.std.proofs.Common.{◌≡◌, ◌^◌, sym, ◌∙◌, ap, subst, arith, w64}
use Rattle.std.specs.Prelude.{ℤ, pos, ◌*ℤ◌, ◌<ℤ◌, nat_abs}
use Prim.Native.Nat.{◌∣◌}
use Rattle.std.proofs.lemmas.Int.{ints, to_z-of_z}
use Rattle.whole_numbers.proofs.Divisors.{gcd_is}
use Rattle.integer_pivots.specs.declared.turned_line.Turn.{Turn}
use Rattle.integer_pivots.specs.Turns.{turn_by}
use Rattle.integer_pivots.proofs.Sizes.{positive_size, read, read_known, small_read}
use Rattle.integer_pivots.proofs.Quotients.{bits_of}
use Rattle.integer_pivots.proofs.TurnLaws.{read_level, turn_by_none, turn_by_one, turn_level, turn_ranges, turn_read}
use Rattle.integer_pivots.proofs.turned_line.turn_of.Goals as goal
use Rattle.integer_pivots.proofs.turned_line.turn_of.Goals.{After-over-2, Joined-then-pivot-eq1, then-pivot-eq1-via-then-pivot-eq1, then-pivot-eq1-via-else-pivot-eq1+then-number-eq0}

undivided : (c : Joined-then-pivot-eq1) → record { multiplier = pos 1; factor = read c.args.number } ≡ turn_by c.args.number c.args.pivot
undivided c =
    ap (λ (z : ℤ). record { multiplier = pos 1; factor = z }) (to_z-of_z w64 c.args.number c.ranges.number)
    ∙ elim c.then-pivot-eq1.branch [
      | then-pivot-eq1-via-then-pivot-eq1 w ↦ turn_by_one c.args.number c.args.pivot (bits_of c.args.pivot 1 c.ranges.pivot w.if-pivot-eq1.true)
      | then-pivot-eq1-via-else-pivot-eq1+then-number-eq0 w ↦
          turn_by_none c.args.number c.args.pivot c.requires.pivot.0 (bits_of c.args.number 0 c.ranges.number w.if-number-eq0.true)
    ]

pub returns-then-pivot-eq1-clause-turn : goal.returns-then-pivot-eq1-clause-turn
returns-then-pivot-eq1-clause-turn c = undivided (goal.at.returns-then-pivot-eq1-clause-turn c).Joined-then-pivot-eq1

pub returns-then-pivot-eq1-clause-multiplier : goal.returns-then-pivot-eq1-clause-multiplier
returns-then-pivot-eq1-clause-multiplier c = let high = c.requires.pivot.0 in (omega (arith, ints), omega (arith, ints, high))

pub returns-then-pivot-eq1-clause-factor : goal.returns-then-pivot-eq1-clause-factor
returns-then-pivot-eq1-clause-factor c = omega (arith, ap nat_abs (to_z-of_z w64 c.args.number c.ranges.number))

pub returns-then-pivot-eq1-clause-level : goal.returns-then-pivot-eq1-clause-level
returns-then-pivot-eq1-clause-level c =
    subst (λ (t : Turn). (t.multiplier *ℤ c.args.number) ≡ (t.factor *ℤ c.args.pivot))
    (sym (undivided (goal.at.returns-then-pivot-eq1-clause-level c).Joined-then-pivot-eq1))
    (turn_level c.args.number c.args.pivot c.requires.pivot.0)

pub common_with-common-requires : goal.common_with-common-requires
common_with-common-requires c =
    record { part = subst (λ (z : ℤ). pos 0 <ℤ z) (sym (to_z-of_z w64 c.args.pivot c.ranges.pivot)) c.requires.pivot.0 }

pub over-requires-clause-part : goal.over-requires-clause-part
over-requires-clause-part c =
    subst (λ (z : ℤ). pos 0 <ℤ z) (sym (read_known c.common_with-common.result c.common_with-common.type_inv)) c.common_with-common.ensures.positive

pub over-requires-clause-whole : goal.over-requires-clause-whole
over-requires-clause-whole c =
    subst (λ (z : ℤ). nat_abs z ∣ nat_abs (read c.args.pivot))
    (sym (read_known c.common_with-common.result c.common_with-common.type_inv ∙ c.common_with-common.ensures.value))
    (gcd_is (nat_abs (read c.args.number)) (nat_abs (read c.args.pivot))).1

pub over-requires-clause-size : goal.over-requires-clause-size
over-requires-clause-size c = omega (arith, small_read c.args.pivot (positive_size c.args.pivot (2 ^ 30) c.requires.pivot))

pub over-requires-2-clause-part : goal.over-requires-2-clause-part
over-requires-2-clause-part c =
    subst (λ (z : ℤ). pos 0 <ℤ z) (sym (read_known c.common_with-common.result c.common_with-common.type_inv)) c.common_with-common.ensures.positive

pub over-requires-2-clause-whole : goal.over-requires-2-clause-whole
over-requires-2-clause-whole c =
    subst (λ (z : ℤ). nat_abs z ∣ nat_abs (read c.args.number))
    (sym (read_known c.common_with-common.result c.common_with-common.type_inv ∙ c.common_with-common.ensures.value))
    (gcd_is (nat_abs (read c.args.number)) (nat_abs (read c.args.pivot))).0

pub over-requires-2-clause-size : goal.over-requires-2-clause-size
over-requires-2-clause-size c = omega (arith, small_read c.args.number c.requires.number)

divided : (c : After-over-2) → record { multiplier = read c.over.result; factor = read c.over-2.result } ≡ turn_by c.args.number c.args.pivot
divided c =
    turn_read c.over.result c.over-2.result c.common_with-common.result c.args.number c.args.pivot
    c.over.type_inv c.over-2.type_inv c.common_with-common.type_inv c.ranges.number c.ranges.pivot
    c.common_with-common.ensures.value c.over.ensures.value c.over-2.ensures.value

pub returns-clause-turn : goal.returns-clause-turn
returns-clause-turn c = divided (goal.at.returns-clause-turn c).After-over-2

pub returns-clause-multiplier : goal.returns-clause-multiplier
returns-clause-multiplier c =
    (turn_ranges _ c.args.number c.args.pivot (divided (goal.at.returns-clause-multiplier c).After-over-2) c.requires.pivot.0).0

pub returns-clause-factor : goal.returns-clause-factor
returns-clause-factor c =
    (turn_ranges _ c.args.number c.args.pivot (divided (goal.at.returns-clause-factor c).After-over-2) c.requires.pivot.0).1

pub returns-clause-level : goal.returns-clause-level
returns-clause-level c =
    read_level c.over.result c.over-2.result (read c.common_with-common.result) c.args.number c.args.pivot
    c.over.type_inv c.over-2.type_inv c.ranges.number c.ranges.pivot c.over.ensures.times c.over-2.ensures.times
