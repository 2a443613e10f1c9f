-- The denominator and the constant go over the part without a rest.
use Rattle.std.proofs.Common.{◌≡◌, ◌^◌, ◌≤◌, ℕ, sym, ◌∙◌, ap, subst, arith}
use Rattle.std.specs.Prelude.{ℤ, pos, ◌*ℤ◌, ◌<ℤ◌, nat_abs}
use Prim.Native.Nat.{◌∣◌}
use Rattle.std.proofs.lemmas.Int.{unsigned_abs-mul}
use Rattle.integer_pivots.specs.Turns.{IsPartAfter}
use Rattle.integer_pivots.proofs.Sizes.{product_read, read, read_known}
use Rattle.integer_pivots.proofs.TurnLaws.{product_fits, product_of_read}
use Rattle.integer_pivots.proofs.LowestSteps.{line_denominator, over_high, turn_sizes, wide_divides, wide_times}
use Rattle.integer_pivots.proofs.line.Line.lowest_after.Goals as goal
use Rattle.integer_pivots.proofs.line.Line.lowest_after.Goals.{Start, After-part_after-part}
use Rattle.integer_pivots.proofs.ShareLaws.{times_positive}

sizes : (c : Start) → (nat_abs c.args.turn.multiplier ≤ 2 ^ 30) × (nat_abs c.args.turn.factor ≤ 2 ^ 30) × (pos 0 <ℤ c.args.turn.multiplier)
sizes c = turn_sizes c.args.turn c.args.column c.args.entering.now c.args.self.now c.requires.pivot c.requires.turn

-- the denominator after the turn, as it is computed
denominator_is : (c : Start) → read (read c.args.self.now.denominator *ℤ read c.args.turn.multiplier) ≡ (c.args.self.now.denominator *ℤ c.args.turn.multiplier)
denominator_is c =
    product_read c.args.self.now.denominator c.args.turn.multiplier (line_denominator c.args.self.now c.requires.pivot.turning) (sizes c).0

most : (c : Start) → nat_abs (read (read c.args.self.now.denominator *ℤ read c.args.turn.multiplier)) ≤ 2 ^ 60
most c = product_fits c.args.self.now.denominator c.args.turn.multiplier (line_denominator c.args.self.now c.requires.pivot.turning) (sizes c).0

pub overflow_mul-self : goal.overflow_mul-self
overflow_mul-self c =
    product_of_read c.args.self.now.denominator c.args.turn.multiplier (line_denominator c.args.self.now c.requires.pivot.turning)
    (sizes (goal.at.overflow_mul-self c).Start).0

part_is : (c : After-part_after-part) → read c.part_after-part.result ≡ c.part_after-part.result
part_is c = read_known c.part_after-part.result c.part_after-part.type_inv

pub over-requires-clause-part : goal.over-requires-clause-part
over-requires-clause-part c =
    subst (λ (z : ℤ). pos 0 <ℤ z) (sym (part_is (goal.at.over-requires-clause-part c).After-part_after-part)) c.part_after-part.ensures.positive

whole : (c : After-part_after-part) →
    read (read c.args.self.now.denominator *ℤ read c.args.turn.multiplier) ≡ (c.args.self.now.denominator *ℤ c.args.turn.multiplier) →
    nat_abs (read c.part_after-part.result) ∣ nat_abs (read (read c.args.self.now.denominator *ℤ read c.args.turn.multiplier))
whole c is =
    subst (λ (z : ℤ). nat_abs z ∣ nat_abs (read (read c.args.self.now.denominator *ℤ read c.args.turn.multiplier))) (sym (part_is c))
    (subst (λ (n : ℕ). nat_abs c.part_after-part.result ∣ n)
    (sym (ap nat_abs is ∙ unsigned_abs-mul c.args.self.now.denominator c.args.turn.multiplier)) c.part_after-part.ensures.denominator)

pub over-requires-clause-whole : goal.over-requires-clause-whole
over-requires-clause-whole c =
    let p = goal.at.over-requires-clause-whole c in
    whole p.After-part_after-part (denominator_is p.Start)

pub over-requires-clause-size : goal.over-requires-clause-size
over-requires-clause-size c =
    let size = most (goal.at.over-requires-clause-size c).Start in
    omega (arith, size)

pub constant_after-requires-clause-multiplier : goal.constant_after-requires-clause-multiplier
constant_after-requires-clause-multiplier c = (sizes (goal.at.constant_after-requires-clause-multiplier c).Start).0

pub constant_after-requires-clause-factor : goal.constant_after-requires-clause-factor
constant_after-requires-clause-factor c = (sizes (goal.at.constant_after-requires-clause-factor c).Start).1

pub nonzero_div-result : goal.nonzero_div-result
nonzero_div-result c =
    wide_divides c.constant_after.result c.part_after-part.result c.from.result c.constant_after.type_inv
    c.part_after-part.ensures.positive c.part_after-part.type_inv c.from.ensures

pub returns-clause-lowest : goal.returns-clause-lowest
returns-clause-lowest c =
    let p = goal.at.returns-clause-lowest c in
    let l = c.requires.pivot.turning in
    let is = denominator_is p.Start in
    let part = c.part_after-part.ensures in
    let high = subst (λ (z : ℤ). pos 0 <ℤ z) (sym is)
    (times_positive c.args.self.now.denominator c.args.turn.multiplier l.positive (sizes p.Start).2) in
    let over = read_known c.over.result c.over.type_inv in
    record {
      part = subst (IsPartAfter c.args.turn c.args.column c.args.entering.now c.args.self.now) (sym (part_is p.After-part_after-part)) part;
      positive = subst (λ (z : ℤ). pos 0 <ℤ z) (sym (over ∙ c.over.ensures.value))
          (over_high (read (read c.args.self.now.denominator *ℤ read c.args.turn.multiplier)) (nat_abs (read c.part_after-part.result))
          high (whole p.After-part_after-part is));
      denominator = ap (λ (z : ℤ). z *ℤ read c.part_after-part.result) over ∙ c.over.ensures.times ∙ is;
      constant = wide_times c.constant_after.result c.part_after-part.result c.from.result c.constant_after.type_inv
          part.positive c.part_after-part.type_inv c.from.ensures
          (subst (λ (z : ℤ). nat_abs c.part_after-part.result ∣ nat_abs z) (sym c.constant_after.ensures) part.constant)
          ∙ c.constant_after.ensures;
    }

pub returns-clause-size : goal.returns-clause-size
returns-clause-size c =
    let size = most (goal.at.returns-clause-size c).Start in
    omega (arith, size, c.over.ensures.size, ap nat_abs (read_known c.over.result c.over.type_inv))
