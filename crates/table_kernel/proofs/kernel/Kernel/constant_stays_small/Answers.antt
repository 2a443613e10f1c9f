-- The constant is that of the turn, and the share that of the denominator after it.
use Prim.Native.Nat.{◌∣◌}
use Rattle.std.proofs.Common.{rules, FitsSigned, ap, refl, sym, subst, ◌∙◌, ◌/◌, ◌^◌, ◌≡◌, ◌≤◌, ℕ, nat_abs, ℤ, w64, to_z, of_z}
use Rattle.std.specs.Int.{w128}
use Rattle.std.specs.Prelude.{pos, ◌<ℤ◌}
use Rattle.std.proofs.lemmas.Int.{to_z-of_z}
use Rattle.integer_pivots.specs.declared.line.Line.{Line}
use Rattle.integer_pivots.specs.declared.turned_line.Turn.{Turn}
use Rattle.integer_pivots.specs.Turns.{denominator_after, turned_number}
use Rattle.integer_pivots.proofs.Sizes.{read, read_known, size_most}
use Rattle.table_kernel.specs.Turns.{line_of}
use Rattle.table_kernel.proofs.StayingWithin.{constant_told, same_constant}
use Rattle.table_kernel.proofs.Lines.{read_common, share_range}
use Rattle.table_kernel.proofs.TurnArgs.{after_read, denominator_range, line_read, no_factor, range_read, same_bits}
use Rattle.table_kernel.proofs.kernel.Kernel.constant_stays_small.Goals as goal

pub turn_at-turn-requires : goal.turn_at-turn-requires
turn_at-turn-requires c = record { ready = c.requires.ready }

pub denominator_times-denominator-requires-clause-denominator : goal.denominator_times-denominator-requires-clause-denominator
denominator_times-denominator-requires-clause-denominator c =
    let k = c.args.self.now in
    let r = c.requires.ready in
    denominator_range k c.args.column c.args.var c.index.result.now r (line_read k c.args.var c.index.result.now r.among c.index.ensures)

pub denominator_times-denominator-requires-clause-multiplier : goal.denominator_times-denominator-requires-clause-multiplier
denominator_times-denominator-requires-clause-multiplier c = range_read c.turn_at-turn.result.multiplier c.turn_at-turn.ensures.multiplier

pub constant_after-requires-clause-multiplier : goal.constant_after-requires-clause-multiplier
constant_after-requires-clause-multiplier c =
    let small = c.turn_at-turn.ensures.multiplier in
    size_most c.turn_at-turn.result.multiplier (2 ^ 30) small.0 small.1

pub constant_after-requires-clause-factor : goal.constant_after-requires-clause-factor
constant_after-requires-clause-factor c = c.turn_at-turn.ensures.factor

pub share_in-requires-clause-common : goal.share_in-requires-clause-common
share_in-requires-clause-common c = range_read c.args.common c.requires.common

pub share_in-requires-clause-denominator : goal.share_in-requires-clause-denominator
share_in-requires-clause-denominator c =
    subst (λ (z : ℤ). pos 0 <ℤ z) (sym (read_known c.denominator_times-denominator.result c.denominator_times-denominator.type_inv))
    c.denominator_times-denominator.ensures.range.0

pub stays_within-requires : goal.stays_within-requires
stays_within-requires c = record { share = share_range c.share_in.result c.share_in.ensures.positive c.share_in.ensures.size }

pub share_in-requires-clause-divides : goal.share_in-requires-clause-divides
share_in-requires-clause-divides c =
    let k = c.args.self.now in
    let v = c.args.var in
    let after = denominator_after k.entering c.args.column (line_of k v) in
    let denominator = c.denominator_times-denominator.result in
    let after_is : nat_abs (read denominator) ≡ after =
    ap nat_abs (to_z-of_z w64 denominator (record { sfits = c.denominator_times-denominator.type_inv }))
    ∙ c.denominator_times-denominator.ensures.product
    ∙ after_read k c.args.column v c.index.result.now c.turn_at-turn.result c.requires.ready
    (line_read k v c.index.result.now c.requires.ready.among c.index.ensures) c.turn_at-turn.ensures.turn c.turn_at-turn.ensures.multiplier in
    subst (λ (n : ℕ). n ∣ nat_abs (read c.args.common)) (sym after_is)
    (subst (λ (z : ℤ). after ∣ nat_abs z) (sym (read_common c.args.common c.requires.common)) c.requires.divides)

pub returns : goal.returns
returns c =
    let k = c.args.self.now in
    let v = c.args.var in
    let turn_is = c.turn_at-turn.ensures.turn in
    let denominator = c.denominator_times-denominator.result in
    let after_is : nat_abs (read denominator) ≡ denominator_after k.entering c.args.column (line_of k v) =
    ap nat_abs (to_z-of_z w64 denominator (record { sfits = c.denominator_times-denominator.type_inv }))
    ∙ c.denominator_times-denominator.ensures.product
    ∙ after_read k c.args.column v c.index.result.now c.turn_at-turn.result c.requires.ready
    (line_read k v c.index.result.now c.requires.ready.among c.index.ensures) turn_is c.turn_at-turn.ensures.multiplier in
    constant_told k c.args.column v (nat_abs c.args.common) c.stays_within.result (to_z w128 (of_z w128 c.constant_after.result))
    (nat_abs (read c.share_in.result))
    (to_z-of_z w128 c.constant_after.result (record { sfits = c.constant_after.type_inv })
    ∙ c.constant_after.ensures
    ∙ ap (λ (l : Line). turned_number c.turn_at-turn.result l.constant k.entering.constant)
    (line_read k v c.index-2.result.now c.requires.ready.among c.index-2.ensures)
    ∙ ap (λ (m : Turn). turned_number m (line_of k v).constant k.entering.constant) turn_is)
    (ap nat_abs (to_z-of_z w64 c.share_in.result (record { sfits = c.share_in.type_inv }))
    ∙ ap nat_abs c.share_in.ensures.share
    ∙ ap (λ (z : ℤ). nat_abs z / nat_abs (read denominator)) (read_common c.args.common c.requires.common)
    ∙ ap (λ (n : ℕ). nat_abs c.args.common / n) after_is)
    c.stays_within.ensures

-- without a factor, and over the same common denominator, it is as large as before
pub returns-then-common-self : goal.returns-then-common-self
returns-then-common-self c =
    let k = c.args.self.now in
    let e = c.turn_at-turn.ensures in
    let r = c.requires.ready in
    let none = no_factor k c.args.column c.args.var c.turn_at-turn.result e.turn e.factor c.if-turn-eq0.true in
    let fits : FitsSigned w64 k.common = search rules in
    let same = same_bits c.args.common k.common c.ranges.common fits c.if-common-self.true in
    let is = same_constant k c.args.column c.args.var (nat_abs c.args.common) none r.pivot (ap nat_abs same) in (
      λ holds. subst (λ (n : ℕ). n ≤ 2 ^ 44) (sym is) r.limit,
      λ small. refl,
    )
