-- One more constant stays within its limit, or doesn't.
use Rattle.std.proofs.Common.{◌≡◌, ℕ, List, ◌^◌, ◌<◌, ◌≤◌, ◌↔◌, ◌∙◌, ap, refl, sym, subst, length, arith, FitsSigned, w64}
use Rattle.std.specs.Prelude.{ℤ, pos, ◌+ℤ◌, ◌≤ℤ◌, nat_abs, IsTrue}
use Rattle.std.proofs.lemmas.Int.{ints}
use Rattle.integer_pivots.proofs.FailedTests.{failed, never}
use Rattle.integer_pivots.proofs.Sizes.{read}
use Rattle.integer_pivots.proofs.WrittenPlaces.{all_more}
use Rattle.table_kernel.specs.Moves.{LineMayMove, MayMove, box_distance, distance_of}
use Rattle.table_kernel.specs.Turns.{line_of}
use Rattle.table_kernel.proofs.MoveReads.{distances_read}
use Rattle.table_kernel.proofs.kernel.Kernel.moves_within.Goals.{After-distance-highs, After-line_may_move}
use Rattle.table_kernel.proofs.kernel.Kernel.moves_within.Goals as goal

-- how far the bounds move, as it is added
far : (c : After-distance-highs) → FitsSigned w64 (read c.distance-lows.result +ℤ read c.distance-highs.result)
    × (read (read c.distance-lows.result +ℤ read c.distance-highs.result) ≡ pos (box_distance c.args.self.now.table.costs c.args.costs.now))
    × (box_distance c.args.self.now.table.costs c.args.costs.now ≤ 2 ^ 61)
far c =
    let box = c.args.self.now.table.costs in
    let lows = ap (λ (xs : List ℕ). distance_of xs c.as_slice-2.result.now) c.as_slice.ensures ∙ ap (distance_of box.low) c.as_slice-2.ensures in
    let highs = ap (λ (xs : List ℕ). distance_of xs c.as_slice-4.result.now) c.as_slice-3.ensures ∙ ap (distance_of box.high) c.as_slice-4.ensures in
    distances_read c.distance-lows.result c.distance-highs.result (distance_of box.low c.args.costs.now.low) (distance_of box.high c.args.costs.now.high)
    (c.distance-lows.ensures.exact ∙ ap pos lows) (c.distance-highs.ensures.exact ∙ ap pos highs) c.distance-lows.ensures.small c.distance-highs.ensures.small

-- what the test of a line tells
told : (c : After-line_may_move) → (read (read c.distance-lows.result +ℤ read c.distance-highs.result) ≡
    pos (box_distance c.args.self.now.table.costs c.args.costs.now)) →
    IsTrue c.line_may_move.result ↔ LineMayMove (nat_abs c.args.self.now.common) (box_distance c.args.self.now.table.costs c.args.costs.now)
    (line_of c.args.self.now c.loop-var.var)
told c is =
    let k = c.args.self.now in
    subst (λ (n : ℕ). IsTrue c.line_may_move.result ↔ LineMayMove (nat_abs k.common) n (line_of k c.loop-var.var)) (ap nat_abs is) c.line_may_move.ensures

pub distance-lows-requires-clause-long : goal.distance-lows-requires-clause-long
distance-lows-requires-clause-long c =
    ap length c.as_slice.ensures ∙ sym (ap length c.as_slice-2.ensures ∙ c.requires.ranges.low_count)

pub distance-lows-requires-clause-few : goal.distance-lows-requires-clause-few
distance-lows-requires-clause-few c = let few = c.requires.kernel.shaped.room.few in omega (arith, few, ap length c.as_slice.ensures)

pub distance-highs-requires-clause-long : goal.distance-highs-requires-clause-long
distance-highs-requires-clause-long c =
    ap length c.as_slice-3.ensures ∙ c.requires.kernel.tableau.box.high_count ∙ sym (ap length c.as_slice-4.ensures ∙ c.requires.ranges.high_count)

pub distance-highs-requires-clause-few : goal.distance-highs-requires-clause-few
distance-highs-requires-clause-few c =
    let few = c.requires.kernel.shaped.room.few in
    omega (arith, few, ap length c.as_slice-3.ensures, c.requires.kernel.tableau.box.high_count)

pub overflow_add-lows : goal.overflow_add-lows
overflow_add-lows c = (far (goal.at.overflow_add-lows c).After-distance-highs).0

pub loop-var-init : goal.loop-var-init
loop-var-init c v v_in = absurd (omega (arith, v_in))

pub line_may_move-requires-clause-kernel : goal.line_may_move-requires-clause-kernel
line_may_move-requires-clause-kernel c = c.requires.kernel

pub line_may_move-requires-clause-var : goal.line_may_move-requires-clause-var
line_may_move-requires-clause-var c =
    omega (arith, c.loop-var-test.true, c.len-var-end.ensures, c.args.self.now.lows.ok.0, c.requires.kernel.shaped.lows)

pub line_may_move-requires-clause-far : goal.line_may_move-requires-clause-far
line_may_move-requires-clause-far c =
    let f = far (goal.at.line_may_move-requires-clause-far c).After-distance-highs in
    subst (λ (z : ℤ). (pos 0 ≤ℤ z) × (z ≤ℤ pos (2 ^ 61))) (sym f.1) (omega (arith, ints), omega (arith, ints, f.2))

pub returns-then-not-line_may_move : goal.returns-then-not-line_may_move
returns-then-not-line_may_move c =
    let at = goal.at.returns-then-not-line_may_move c in
    let k = c.args.self.now in
    let v_in : c.loop-var.var < length k.lows.items = omega (arith, c.loop-var-test.true, c.len-var-end.ensures, k.lows.ok.0) in
    never (λ (all : MayMove k (box_distance k.table.costs c.args.costs.now)).
    failed c.line_may_move.result c.if-not-line_may_move.true (told at.After-line_may_move (far at.After-distance-highs).1) (all c.loop-var.var v_in))

pub loop-var-preserved : goal.loop-var-preserved
loop-var-preserved c =
    let at = goal.at.loop-var-preserved c in
    let k = c.args.self.now in
    all_more (λ (v : ℕ). LineMayMove (nat_abs k.common) (box_distance k.table.costs c.args.costs.now) (line_of k v)) c.loop-var.var c.loop-var.invariant
    ((told at.After-line_may_move (far at.After-distance-highs).1).0 c.if-not-line_may_move.false)

pub returns : goal.returns
returns c =
    let k = c.args.self.now in
    let past : length k.lows.items ≤ c.loop-var.var = omega (arith, c.loop-var-test.false, c.len-var-end.ensures, k.lows.ok.0) in (
      λ holds v v_in. c.loop-var.invariant v (omega (arith, past, v_in)),
      λ all. refl,
    )
