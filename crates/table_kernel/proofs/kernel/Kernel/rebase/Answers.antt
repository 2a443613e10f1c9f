-- Bound by bound the kernel moves.
use Rattle.std.proofs.Common.{◌≡◌, ℕ, ◌<◌, ◌≤◌, ◌+◌, suc, refl, ap, sym, subst, length, arith}
use Rattle.std.specs.Prelude.{slice_index}
use Rattle.design_problem.specs.declared.boxes.CostBox.{CostBox}
use Rattle.design_problem.specs.Boxes.{IsBox}
use Rattle.fraction_table.specs.Moves.{IsMoved}
use Rattle.fraction_table.specs.Tableaus.{between}
use Rattle.fraction_table.proofs.Shifts.{moved_same}
use Rattle.fraction_table.proofs.BetweenBoxes.{AreAlike, all_moved, high_step, low_step, none_moved}
use Rattle.table_kernel.specs.declared.kernel.Kernel.{Kernel}
use Rattle.table_kernel.specs.Kernels.{IsKernel, stated, width_of}
use Rattle.table_kernel.specs.Moves.{MayMove}
use Rattle.table_kernel.proofs.AtBasis.{kernel_moves}
use Rattle.table_kernel.proofs.BoxMoves.{both_keep, high_may, high_room, low_may, low_room, settled_box, settled_fit}
use Rattle.table_kernel.proofs.Distances.{left_of}
use Rattle.table_kernel.proofs.PutKernels.{put_kernel}
use Rattle.table_kernel.proofs.kernel.Kernel.rebase.Goals.{After-move_low}
use Rattle.table_kernel.proofs.kernel.Kernel.rebase.Goals as goal

pub loop-var-init : goal.loop-var-init
loop-var-init c =
    let k = c.args.self.now in
    let m = kernel_moves k c.requires.kernel in
    record {
      kernel = m;
      moved = none_moved (stated k) c.args.costs.now (sym (moved_same k.table.costs k.table.rows.items k.table.basis.items m.basis.members));
      keeps = record { top = refl; rows = refl; width = refl; common = refl; lows = refl };
      room = c.moves_within.ensures.0 c.if-not-moves_within.false;
    }

-- both boxes have as many bounds
alike : (k : Kernel) (costs : CostBox) → IsKernel k → IsBox (width_of k) costs → AreAlike k.table.costs costs
alike k costs m box = record { high = m.tableau.unboxed.high_count; new_low = box.low_count; new_high = box.high_count }

pub move_low-requires-clause-room : goal.move_low-requires-clause-room
move_low-requires-clause-room c =
    let old = c.args.self.now in
    let costs = c.args.costs.now in
    let v = c.loop-var.var in
    low_may old c.loop-var.self costs v (slice_index c.as_slice-low.result.now v)
    (alike old costs c.requires.kernel c.requires.ranges)
    (omega (arith, c.loop-var-test.true, ap length c.as_slice-low.ensures, c.requires.ranges.low_count))
    (ap (λ bounds. slice_index bounds v) c.as_slice-low.ensures) c.loop-var.invariant.moved.costs_are
    c.loop-var.invariant.room

-- the variable whose bounds move is one of the box
var_in : (c : After-move_low) → c.loop-var.var < length c.args.self.now.table.costs.low
var_in c = omega (arith, c.loop-var-test.true, ap length c.as_slice-low.ensures, c.requires.ranges.low_count)

-- the lower bound has moved, and there is room for the rest
low_done : (c : After-move_low) →
    IsMoved (stated c.args.self.now)
    (between c.args.self.now.table.costs c.args.costs.now (suc c.loop-var.var) c.loop-var.var) (stated c.move_low.new.self)
    × MayMove c.move_low.new.self
    (left_of c.args.self.now.table.costs.low c.args.costs.now.low (suc c.loop-var.var)
    + left_of c.args.self.now.table.costs.high c.args.costs.now.high c.loop-var.var)
low_done c =
    let old = c.args.self.now in
    let costs = c.args.costs.now in
    let v = c.loop-var.var in
    let low = slice_index c.as_slice-low.result.now v in
    let low_is = ap (λ bounds. slice_index bounds v) c.as_slice-low.ensures in
    let same = alike old costs c.requires.kernel c.requires.ranges in
    let v_in = var_in c in (
      low_step (stated old) (stated c.loop-var.self) (stated c.move_low.new.self) costs v low same v_in low_is
          c.loop-var.invariant.moved c.move_low.ensures.moved,
      c.move_low.ensures.room (left_of old.table.costs.low costs.low (suc v) + left_of old.table.costs.high costs.high v)
          (low_room old c.loop-var.self costs v low same v_in low_is c.loop-var.invariant.moved.costs_are
          c.loop-var.invariant.room),
    )

pub move_high-requires-clause-room : goal.move_high-requires-clause-room
move_high-requires-clause-room c =
    let at = goal.at.move_high-requires-clause-room c in
    let old = c.args.self.now in
    let costs = c.args.costs.now in
    let v = c.loop-var.var in
    let done = low_done at.After-move_low in
    high_may old c.move_low.new.self costs v (slice_index c.as_slice-high.result.now v)
    (alike old costs c.requires.kernel c.requires.ranges) (var_in at.After-move_low) (ap (λ bounds. slice_index bounds v) c.as_slice-high.ensures)
    done.0.costs_are done.1

pub loop-var-preserved : goal.loop-var-preserved
loop-var-preserved c =
    let at = goal.at.loop-var-preserved c in
    let old = c.args.self.now in
    let costs = c.args.costs.now in
    let v = c.loop-var.var in
    let t = c.move_low.new.self in
    let s = c.move_high.new.self in
    let same = alike old costs c.requires.kernel c.requires.ranges in
    let v_in = var_in at.After-move_low in
    let high = slice_index c.as_slice-high.result.now v in
    let high_is = ap (λ bounds. slice_index bounds v) c.as_slice-high.ensures in
    let done = low_done at.After-move_low in
    let last = high_step (stated old) (stated t) (stated s) costs v high same v_in high_is done.0 c.move_high.ensures.moved in
    let room = c.move_high.ensures.room
    (left_of old.table.costs.low costs.low (suc v) + left_of old.table.costs.high costs.high (suc v))
    (high_room old t costs v high same v_in high_is done.0.costs_are done.1) in
    let next : suc v ≡ v + 1 = omega arith in
    record {
      kernel = c.move_high.ensures.kernel;
      moved = subst (λ k. IsMoved (stated old) (between old.table.costs costs k k) (stated s)) next last;
      keeps = both_keep old c.loop-var.self s c.loop-var.invariant.keeps (both_keep c.loop-var.self t s c.move_low.ensures.keeps c.move_high.ensures.keeps);
      room = subst (λ k. MayMove s (left_of old.table.costs.low costs.low k + left_of old.table.costs.high costs.high k)) next room;
    }

-- all bounds have moved
all_are : (k s : Kernel) (costs : CostBox) (v : ℕ) → IsKernel k → IsBox (width_of k) costs → length costs.low ≤ v → v ≤ length costs.low →
    IsMoved (stated k) (between k.table.costs costs v v) (stated s) → IsMoved (stated k) costs (stated s)
all_are k s costs v m box past inside moved =
    all_moved (stated k) (stated s) costs v (alike k costs m box) (omega (arith, past, inside, box.low_count)) moved

pub put_constants-requires : goal.put_constants-requires
put_constants-requires c =
    let k = c.args.self.now in
    let s = c.loop-var.self in
    let costs = c.args.costs.now in
    let many : length c.as_slice-low.result.now ≡ length costs.low = ap length c.as_slice-low.ensures in
    let all = all_are k s costs c.loop-var.var c.requires.kernel c.requires.ranges (omega (arith, many, c.loop-var-test.false))
    (omega (arith, many, c.loop-var.auto.var-end)) c.loop-var.invariant.moved in
    let m = c.loop-var.invariant.kernel in
    record {
      shaped = m.shaped;
      bounded = m.bounded;
      fit = settled_fit k s costs c.loop-var.invariant.keeps all.costs_are c.requires.fits;
      high = m.basis.high_count;
    }

pub returns-clause-kernel : goal.returns-clause-kernel
returns-clause-kernel c =
    let k = c.args.self.now in
    let s = c.loop-var.self in
    let costs = c.args.costs.now in
    let many : length c.as_slice-low.result.now ≡ length costs.low = ap length c.as_slice-low.ensures in
    let all = all_are k s costs c.loop-var.var c.requires.kernel c.requires.ranges (omega (arith, many, c.loop-var-test.false))
    (omega (arith, many, c.loop-var.auto.var-end)) c.loop-var.invariant.moved in
    put_kernel s c.put_constants.new.self c.loop-var.invariant.kernel
    (settled_box k s costs c.loop-var.invariant.keeps all.costs_are c.requires.ranges)
    (settled_fit k s costs c.loop-var.invariant.keeps all.costs_are c.requires.fits)
    c.put_constants.ensures.constants c.put_constants.ensures.small c.put_constants.ensures.keeps
