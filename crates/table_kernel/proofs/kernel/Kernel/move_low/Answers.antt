-- A lower bound moves.
use Rattle.std.proofs.Common.{rules, refl, ◌≡◌, ◌∙◌, ◌<◌, ◌^◌, ap, subst, arith, w16, Fits}
use Rattle.std.specs.Prelude.{ℤ, ℕ, nat_abs, pos, ◌-ℤ◌, slice_index}
use Rattle.design_problem.specs.declared.tree.Member.TheVariants.{Low}
use Rattle.design_problem.specs.Boxes.{with_low}
use Rattle.fraction_table.specs.Moves.{IsMoved}
use Rattle.integer_pivots.proofs.Sizes.{read, read_number}
use Rattle.table_kernel.specs.Kernels.{IsMoving, stated}
use Rattle.table_kernel.proofs.MovedBases.{low_same}
use Rattle.table_kernel.proofs.MovedKernels.{IsLowShift, low_moves, low_shift_moved, moved_room, put_lows, small_fall}
use Rattle.table_kernel.proofs.kernel.Kernel.move_low.Goals.{After-range_of-fall, After-set}
use Rattle.table_kernel.proofs.kernel.Kernel.move_low.Goals as goal

pub returns-then-bound-low-clause-moved : goal.returns-then-bound-low-clause-moved
returns-then-bound-low-clause-moved c =
    let k = c.args.self.now in
    let stays = low_same k.table.costs k.table.rows.items k.table.basis.items c.args.var c.args.bound c.requires.kernel.basis.members (c.if-bound-low.true
    ∙ ap (λ bounds. slice_index bounds c.args.var) c.as_slice.ensures) in
    record { costs_are = stays.0; basis = stays.1 }

-- how far the bound falls
fall_small : (c : After-range_of-fall) → nat_abs c.range_of-fall.result < 2 ^ 16
fall_small c =
    let fits : Fits w16 (slice_index c.as_slice.result.now c.args.var) = search rules in
    small_fall c.args.bound (slice_index c.as_slice.result.now c.args.var) c.range_of-fall.result
    c.ranges.bound.fits fits.fits c.range_of-fall.ensures.range

pub shift_low-requires-clause-fall : goal.shift_low-requires-clause-fall
shift_low-requires-clause-fall c =
    let small = fall_small (goal.at.shift_low-requires-clause-fall c).After-range_of-fall in
    omega (arith, small, ap nat_abs (read_number c.range_of-fall.result (omega (arith, small))))

-- the shift, by the box's own bound
module _ (c : After-set) where
  low_is : slice_index c.as_slice.result.now c.args.var ≡ slice_index c.args.self.now.table.costs.low c.args.var
  low_is = ap (λ bounds. slice_index bounds c.args.var) c.as_slice.ensures

  fall_is : read c.range_of-fall.result ≡ (pos c.args.bound -ℤ pos (slice_index c.args.self.now.table.costs.low c.args.var))
  fall_is =
      read_number c.range_of-fall.result (omega (arith, c.range_of-fall.ensures.small))
      ∙ c.range_of-fall.ensures.range
      ∙ ap (λ b. pos c.args.bound -ℤ pos b) low_is

  shift : IsLowShift c.args.self.now c.shift_low.new.self c.args.var (Low c.args.var (slice_index c.args.self.now.table.costs.low c.args.var))
      (Low c.args.var c.args.bound)
      (pos c.args.bound -ℤ pos (slice_index c.args.self.now.table.costs.low c.args.var))
  shift =
      let sh = c.shift_low.ensures.shifted in
      subst (λ (b : ℕ). IsLowShift c.args.self.now c.shift_low.new.self c.args.var (Low c.args.var b) (Low c.args.var c.args.bound)
      (pos c.args.bound -ℤ pos (slice_index c.args.self.now.table.costs.low c.args.var))) low_is
      (subst (λ (z : ℤ). IsLowShift c.args.self.now c.shift_low.new.self c.args.var (Low c.args.var (slice_index c.as_slice.result.now c.args.var))
      (Low c.args.var c.args.bound) z) fall_is
      (record { column = sh.0; basis = sh.1.0; lines = sh.1.1 }))

  moves_on : IsMoving (put_lows c.shift_low.new.self c.set.new.self)
      × IsMoved (stated c.args.self.now) (with_low c.args.self.now.table.costs c.args.var c.args.bound)
      (stated (put_lows c.shift_low.new.self c.set.new.self))
  moves_on =
      low_moves c.args.self.now c.shift_low.new.self c.requires.kernel c.args.var c.args.bound c.set.new.self c.requires.var
      c.shift_low.ensures.keeps c.shift_low.ensures.costs shift c.set.ensures c.requires.room

pub returns-clause-kernel : goal.returns-clause-kernel
returns-clause-kernel c = (moves_on (goal.at.returns-clause-kernel c).After-set).0

pub returns-clause-moved : goal.returns-clause-moved
returns-clause-moved c =
    let moved = (moves_on (goal.at.returns-clause-moved c).After-set).1 in
    record { costs_are = moved.costs_are; basis = moved.basis }

pub returns-clause-room : goal.returns-clause-room
returns-clause-room c more may =
    let a = (goal.at.returns-clause-room c).After-set in
    moved_room c.args.self.now c.shift_low.new.self _ more c.shift_low.ensures.keeps.common
    (low_shift_moved c.args.self.now c.shift_low.new.self c.requires.kernel c.args.var c.args.bound c.requires.var (shift a)) may

pub returns-then-bound-low-clause-kernel : goal.returns-then-bound-low-clause-kernel
returns-then-bound-low-clause-kernel c = c.requires.kernel

pub shift_low-requires-clause-kernel : goal.shift_low-requires-clause-kernel
shift_low-requires-clause-kernel c = c.requires.kernel

pub returns-then-bound-low-clause-keeps : goal.returns-then-bound-low-clause-keeps
returns-then-bound-low-clause-keeps c = record { top = refl; rows = refl; width = refl; common = refl; lows = refl }
