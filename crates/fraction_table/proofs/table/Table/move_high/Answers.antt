-- An upper bound moves.
use Rattle.std.proofs.Common.{◌+◌, ◌∙◌, ap, length, arith, w64, to_z, of_z}
use Rattle.std.specs.Prelude.{slice_index}
use Rattle.std.proofs.lemmas.Result.{err_from_is_err_and}
use Rattle.design_problem.specs.Boxes.{with_high}
use Rattle.fraction_table.proofs.Shifts.{IsMovedTo, high_after, high_stays, high_wide, kept_number, lines_many, rows_kept, unboxed_shape}
use Rattle.fraction_table.proofs.table.Table.move_high.Goals.{After-set}
use Rattle.fraction_table.proofs.table.Table.move_high.Goals as goal

pub returns-then-bound-high-clause-moved : goal.returns-then-bound-high-clause-moved
returns-then-bound-high-clause-moved c =
    let stays = high_stays c.args.self.now c.requires.unboxed c.args.var c.args.bound (c.if-bound-high.true
    ∙ ap (λ bounds. slice_index bounds c.args.var) c.as_slice.ensures) in
    record { costs_are = stays.0; basis = stays.1 }

pub returns-then-bound-high-clause-shape : goal.returns-then-bound-high-clause-shape
returns-then-bound-high-clause-shape c = unboxed_shape c.args.self.now c.requires.unboxed c.requires.room

pub shift-requires-clause-shape : goal.shift-requires-clause-shape
shift-requires-clause-shape c = unboxed_shape c.args.self.now c.requires.unboxed c.requires.room

pub shift-requires-clause-own : goal.shift-requires-clause-own
shift-requires-clause-own c = omega (arith, lines_many c.args.self.now c.requires.unboxed, ap length c.as_slice-2.ensures, c.requires.var)

pub returns-in_err-shift-clause-wide : goal.returns-in_err-shift-clause-wide
returns-in_err-shift-clause-wide c =
    let p = err_from_is_err_and c.from_residual.result c.from_residual.ensures.1 in
    rw (p.1, p.2)
    (high_wide c.args.self.now c.requires.unboxed c.args.var c.args.bound (slice_index c.as_slice.result.now c.args.var)
    (length c.as_slice-2.result.now + c.args.var) (to_z w64 (of_z w64 c.range_of-fall.result))
    c.in_err-shift.field-0.0 c.requires.var (ap (λ bounds. length bounds + c.args.var) c.as_slice-2.ensures)
    (ap (λ bounds. slice_index bounds c.args.var) c.as_slice.ensures)
    (kept_number c.range_of-fall.result c.range_of-fall.ensures.small ∙ c.range_of-fall.ensures.range)
    c.in_err-shift.ensures.wide)

pub returns-in_err-shift-clause-keeps : goal.returns-in_err-shift-clause-keeps
returns-in_err-shift-clause-keeps c = rows_kept c.args.self.now c.shift.new.self c.shift.ensures.keeps

-- the table after the bound was set
moved_here : (c : After-set) →
    IsMovedTo c.args.self.now c.shift.new.self (record { low = c.shift.new.self.costs.low; high = c.set.new.self })
    (with_high c.args.self.now.costs c.args.var c.args.bound)
moved_here c =
    high_after c.args.self.now c.shift.new.self c.requires.unboxed c.args.var c.args.bound
    (slice_index c.as_slice.result.now c.args.var) (length c.as_slice-2.result.now + c.args.var)
    (to_z w64 (of_z w64 c.range_of-fall.result)) c.set.new.self c.requires.var
    c.shift.ensures.keeps c.shift.ensures.shape (ap (λ bounds. length bounds + c.args.var) c.as_slice-2.ensures)
    (ap (λ bounds. slice_index bounds c.args.var) c.as_slice.ensures)
    (kept_number c.range_of-fall.result c.range_of-fall.ensures.small ∙ c.range_of-fall.ensures.range)
    c.in_ok-shift.ensures.shifted c.set.ensures

pub returns-clause-unboxed : goal.returns-clause-unboxed
returns-clause-unboxed c =
    (moved_here (goal.at.returns-clause-unboxed c).After-set).unboxed

pub returns-clause-moved : goal.returns-clause-moved
returns-clause-moved c =
    let after = moved_here (goal.at.returns-clause-moved c).After-set in
    record { costs_are = after.costs_are; basis = after.basis }

pub returns-clause-shape : goal.returns-clause-shape
returns-clause-shape c =
    let after = moved_here (goal.at.returns-clause-shape c).After-set in
    let room = c.shift.ensures.shape.room in
    unboxed_shape _ after.unboxed (record { few = room.few; quotients = room.quotients; scratch = room.scratch })

pub returns-clause-keeps : goal.returns-clause-keeps
returns-clause-keeps c =
    let k = c.shift.ensures.keeps in
    record { top = k.top; rows = k.rows; width = ap (λ costs. length costs.low) k.costs }
