-- Bound by bound the table moves.
use Rattle.std.proofs.Common.{◌≡◌, ◌<◌, ◌+◌, suc, refl, ap, sym, subst, length, arith}
use Rattle.std.specs.Prelude.{slice_index}
use Rattle.std.proofs.lemmas.Result.{err_from_is_err_and}
use Rattle.fraction_table.specs.Tableaus.{between}
use Rattle.fraction_table.specs.Moves.{IsMoved}
use Rattle.fraction_table.proofs.Shifts.{moved_same, unboxed_shape}
use Rattle.fraction_table.proofs.BetweenBoxes.{AreAlike, all_moved, high_move, high_step, keeps_both, low_move, low_step, none_moved}
use Rattle.fraction_table.proofs.table.Table.move_bounds.Goals.{After-as_slice-high, After-move_low, After-move_high}
use Rattle.fraction_table.proofs.table.Table.move_bounds.Goals as goal

-- the two boxes have as many bounds
alike : (c : After-as_slice-high) → AreAlike c.args.self.now.costs c.args.costs.now
alike c = record { high = c.requires.unboxed.high_count; new_low = c.requires.bounds.low_count; new_high = c.requires.bounds.high_count }

-- the loop's variable is one of the box's
v_in : (c : After-move_low) → c.loop-var.var < length c.args.self.now.costs.low
v_in c = omega (arith, c.loop-var-test.true, ap length c.as_slice-low.ensures, c.requires.bounds.low_count)

-- the table between the variable's two moves
middle : (c : After-move_high) → AreAlike c.args.self.now.costs c.args.costs.now → c.loop-var.var < length c.args.self.now.costs.low →
    IsMoved c.args.self.now (between c.args.self.now.costs c.args.costs.now (suc c.loop-var.var) c.loop-var.var) c.move_low.new.self
middle c like inside =
    let v = c.loop-var.var in
    low_step c.args.self.now c.loop-var.self c.move_low.new.self c.args.costs.now v (slice_index c.as_slice-low.result.now v)
    like inside (ap (λ bounds. slice_index bounds v) c.as_slice-low.ensures) c.loop-var.invariant.moved
    c.in_ok-move_low.ensures.moved

pub loop-var-init : goal.loop-var-init
loop-var-init c =
    let t = c.args.self.now in
    record {
      unboxed = c.requires.unboxed;
      room = c.requires.room;
      moved = none_moved t c.args.costs.now (sym (moved_same t.costs t.rows.items t.basis.items c.requires.unboxed.members));
      keeps = record { top = refl; rows = refl; width = refl };
    }

pub loop-var-preserved : goal.loop-var-preserved
loop-var-preserved c =
    let old = c.args.self.now in
    let costs = c.args.costs.now in
    let v = c.loop-var.var in
    let at = goal.at.loop-var-preserved c in
    let like = alike at.After-as_slice-high in
    let inside = v_in at.After-move_low in
    let last = high_step old c.move_low.new.self c.move_high.new.self costs v (slice_index c.as_slice-high.result.now v)
    like inside (ap (λ bounds. slice_index bounds v) c.as_slice-high.ensures)
    (middle at.After-move_high like inside)
    c.in_ok-move_high.ensures.moved in
    let next : suc v ≡ v + 1 = omega arith in
    record {
      unboxed = c.in_ok-move_high.ensures.unboxed;
      room = c.move_high.ensures.shape.room;
      moved = subst (λ k. IsMoved old (between old.costs costs k k) c.move_high.new.self) next last;
      keeps = keeps_both old c.loop-var.self c.move_high.new.self c.loop-var.invariant.keeps
          (keeps_both c.loop-var.self c.move_low.new.self c.move_high.new.self c.move_low.ensures.keeps
          c.move_high.ensures.keeps);
    }

pub move_low-requires : goal.move_low-requires
move_low-requires c =
    record {
      unboxed = c.loop-var.invariant.unboxed;
      room = c.loop-var.invariant.room;
      var = omega (arith, c.loop-var-test.true, ap length c.as_slice-low.ensures, c.requires.bounds.low_count, c.loop-var.invariant.keeps.width);
    }

pub move_high-requires : goal.move_high-requires
move_high-requires c =
    record {
      unboxed = c.in_ok-move_low.ensures.unboxed;
      room = c.move_low.ensures.shape.room;
      var = omega (
        arith,
        c.loop-var-test.true,
        ap length c.as_slice-low.ensures,
        c.requires.bounds.low_count,
        c.loop-var.invariant.keeps.width,
        c.move_low.ensures.keeps.width,
      );
    }

pub returns-in_err-move_low-clause-wide : goal.returns-in_err-move_low-clause-wide
returns-in_err-move_low-clause-wide c =
    let p = err_from_is_err_and c.from_residual.result c.from_residual.ensures.1 in
    let old = c.args.self.now in
    let costs = c.args.costs.now in
    let v = c.loop-var.var in
    let at = goal.at.returns-in_err-move_low-clause-wide c in
    let like = alike at.After-as_slice-high in
    let inside = v_in at.After-move_low in
    rw p.1
    (low_move old c.loop-var.self costs v (slice_index c.as_slice-low.result.now v) c.in_err-move_low.field-0.0 like
    inside (ap (λ bounds. slice_index bounds v) c.as_slice-low.ensures)
    c.loop-var.invariant.keeps c.loop-var.invariant.moved c.in_err-move_low.ensures.wide)

pub returns-in_err-move_low-clause-keeps : goal.returns-in_err-move_low-clause-keeps
returns-in_err-move_low-clause-keeps c =
    keeps_both c.args.self.now c.loop-var.self c.move_low.new.self c.loop-var.invariant.keeps c.move_low.ensures.keeps

pub returns-in_err-move_high-clause-wide : goal.returns-in_err-move_high-clause-wide
returns-in_err-move_high-clause-wide c =
    let p = err_from_is_err_and c.from_residual-in_err-move_high.result c.from_residual-in_err-move_high.ensures.1 in
    let old = c.args.self.now in
    let costs = c.args.costs.now in
    let v = c.loop-var.var in
    let at = goal.at.returns-in_err-move_high-clause-wide c in
    let like = alike at.After-as_slice-high in
    let inside = v_in at.After-move_low in
    rw p.1
    (high_move old c.move_low.new.self costs v (slice_index c.as_slice-high.result.now v) c.in_err-move_high.field-0.0
    like inside (ap (λ bounds. slice_index bounds v) c.as_slice-high.ensures)
    (keeps_both old c.loop-var.self c.move_low.new.self c.loop-var.invariant.keeps c.move_low.ensures.keeps)
    (middle at.After-move_high like inside) c.in_err-move_high.ensures.wide)

pub returns-in_err-move_high-clause-keeps : goal.returns-in_err-move_high-clause-keeps
returns-in_err-move_high-clause-keeps c =
    keeps_both c.args.self.now c.loop-var.self c.move_high.new.self c.loop-var.invariant.keeps
    (keeps_both c.loop-var.self c.move_low.new.self c.move_high.new.self c.move_low.ensures.keeps
    c.move_high.ensures.keeps)

pub returns-clause-moved : goal.returns-clause-moved
returns-clause-moved c =
    let old = c.args.self.now in
    let costs = c.args.costs.now in
    all_moved old c.loop-var.self costs c.loop-var.var (alike (goal.at.returns-clause-moved c).After-as_slice-high)
    (omega (
      arith,
      c.loop-var-test.false,
      c.loop-var.auto.var-end,
      ap length c.as_slice-low.ensures,
      c.requires.bounds.low_count,
    )) c.loop-var.invariant.moved

pub returns-clause-shape : goal.returns-clause-shape
returns-clause-shape c = unboxed_shape c.loop-var.self c.loop-var.invariant.unboxed c.loop-var.invariant.room
