-- The bounds move, or the table starts anew.
use Rattle.std.proofs.Common.{ℕ, inl, inr, sym, subst, List, length}
use Rattle.std.specs.Prelude.{All}
use Rattle.design_problem.specs.declared.form.Form.{Form}
use Rattle.design_problem.specs.declared.boxes.CostBox.{CostBox}
use Rattle.design_problem.specs.Boxes.{IsBox}
use Rattle.fraction_table.specs.Tableaus.{FitsBox, starting}
use Rattle.fraction_table.proofs.Restarts.{held_is, moved_rebased}
use Rattle.fraction_table.proofs.BetweenBoxes.{keeps_both}
use Rattle.fraction_table.proofs.table.Table.rebase.Goals as goal

pub move_bounds-requires : goal.move_bounds-requires
move_bounds-requires c =
    record {
      unboxed = c.requires.tableau.unboxed;
      room = c.requires.room;
      bounds = record { low_count = c.requires.ranges.low_count; high_count = c.requires.ranges.high_count };
    }

pub restart-requires : goal.restart-requires
restart-requires c =
    let keeps = c.move_bounds.ensures.keeps in
    record {
      shape = c.move_bounds.ensures.shape;
      ranges = subst (λ (n : ℕ). IsBox n c.args.costs.now) (sym keeps.width) c.requires.ranges;
      fits = subst (λ (rows : List Form). All (FitsBox c.args.costs.now) rows) (sym keeps.rows) c.requires.fits;
    }

pub returns-in-Ok-clause-tableau : goal.returns-in-Ok-clause-tableau
returns-in-Ok-clause-tableau c =
    let keeps = c.move_bounds.ensures.keeps in
    let costs = c.args.costs.now in
    let same = c.in-Ok.ensures.moved.costs_are in
    record {
      box = subst (λ (box : CostBox). IsBox (length box.low) box) (sym same)
          (subst (λ (n : ℕ). IsBox n costs) (sym c.requires.ranges.low_count) c.requires.ranges);
      fit = subst (λ (box : CostBox). All (FitsBox box) c.move_bounds.new.self.rows.items) (sym same)
          (subst (λ (rows : List Form). All (FitsBox costs) rows) (sym keeps.rows) c.requires.fits);
      unboxed = c.in-Ok.ensures.unboxed;
    }

pub returns-in-Ok-clause-rebased : goal.returns-in-Ok-clause-rebased
returns-in-Ok-clause-rebased c =
    inl (moved_rebased c.args.self.now c.move_bounds.new.self c.args.costs.now c.move_bounds.ensures.keeps c.in-Ok.ensures.moved)

pub returns-in-Err-clause-rebased : goal.returns-in-Err-clause-rebased
returns-in-Err-clause-rebased c =
    inr (
      c.in-Err.ensures.wide,
      held_is c.args.self.now c.restart.new.self c.args.costs.now (starting c.args.costs.now)
          (keeps_both c.args.self.now c.move_bounds.new.self c.restart.new.self c.move_bounds.ensures.keeps
          c.restart.ensures.keeps) c.restart.ensures.costs c.restart.ensures.basis,
    )
