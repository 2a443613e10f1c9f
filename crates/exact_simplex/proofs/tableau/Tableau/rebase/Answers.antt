-- The table moves, and is open again.
use Rattle.std.proofs.Common.{◌≡◌, subst, sym, length, true, false}
use Rattle.std.specs.Prelude.{All}
use Rattle.design_problem.specs.Boxes.{IsBox}
use Rattle.fraction_table.specs.declared.stage.Stage.TheVariants.{Open}
use Rattle.fraction_table.specs.Tableaus.{FitsBox, IsGoing, IsRebased}
use Rattle.fraction_table.specs.ValidTables.{held_of}
use Rattle.fraction_table.proofs.Restarts.{any_stage}
use Rattle.exact_simplex.specs.Actives.{CouldNotMove, TableauState, held_by}
use Rattle.exact_simplex.proofs.Actives.{cannot_return, could_not_move, opened}
use Rattle.exact_simplex.proofs.tableau.Tableau.rebase.Goals as goal

pub rebase-requires : goal.rebase-requires
rebase-requires c =
    record {
      active = c.self.invariant.active (subst (λ (t : TableauState). IsGoing t.stage) (sym c.self.view_is) c.in_ok-going.ensures.going);
      ranges = subst (λ (t : TableauState). IsBox (length t.costs.low) c.args.costs.now) (sym c.self.view_is) c.requires.ranges;
      fits = subst (λ (t : TableauState). All (FitsBox c.args.costs.now) t.rows) (sym c.self.view_is) c.requires.fits;
    }

pub invariant_of-self : goal.invariant_of-self
invariant_of-self c = opened c.rebase.new.self c.rebase.ensures.active

pub returns-clause-moved : goal.returns-clause-moved
returns-clause-moved c =
    subst (λ (t : TableauState). IsRebased (held_by t) c.args.costs.now (held_of c.rebase.new.self.kernel.table Open)) c.self.view_is
    (any_stage c.self.inside.table.kernel.table c.self.inside.stage c.args.costs.now (held_of c.rebase.new.self.kernel.table Open) c.rebase.ensures.rebased)

pub returns-clause-left : goal.returns-clause-left
returns-clause-left c =
    let costs = c.args.costs.now in
    let old = c.self.inside in
    let active = c.self.invariant.active (subst (λ (t : TableauState). IsGoing t.stage) (sym c.self.view_is) c.in_ok-going.ensures.going) in
    subst (λ (t : TableauState). t.in_kernel ≡ true → c.rebase.new.self.in_kernel ≡ false → CouldNotMove (held_by t) costs) c.self.view_is
    (could_not_move old.table c.rebase.new.self old.stage costs active c.rebase.ensures.stays)

pub returns-clause-back : goal.returns-clause-back
returns-clause-back c = cannot_return c.rebase.new.self Open c.rebase.ensures.active c.rebase.ensures.back
