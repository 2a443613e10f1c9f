-- The kernel moves where it is one; and where the table in fractions moves, the kernel can be read back.
use Rattle.std.proofs.Common.{◌≡◌, ap, subst, sym, ◌∙◌, false, length}
use Rattle.design_problem.specs.declared.boxes.CostBox.{CostBox}
use Rattle.design_problem.specs.Boxes.{IsBox}
use Rattle.table_kernel.specs.declared.kernel.Kernel.{Kernel}
use Rattle.exact_simplex.specs.declared.active.ActiveTable.{ActiveTable}
use Rattle.exact_simplex.specs.Actives.{IsActive}
use Rattle.exact_simplex.proofs.ParkedTables.{moved_beside}
use Rattle.exact_simplex.proofs.active.ActiveTable.rebase.Goals.{then-self+in-Err, else-self}
use Rattle.exact_simplex.proofs.active.ActiveTable.rebase.Goals as goal

pub rebase-requires-clause-kernel : goal.rebase-requires-clause-kernel
rebase-requires-clause-kernel c = c.requires.active.kernel c.if-self.true

pub return_to_kernel-requires-clause-active : goal.return_to_kernel-requires-clause-active
return_to_kernel-requires-clause-active c =
    let a = c.if-self.self in
    let costs = c.args.costs.now in
    let active : IsActive a = elim c.if-self.branch [
      | then-self+in-Err w ↦ subst IsActive (sym w.self-is) w.leave_kernel.ensures.active
      | else-self w ↦ subst IsActive (sym w.self-is) c.requires.active
    ] in
    let out : a.in_kernel ≡ false = elim c.if-self.branch [
      | then-self+in-Err w ↦ ap (λ (b : ActiveTable). b.in_kernel) w.self-is ∙ w.leave_kernel.ensures.left
      | else-self w ↦ ap (λ (b : ActiveTable). b.in_kernel) w.self-is ∙ w.if-self.false
    ] in
    let costs_are : a.kernel.table.costs ≡ c.args.self.now.kernel.table.costs = elim c.if-self.branch [
      | then-self+in-Err w ↦ ap (λ (b : ActiveTable). b.kernel.table.costs) w.self-is ∙ w.leave_kernel.ensures.keeps.costs
          ∙ ap (λ (k : Kernel). k.table.costs) w.in-Err.ensures.same
      | else-self w ↦ ap (λ (b : ActiveTable). b.kernel.table.costs) w.self-is
    ] in
    let box = subst (λ (b : CostBox). IsBox (length b.low) costs) (sym costs_are) c.requires.ranges in
    moved_beside a c.rebase-2.new.self costs out active box c.rebase-2.ensures.rebased c.rebase-2.ensures.tableau c.rebase-2.ensures.room
