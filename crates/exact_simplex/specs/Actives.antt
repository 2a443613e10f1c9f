-- The table that a tableau works on, what it keeps, and when the kernel of whole numbers works.
use Rattle.std.specs.Prelude.{◌≡◌, ℕ, ◌^◌, ◌≤◌, List, Bool, true, false}
use Rattle.design_problem.specs.declared.form.Form.{Form}
use Rattle.design_problem.specs.declared.boxes.CostBox.{CostBox}
use Rattle.design_problem.specs.declared.tree.Member.{Member}
use Rattle.design_problem.specs.Basis.{IsBasis}
use Rattle.fraction_table.specs.declared.stage.Stage.{Stage}
use Rattle.fraction_table.specs.declared.table.Table.{Table}
use Rattle.fraction_table.specs.Tableaus.{Held, IsGoing}
use Rattle.fraction_table.specs.ValidTables.{HasRoom, IsShown, IsTableau, held_of}
use Rattle.table_kernel.specs.declared.kernel.Kernel.{Kernel}
use Rattle.table_kernel.specs.Kernels.{IsKernel, stated}
use Rattle.table_kernel.specs.Moves.{MayMove, box_distance}
use Rattle.table_kernel.specs.ReadBack.{IsParked, MayReadBack}
use Rattle.table_kernel.specs.Turns.{IsHeldUp}
use Rattle.exact_simplex.specs.declared.active.ActiveTable.{ActiveTable}

-- the table in fractions that a kernel stands for, or the one beside it
abbrev pub table_in : Bool → Kernel → Table
table_in true kernel = stated kernel
table_in false kernel = kernel.table

-- the table that an active one works on: that of its kernel, or the one in fractions beside it
abbrev pub table_of : ActiveTable → Table
table_of a = table_in a.in_kernel a.kernel

-- The lines that are worked on are the table of the box and the rows at the basis. Where the kernel of whole numbers
-- works, its numbers are those of such a table; and at all times its lists and leads are fit for going back to it.
pub record IsActive (a : ActiveTable) : Type 0 where
  pub tableau : IsTableau (table_of a)
  pub kernel : a.in_kernel ≡ true → IsKernel a.kernel
  pub parked : IsParked a.kernel
  pub room : HasRoom a.kernel.table

-- What contracts see of a tableau: what it holds, and whether the kernel of whole numbers works, or else fractions do.
pub record TableauState : Type 0 where
  pub top : ℕ
  pub costs : CostBox
  pub rows : List Form
  pub basis : List Member
  pub stage : Stage
  pub in_kernel : Bool

-- what a tableau holds, whether the kernel works or the table in fractions
abbrev pub held_by : TableauState → Held
held_by t = record { top = t.top; costs = t.costs; rows = t.rows; basis = t.basis; stage = t.stage }

-- what contracts see of a tableau that works on this table
abbrev pub state_of : ActiveTable → Stage → TableauState
state_of a stage = record {
  top = a.kernel.table.top;
  costs = a.kernel.table.costs;
  rows = a.kernel.table.rows.items;
  basis = a.kernel.table.basis.items;
  stage = stage;
  in_kernel = a.in_kernel;
}

-- a kernel over the box and the rows that are held, whose bounds don't cover the pivot that is due
pub record WasHeldUp (h : Held) : Type 0 where
  pub kernel : Kernel
  pub whole : IsKernel kernel
  pub top : kernel.table.top ≡ h.top
  pub costs : kernel.table.costs ≡ h.costs
  pub rows : kernel.table.rows.items ≡ h.rows
  pub held_up : IsHeldUp kernel

-- a kernel over what is held, whose bounds don't cover a move of the bounds as far as to another box
pub record CouldNotMove (h : Held) (costs : CostBox) : Type 0 where
  pub kernel : Kernel
  pub whole : IsKernel kernel
  pub holds : held_of kernel.table h.stage ≡ h
  pub far : MayMove kernel (box_distance h.costs costs) → ⊥

-- the kernel may work on a table in fractions: at its width, and within its bounds
pub record MayReturn (t : Table) : Type 0 where
  pub wide : 2 ^ 126 ≤ t.top
  pub covered : MayReadBack t

-- a table in fractions of what is held, on which the kernel may not work
pub record CannotReturn (h : Held) : Type 0 where
  pub table : Table
  pub tableau : IsTableau table
  pub holds : held_of table h.stage ≡ h
  pub beyond : MayReturn table → ⊥

-- Until a step stops it, a tableau's lines are the table of its box and rows at its basis; they show what it found. At
-- all times its basis is one of the box and the rows, and its two work lines are as wide as the others.
pub record IsSoundActive (a : ActiveTable) (stage : Stage) : Type 0 where
  pub active : IsGoing stage → IsActive a
  pub shown : IsShown a.kernel.table.basis.items (table_of a).lines.items stage
  pub basis : IsBasis a.kernel.table.costs a.kernel.table.rows.items a.kernel.table.basis.items
  pub room : HasRoom a.kernel.table
