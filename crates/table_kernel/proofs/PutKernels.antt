-- A kernel whose constants were put is one, where its lines are at a basis.
use Rattle.std.specs.declared.alloc.Global.{Global}
use Rattle.std.proofs.Common.{Vec, ◌≡◌, ◌^◌, ◌∙◌, refl, subst, sym}
use Rattle.std.specs.Prelude.{ℤ, All}
use Rattle.design_problem.specs.Boxes.{IsBox}
use Rattle.fraction_table.specs.Tableaus.{FitsBox}
use Rattle.integer_pivots.specs.Numbers.{AllWithin}
use Rattle.table_kernel.specs.declared.kernel.Kernel.{Kernel}
use Rattle.table_kernel.specs.Constants.{AreConstantsPut, KeepsAllButConstants}
use Rattle.table_kernel.specs.Kernels.{IsKernel, IsMoving, width_of}
use Rattle.table_kernel.proofs.AtBasis.{basis_kernel}

-- the kernel with these constants
kernel_with : (s : Kernel) (constants : Vec ℤ Global) → IsMoving s → IsBox (width_of s) s.table.costs →
    All (FitsBox s.table.costs) s.table.rows.items → AreConstantsPut s constants.items → AllWithin (2 ^ 62) constants.items →
    IsKernel (record s { constants = constants })
kernel_with s constants m box fit are small =
    basis_kernel (record s { constants = constants })
    (record {
      room = m.shaped.room;
      lows = m.shaped.lows;
      each = m.shaped.each;
      leads = m.shaped.leads;
      lead = m.shaped.lead;
      constants = are.count ∙ m.shaped.constants;
      uses = m.shaped.uses;
      turns = m.shaped.turns;
      left = m.shaped.left;
      entering = m.shaped.entering;
      lines = m.shaped.lines ∙ sym are.count;
      wide = m.shaped.wide;
    })
    (record {
      top = m.bounded.top;
      positive = m.bounded.positive;
      common = m.bounded.common;
      lines = m.bounded.lines;
      divides = m.bounded.divides;
      low = m.bounded.low;
      constants = small;
      rows = m.bounded.rows;
    })
    box fit m.basis are.each

pub put_kernel : (s n : Kernel) → IsMoving s → IsBox (width_of s) s.table.costs → All (FitsBox s.table.costs) s.table.rows.items →
    AreConstantsPut s n.constants.items → AllWithin (2 ^ 62) n.constants.items → KeepsAllButConstants s n → IsKernel n
put_kernel s n m box fit are small keeps =
    subst IsKernel (sym rebuilt) (kernel_with s n.constants m box fit are small)
  where
    rebuilt : n ≡ record s { constants = n.constants }
    rebuilt = rw (sym keeps.table, sym keeps.common, sym keeps.lows, sym keeps.leads, sym keeps.uses, sym keeps.turns, sym keeps.left, sym keeps.entering) refl
