-- Kernels whose table goes on in fractions.
use Rattle.std.proofs.Common.{◌≡◌, ℕ, suc, ◌^◌, sym, ◌∙◌, ap, subst, List, [], length, arith}
use Rattle.std.specs.Prelude.{pos}
use Rattle.std.proofs.lemmas.List.{get_or_default}
use Rattle.whole_numbers.specs.Fractions.{Fraction}
use Rattle.design_problem.specs.declared.form.Form.{Form}
use Rattle.design_problem.specs.declared.boxes.CostBox.{CostBox}
use Rattle.fraction_table.specs.declared.stage.Stage.TheVariants.{Open}
use Rattle.fraction_table.specs.RowLines.{HoldsSame}
use Rattle.fraction_table.specs.Tableaus.{Held, starting}
use Rattle.fraction_table.specs.ValidTables.{IsSound, IsTableau, held_of}
use Rattle.fraction_table.proofs.Pivots.{line_long, lines_long, members_long}
use Rattle.integer_pivots.specs.Numbers.{AllWithin}
use Rattle.integer_pivots.proofs.Sizes.{wider}
use Rattle.table_kernel.specs.declared.kernel.Kernel.{Kernel}
use Rattle.table_kernel.specs.Kernels.{IsKernel, IsShaped, width_of}
use Rattle.table_kernel.specs.ReadBack.{IsParked}
use Rattle.table_kernel.specs.Rows.{HoldsNumbers}
use Rattle.table_kernel.proofs.MoreRows.{AreLinesWide, IsGrown, constants_counted, grown_shaped, grown_small}
use Rattle.table_kernel.proofs.SameKernels.{same_shaped}
use Rattle.table_kernel.proofs.StartKernels.{IsStarting, starting_shaped}

-- a kernel may be left for its table in fractions
pub kernel_parked : (k : Kernel) → IsKernel k → IsParked k
kernel_parked k m = record { shaped = m.shaped; constants = m.bounded.constants }

-- and so may one with other room
pub parked_same : (old new : Kernel) → HoldsSame old.table new.table → HoldsNumbers old new → IsParked old → IsParked new
parked_same old new t h p = record {
  shaped = same_shaped old new t h p.shaped;
  constants = subst (AllWithin (2 ^ 62)) (sym h.constants) p.constants;
}

-- so may one at the starting basis, whatever the top
pub started_parked : (k : Kernel) (costs : CostBox) (top : ℕ) →
    held_of k.table Open ≡ record { top = top; costs = costs; rows = []; basis = starting costs; stage = Open } →
    IsSound k.table Open → IsStarting k costs → IsParked k
started_parked k costs top held sound s =
    let costs_are : k.table.costs ≡ costs = ap (λ (h : Held). h.costs) held in
    record {
      shaped = starting_shaped k (sound.tableau tt) sound.room (ap (λ (h : Held). h.rows) held) (subst (IsStarting k) (sym costs_are) s);
      constants = wider (2 ^ 27) (2 ^ 62) k.constants.items (omega arith) s.small;
    }

-- a whole table has a line for each form, as wide as the columns
whole_wide : (old new : Kernel) (f : Form) → IsShaped old → IsGrown old new f (pos 0) → IsTableau new.table → AreLinesWide new
whole_wide old new f s g w =
    let t = new.table in
    record {
      lines = lines_long t w ∙ sym (members_long t.costs (length t.rows.items)) ∙ sym (constants_counted old new f (pos 0) s g);
      wide = λ place d place_in.
          subst (λ (line : List Fraction). length line ≡ suc (width_of new)) (get_or_default t.lines.items place [] d place_in)
          (line_long t w place place_in);
    }

-- one more row, for whose constant 0 stands until lines are read
pub parked_more : (old new : Kernel) (f : Form) → IsParked old → IsGrown old new f (pos 0) → IsTableau new.table → IsParked new
parked_more old new f p g w = record {
  shaped = grown_shaped old new f (pos 0) p.shaped g (whole_wide old new f p.shaped g w);
  constants = grown_small old new f (pos 0) p.constants (omega arith) g;
}
