-- A kernel that holds the same numbers in other room is one, too.
use Rattle.std.specs.declared.alloc.Global.{Global}
use Prim.Native.Nat.{◌∣◌}
use Rattle.std.proofs.Common.{Vec, ◌≡◌, ℕ, suc, ◌*◌, ◌^◌, ◌≤◌, refl, sym, ◌∙◌, ap, subst, List, length, map, arith}
use Rattle.std.specs.Prelude.{ℤ, pos, ◌<ℤ◌, ◌≤ℤ◌, nat_abs, All}
use Rattle.whole_numbers.specs.Fractions.{Fraction}
use Rattle.design_problem.specs.declared.form.Form.{Form}
use Rattle.design_problem.specs.declared.boxes.CostBox.{CostBox}
use Rattle.design_problem.specs.declared.tree.Member.{Member}
use Rattle.design_problem.specs.Boxes.{IsBox}
use Rattle.fraction_table.specs.declared.table.Table.{Table}
use Rattle.fraction_table.specs.RowLines.{HoldsSame}
use Rattle.fraction_table.specs.Tableaus.{FitsBox}
use Rattle.fraction_table.specs.ValidTables.{members_of_box}
use Rattle.integer_pivots.specs.Leads.{AreLeads}
use Rattle.integer_pivots.specs.declared.line.Line.{Line}
use Rattle.integer_pivots.specs.Lines.{IsLine, rows_of}
use Rattle.integer_pivots.specs.Numbers.{AllWithin, weight_of}
use Rattle.integer_pivots.specs.declared.turned_line.Turn.{Turn}
use Rattle.integer_pivots.proofs.UseLaws.{uses_kept}
use Rattle.table_kernel.specs.declared.kernel.Kernel.{Kernel}
use Rattle.table_kernel.specs.Kernels.{IsBounded, IsKernel, IsShaped, kernel_lines, lows_of, stated, width_of}
use Rattle.table_kernel.specs.Bases.{AreAtBasis}
use Rattle.table_kernel.specs.Constants.{AreConstants}
use Rattle.table_kernel.specs.Numbers.{scaled_line, share_of}
use Rattle.table_kernel.specs.Rows.{HoldsNumbers}
use Rattle.table_kernel.proofs.AtBasis.{basis_kernel, kernel_basis, stated_lines}

pub same_shaped : (old new : Kernel) → HoldsSame old.table new.table → HoldsNumbers old new → IsShaped old → IsShaped new
same_shaped old new t h s =
    let width : width_of new ≡ width_of old = ap (λ (costs : CostBox). length costs.low) t.costs in
    let constants = ap length h.constants in
    let counted : length (members_of_box new.table.costs (length new.table.rows.items)) ≡
    length (members_of_box old.table.costs (length old.table.rows.items)) =
    ap (λ (costs : CostBox). length (members_of_box costs (length new.table.rows.items))) t.costs
    ∙ ap (λ (rows : List Form). length (members_of_box old.table.costs (length rows))) t.rows in
    record {
      room = record {
        few = omega (arith, width, s.room.few);
        quotients = ap length t.quotients ∙ s.room.quotients ∙ ap suc (sym width);
        scratch = ap length t.scratch ∙ s.room.scratch ∙ ap suc (sym width);
      };
      lows = ap (λ (ls : Vec Line Global). length ls.items) h.lows ∙ s.lows ∙ sym width;
      each = subst (λ (m : ℕ). All (λ (line : Line). length line.numbers ≡ m) new.lows.items) (sym width)
          (subst (λ (ls : Vec Line Global). All (λ (line : Line). length line.numbers ≡ width_of old) ls.items) (sym h.lows) s.each);
      leads = ap (λ (vs : Vec ℕ Global). length vs.items) h.leads ∙ s.leads ∙ sym width;
      lead = subst (λ (ls : Vec Line Global). AreLeads (rows_of ls.items) new.leads.items) (sym h.lows)
          (subst (λ (vs : Vec ℕ Global). AreLeads (rows_of old.lows.items) vs.items) (sym h.leads) s.lead);
      constants = constants ∙ s.constants ∙ sym counted;
      uses = uses_kept old.uses.items new.uses.items old.table.rows.items new.table.rows.items (width_of old) (width_of new) h.uses t.rows width s.uses;
      turns = ap (λ (ts : Vec Turn Global). length ts.items) h.turns ∙ s.turns ∙ sym width;
      left = omega (arith, width, s.left, h.left);
      entering = ap (λ (line : Line). length line.numbers) h.entering ∙ s.entering ∙ sym width;
      lines = ap length t.lines ∙ s.lines ∙ sym constants;
      wide = subst (λ (m : ℕ). All (λ (row : List Fraction). length row ≡ suc m) new.table.lines.items) (sym width)
          (subst (All (λ (row : List Fraction). length row ≡ suc (width_of old))) (sym t.lines) s.wide);
    }

same_bounded : (old new : Kernel) → HoldsSame old.table new.table → HoldsNumbers old new → IsBounded old → IsBounded new
same_bounded old new t h b =
    record {
      top = subst (λ (top : ℕ). 2 ^ 126 ≤ top) (sym t.top) b.top;
      positive = subst (λ (z : ℤ). pos 0 <ℤ z) (sym h.common) b.positive;
      common = subst (λ (z : ℤ). z ≤ℤ pos (2 ^ 30)) (sym h.common) b.common;
      lines = subst (λ (ls : Vec Line Global). All IsLine ls.items) (sym h.lows) b.lines;
      divides = subst (λ (z : ℤ). All (λ (line : Line). nat_abs line.denominator ∣ nat_abs z) new.lows.items) (sym h.common)
          (subst (λ (ls : Vec Line Global). All (λ (line : Line). nat_abs line.denominator ∣ nat_abs old.common) ls.items) (sym h.lows) b.divides);
      low = subst (λ (z : ℤ). All (λ (line : Line). nat_abs line.constant * share_of (nat_abs z) line ≤ 2 ^ 44) new.lows.items) (sym h.common)
          (subst (λ (ls : Vec Line Global). All (λ (line : Line). nat_abs line.constant * share_of (nat_abs old.common) line ≤ 2 ^ 44) ls.items) (sym h.lows)
          b.low);
      rows = subst (All (λ (row : Form). weight_of row ≤ 2 ^ 16)) (sym t.rows) b.rows;
      constants = subst (AllWithin (2 ^ 62)) (sym h.constants) b.constants;
    }

pub kernel_same : (old new : Kernel) → HoldsSame old.table new.table → HoldsNumbers old new → IsKernel old → IsKernel new
kernel_same old new t h m =
    let costs = old.table.costs in
    let rows = old.table.rows.items in
    let basis = old.table.basis.items in
    let D = nat_abs old.common in
    let there = kernel_basis old m in
    let lows : lows_of new ≡ lows_of old =
    ap (λ (z : ℤ). map (scaled_line (nat_abs z)) new.lows.items) h.common ∙ ap (λ (ls : Vec Line Global). map (scaled_line D) ls.items) h.lows in
    basis_kernel new (same_shaped old new t h m.shaped) (same_bounded old new t h m.bounded)
    (subst (λ (box : CostBox). IsBox (length box.low) box) (sym t.costs) m.tableau.box)
    (subst (λ (box : CostBox). All (FitsBox box) new.table.rows.items) (sym t.costs) (subst (All (FitsBox costs)) (sym t.rows) m.tableau.fit))
    (subst (λ (box : CostBox). AreAtBasis box new.table.rows.items new.table.basis.items (nat_abs new.common) (lows_of new)) (sym t.costs)
    (subst (λ (fs : List Form). AreAtBasis costs fs new.table.basis.items (nat_abs new.common) (lows_of new)) (sym t.rows)
    (subst (λ (ms : List Member). AreAtBasis costs rows ms (nat_abs new.common) (lows_of new)) (sym t.basis)
    (subst (λ (z : ℤ). AreAtBasis costs rows basis (nat_abs z) (lows_of new)) (sym h.common)
    (subst (AreAtBasis costs rows basis D) (sym lows) there.0)))))
    (subst (λ (box : CostBox). AreConstants box new.table.rows.items (nat_abs new.common) (lows_of new) new.constants.items) (sym t.costs)
    (subst (λ (fs : List Form). AreConstants costs fs (nat_abs new.common) (lows_of new) new.constants.items) (sym t.rows)
    (subst (λ (z : ℤ). AreConstants costs rows (nat_abs z) (lows_of new) new.constants.items) (sym h.common)
    (subst (λ (ts : List (List ℤ)). AreConstants costs rows D ts new.constants.items) (sym lows)
    (subst (AreConstants costs rows D (lows_of old)) (sym h.constants) there.1)))))

-- a table holds the same as itself
pub same_table : (t : Table) → HoldsSame t t
same_table t = record { top = refl; costs = refl; rows = refl; basis = refl; lines = refl; quotients = refl; scratch = refl }

-- and it stands for the same lines
pub lines_same : (old new : Kernel) → HoldsSame old.table new.table → HoldsNumbers old new → IsKernel old → (stated new).lines.items ≡ (stated old).lines.items
lines_same old new t k kernel =
    stated_lines new (kernel_same old new t k kernel).shaped
    ∙ same
    ∙ sym (stated_lines old kernel.shaped)
  where
    same : kernel_lines new ≡ kernel_lines old
    same = rw (t.costs, t.rows, k.common, k.lows) refl
