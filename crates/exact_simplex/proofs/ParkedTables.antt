-- A kernel whose table goes on in fractions stays one that can be read back.
use Rattle.std.proofs.Common.{◌≡◌, ℕ, suc, ◌≤◌, sym, ◌∙◌, ap, subst, List, [], length, arith, All, Bool, true, false, inl, inr}
use Rattle.std.specs.declared.result.Result.TheVariants.{Ok, Err}
use Rattle.std.specs.Prelude.{Result, OnOk, vec_capacity}
use Rattle.std.specs.Result.{is_ok}
use Rattle.std.proofs.lemmas.List.{get_or_default}
use Rattle.whole_numbers.specs.Fractions.{Fraction}
use Rattle.design_problem.specs.declared.boxes.CostBox.{CostBox}
use Rattle.design_problem.specs.declared.form.Form.{Form}
use Rattle.design_problem.specs.Boxes.{IsBox}
use Rattle.fraction_table.specs.declared.stage.Stage.TheVariants.{Open}
use Rattle.fraction_table.specs.declared.table.Table.{Table}
use Rattle.fraction_table.specs.Pivots.{KeepsBoxAndRows}
use Rattle.fraction_table.specs.Tableaus.{Held, IsRebased}
use Rattle.fraction_table.specs.ValidTables.{HasRoom, IsTableau, held_of}
use Rattle.fraction_table.proofs.Pivots.{line_long, lines_long, members_long}
use Rattle.integer_pivots.specs.declared.line.Line.{Line}
use Rattle.integer_pivots.specs.Uses.{uses_by}
use Rattle.table_kernel.specs.declared.kernel.Kernel.{Kernel}
use Rattle.table_kernel.specs.declared.kernel.OutOfRange.{OutOfRange}
use Rattle.table_kernel.specs.Kernels.{IsKernel, IsShaped, width_of}
use Rattle.table_kernel.specs.ReadBack.{IsParked}
use Rattle.exact_simplex.specs.declared.active.ActiveTable.{ActiveTable}
use Rattle.exact_simplex.specs.Actives.{IsActive}
use Rattle.exact_simplex.proofs.Actives.{clash, whole_beside}

-- each line of a whole table has a number for each variable and one more
lines_wide : (t : Table) → IsTableau t → All (λ line. length line ≡ suc (length t.costs.low)) t.lines.items
lines_wide t w i d i_in =
    subst (λ (line : List Fraction). length line ≡ suc (length t.costs.low)) (get_or_default t.lines.items i [] d i_in) (line_long t w i i_in)

-- a kernel's lists fit another whole table of as many variables and of the same rows
shaped_with : (k : Kernel) (t : Table) → IsShaped k → IsTableau t → HasRoom t → length t.costs.low ≡ width_of k →
    t.rows.items ≡ k.table.rows.items → IsShaped (record k { table = t })
shaped_with k t s w room width rows =
    let many = ap length rows in
    record {
      room = room;
      lows = s.lows ∙ sym width;
      each = subst (λ (n : ℕ). All (λ (line : Line). length line.numbers ≡ n) k.lows.items) (sym width) s.each;
      leads = s.leads ∙ sym width;
      lead = s.lead;
      constants = omega (arith, s.constants, members_long k.table.costs (length k.table.rows.items), members_long t.costs (length t.rows.items), width, many);
      uses = s.uses ∙ ap (λ (fs : List Form). uses_by fs (width_of k)) (sym rows) ∙ ap (uses_by t.rows.items) (sym width);
      turns = s.turns ∙ sym width;
      left = subst (λ (n : ℕ). n ≤ vec_capacity k.left) (sym width) s.left;
      entering = s.entering ∙ sym width;
      lines = omega (arith, lines_long t w, s.constants, members_long k.table.costs (length k.table.rows.items), width, many);
      wide = lines_wide t w;
    }

-- a parked kernel stays parked with such a table
pub parked_with : (k : Kernel) (t : Table) → IsParked k → IsTableau t → HasRoom t → length t.costs.low ≡ width_of k →
    t.rows.items ≡ k.table.rows.items → IsParked (record k { table = t })
parked_with k t p w room width rows = record { shaped = shaped_with k t p.shaped w room width rows; constants = p.constants }

-- a table in fractions that is worked on, beside a parked kernel
beside : (b : Bool) (k : Kernel) (t : Table) → b ≡ false → IsParked k → IsTableau t → HasRoom t → length t.costs.low ≡ width_of k →
    t.rows.items ≡ k.table.rows.items → IsActive (record { kernel = record k { table = t }; in_kernel = b })
beside true k t out p w room width rows = absurd (clash (sym out))
beside false k t out p w room width rows =
    record { tableau = w; kernel = λ is. absurd (clash is); parked = parked_with k t p w room width rows; room = room }

-- a table that moved has the new box and the old rows
rebased_keeps : (old new : Held) (costs : CostBox) → IsRebased old costs new → (new.costs ≡ costs) × (new.rows ≡ old.rows)
rebased_keeps old new costs (inl is) = (ap (λ (h : Held). h.costs) is, ap (λ (h : Held). h.rows) is)
rebased_keeps old new costs (inr is) = (ap (λ (h : Held). h.costs) is.1, ap (λ (h : Held). h.rows) is.1)

-- the table in fractions is whole after a step that isn't too wide
pub stepped_beside : (a : ActiveTable) (t : Table) → a.in_kernel ≡ false → IsActive a →
    KeepsBoxAndRows a.kernel.table t → HasRoom t → IsTableau t →
    IsActive (record { kernel = record a.kernel { table = t }; in_kernel = a.in_kernel })
stepped_beside a t out active keeps room w =
    beside a.in_kernel a.kernel t out active.parked w room (ap (λ (costs : CostBox). length costs.low) keeps.costs) keeps.rows

-- and after a move to another box
pub moved_beside : (a : ActiveTable) (t : Table) (costs : CostBox) → a.in_kernel ≡ false → IsActive a →
    IsBox (length a.kernel.table.costs.low) costs → IsRebased (held_of a.kernel.table Open) costs (held_of t Open) →
    IsTableau t → HasRoom t → IsActive (record { kernel = record a.kernel { table = t }; in_kernel = a.in_kernel })
moved_beside a t costs out active box rebased w room =
    let keeps = rebased_keeps (held_of a.kernel.table Open) (held_of t Open) costs rebased in
    beside a.in_kernel a.kernel t out active.parked w room (ap (λ (now : CostBox). length now.low) keeps.0 ∙ box.low_count) keeps.1

-- a kernel works on where it was read back; else the table in fractions does
pub read_back_or_beside : (b : Bool) (a : ActiveTable) (k : Kernel) (found : Result (Unit {0}) OutOfRange) → b ≡ is_ok found →
    a.in_kernel ≡ false → IsActive a → k.table ≡ a.kernel.table → IsParked k → OnOk found (IsKernel k) →
    IsActive (record { kernel = k; in_kernel = b })
read_back_or_beside b a k (Ok done) is out active same parked kernel =
    subst (λ (inside : Bool). IsActive (record { kernel = k; in_kernel = inside })) (sym is)
    (record { tableau = kernel.tableau; kernel = λ there. kernel; parked = parked; room = parked.shaped.room })
read_back_or_beside b a k (Err refused) is out active same parked kernel =
    subst (λ (inside : Bool). IsActive (record { kernel = k; in_kernel = inside })) (sym is)
    (record {
      tableau = subst IsTableau (sym same) (whole_beside a.in_kernel a.kernel out active.tableau);
      kernel = λ there. absurd (clash there);
      parked = parked;
      room = parked.shaped.room;
    })
