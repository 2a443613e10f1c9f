-- Kernels that differ in their room alone.
use Rattle.std.proofs.Common.{◌≡◌, ◌≤◌, refl, sym, ◌∙◌, ap, subst, length, arith}
use Rattle.std.specs.Prelude.{vec_capacity}
use Rattle.table_kernel.specs.declared.kernel.Kernel.{Kernel}
use Rattle.table_kernel.specs.Kernels.{IsKernel, stated}
use Rattle.table_kernel.specs.Lines.{KeepsNumbers}

-- the one kernel is the other with another room
pub rebuilt : (old new : Kernel) → KeepsNumbers old new → new ≡ record old { turns = new.turns; left = new.left; entering = new.entering }
rebuilt old new keeps =
    rw (
      sym keeps.table,
      sym keeps.common,
      sym keeps.lows,
      sym keeps.leads,
      sym keeps.constants,
      sym keeps.uses,
    ) refl

-- so it stands for the same table
pub same_stated : (old new : Kernel) → KeepsNumbers old new → stated new ≡ stated old
same_stated old new keeps = ap stated (rebuilt old new keeps)

-- and is a kernel, too
pub keeps_kernel : (old new : Kernel) → KeepsNumbers old new → IsKernel old → IsKernel new
keeps_kernel old new keeps m =
    subst IsKernel (sym (rebuilt old new keeps))
    (record {
      shaped = record {
        room = m.shaped.room;
        lows = m.shaped.lows;
        each = m.shaped.each;
        leads = m.shaped.leads;
        lead = m.shaped.lead;
        constants = m.shaped.constants;
        uses = m.shaped.uses;
        turns = keeps.turns ∙ m.shaped.turns;
        entering = keeps.entering ∙ m.shaped.entering;
        left = omega (arith, keeps.left, m.shaped.left);
        lines = m.shaped.lines;
        wide = m.shaped.wide;
      };
      bounded = record {
        top = m.bounded.top;
        positive = m.bounded.positive;
        common = m.bounded.common;
        lines = m.bounded.lines;
        divides = m.bounded.divides;
        low = m.bounded.low;
        constants = m.bounded.constants;
        rows = m.bounded.rows;
      };
      tableau = m.tableau;
      numbers = record { common = m.numbers.common; lows = m.numbers.lows; constants = m.numbers.constants };
    })

-- where the columns that are left alone differ
pub left_keeps : (old new : Kernel) → new ≡ record old { left = new.left } → vec_capacity old.left ≤ vec_capacity new.left → KeepsNumbers old new
left_keeps old new is room = record {
  table = ap (λ (k : Kernel). k.table) is;
  common = ap (λ (k : Kernel). k.common) is;
  lows = ap (λ (k : Kernel). k.lows) is;
  leads = ap (λ (k : Kernel). k.leads) is;
  constants = ap (λ (k : Kernel). k.constants) is;
  uses = ap (λ (k : Kernel). k.uses) is;
  turns = ap (λ (k : Kernel). length k.turns.items) is;
  entering = ap (λ (k : Kernel). length k.entering.numbers) is;
  left = room;
}

-- one room after the other
pub keeps_twice : (first second third : Kernel) → KeepsNumbers first second → KeepsNumbers second third → KeepsNumbers first third
keeps_twice first second third k l = record {
  table = l.table ∙ k.table;
  common = l.common ∙ k.common;
  lows = l.lows ∙ k.lows;
  leads = l.leads ∙ k.leads;
  constants = l.constants ∙ k.constants;
  uses = l.uses ∙ k.uses;
  turns = l.turns ∙ k.turns;
  entering = l.entering ∙ k.entering;
  left = omega (arith, k.left, l.left);
}
