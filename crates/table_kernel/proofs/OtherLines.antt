-- A kernel with other lines and leads, over another common denominator.
use Rattle.std.specs.declared.alloc.Global.{Global}
use Prim.Native.Nat.{◌∣◌}
use Rattle.std.proofs.Common.{Vec, ◌≡◌, ℕ, ◌*◌, ◌^◌, ◌≤◌, refl, sym, ◌∙◌, ap, subst, List, length, arith}
use Rattle.std.specs.Prelude.{ℤ, pos, ◌<ℤ◌, ◌≤ℤ◌, nat_abs, All}
use Rattle.std.specs.Vec.{with_items}
use Rattle.std.proofs.lemmas.List.{with_items_is}
use Rattle.integer_pivots.specs.declared.line.Line.{Line}
use Rattle.integer_pivots.specs.Leads.{AreLeads}
use Rattle.integer_pivots.specs.Lines.{IsLine, rows_of}
use Rattle.integer_pivots.specs.Numbers.{AllWithin}
use Rattle.table_kernel.specs.declared.kernel.Kernel.{Kernel}
use Rattle.table_kernel.specs.Kernels.{IsBounded, IsShaped, width_of}
use Rattle.table_kernel.specs.Numbers.{share_of}
use Rattle.table_kernel.specs.Rows.{IsCovered}
use Rattle.table_kernel.specs.Turns.{KeepsAllButLows}

-- a kernel with other lines, leads and another common denominator
abbrev pub with_lines : Kernel → Vec Line Global → Vec ℕ Global → ℤ → Kernel
with_lines k lows leads z = record k { common = z; lows = lows; leads = leads }

-- what a step over lines leaves, once the leads and the common denominator are put
abbrev pub with_leads : Kernel → Vec ℕ Global → ℤ → Kernel
with_leads h leads z = record h { common = z; leads = leads }

pub but_lows : (k h : Kernel) (leads : Vec ℕ Global) (z : ℤ) → KeepsAllButLows k h → with_leads h leads z ≡ with_lines k h.lows leads z
but_lows k h leads z o = rw (sym o.table, sym o.constants, sym o.uses, sym o.turns, sym o.left, sym o.entering) refl

-- leads that were put, as many as before
pub leads_are : (k h : Kernel) (befores afters : List ℕ) → KeepsAllButLows k h → befores ≡ h.leads.items → length afters ≡ length befores →
    ((with_items h.leads afters).items ≡ afters) × (length (with_items h.leads afters).items ≡ length k.leads.items)
leads_are k h befores afters o befores_are counted =
    let long : length afters ≡ length h.leads.items = counted ∙ ap length befores_are in
    let are : (with_items h.leads afters).items ≡ afters = with_items_is h.leads afters (omega (arith, long, h.leads.ok.0)) in
    (are, ap length are ∙ long ∙ ap (λ (vs : Vec ℕ Global). length vs.items) o.leads)

module _ (k h : Kernel) (leads : Vec ℕ Global) (z : ℤ) (o : KeepsAllButLows k h) where
  -- the kernel is as long as before
  pub shaped_with : IsShaped k → length h.lows.items ≡ width_of k → All (λ (line : Line). length line.numbers ≡ width_of k) h.lows.items →
      length leads.items ≡ length k.leads.items → AreLeads (rows_of h.lows.items) leads.items → IsShaped (with_leads h leads z)
  shaped_with s many long counted lead =
      subst IsShaped (sym (but_lows k h leads z o))
      (record {
        room = s.room;
        lows = many;
        each = long;
        leads = counted ∙ s.leads;
        lead = lead;
        constants = s.constants;
        uses = s.uses;
        turns = s.turns;
        left = s.left;
        entering = s.entering;
        lines = s.lines;
        wide = s.wide;
      })

  -- and its numbers are within the bounds
  pub bounded_with : 2 ^ 126 ≤ k.table.top → AllWithin (2 ^ 62) k.constants.items → All IsCovered k.table.rows.items →
      pos 0 <ℤ z → z ≤ℤ pos (2 ^ 30) → All IsLine h.lows.items → All (λ (line : Line). nat_abs line.denominator ∣ nat_abs z) h.lows.items →
      All (λ (line : Line). nat_abs line.constant * share_of (nat_abs z) line ≤ 2 ^ 44) h.lows.items → IsBounded (with_leads h leads z)
  bounded_with top constants rows positive small lines divides limit =
      subst IsBounded (sym (but_lows k h leads z o))
      (record { top = top; positive = positive; common = small; lines = lines; divides = divides; low = limit; constants = constants; rows = rows })
