-- What the constants need to follow the lines that have turned, where the common denominator stays.
use Rattle.std.specs.declared.alloc.Global.{Global}
use Rattle.std.proofs.Common.{Vec, ◌≡◌, ℕ, ◌<◌, sym, ◌∙◌, ap, subst, length, arith, to_z, of_z, w64}
use Rattle.std.specs.Prelude.{ℤ, pos}
use Rattle.whole_numbers.specs.Lists.{number_at}
use Rattle.integer_pivots.specs.declared.line.Line.{Line}
use Rattle.integer_pivots.specs.declared.turned_line.Turn.{Turn}
use Rattle.integer_pivots.proofs.Sizes.{read}
use Rattle.table_kernel.specs.declared.kernel.Kernel.{Kernel}
use Rattle.table_kernel.specs.Constants.{AreByFirst, AreFirstSmall, constant_of_line, line_constant}
use Rattle.table_kernel.specs.Kernels.{IsKernel, width_of}
use Rattle.table_kernel.specs.Turns.{AreLinesTurned, IsReadyToTurn, KeepsAllButLows, held_turn}
use Rattle.table_kernel.proofs.FirstConstants.{by_first, first_small, low_first}
use Rattle.table_kernel.proofs.Lines.{read_common}
use Rattle.table_kernel.proofs.OtherLines.{but_lows, with_leads, with_lines}

-- the common denominator stays where its bits do
pub common_stays : (k h : Kernel) (column : ℕ) (common : ℤ) → IsReadyToTurn k column → KeepsAllButLows k h →
    of_z w64 common ≡ of_z w64 h.common → read common ≡ h.common
common_stays k h column common r o same = ap (to_z w64) same ∙ subst (λ (z : ℤ). read z ≡ z) (sym o.common) (read_common k.common r.common)

-- the kernel is the one before with other lines and leads
pub but_lines : (k h : Kernel) (leads : Vec ℕ Global) → KeepsAllButLows k h → with_leads h leads h.common ≡ with_lines k h.lows leads k.common
but_lines k h leads o = ap (with_leads h leads) o.common ∙ but_lows k h leads k.common o

module _ (k h : Kernel) (leads : Vec ℕ Global) (m : IsKernel k) (o : KeepsAllButLows k h) where
  pub first_kept : AreFirstSmall (with_leads h leads h.common) h.constants.items
  first_kept = subst (λ (n : Kernel). AreFirstSmall n n.constants.items) (sym (but_lines k h leads o)) (first_small k m)

  pub made_kept : AreByFirst (with_leads h leads h.common) h.constants.items
  made_kept =
      let b = by_first k m in
      subst (λ (n : Kernel). AreByFirst n n.constants.items) (sym (but_lines k h leads o)) (record { count = b.count; high = b.high; rows = b.rows })

  -- where a line hasn't turned, its constant is there
  pub constants_stay : (column : ℕ) → IsReadyToTurn k column → AreLinesTurned k h column →
      (v : ℕ) → v < width_of (with_leads h leads h.common) → (held_turn (with_leads h leads h.common) v).factor ≡ pos 0 →
      number_at h.constants.items v ≡ constant_of_line (with_leads h leads h.common) v
  constants_stay column r t =
      subst (λ (n : Kernel). (v : ℕ) → v < width_of n → (held_turn n v).factor ≡ pos 0 → number_at n.constants.items v ≡ constant_of_line n v)
      (sym (but_lines k h leads o)) here
    where
      here : (v : ℕ) → v < width_of k → (held_turn k v).factor ≡ pos 0 →
          number_at k.constants.items v ≡ constant_of_line (with_lines k h.lows leads k.common) v
      here v v_in none =
          let there : v < length k.lows.items = omega (arith, v_in, r.lows) in
          let factor = ap (λ (turn : Turn). turn.factor) (sym (r.turns.each v there)) ∙ none in
          low_first k m v v_in ∙ ap (λ (line : Line). line_constant k.common line) (sym (t.stays v there factor))
