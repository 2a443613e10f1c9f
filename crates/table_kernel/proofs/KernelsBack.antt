-- A kernel whose lines were read back from the table in fractions.
use Rattle.std.specs.declared.alloc.Global.{Global}
use Rattle.std.proofs.Common.{Vec, ◌≡◌, ℕ, ◌^◌, ◌≤◌, refl, sym, ◌∙◌, subst, List, map, length}
use Rattle.std.specs.Prelude.{ℤ, nat_abs, All}
use Rattle.std.specs.Vec.{with_items}
use Rattle.whole_numbers.proofs.Sizes.{size_positive}
use Rattle.design_problem.specs.Boxes.{IsBox}
use Rattle.fraction_table.specs.declared.table.Table.{Table}
use Rattle.fraction_table.specs.Tableaus.{FitsBox}
use Rattle.fraction_table.specs.ValidTables.{IsTableau}
use Rattle.integer_pivots.specs.declared.line.Line.{Line}
use Rattle.integer_pivots.specs.Leads.{AreLeads}
use Rattle.integer_pivots.specs.Lines.{IsLine, rows_of}
use Rattle.integer_pivots.specs.Numbers.{AllWithin}
use Rattle.integer_pivots.proofs.Sizes.{read}
use Rattle.table_kernel.specs.declared.kernel.Kernel.{Kernel}
use Rattle.table_kernel.specs.Bases.{AreAtBasis}
use Rattle.table_kernel.specs.Constants.{AreConstantsPut, KeepsAllButConstants, MayPutConstants}
use Rattle.table_kernel.specs.Kernels.{IsBounded, IsKernel, IsMoving, IsShaped, kernel_lines, lows_of, width_of}
use Rattle.table_kernel.specs.Numbers.{fraction_lines, scaled_line}
use Rattle.table_kernel.specs.ReadBack.{IsLeastCommon, IsParked}
use Rattle.table_kernel.specs.Rows.{IsCovered}
use Rattle.table_kernel.specs.Turns.{KeepsAllButLows}
use Rattle.table_kernel.proofs.FittingConstants.{FitsIn}
use Rattle.table_kernel.proofs.Lines.{read_common}
use Rattle.table_kernel.proofs.OtherLines.{bounded_with, leads_are, shaped_with, with_leads}
use Rattle.table_kernel.proofs.PutKernels.{put_kernel}
use Rattle.table_kernel.proofs.ReadBases.{AreReadFrom, read_basis, rows_crossed}
use Rattle.table_kernel.proofs.ReadTables.{lines_same}

-- other lines of a kernel, as many and as long as before, with their leads
pub record HasLines (k h : Kernel) (leads : Vec ℕ Global) : Type 0 where
  pub keeps : KeepsAllButLows k h
  pub count : length h.lows.items ≡ width_of k
  pub each : All (λ (line : Line). length line.numbers ≡ width_of k) h.lows.items
  pub leads_count : length leads.items ≡ length k.leads.items
  pub lead : AreLeads (rows_of h.lows.items) leads.items

-- the leads were put by the lines
pub has_lines : (k h : Kernel) (befores afters : List ℕ) (lows : List Line) → KeepsAllButLows k h → length h.lows.items ≡ width_of k →
    All (λ (line : Line). length line.numbers ≡ width_of k) h.lows.items → befores ≡ h.leads.items → lows ≡ h.lows.items →
    length afters ≡ length befores → AreLeads (rows_of lows) afters → HasLines k h (with_items h.leads afters)
has_lines k h befores afters lows o count each befores_are lows_are counted lead =
    let put = leads_are k h befores afters o befores_are counted in
    record {
      keeps = o;
      count = count;
      each = each;
      leads_count = put.1;
      lead = subst (AreLeads (rows_of h.lows.items)) (sym put.0) (subst (λ (ls : List Line). AreLeads (rows_of ls) afters) lows_are lead);
    }

-- the lines are small, and so are their constants over their least common denominator
pub record AreFitting (h : Kernel) (common : ℤ) : Type 0 where
  pub lines : All IsLine h.lows.items
  pub least : IsLeastCommon h.lows.items common
  pub fit : All (FitsIn (nat_abs common)) h.lows.items

-- that denominator is read as it is
pub least_read : (lines : List Line) (common : ℤ) → IsLeastCommon lines common → IsLeastCommon lines (read common)
least_read lines common least = subst (IsLeastCommon lines) (sym (read_common common (least.positive, least.small))) least

pub fitting : (h : Kernel) (common : ℤ) → All IsLine h.lows.items → IsLeastCommon h.lows.items common →
    All (FitsIn (nat_abs (read common))) h.lows.items → AreFitting h (read common)
fitting h common lines least fit = record {
  lines = lines;
  least = least_read h.lows.items common least;
  fit = fit;
}

module _ (k h : Kernel) (leads : Vec ℕ Global) (z : ℤ) (p : IsParked k) (r : HasLines k h leads) where
  pub shaped_back : IsShaped (with_leads h leads z)
  shaped_back = shaped_with k h leads z r.keeps p.shaped r.count r.each r.leads_count r.lead

  -- the kernel stays parked
  pub parked_back : IsParked (with_leads h leads z)
  parked_back = record {
    shaped = shaped_back;
    constants = subst (λ (cs : Vec ℤ Global). AllWithin (2 ^ 62) cs.items) (sym r.keeps.constants) p.constants;
  }

  -- its numbers are within the bounds
  pub bounded_back : 2 ^ 126 ≤ k.table.top → All IsCovered k.table.rows.items → AreFitting h z → IsBounded (with_leads h leads z)
  bounded_back top rows f =
      bounded_with k h leads z r.keeps top p.constants rows f.least.positive f.least.small f.lines f.least.multiple f.fit

  -- so its constants can be put
  pub may_put_back : 2 ^ 126 ≤ k.table.top → All IsCovered k.table.rows.items → IsTableau k.table → AreFitting h z →
      MayPutConstants (with_leads h leads z)
  may_put_back top rows w f = record {
    shaped = shaped_back;
    bounded = bounded_back top rows f;
    fit = subst (λ (t : Table). All (FitsBox t.costs) t.rows.items) (sym r.keeps.table) w.fit;
    high = subst (λ (t : Table). length t.costs.high ≡ length t.costs.low) (sym r.keeps.table) w.unboxed.high_count;
  }

  -- its lines are at the table's basis
  basis_back : IsTableau k.table → AreReadFrom k.table h.lows.items → AreFitting h z →
      AreAtBasis h.table.costs h.table.rows.items h.table.basis.items (nat_abs z) (lows_of (with_leads h leads z))
  basis_back w told f =
      subst (λ (t : Table). AreAtBasis t.costs t.rows.items t.basis.items (nat_abs z) (lows_of (with_leads h leads z))) (sym r.keeps.table)
      (read_basis k.table w h.lows.items (nat_abs z) r.count r.each told f.least.multiple (size_positive z f.least.positive))

  moving_back : 2 ^ 126 ≤ k.table.top → All IsCovered k.table.rows.items → IsTableau k.table → AreReadFrom k.table h.lows.items →
      AreFitting h z → IsMoving (with_leads h leads z)
  moving_back top rows w told f = record { shaped = shaped_back; bounded = bounded_back top rows f; basis = basis_back w told f }

  -- with the constants put it is a kernel
  pub kernel_back : (n : Kernel) → 2 ^ 126 ≤ k.table.top → All IsCovered k.table.rows.items → IsTableau k.table →
      AreReadFrom k.table h.lows.items → AreFitting h z → AreConstantsPut (with_leads h leads z) n.constants.items →
      AllWithin (2 ^ 62) n.constants.items → KeepsAllButConstants (with_leads h leads z) n → IsKernel n
  kernel_back n top rows w told f put small keeps =
      put_kernel (with_leads h leads z) n (moving_back top rows w told f)
      (subst (λ (t : Table). IsBox (length t.costs.low) t.costs) (sym r.keeps.table) w.box)
      (subst (λ (t : Table). All (FitsBox t.costs) t.rows.items) (sym r.keeps.table) w.fit) put small keeps

  -- and it stands for the lines of the table that was read
  pub lines_back : (n : Kernel) → IsTableau k.table → AreReadFrom k.table h.lows.items → AreFitting h z →
      KeepsAllButConstants (with_leads h leads z) n → kernel_lines n ≡ k.table.lines.items
  lines_back n w told f keeps =
      let lows = map (scaled_line (nat_abs z)) h.lows.items in
      let same : kernel_lines n ≡ fraction_lines (nat_abs z) k.table.costs k.table.rows.items lows =
      rw (keeps.table, keeps.common, keeps.lows, r.keeps.table) refl in
      let some = size_positive z f.least.positive in
      same
      ∙ lines_same k.table w (nat_abs z) lows some
      (rows_crossed k.table w h.lows.items (nat_abs z) r.count r.each told f.least.multiple)
