-- A kernel whose lines have turned to some within the bounds: the leads and the constants follow.
use Rattle.std.specs.declared.alloc.Global.{Global}
use Prim.Native.Nat.{◌∣◌}
use Rattle.std.proofs.Common.{Vec, ◌≡◌, ℕ, ◌*◌, ◌^◌, ◌<◌, ◌≤◌, refl, sym, ◌∙◌, ap, subst, List, length, arith}
use Rattle.std.specs.Prelude.{ℤ, pos, ◌<ℤ◌, ◌≤ℤ◌, nat_abs, All}
use Rattle.std.specs.Vec.{with_items}
use Rattle.std.proofs.lemmas.List.{get_or_default}
use Rattle.std.proofs.lemmas.List.Elements.{All-weaker}
use Rattle.std.proofs.lemmas.Nat.Gcd.{dvd_trans}
use Rattle.whole_numbers.specs.Lists.{number_at}
use Rattle.fraction_table.specs.declared.table.Table.{Table}
use Rattle.fraction_table.specs.Tableaus.{FitsBox}
use Rattle.integer_pivots.specs.declared.line.Line.{Line}
use Rattle.integer_pivots.specs.Leads.{AreLeads}
use Rattle.integer_pivots.specs.Lines.{IsLine, no_line, rows_of}
use Rattle.integer_pivots.specs.Numbers.{AllWithin}
use Rattle.integer_pivots.specs.Turns.{AreTurnedLines, denominator_after}
use Rattle.integer_pivots.proofs.Sizes.{read, size_most}
use Rattle.table_kernel.specs.declared.kernel.Kernel.{Kernel}
use Rattle.table_kernel.specs.Constants.{AreConstantsPut, KeepsAllButConstants, MayPutConstants}
use Rattle.table_kernel.specs.Kernels.{IsBounded, IsKernel, IsShaped, width_of}
use Rattle.table_kernel.specs.Numbers.{share_of}
use Rattle.table_kernel.specs.Turns.{AreBoundedLines, AreLinesTurned, ConstantsStaySmall, HasTurned, IsReadyToTurn, KeepsAllButLows, LinesStaySmall, StaysSmallThroughout, line_of, next_common, turn_of_line}
use Rattle.table_kernel.proofs.CommonSteps.{after_some, each_goes_in}
use Rattle.table_kernel.proofs.StayingWithin.{constant_same}
use Rattle.table_kernel.proofs.Lines.{read_common}
use Rattle.table_kernel.proofs.OtherLines.{bounded_with, leads_are, shaped_with, with_leads, with_lines, but_lows}

-- a number that is the common denominator after the pivot, and small
abbrev pub IsNext : Kernel → ℕ → ℤ → Type 0
IsNext k column common = (pos 0 <ℤ common) × (nat_abs common ≡ next_common k column) × (common ≤ℤ pos (2 ^ 30))

-- it is, as it is read
pub next_read : (k : Kernel) (column : ℕ) (common : ℤ) → IsNext k column common → IsNext k column (read common)
next_read k column common is = subst (IsNext k column) (sym (read_common common (is.0, is.2))) is

-- the tests tell that no number passes the bounds
pub small_throughout : (k : Kernel) (column : ℕ) (common : ℤ) → LinesStaySmall k column → IsNext k column common →
    ConstantsStaySmall k column (nat_abs (read common)) → StaysSmallThroughout k column
small_throughout k column common lines is constants = record {
  lines = lines;
  common = subst (λ (n : ℕ). n ≤ 2 ^ 30) is.1 (size_most common (2 ^ 30) is.0 is.2);
  constants = subst (ConstantsStaySmall k column) (ap nat_abs (read_common common (is.0, is.2)) ∙ is.1) constants;
}

-- and where none does, the constants stay small
pub small_constants : (k : Kernel) (column : ℕ) (common : ℤ) → IsNext k column common → StaysSmallThroughout k column →
    ConstantsStaySmall k column (nat_abs (read common))
small_constants k column common is may =
    subst (ConstantsStaySmall k column) (sym (ap nat_abs (read_common common (is.0, is.2)) ∙ is.1)) may.constants

-- what is known once the lines of a kernel have turned
pub record AreTurnedWithin (k h : Kernel) (column : ℕ) (z : ℤ) : Type 0 where
  pub ready : IsReadyToTurn k column
  pub keeps : KeepsAllButLows k h
  pub turned : AreTurnedLines k.entering column k.lows.items h.lows.items
  pub bounded : AreBoundedLines z h.lows.items

module _ (k h : Kernel) (column : ℕ) (z : ℤ) (r : IsReadyToTurn k column) (t : AreLinesTurned k h column) (next : nat_abs z ≡ next_common k column) where
  goes_in : (v : ℕ) → v < length k.lows.items → denominator_after k.entering column (line_of k v) ∣ nat_abs z
  goes_in v v_in = subst (λ (n : ℕ). denominator_after k.entering column (line_of k v) ∣ n) (sym next)
      (each_goes_in k.entering column k.lows.items (nat_abs k.common) v v_in)

  new_goes_in : (v : ℕ) → v < length k.lows.items → nat_abs (line_of h v).denominator ∣ nat_abs z
  new_goes_in v v_in = dvd_trans _ (t.divides v v_in) (goes_in v v_in)

  all_divide : All (λ (line : Line). nat_abs line.denominator ∣ nat_abs z) h.lows.items
  all_divide v d v_in =
      subst (λ (l : Line). nat_abs l.denominator ∣ nat_abs z) (get_or_default h.lows.items v no_line d v_in)
      (new_goes_in v (omega (arith, v_in, t.turned.count)))

  all_within : ConstantsStaySmall k column (nat_abs z) → All (λ (line : Line). nat_abs line.constant * share_of (nat_abs z) line ≤ 2 ^ 44) h.lows.items
  all_within constants v d v_in =
      let old_in : v < length k.lows.items = omega (arith, v_in, t.turned.count) in
      let same = constant_same (turn_of_line k column v) column k.entering (line_of k v) (line_of h v) (nat_abs z) (t.turned.each v old_in)
      (after_some k.entering (line_of k v) column (r.lines v no_line old_in) r.pivot) (goes_in v old_in) (new_goes_in v old_in) in
      subst (λ (l : Line). nat_abs l.constant * share_of (nat_abs z) l ≤ 2 ^ 44) (get_or_default h.lows.items v no_line d v_in)
      (subst (λ (n : ℕ). n ≤ 2 ^ 44) (sym same) (constants v old_in))

-- lines no number of which passes the bounds on the way are within them
pub turned_within : (k h : Kernel) (column : ℕ) (common : ℤ) → IsReadyToTurn k column → KeepsAllButLows k h → AreLinesTurned k h column →
    IsNext k column common → StaysSmallThroughout k column → AreTurnedWithin k h column (read common)
turned_within k h column common r keeps t is small =
    subst (AreTurnedWithin k h column) (sym (read_common common (is.0, is.2)))
    (record {
      ready = r;
      keeps = keeps;
      turned = t.turned;
      bounded = record {
        positive = is.0;
        small = is.2;
        lines = t.lines;
        divides = all_divide k h column common r t is.1;
        limit = all_within k h column common r t is.1 (subst (ConstantsStaySmall k column) (sym is.1) small.constants);
      };
    })

-- the lines are as long as before
pub lines_long : (k h : Kernel) (column : ℕ) → IsReadyToTurn k column → AreTurnedLines k.entering column k.lows.items h.lows.items →
    All (λ (line : Line). length line.numbers ≡ width_of k) h.lows.items
lines_long k h column r turned v d v_in =
    let v_old : v < length k.lows.items = omega (arith, v_in, turned.count) in
    subst (λ (l : Line). length l.numbers ≡ width_of k) (get_or_default h.lows.items v no_line d v_in)
    ((turned.each v v_old).count ∙ r.each v no_line v_old)

-- so the leads can be turned
pub record MayTurnLeads (h : Kernel) (at : ℕ) : Type 0 where
  pub leads : length h.leads.items ≡ length h.entering.numbers
  pub each : All (λ (line : Line). length line.numbers ≡ length h.entering.numbers) h.lows.items
  pub column : at < length h.entering.numbers
  pub pivot : pos 0 <ℤ number_at h.entering.numbers at
  pub denominator : pos 0 <ℤ h.entering.denominator

pub may_turn_leads : (k h : Kernel) (at : ℕ) → IsKernel k → IsReadyToTurn k at → KeepsAllButLows k h →
    AreTurnedLines k.entering at k.lows.items h.lows.items → MayTurnLeads h at
may_turn_leads k h at m r keeps turned =
    let width = sym r.long ∙ ap (λ (line : Line). length line.numbers) (sym keeps.entering) in
    record {
      leads = ap (λ (vs : Vec ℕ Global). length vs.items) keeps.leads ∙ m.shaped.leads ∙ width;
      each = subst (λ (n : ℕ). All (λ (line : Line). length line.numbers ≡ n) h.lows.items) width (lines_long k h at r turned);
      column = subst (λ (line : Line). at < length line.numbers) (sym keeps.entering) (omega (arith, r.inside, r.long));
      pivot = subst (λ (line : Line). pos 0 <ℤ number_at line.numbers at) (sym keeps.entering) r.pivot;
      denominator = subst (λ (line : Line). pos 0 <ℤ line.denominator) (sym keeps.entering) r.entering.positive;
    }

but_constants : (m n : Kernel) → KeepsAllButConstants m n → n ≡ record m { constants = n.constants }
but_constants m n o = rw (sym o.table, sym o.common, sym o.lows, sym o.leads, sym o.uses, sym o.turns, sym o.left, sym o.entering) refl

module _ (k h : Kernel) (column : ℕ) (leads : Vec ℕ Global) (z : ℤ) (t : AreTurnedWithin k h column z) where
  -- the kernel is as long as before
  pub shaped_after : IsShaped k → length leads.items ≡ length k.leads.items → AreLeads (rows_of h.lows.items) leads.items → IsShaped (with_leads h leads z)
  shaped_after s counted lead =
      shaped_with k h leads z t.keeps s (t.turned.count ∙ s.lows) (lines_long k h column t.ready t.turned) counted lead

  -- and its numbers are within the bounds
  pub bounded_after : IsBounded k → IsBounded (with_leads h leads z)
  bounded_after b = bounded_with k h leads z t.keeps b.top b.constants b.rows t.bounded.positive t.bounded.small t.bounded.lines t.bounded.divides
      t.bounded.limit

  -- then the constants are put
  pub has_turned : (n : Kernel) → length leads.items ≡ length k.leads.items →
      (AreLeads (rows_of k.lows.items) k.leads.items → AreLeads (rows_of h.lows.items) leads.items) →
      KeepsAllButConstants (with_leads h leads z) n → AreConstantsPut (with_leads h leads z) n.constants.items →
      AllWithin (2 ^ 62) n.constants.items → HasTurned k n column
  has_turned n counted lead keeps put small =
      subst (λ (m : Kernel). HasTurned k m column) (sym same)
      (record {
        table = refl;
        uses = refl;
        turns = refl;
        left = refl;
        entering = refl;
        positive = t.bounded.positive;
        small = t.bounded.small;
        turned = t.turned;
        lines = t.bounded.lines;
        divides = t.bounded.divides;
        limit = t.bounded.limit;
        leads_count = counted;
        leads = lead;
        constants = record { count = refl; each = there.each };
        constants_small = small;
        constants_count = there.count;
      })
    where
      there : AreConstantsPut (with_lines k h.lows leads z) n.constants.items
      there = subst (λ (m : Kernel). AreConstantsPut m n.constants.items) (but_lows k h leads z t.keeps) put

      same : n ≡ record k { common = z; lows = h.lows; leads = leads; constants = n.constants }
      same =
          but_constants (with_leads h leads z) n keeps
          ∙ ap (λ (m : Kernel). record m { constants = n.constants }) (but_lows k h leads z t.keeps)

-- the leads turn with the lines
pub leads_after : (k h : Kernel) (column : ℕ) (befores afters : List ℕ) (lows : List Line) → KeepsAllButLows k h → IsReadyToTurn k column →
    AreTurnedLines k.entering column k.lows.items h.lows.items → befores ≡ h.leads.items → lows ≡ h.lows.items →
    ((olds : List Line) → AreTurnedLines h.entering column olds lows → All (λ (line : Line). pos 0 <ℤ line.denominator) olds →
    AreLeads (rows_of olds) befores → AreLeads (rows_of lows) afters) →
    AreLeads (rows_of k.lows.items) k.leads.items → AreLeads (rows_of h.lows.items) afters
leads_after k h column befores afters lows o r turned befores_are lows_are moves lead =
    subst (λ (ls : List Line). AreLeads (rows_of ls) afters) lows_are
    (moves k.lows.items
    (subst (λ (ls : List Line). AreTurnedLines h.entering column k.lows.items ls) (sym lows_are)
    (subst (λ (e : Line). AreTurnedLines e column k.lows.items h.lows.items) (sym o.entering) turned))
    (All-weaker IsLine (λ (line : Line). pos 0 <ℤ line.denominator) (λ line l. l.positive) k.lows.items r.lines)
    (subst (AreLeads (rows_of k.lows.items)) (sym (befores_are ∙ ap (λ (vs : Vec ℕ Global). vs.items) o.leads)) lead))

-- and are put
abbrev pub AreLeadsPut : Kernel → Kernel → Vec ℕ Global → Type 0
AreLeadsPut k h leads =
    (length leads.items ≡ length k.leads.items) × (AreLeads (rows_of k.lows.items) k.leads.items → AreLeads (rows_of h.lows.items) leads.items)

pub leads_put : (k h : Kernel) (column : ℕ) (befores afters : List ℕ) (lows : List Line) → KeepsAllButLows k h → IsReadyToTurn k column →
    AreTurnedLines k.entering column k.lows.items h.lows.items → befores ≡ h.leads.items → lows ≡ h.lows.items → length afters ≡ length befores →
    ((olds : List Line) → AreTurnedLines h.entering column olds lows → All (λ (line : Line). pos 0 <ℤ line.denominator) olds →
    AreLeads (rows_of olds) befores → AreLeads (rows_of lows) afters) →
    AreLeadsPut k h (with_items h.leads afters)
leads_put k h column befores afters lows o r turned befores_are lows_are counted moves =
    let put = leads_are k h befores afters o befores_are counted in (
      put.1,
      λ lead. subst (AreLeads (rows_of h.lows.items)) (sym put.0)
          (leads_after k h column befores afters lows o r turned befores_are lows_are moves lead),
    )

-- and then the constants can be put
pub may_put_after : (k h : Kernel) (column : ℕ) (leads : Vec ℕ Global) (z : ℤ) → AreTurnedWithin k h column z → IsKernel k →
    AreLeadsPut k h leads → MayPutConstants (with_leads h leads z)
may_put_after k h column leads z t m put = record {
  shaped = shaped_after k h column leads z t m.shaped put.0 (put.1 m.shaped.lead);
  bounded = bounded_after k h column leads z t m.bounded;
  fit = subst (λ (u : Table). All (FitsBox u.costs) u.rows.items) (sym t.keeps.table) m.tableau.fit;
  high = subst (λ (u : Table). length u.costs.high ≡ length u.costs.low) (sym t.keeps.table) m.tableau.unboxed.high_count;
}
