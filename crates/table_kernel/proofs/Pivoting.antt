-- After a pivot a kernel is one, and its rank rose.
use Rattle.std.specs.declared.alloc.Global.{Global}
use Rattle.std.proofs.Common.{Vec, ◌≡◌, ℕ, zero, suc, ◌*◌, ◌^◌, ◌<◌, ◌≤◌, sym, ◌∙◌, ap, subst, List, map, length, arith, zero-add}
use Rattle.std.specs.Prelude.{ℤ, pos, ◌*ℤ◌, ◌<ℤ◌, nat_abs, slice_set, vec_capacity, All}
use Rattle.std.proofs.lemmas.List.{get_or_default, length-map}
use Rattle.cost_base.proofs.ListLemmas.{get_or-map-numbers_from}
use Rattle.whole_numbers.specs.Fractions.{Fraction}
use Rattle.whole_numbers.specs.Lists.{number_at}
use Rattle.whole_numbers.proofs.Sizes.{positive_is, size_positive}
use Rattle.design_problem.specs.declared.tree.Member.{Member}
use Rattle.design_problem.specs.Basis.{LeadsPositive}
use Rattle.design_problem.specs.Boxes.{IsBox}
use Rattle.fraction_table.specs.declared.table.Table.{Table}
use Rattle.fraction_table.specs.Pivots.{IsLeastColumn, KeepsBoxAndRows, member_at, numbers_in_column}
use Rattle.fraction_table.specs.Ranks.{rank}
use Rattle.fraction_table.specs.Tableaus.{FitsBox}
use Rattle.fraction_table.specs.ValidTables.{AllLong, HasRoom, members_of_box}
use Rattle.fraction_table.proofs.Ranks.{negative_size, rank_rises_to}
use Rattle.fraction_table.proofs.theory.Rise.{rise}
use Rattle.fraction_table.proofs.theory.TurnedLeads.{column_other, length-numbers_in}
use Rattle.fraction_table.proofs.theory.TurnedNumbers.{numbers_at, numbers_long}
use Rattle.fraction_table.proofs.theory.Turns.{turned_rows}
use Rattle.integer_pivots.specs.declared.line.Line.{Line}
use Rattle.integer_pivots.specs.declared.turned_line.Turn.{Turn}
use Rattle.integer_pivots.specs.declared.uses.Use.{Use}
use Rattle.integer_pivots.specs.Lines.{no_line}
use Rattle.integer_pivots.specs.Numbers.{weight_of}
use Rattle.integer_pivots.specs.Uses.{uses_in, uses_by}
use Rattle.table_kernel.specs.declared.kernel.Kernel.{Kernel}
use Rattle.table_kernel.specs.Bases.{AreAtBasis}
use Rattle.table_kernel.specs.Kernels.{IsBounded, IsKernel, IsShaped, lows_of, stated, width_of}
use Rattle.table_kernel.specs.Lines.{column_of, form_of_place, numbers_of_place}
use Rattle.table_kernel.specs.Numbers.{number_at_column, scaled_line}
use Rattle.table_kernel.specs.Turns.{HasTurned, IsPivotIn}
use Rattle.table_kernel.proofs.AtBasis.{crossed_basis, basis_kernel, kernel_basis, scaled_by}
use Rattle.table_kernel.proofs.Columns.{column_number, line_number, place_is}
use Rattle.table_kernel.proofs.Turning.{EntersAt, IsTurnOf, basis_turned, column_up, entering_numbers, least_crossed, positive_too, rise_from, rows_crossed}

-- the numbers of a place's form over the common denominator: the constant, and then those at the columns
abbrev pub place_numbers : Kernel → ℕ → List ℤ
place_numbers k place = entering_numbers k.table.costs k.table.rows.items (nat_abs k.common) (lows_of k) (member_at k.table place)

-- the kernel with another basis
abbrev pub with_basis : Kernel → Vec Member Global → Kernel
with_basis h basis = record h { table = record h.table { basis = basis } }

module _ (k : Kernel) (place column : ℕ) (p : IsPivotIn k place column) where
  common_positive : 0 < nat_abs k.common
  common_positive = size_positive k.common p.kernel.bounded.positive

  -- the number of the place's form at a column
  at_column : (c : ℕ) → c < width_of k → number_at (place_numbers k place) (suc c) ≡ number_at (numbers_of_place k place) c
  at_column c c_in =
      numbers_at (width_of k) (nat_abs k.common) k.table.costs.low (lows_of k) (form_of_place k place) (suc c) (omega (arith, c_in))
      ∙ column_number k (nat_abs k.common) k.table.costs.low (form_of_place k place) c
      ∙ ap (λ i. number_at_column (form_of_place k place) (column_of k i)) (sym (zero-add c))
      ∙ sym (get_or-map-numbers_from (λ i. number_at_column (form_of_place k place) (column_of k i)) 0 (width_of k) c (pos 0) c_in)

  -- and its constant
  constant_at : number_at (place_numbers k place) 0 ≡ number_at k.constants.items place
  constant_at =
      numbers_at (width_of k) (nat_abs k.common) k.table.costs.low (lows_of k) (form_of_place k place) 0 (omega arith)
      ∙ sym ((kernel_basis k p.kernel).1 place p.place_in)

  counted : length (place_numbers k place) ≡ suc (width_of k)
  counted = numbers_long (width_of k) (nat_abs k.common) k.table.costs.low (lows_of k) (form_of_place k place)

  -- the entering line's numbers are those
  entering_stands : (c : ℕ) → c < suc (width_of k) →
      (line_number k.entering c *ℤ pos (nat_abs k.common)) ≡ (number_at (place_numbers k place) c *ℤ k.entering.denominator)
  entering_stands zero c_in =
      ap (λ z. k.entering.constant *ℤ z) (sym (positive_is k.common p.kernel.bounded.positive))
      ∙ p.entering.stands.constant
      ∙ ap (λ z. z *ℤ k.entering.denominator) (sym constant_at)
  entering_stands (suc c) c_in =
      ap (λ z. number_at k.entering.numbers c *ℤ z) (sym (positive_is k.common p.kernel.bounded.positive))
      ∙ p.entering.stands.numbers c (omega (arith, c_in))
      ∙ ap (λ z. z *ℤ k.entering.denominator) (sym (at_column c (omega (arith, c_in))))

  over_size : (c : ℕ) → c < width_of k → (number_at k.entering.numbers c *ℤ pos (nat_abs k.common))
      ≡ (number_at (place_numbers k place) (suc c) *ℤ pos (nat_abs k.entering.denominator))
  over_size c c_in =
      entering_stands (suc c) (omega (arith, c_in))
      ∙ ap (λ z. number_at (place_numbers k place) (suc c) *ℤ z) (positive_is k.entering.denominator p.entering.stands.positive)

  pivot_positive : pos 0 <ℤ number_at (place_numbers k place) (suc column)
  pivot_positive =
      positive_too (nat_abs k.common) (nat_abs k.entering.denominator) (number_at k.entering.numbers column)
      (number_at (place_numbers k place) (suc column)) common_positive (over_size column p.best.0) p.best.1

  pivot_is : number_at (place_numbers k place) (suc column) ≡ pos (nat_abs (number_at (place_numbers k place) (suc column)))
  pivot_is = positive_is (number_at (place_numbers k place) (suc column)) pivot_positive

  is_least : IsLeastColumn (width_of k) (lows_of k) (place_numbers k place) column
  is_least c c_in other b b_is above =
      let D = nat_abs k.common in
      let f = nat_abs k.entering.denominator in
      let f_positive : 0 < f = size_positive k.entering.denominator p.entering.stands.positive in
      let t = number_at k.entering.numbers c in
      let u = number_at k.entering.numbers column in
      let there : pos 0 <ℤ t =
      positive_too f D (number_at (place_numbers k place) (suc c)) t f_positive (sym (over_size c c_in)) above in
      least_crossed D f (nat_abs u) b t (number_at (place_numbers k place) (suc c)) (column_of k c) (column_of k column)
      common_positive f_positive
      (ap (λ z. z *ℤ pos D) (sym (positive_is u p.best.1)) ∙ over_size column p.best.0 ∙ ap (λ z. z *ℤ pos f) b_is)
      (over_size c c_in) (p.best.2 c c_in other there)

  turn_is : IsTurnOf k.table.costs k.table.rows.items (nat_abs k.common) (lows_of k) (member_at k.table place)
      column (nat_abs (number_at (place_numbers k place) (suc column)))
  turn_is = record {
    member = place_is k p.kernel.shaped place p.place_in;
    j_in = p.best.0;
    at_j = sym (numbers_at (width_of k) (nat_abs k.common) k.table.costs.low (lows_of k) (form_of_place k place)
        (suc column) (omega (arith, p.best.0))) ∙ pivot_is;
    positive = size_positive (number_at (place_numbers k place) (suc column)) pivot_positive;
    least = is_least;
  }

  enters : EntersAt (nat_abs k.common) (nat_abs (number_at (place_numbers k place) (suc column))) column (place_numbers k place) k.entering
  enters = record {
    positive = p.entering.stands.positive;
    count = counted ∙ ap suc (sym p.entering.stands.count);
    j_in = omega (arith, p.best.0, p.entering.stands.count);
    stands = λ c c_in. entering_stands c (omega (arith, c_in, counted));
    pivot = p.best.1;
    at_j = pivot_is;
  }

  module _ (h : Kernel) (t : HasTurned k h column) where
    after_positive : 0 < nat_abs h.common
    after_positive = size_positive h.common t.positive

    -- the new numbers over the old denominator and the pivot are the turned lines over the new one
    rows_are : map (scaled_by (nat_abs k.common * nat_abs (number_at (place_numbers k place) (suc column)))) (lows_of h)
        ≡ map (scaled_by (nat_abs h.common)) (turned_rows (lows_of k) (place_numbers k place) (suc column) (nat_abs k.common))
    rows_are =
        rows_crossed (nat_abs k.common) (nat_abs h.common) (nat_abs (number_at (place_numbers k place) (suc column)))
        column (place_numbers k place) k.entering k.lows.items h.lows.items enters t.turned.count
        (λ v v_in. record {
          long = p.kernel.shaped.each v no_line v_in ∙ sym p.entering.stands.count;
          positive = (p.kernel.bounded.lines v no_line v_in).positive;
          before = p.kernel.bounded.divides v no_line v_in;
          after = t.divides v no_line (omega (arith, v_in, t.turned.count));
          turned = t.turned.each v v_in;
        })

    basis_is : AreAtBasis k.table.costs k.table.rows.items (slice_set k.table.basis.items column (member_at k.table place))
        (nat_abs h.common) (lows_of h)
    basis_is =
        crossed_basis k.table.costs k.table.rows.items (slice_set k.table.basis.items column (member_at k.table place))
        (nat_abs k.common * nat_abs (number_at (place_numbers k place) (suc column))) (nat_abs h.common)
        (turned_rows (lows_of k) (place_numbers k place) (suc column) (nat_abs k.common)) (lows_of h) after_positive rows_are
        (basis_turned k.table.costs k.table.rows.items k.table.basis.items (nat_abs k.common) (lows_of k)
        (member_at k.table place) column (nat_abs (number_at (place_numbers k place) (suc column)))
        (kernel_basis k p.kernel).0 turn_is)

    module _ (basis : Vec Member Global)
        (basis_set : basis.items ≡ slice_set h.table.basis.items column (member_at k.table place)) where
      wide_is : width_of h ≡ width_of k
      wide_is = ap (λ (u : Table). length u.costs.low) t.table

      shaped_is : IsShaped (with_basis h basis)
      shaped_is =
          let s = p.kernel.shaped in
          let room = subst HasRoom (sym t.table) s.room in
          record {
            room = record { few = room.few; quotients = room.quotients; scratch = room.scratch };
            lows = t.turned.count ∙ s.lows ∙ sym wide_is;
            each = each;
            leads = t.leads_count ∙ s.leads ∙ sym wide_is;
            lead = t.leads s.lead;
            constants = t.constants_count ∙ s.constants
                ∙ ap (λ (u : Table). length (members_of_box u.costs (length u.rows.items))) (sym t.table);
            uses = ap (λ (us : Vec (Vec Use Global) Global). uses_in us.items) t.uses
                ∙ s.uses
                ∙ ap (λ (u : Table). uses_by u.rows.items (length u.costs.low)) (sym t.table);
            turns = ap (λ (ts : Vec Turn Global). length ts.items) t.turns ∙ s.turns ∙ sym wide_is;
            left = subst (λ (m : ℕ). m ≤ vec_capacity h.left) (sym wide_is)
                (subst (λ (v : Vec ℕ Global). width_of k ≤ vec_capacity v) (sym t.left) s.left);
            entering = ap (λ (line : Line). length line.numbers) t.entering ∙ s.entering ∙ sym wide_is;
            lines = ap (λ (u : Table). length u.lines.items) t.table ∙ s.lines ∙ sym t.constants_count;
            wide = subst (λ (u : Table). All (λ (line : List Fraction). length line ≡ suc (length u.costs.low)) u.lines.items)
                (sym t.table) s.wide;
          }
        where
          each : All (λ (line : Line). length line.numbers ≡ width_of h) h.lows.items
          each v d v_in =
              let v_there : v < length k.lows.items = omega (arith, v_in, t.turned.count) in
              ap (λ (line : Line). length line.numbers) (get_or_default h.lows.items v d no_line v_in)
              ∙ (t.turned.each v v_there).count
              ∙ p.kernel.shaped.each v no_line v_there
              ∙ sym wide_is

      bounded_is : IsBounded (with_basis h basis)
      bounded_is =
          let b = p.kernel.bounded in
          record {
            top = subst (λ (u : Table). 2 ^ 126 ≤ u.top) (sym t.table) b.top;
            positive = t.positive;
            common = t.small;
            lines = t.lines;
            divides = t.divides;
            low = t.limit;
            constants = t.constants_small;
            rows = subst (λ (u : Table). All (λ f. weight_of f ≤ 2 ^ 16) u.rows.items) (sym t.table) b.rows;
          }

      pub kernel_is : IsKernel (with_basis h basis)
      kernel_is =
          basis_kernel (with_basis h basis) shaped_is bounded_is
          (subst (λ (u : Table). IsBox (length u.costs.low) u.costs) (sym t.table) p.kernel.tableau.box)
          (subst (λ (u : Table). All (FitsBox u.costs) u.rows.items) (sym t.table) p.kernel.tableau.fit)
          (subst (λ (ms : List Member). AreAtBasis h.table.costs h.table.rows.items ms (nat_abs h.common) (lows_of h)) (sym basis_set)
          (subst (λ (u : Table). AreAtBasis u.costs u.rows.items (slice_set u.basis.items column (member_at k.table place))
          (nat_abs h.common) (lows_of h)) (sym t.table) basis_is))
          t.constants.each

      pub forms_kept : KeepsBoxAndRows (stated k) (stated (with_basis h basis))
      forms_kept = record {
        top = ap (λ (u : Table). u.top) t.table;
        costs = ap (λ (u : Table). u.costs) t.table;
        rows = ap (λ (u : Table). u.rows.items) t.table;
      }

      -- the constants rise
      leads : LeadsPositive (rise (nat_abs k.common) (nat_abs h.common)
          (map (λ z. z *ℤ pos (nat_abs k.common)) (numbers_in_column 0 (lows_of h))) (numbers_in_column 0 (lows_of k)))
      leads =
          let D = nat_abs k.common in
          let L = nat_abs h.common in
          let ts = place_numbers k place in
          let a = nat_abs (number_at ts (suc column)) in
          let b = kernel_basis k p.kernel in
          let long : AllLong (length ts) (lows_of k) = subst (λ (m : ℕ). AllLong m (lows_of k)) (sym counted) b.0.long in
          let size = negative_size (number_at ts 0) (subst (λ (z : ℤ). z <ℤ pos 0) (sym constant_at) p.below) in
          let columns : map (λ z. z *ℤ pos (D * a)) (numbers_in_column 0 (lows_of h))
          ≡ map (λ z. z *ℤ pos L) (numbers_in_column 0 (turned_rows (lows_of k) ts (suc column) D)) =
          sym (column_up (D * a) 0 (lows_of h))
          ∙ ap (λ (rows : List (List ℤ)). numbers_in_column 0 rows) rows_are
          ∙ column_up L 0 (turned_rows (lows_of k) ts (suc column) D) in
          rise_from D L a size.0 (number_at ts 0) (numbers_in_column 0 (lows_of h)) (numbers_in_column 0 (lows_of k))
          (numbers_in_column (suc column) (lows_of k)) common_positive after_positive
          (size_positive (number_at ts (suc column)) pivot_positive) size.1 size.2
          (columns
          ∙ ap (λ (zs : List ℤ). map (λ z. z *ℤ pos L) zs)
          (column_other a D (lows_of k) ts (suc column) 0 long pivot_is (λ same. omega (arith, same)) (omega (arith, counted))))
          (length-numbers_in 0 (lows_of k) (suc column))
          (long_as h.lows.items (nat_abs h.common) ∙ t.turned.count ∙ sym (long_as k.lows.items (nat_abs k.common)))
          (b.0.lead column p.best.0)
        where
          long_as : (lines : List Line) (D : ℕ) → length (numbers_in_column 0 (map (scaled_line D) lines)) ≡ length lines
          long_as lines D = length-map (map (scaled_line D) lines) (λ (ts : List ℤ). number_at ts 0) ∙ length-map lines (scaled_line D)

      pub rank_rose : rank (stated k) < rank (stated (with_basis h basis))
      rank_rose =
          let n = with_basis h basis in
          let w = p.kernel.tableau in
          let v = kernel_is.tableau in
          let common_before : w.unboxed.common ≡ nat_abs k.common = ap nat_abs p.kernel.numbers.common in
          let common_after : v.unboxed.common ≡ nat_abs h.common = ap nat_abs kernel_is.numbers.common in
          rank_rises_to (stated k) (stated n) w v forms_kept
          (subst (λ (rows : List (List ℤ)).
          LeadsPositive (rise w.unboxed.common v.unboxed.common
          (map (λ z. z *ℤ pos w.unboxed.common) (numbers_in_column 0 v.unboxed.lows)) (numbers_in_column 0 rows)))
          (sym p.kernel.numbers.lows)
          (subst (λ (rows : List (List ℤ)).
          LeadsPositive (rise w.unboxed.common v.unboxed.common
          (map (λ z. z *ℤ pos w.unboxed.common) (numbers_in_column 0 rows)) (numbers_in_column 0 (lows_of k))))
          (sym kernel_is.numbers.lows)
          (subst (λ (m : ℕ). LeadsPositive
          (rise w.unboxed.common m (map (λ z. z *ℤ pos w.unboxed.common) (numbers_in_column 0 (lows_of h)))
          (numbers_in_column 0 (lows_of k)))) (sym common_after)
          (subst (λ (m : ℕ). LeadsPositive
          (rise m (nat_abs h.common) (map (λ z. z *ℤ pos m) (numbers_in_column 0 (lows_of h)))
          (numbers_in_column 0 (lows_of k)))) (sym common_before) leads))))
