-- A bound of a table moves.
use Rattle.std.proofs.Common.{◌≡◌, ℕ, suc, ◌+◌, ◌^◌, ◌<◌, refl, sym, ◌∙◌, ap, subst, List, [], ◌∷◌, length, arith, w64, to_z, of_z}
use Rattle.std.specs.Prelude.{ℤ, pos, ◌-ℤ◌, ◌*ℤ◌, nat_abs, Option, None, Some, slice_get, slice_index, slice_index_or, slice_set, All}
use Rattle.std.specs.List.{AllZip}
use Rattle.std.proofs.lemmas.Int.{fits_signed_from_abs, to_z-of_z}
use Rattle.std.proofs.lemmas.List.{length-map, set-get_or}
use Rattle.std.proofs.lemmas.Option.{slice_get-get_or}
use Rattle.cost_base.specs.declared.StepName.{StepName}
use Rattle.cost_base.proofs.ListLemmas.{length_zip}
use Rattle.whole_numbers.specs.Fractions.{Fraction, whole}
use Rattle.wide_fraction.specs.declared.steps.Wide.{Wide}
use Rattle.design_problem.specs.declared.form.Form.{Form}
use Rattle.design_problem.specs.declared.boxes.CostBox.{CostBox}
use Rattle.design_problem.specs.declared.tree.Member.{Member}
use Rattle.design_problem.specs.declared.tree.Member.TheVariants.{Low, High, Row}
use Rattle.design_problem.specs.Boxes.{with_high, with_low}
use Rattle.design_problem.specs.Basis.{HasEntries, IsFormOf, forms_of, member_form}
use Rattle.fraction_table.specs.declared.table.Table.{Table}
use Rattle.fraction_table.specs.Pivots.{KeepsBoxAndRows}
use Rattle.fraction_table.specs.Tableaus.{IsShiftStep, moved_basis, moved_member}
use Rattle.fraction_table.specs.Tableaus.IsShiftStep.{constant, product, sum}
use Rattle.fraction_lines.specs.Turns.{AreTableLines}
use Rattle.fraction_table.specs.ValidTables.{HasRoom, IsTableLine, IsUnboxed, IsUnboxedTable, low_forms, members_of_box, numbers_of_form}
use Rattle.fraction_table.specs.Moves.{HasShape, IsColumnOf, IsRaiseStep, IsTableShifted, IsShiftedWide, IsWideShift, KeepsTableLines, ShiftsWide, high_shift_of, low_shift_of, shifted_lines}
use Rattle.fraction_table.specs.Moves.IsRaiseStep.{product as raise_product, sum as raise_sum}
use Rattle.fraction_table.proofs.Bases.{low_forms_long, members_begin}
use Rattle.fraction_table.proofs.theory.MovedNumbers.{IsNumbered, lowered_rows}
use Rattle.fraction_table.proofs.MovedTables.{high_fall, high_moved, low_fall, low_moved, map_none, raised_rows}
use Rattle.fraction_table.proofs.MovedWholes.{IsMoveOf, column_inside, moved_put, unboxed_moved}
use Rattle.fraction_table.proofs.IntegralTurns.{form_long}
use Rattle.fraction_table.proofs.Pivots.{high_place, members_long}
use Rattle.fraction_table.proofs.theory.Resolved.{are_entries, stand_length}
use Rattle.fraction_table.proofs.StartingTables.{members_are}
use Rattle.fraction_table.proofs.theory.TurnedNumbers.{numbers_long}
use Rattle.fraction_table.proofs.theory.Zips.{zip_at}

-- what is kept of the numbers of a table
pub numbered : (t : Table) (u : IsUnboxedTable t) → IsNumbered u.common (length t.costs.low) t.costs.low (forms_of t.costs t.rows.items t.basis.items) u.lows
numbered t u = record { long = u.long; mixtures = u.mixtures; lead = u.lead }

pub lows_many : (t : Table) (u : IsUnboxedTable t) → length u.lows ≡ length t.costs.low
lows_many t u = sym (sym (low_forms_long (length t.costs.low) 0 t.costs.low) ∙ length_zip _ (low_forms (length t.costs.low) 0 t.costs.low) u.lows u.mixtures)

pub length-raised : (column : Option ℕ) (fall : ℤ) (lows : List (List ℤ)) → length (raised_rows column fall lows) ≡ length lows
length-raised None fall lows = refl
length-raised (Some j) fall lows = length-map lows _

shifted_rows : (t s : Table) → KeepsBoxAndRows t s → HasShape s → (ls : List (List Fraction)) → s.lines.items ≡ ls →
    AreTableLines t.top (suc (length t.costs.low)) ls
shifted_rows t s k shape ls ls_are =
    subst (AreTableLines t.top (suc (length t.costs.low))) ls_are
    (subst (λ (top : ℕ). AreTableLines top (suc (length t.costs.low)) s.lines.items) k.top
    (subst (λ (costs : CostBox). AreTableLines s.top (suc (length costs.low)) s.lines.items) k.costs shape.lines))

-- a table that was shifted as a move of bounds asks is at the new bounds
shift_unboxed : (t s : Table) (u : IsUnboxedTable t) (next : CostBox) (news : List (List ℤ)) (before after : Member)
    (fall : ℤ) (own : ℕ) (is : IsTableShifted t s own before after fall) →
    IsMoveOf t.top t.costs next t.rows.items t.basis.items t.lines.items u news before after fall is.column own →
    (s.basis.items ≡ moved_basis next t.basis.items) × IsUnboxed t.top next t.rows.items s.basis.items s.lines.items
shift_unboxed t s u next news before after fall own is m =
    let rows = t.rows.items in
    let basis = t.basis.items in
    let basis_is : s.basis.items ≡ moved_basis next basis = is.basis
    ∙ sym (moved_put t.top t.costs next rows basis t.lines.items u before after fall is.column m.falls is.found) in (
      basis_is,
      subst (λ (ls : List (List Fraction)). IsUnboxed t.top next rows s.basis.items ls) (sym is.lines)
          (subst (λ (ms : List Member). IsUnboxed t.top next rows ms (shifted_lines is.column own (whole fall) t.lines.items)) (sym basis_is)
          (unboxed_moved t.top t.costs next rows basis t.lines.items u news before after fall is.column own m)),
    )

-- the table after a lower bound moved
pub low_unboxed : (t s : Table) (u : IsUnboxedTable t) (v bound : ℕ) → v < length t.costs.low → KeepsBoxAndRows t s →
    HasShape s → IsTableShifted t s v (Low v (slice_index t.costs.low v)) (Low v bound)
    (pos bound -ℤ pos (slice_index t.costs.low v)) → (s.basis.items ≡ moved_basis (with_low t.costs v bound) t.basis.items)
    × IsUnboxed t.top (with_low t.costs v bound) t.rows.items s.basis.items s.lines.items
low_unboxed t s u v bound v_in k shape is =
    let costs = t.costs in
    let rows = t.rows.items in
    let basis = t.basis.items in
    let before = Low v (slice_index costs.low v) in
    let after = Low v bound in
    let fall = pos bound -ℤ pos (slice_index costs.low v) in
    let next = with_low costs v bound in
    let column = is.column in
    let bs = forms_of costs rows basis in
    let news = lowered_rows v (pos u.common *ℤ fall) (raised_rows column fall u.lows) in
    let m : IsMoveOf t.top costs next rows basis t.lines.items u news before after fall column v =
    record {
      falls = low_fall costs rows v bound u.high_count v_in;
      found = is.found;
      numbers = low_moved u.common costs.low u.lows bs column fall v bound
          (column_inside basis before column (length bs) (sym (length-map basis (member_form (length costs.low) rows)))
          is.found) v_in (omega (arith, length-raised column fall u.lows, lows_many t u, v_in)) (numbered t u);
      own_in = omega (arith, members_long costs (length rows), v_in);
      own_is = members_begin costs (length rows) v (Low 0 0) v_in;
      rows_are = shifted_rows t s k shape (shifted_lines column v (whole fall) t.lines.items) is.lines;
    } in
    shift_unboxed t s u next news before after fall v is m

-- the table after an upper bound moved
pub high_unboxed : (t s : Table) (u : IsUnboxedTable t) (v bound : ℕ) → v < length t.costs.low → KeepsBoxAndRows t s →
    HasShape s → IsTableShifted t s (length t.costs.low + v) (High v (slice_index t.costs.high v)) (High v bound)
    (pos (slice_index t.costs.high v) -ℤ pos bound) → (s.basis.items ≡ moved_basis (with_high t.costs v bound) t.basis.items)
    × IsUnboxed t.top (with_high t.costs v bound) t.rows.items s.basis.items s.lines.items
high_unboxed t s u v bound v_in k shape is =
    let costs = t.costs in
    let rows = t.rows.items in
    let basis = t.basis.items in
    let before = High v (slice_index costs.high v) in
    let after = High v bound in
    let fall = pos (slice_index costs.high v) -ℤ pos bound in
    let next = with_high costs v bound in
    let column = is.column in
    let own = length costs.low + v in
    let bs = forms_of costs rows basis in
    let news = raised_rows column fall u.lows in
    let m : IsMoveOf t.top costs next rows basis t.lines.items u news before after fall column own =
    record {
      falls = high_fall costs rows v bound u.high_count v_in;
      found = is.found;
      numbers = high_moved u.common costs.low u.lows bs column fall
          (column_inside basis before column (length bs) (sym (length-map basis (member_form (length costs.low) rows)))
          is.found) (numbered t u);
      own_in = omega (arith, members_long costs (length rows), v_in);
      own_is = high_place costs (length rows) v (Low 0 0) v_in;
      rows_are = shifted_rows t s k shape (shifted_lines column own (whole fall) t.lines.items) is.lines;
    } in
    shift_unboxed t s u next news before after fall own is m

-- members of the box keep their bounds in it
pub moved_same : (costs : CostBox) (rows : List Form) (basis : List Member) → All (IsFormOf costs rows) basis → moved_basis costs basis ≡ basis
moved_same costs rows basis are =
    map_none (moved_member costs) basis (Low 0 0) (λ k k_in. same (slice_index_or basis k (Low 0 0)) (are k (Low 0 0) k_in))
  where
    same : (m : Member) → IsFormOf costs rows m → moved_member costs m ≡ m
    same (Low v bound) is = ap (Low v) (sym is.1)
    same (High v bound) is = ap (High v) (sym is.1)
    same (Row row) is = refl

-- the entries of the form of a line
entries_there : (t : Table) (u : IsUnboxedTable t) (line : ℕ) → line < length t.lines.items →
    HasEntries t.costs t.rows.items (moved_basis t.costs t.basis.items)
    (slice_index_or (members_of_box t.costs (length t.rows.items)) line (Low 0 0)) (slice_index_or t.lines.items line [])
entries_there t u line line_in =
    let n = length t.costs.low in
    let rows = t.rows.items in
    let ms = members_of_box t.costs (length rows) in
    let member = slice_index_or ms line (Low 0 0) in
    let member_in : line < length ms = omega (arith, length_zip (IsTableLine t.top u.common t.costs rows u.lows) ms t.lines.items u.lines, line_in) in
    let l = zip_at (IsTableLine t.top u.common t.costs rows u.lows) ms t.lines.items line (Low 0 0) [] u.lines member_in in
    subst (λ (basis : List Member). HasEntries t.costs rows basis member (slice_index_or t.lines.items line []))
    (sym (moved_same t.costs rows t.basis.items u.members))
    (are_entries t.top u.common t.costs.low u.lows (forms_of t.costs rows t.basis.items) (member_form n rows member)
    (slice_index_or t.lines.items line []) u.positive
    (length-map t.basis.items (member_form n rows) ∙ u.count)
    (form_long t.costs rows member u.counts (members_are t.costs rows line (Low 0 0) member_in)) u.long u.mixtures
    l.numbers l.stand)

raise_is_step : (t : Table) (u : IsUnboxedTable t) (before : Member) (fall : ℤ) (j line : ℕ) →
    j < length t.basis.items → slice_index_or t.basis.items j (Low 0 0) ≡ before → line < length t.lines.items →
    (step : StepName) (left right : Fraction) →
    IsRaiseStep (slice_index_or t.lines.items line []) j (whole fall) step left right →
    IsShiftStep t.rows.items t.basis.items (record { costs = t.costs; member = before; fall = fall }) step left right
raise_is_step t u before fall j line j_in here line_in =
    let rows = t.rows.items in
    let ms = members_of_box t.costs (length rows) in
    let member = slice_index_or ms line (Low 0 0) in
    let member_in : line < length ms = omega (arith, length_zip (IsTableLine t.top u.common t.costs rows u.lows) ms t.lines.items u.lines, line_in) in
    let there : slice_get (moved_basis t.costs t.basis.items) j ≡ Some before =
    ap (λ (basis : List Member). slice_get basis j) (moved_same t.costs rows t.basis.items u.members)
    ∙ slice_get-get_or t.basis.items j (Low 0 0) j_in ∙ ap Some here in
    let is = members_are t.costs rows line (Low 0 0) member_in in
    let entries = entries_there t u line line_in in
    steps member there is entries
  where
    steps : (member : Member) → slice_get (moved_basis t.costs t.basis.items) j ≡ Some before →
        IsFormOf t.costs t.rows.items member →
        HasEntries t.costs t.rows.items (moved_basis t.costs t.basis.items) member (slice_index_or t.lines.items line []) →
        (step : StepName) (left right : Fraction) →
        IsRaiseStep (slice_index_or t.lines.items line []) j (whole fall) step left right →
        IsShiftStep t.rows.items t.basis.items (record { costs = t.costs; member = before; fall = fall })
        step left right
    steps member there is entries _ _ _ raise_product = product j member (slice_index_or t.lines.items line []) there is entries
    steps member there is entries _ _ _ raise_sum = sum j member (slice_index_or t.lines.items line []) there is entries

-- a step that is too wide is one of the shift
pub shift_wide : (t : Table) (u : IsUnboxedTable t) (own : ℕ) (before : Member) (fall : ℤ) (wide : Wide) →
    own < length t.lines.items → slice_index_or (members_of_box t.costs (length t.rows.items)) own (Low 0 0) ≡ before →
    IsShiftedWide t own before fall wide → IsWideShift t (record { costs = t.costs; member = before; fall = fall }) wide
shift_wide t u own before fall wide own_in own_is s = by_column s.column s.found s.is_wide
  where
    by_column : (column : Option ℕ) → IsColumnOf t.basis.items before column →
        ShiftsWide t.top column own (whole fall) t.lines.items wide →
        IsWideShift t (record { costs = t.costs; member = before; fall = fall }) wide
    by_column None found is = (
      subst (λ (w : Wide). IsShiftStep t.rows.items t.basis.items (record { costs = t.costs; member = before; fall = fall }) w.step w.left w.right) (sym is.0)
          (constant (slice_index_or t.lines.items own [])
          (subst (λ (m : Member). HasEntries t.costs t.rows.items (moved_basis t.costs t.basis.items) m
          (slice_index_or t.lines.items own [])) own_is (entries_there t u own own_in))),
      is.1,
    )
    by_column (Some j) found is =
        (raise_is_step t u before fall j is.line found.0 found.1 is.line_in wide.step wide.left wide.right is.is_wide.0, is.is_wide.1)

-- the shape of a table whose bounds move
pub unboxed_shape : (t : Table) → IsUnboxedTable t → HasRoom t → HasShape t
unboxed_shape t u room =
    record {
      high = u.high_count;
      basis = u.count;
      lines = fit (members_of_box t.costs (length t.rows.items)) t.lines.items u.lines;
      many = sym (length_zip (IsTableLine t.top u.common t.costs t.rows.items u.lows) (members_of_box t.costs (length t.rows.items)) t.lines.items u.lines);
      room = room;
    }
  where
    fit : (members : List Member) (lines : List (List Fraction)) →
        AllZip (IsTableLine t.top u.common t.costs t.rows.items u.lows) members lines →
        AreTableLines t.top (suc (length t.costs.low)) lines
    fit [] [] all = tt
    fit [] (line ∷ lines) all = absurd all
    fit (member ∷ members) [] all = absurd all
    fit (member ∷ members) (line ∷ lines) all = (
      stand_length u.common line (numbers_of_form (length t.costs.low) u.common t.costs.low u.lows
          (member_form (length t.costs.low) t.rows.items member)) all.0.stand
          ∙ numbers_long (length t.costs.low) u.common t.costs.low u.lows (member_form (length t.costs.low) t.rows.items member),
      all.0.numbers,
      fit members lines all.1,
    )

-- how many lines a table has
pub lines_many : (t : Table) → IsUnboxedTable t → length t.lines.items ≡ length t.costs.low + length t.costs.low + length t.rows.items
lines_many t u =
    sym (length_zip (IsTableLine t.top u.common t.costs t.rows.items u.lows) (members_of_box t.costs (length t.rows.items))
    t.lines.items u.lines) ∙ members_long t.costs (length t.rows.items)

-- a small number, as 64 bits hold it
pub kept_number : (z : ℤ) → nat_abs z < 2 ^ 27 → to_z w64 (of_z w64 z) ≡ z
kept_number z small = to_z-of_z w64 z (fits_signed_from_abs w64 z (omega (arith, small)))

-- a table that keeps its forms keeps its rows
pub rows_kept : (t s : Table) → KeepsBoxAndRows t s → KeepsTableLines t s
rows_kept t s k = record { top = k.top; rows = k.rows; width = ap (λ costs. length costs.low) k.costs }

-- what a table is whose bounds were set to the next ones, after its lines moved
pub record IsMovedTo (t s : Table) (costs next : CostBox) : Type 0 where
  pub costs_are : costs ≡ next
  pub basis : s.basis.items ≡ moved_basis next t.basis.items
  pub unboxed : IsUnboxed s.top costs s.rows.items s.basis.items s.lines.items

moved_to : (t s : Table) (costs next : CostBox) → KeepsBoxAndRows t s → costs ≡ next →
    (s.basis.items ≡ moved_basis next t.basis.items) × IsUnboxed t.top next t.rows.items s.basis.items s.lines.items →
    IsMovedTo t s costs next
moved_to t s costs next k costs_are after =
    record {
      costs_are = costs_are;
      basis = after.0;
      unboxed =
          subst (λ (top : ℕ). IsUnboxed top costs s.rows.items s.basis.items s.lines.items) (sym k.top)
          (subst (λ (box : CostBox). IsUnboxed t.top box s.rows.items s.basis.items s.lines.items) (sym costs_are)
          (subst (λ (rows : List Form). IsUnboxed t.top next rows s.basis.items s.lines.items) (sym k.rows) after.1));
    }

-- a lower bound that was set, after its lines moved
pub low_after : (t s : Table) (u : IsUnboxedTable t) (v bound low : ℕ) (fall : ℤ) (now : List ℕ) →
    v < length t.costs.low → KeepsBoxAndRows t s → HasShape s → low ≡ slice_index t.costs.low v →
    fall ≡ (pos bound -ℤ pos low) → IsTableShifted t s v (Low v low) (Low v bound) fall →
    now ≡ slice_set s.costs.low v bound →
    IsMovedTo t s (record { low = now; high = s.costs.high }) (with_low t.costs v bound)
low_after t s u v bound low fall now v_in k shape low_is fall_is is now_is =
    let fall_at : fall ≡ (pos bound -ℤ pos (slice_index t.costs.low v)) = fall_is ∙ ap (λ (l : ℕ). pos bound -ℤ pos l) low_is in
    let shifted = subst (λ (l : ℕ).
    IsTableShifted t s v (Low v l) (Low v bound) (pos bound -ℤ pos (slice_index t.costs.low v))) low_is
    (subst (λ z. IsTableShifted t s v (Low v low) (Low v bound) z) fall_at is) in
    moved_to t s (record { low = now; high = s.costs.high }) (with_low t.costs v bound) k
    (ap (λ (bs : List ℕ). record { low = bs; high = s.costs.high }) now_is ∙ ap (λ (costs : CostBox). with_low costs v bound) k.costs)
    (low_unboxed t s u v bound v_in k shape shifted)

-- and an upper one
pub high_after : (t s : Table) (u : IsUnboxedTable t) (v bound high own : ℕ) (fall : ℤ) (now : List ℕ) →
    v < length t.costs.low → KeepsBoxAndRows t s → HasShape s → own ≡ length t.costs.low + v →
    high ≡ slice_index t.costs.high v → fall ≡ (pos high -ℤ pos bound) →
    IsTableShifted t s own (High v high) (High v bound) fall → now ≡ slice_set s.costs.high v bound →
    IsMovedTo t s (record { low = s.costs.low; high = now }) (with_high t.costs v bound)
high_after t s u v bound high own fall now v_in k shape own_is high_is fall_is is now_is =
    let fall_at : fall ≡ (pos (slice_index t.costs.high v) -ℤ pos bound) = fall_is ∙ ap (λ (h : ℕ). pos h -ℤ pos bound) high_is in
    let shifted = subst (λ (place : ℕ). IsTableShifted t s place (High v (slice_index t.costs.high v)) (High v bound)
    (pos (slice_index t.costs.high v) -ℤ pos bound)) own_is
    (subst (λ (h : ℕ). IsTableShifted t s own (High v h) (High v bound) (pos (slice_index t.costs.high v) -ℤ pos bound))
    high_is (subst (λ z. IsTableShifted t s own (High v high) (High v bound) z) fall_at is)) in
    moved_to t s (record { low = s.costs.low; high = now }) (with_high t.costs v bound) k
    (ap (λ (bs : List ℕ). record { low = s.costs.low; high = bs }) now_is ∙ ap (λ (costs : CostBox). with_high costs v bound) k.costs)
    (high_unboxed t s u v bound v_in k shape shifted)

-- a bound that stays
pub low_stays : (t : Table) (u : IsUnboxedTable t) (v bound : ℕ) → bound ≡ slice_index t.costs.low v →
    (t.costs ≡ with_low t.costs v bound) × (t.basis.items ≡ moved_basis (with_low t.costs v bound) t.basis.items)
low_stays t u v bound bound_is =
    let same : t.costs ≡ with_low t.costs v bound =
    sym (ap (with_low t.costs v) bound_is
    ∙ ap (λ (bs : List ℕ). record { low = bs; high = t.costs.high }) (set-get_or t.costs.low v 0)) in
    (same, sym (ap (λ (costs : CostBox). moved_basis costs t.basis.items) (sym same) ∙ moved_same t.costs t.rows.items t.basis.items u.members))

pub high_stays : (t : Table) (u : IsUnboxedTable t) (v bound : ℕ) → bound ≡ slice_index t.costs.high v →
    (t.costs ≡ with_high t.costs v bound) × (t.basis.items ≡ moved_basis (with_high t.costs v bound) t.basis.items)
high_stays t u v bound bound_is =
    let same : t.costs ≡ with_high t.costs v bound =
    sym (ap (with_high t.costs v) bound_is
    ∙ ap (λ (bs : List ℕ). record { low = t.costs.low; high = bs }) (set-get_or t.costs.high v 0)) in
    (same, sym (ap (λ (costs : CostBox). moved_basis costs t.basis.items) (sym same) ∙ moved_same t.costs t.rows.items t.basis.items u.members))

-- a step that was too wide, by what the bound was read to be
pub low_wide : (t : Table) (u : IsUnboxedTable t) (v bound low : ℕ) (fall : ℤ) (wide : Wide) → v < length t.costs.low →
    low ≡ slice_index t.costs.low v → fall ≡ (pos bound -ℤ pos low) → IsShiftedWide t v (Low v low) fall wide →
    IsWideShift t (low_shift_of t v bound) wide
low_wide t u v bound low fall wide v_in low_is fall_is is =
    let fall_at : fall ≡ (pos bound -ℤ pos (slice_index t.costs.low v)) = fall_is ∙ ap (λ (l : ℕ). pos bound -ℤ pos l) low_is in
    shift_wide t u v (Low v (slice_index t.costs.low v)) (pos bound -ℤ pos (slice_index t.costs.low v)) wide
    (omega (arith, lines_many t u, v_in)) (members_begin t.costs (length t.rows.items) v (Low 0 0) v_in)
    (subst (λ (l : ℕ). IsShiftedWide t v (Low v l) (pos bound -ℤ pos (slice_index t.costs.low v)) wide) low_is
    (subst (λ z. IsShiftedWide t v (Low v low) z wide) fall_at is))

pub high_wide : (t : Table) (u : IsUnboxedTable t) (v bound high own : ℕ) (fall : ℤ) (wide : Wide) →
    v < length t.costs.low → own ≡ length t.costs.low + v → high ≡ slice_index t.costs.high v →
    fall ≡ (pos high -ℤ pos bound) → IsShiftedWide t own (High v high) fall wide →
    IsWideShift t (high_shift_of t v bound) wide
high_wide t u v bound high own fall wide v_in own_is high_is fall_is is =
    let fall_at : fall ≡ (pos (slice_index t.costs.high v) -ℤ pos bound) = fall_is ∙ ap (λ (h : ℕ). pos h -ℤ pos bound) high_is in
    shift_wide t u (length t.costs.low + v) (High v (slice_index t.costs.high v))
    (pos (slice_index t.costs.high v) -ℤ pos bound) wide (omega (arith, lines_many t u, v_in))
    (high_place t.costs (length t.rows.items) v (Low 0 0) v_in)
    (subst (λ (place : ℕ). IsShiftedWide t place (High v (slice_index t.costs.high v))
    (pos (slice_index t.costs.high v) -ℤ pos bound) wide) own_is
    (subst (λ (h : ℕ). IsShiftedWide t own (High v h) (pos (slice_index t.costs.high v) -ℤ pos bound) wide)
    high_is (subst (λ z. IsShiftedWide t own (High v high) z wide) fall_at is)))
