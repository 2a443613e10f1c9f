-- A pivot of a table: its lines, its steps, and what is left.
use Rattle.std.proofs.Common.{◌≡◌, ◌≢◌, ℕ, zero, suc, ◌+◌, ◌*◌, ◌<◌, refl, sym, ◌∙◌, ap, subst, List, [], ◌∷◌, ◌++◌, map, take, length, arith, zero-add}
use Rattle.std.specs.Prelude.{ℤ, pos, negsuc, ◌*ℤ◌, ◌<ℤ◌, slice_index_or, slice_set}
use Rattle.std.specs.List.{AllZip}
use Rattle.std.proofs.lemmas.Int.{ints}
use Rattle.std.proofs.lemmas.List.{get_or_default, length-append, get_or_append_left, get_or-append-add}
use Rattle.cost_base.specs.Lists.{numbers_from}
use Rattle.cost_base.proofs.ListLemmas.{length-map-numbers_from, get_or-map-numbers_from, length_zip}
use Rattle.whole_numbers.specs.Fractions.{Fraction, divided, inverse, inverted, whole}
use Rattle.whole_numbers.specs.Lists.{number_at}
use Rattle.wide_fraction.specs.declared.steps.Wide.{Wide}
use Rattle.design_problem.specs.declared.boxes.CostBox.{CostBox}
use Rattle.design_problem.specs.declared.tree.Member.{Member}
use Rattle.design_problem.specs.declared.tree.Member.TheVariants.{Low, Row}
use Rattle.design_problem.specs.Basis.{IsFormOf, entry, low_member, member_form}
use Rattle.design_problem.specs.Steps.{IsPivot, IsTableStep, IsStepTooWide}
use Rattle.fraction_table.specs.declared.table.Table.{Table}
use Rattle.fraction_lines.specs.Entries.{IsPassing}
use Rattle.fraction_lines.specs.TableLines.{IsWideStep, divided_without}
use Rattle.fraction_table.specs.Tableaus.{wide_at}
use Rattle.fraction_lines.specs.Turns.{AreTableLines, IsQuotientStepOf, IsTurnStep, TurnsWide, turned_by}
use Rattle.fraction_table.specs.ValidTables.{IsTableLine, IsTableauOf, IsTableau, high_member, members_of_box, numbers_of_form}
use Rattle.fraction_table.specs.Pivots.{IsLeastIn, line_at, numbers_of_line, member_at}
use Rattle.fraction_table.proofs.theory.Resolved.{stand_length}
use Rattle.fraction_lines.proofs.ZeroFractions.{inverse_positive}
use Rattle.fraction_lines.proofs.TableLineLaws.{number_at as number_there, times_not_zero}
use Rattle.fraction_table.proofs.theory.TurnedNumbers.{numbers_at, numbers_long}
use Rattle.fraction_table.proofs.IntegralTurns.{IsPivotOf, stand_at, turned_line, whole_turned}
use Rattle.fraction_table.proofs.Bases.{line_entries, whole_table}
use Rattle.fraction_table.proofs.StartingTables.{members_are}
use Rattle.fraction_lines.proofs.PivotSteps.{IsFormLine, quotient_is_step, turn_is_step}
use Rattle.fraction_table.proofs.theory.Zips.{zip_at}

-- a line of a whole table is that of its member
pub whole_line : (t : Table) (w : IsTableau t) (line : ℕ) → line < length t.lines.items →
    IsTableLine t.top w.unboxed.common t.costs t.rows.items w.unboxed.lows (member_at t line) (line_at t line)
whole_line t w line line_in =
    let members = members_of_box t.costs (length t.rows.items) in
    zip_at (IsTableLine t.top w.unboxed.common t.costs t.rows.items w.unboxed.lows) members t.lines.items line (Low 0 0) [] w.unboxed.lines
    (omega (arith, length_zip (IsTableLine t.top w.unboxed.common t.costs t.rows.items w.unboxed.lows) members t.lines.items w.unboxed.lines, line_in))

pub member_in : (t : Table) (w : IsTableau t) (line : ℕ) → line < length t.lines.items → line < length (members_of_box t.costs (length t.rows.items))
member_in t w line line_in =
    omega (
      arith,
      length_zip (IsTableLine t.top w.unboxed.common t.costs t.rows.items w.unboxed.lows)
          (members_of_box t.costs (length t.rows.items)) t.lines.items w.unboxed.lines,
      line_in,
    )

pub member_is : (t : Table) (w : IsTableau t) (line : ℕ) → line < length t.lines.items → IsFormOf t.costs t.rows.items (member_at t line)
member_is t w line line_in = members_are t.costs t.rows.items line (Low 0 0) (member_in t w line line_in)

pub line_long : (t : Table) (w : IsTableau t) (line : ℕ) → line < length t.lines.items → length (line_at t line) ≡ suc (length t.costs.low)
line_long t w line line_in =
    let l = whole_line t w line line_in in
    stand_length w.unboxed.common (line_at t line) (numbers_of_line t w line) l.stand
    ∙ numbers_long (length t.costs.low) w.unboxed.common t.costs.low w.unboxed.lows (member_form (length t.costs.low) t.rows.items (member_at t line))

-- a line that is read
pub line_read : (t : Table) (line : ℕ) (row : List Fraction) → row ≡ slice_index_or t.lines.items line row → line < length t.lines.items → row ≡ line_at t line
line_read t line row is line_in = is ∙ get_or_default t.lines.items line row [] line_in

-- all lines are of the table's width and numbers
pub whole_rows : (t : Table) (w : IsTableau t) → AreTableLines t.top (suc (length t.costs.low)) t.lines.items
whole_rows t w = fit (members_of_box t.costs (length t.rows.items)) t.lines.items w.unboxed.lines
  where
    fit : (members : List Member) (lines : List (List Fraction)) →
        AllZip (IsTableLine t.top w.unboxed.common t.costs t.rows.items w.unboxed.lows) members lines →
        AreTableLines t.top (suc (length t.costs.low)) lines
    fit [] [] all = tt
    fit [] (line ∷ lines) all = absurd all
    fit (member ∷ members) [] all = absurd all
    fit (member ∷ members) (line ∷ lines) all = (
      stand_length w.unboxed.common line
          (numbers_of_form (length t.costs.low) w.unboxed.common t.costs.low w.unboxed.lows
          (member_form (length t.costs.low) t.rows.items member)) all.0.stand
          ∙ numbers_long (length t.costs.low) w.unboxed.common t.costs.low w.unboxed.lows (member_form (length t.costs.low) t.rows.items member),
      all.0.numbers,
      fit members lines all.1,
    )

pub form_line : (t : Table) (w : IsTableau t) (line : ℕ) → line < length t.lines.items →
    IsFormLine t.top t.costs t.rows.items t.basis.items (member_at t line) (line_at t line)
form_line t w line line_in =
    let l = whole_line t w line line_in in
    let is = member_is t w line line_in in
    record {
      form = is;
      entries = line_entries t.top t.costs t.rows.items t.basis.items t.lines.items w (member_at t line) (line_at t line) is l;
      count = line_long t w line line_in ∙ ap suc (sym w.unboxed.count);
      numbers = l.numbers;
    }

-- a step at the table's own lines that passes the top is too wide at the basis
pub wide_step : (t : Table) (w : IsTableau t) (wide : Wide) →
    IsTableStep t.costs t.rows.items t.basis.items (take (length t.costs.low) t.lines.items) wide.step wide.left wide.right →
    IsPassing t.top wide → IsStepTooWide t.top t.costs t.rows.items (wide_at wide t.basis.items)
wide_step t w wide step passes =
    record {
      lows = take (length t.costs.low) t.lines.items;
      table = whole_table t.top t.costs t.rows.items t.basis.items t.lines.items w;
      left = wide.left;
      right = wide.right;
      left_is = refl;
      right_is = refl;
      step = step;
      passes = passes;
    }

-- a step of the quotients that is too wide is so at the basis
pub quotients_wide : (t : Table) (w : IsTableau t) (line column : ℕ) → line < length t.lines.items →
    IsPivot t.basis.items (line_at t line) (suc column) → (wide : Wide) →
    IsWideStep t.top (IsQuotientStepOf (line_at t line) (suc column)) wide.step wide.left wide.right →
    IsStepTooWide t.top t.costs t.rows.items (wide_at wide t.basis.items)
quotients_wide t w line column line_in pivot wide is =
    wide_step t w wide
    (quotient_is_step t.top t.costs t.rows.items t.basis.items (take (length t.costs.low) t.lines.items)
    (member_at t line) (line_at t line) (suc column) (form_line t w line line_in) pivot wide.step wide.left
    wide.right is.0)
    is.1

-- and so is one by which a line is turned
pub turning_wide : (t : Table) (w : IsTableau t) (line column : ℕ) (ts : List Fraction) (inverse : Fraction) →
    line < length t.lines.items → IsPivot t.basis.items (line_at t line) (suc column) →
    ts ≡ divided_without (suc column) (entry (line_at t line) (suc column)) (line_at t line) 0 →
    inverse ≡ divided (whole (pos 1)) (entry (line_at t line) (suc column)) → (wide : Wide) →
    TurnsWide t.top t.lines.items ts (suc column) inverse wide.step wide.left wide.right →
    IsStepTooWide t.top t.costs t.rows.items (wide_at wide t.basis.items)
turning_wide t w line column ts inverse line_in pivot ts_are inverse_is wide is =
    let made = is.wide in
    let turned : IsTurnStep (line_at t is.line)
    (divided_without (suc column) (entry (line_at t line) (suc column)) (line_at t line) 0) (suc column)
    (divided (whole (pos 1)) (entry (line_at t line) (suc column))) wide.step wide.left wide.right =
    subst (λ (qs : List Fraction).
    IsTurnStep (line_at t is.line) qs (suc column) (divided (whole (pos 1)) (entry (line_at t line) (suc column)))
    wide.step wide.left wide.right) ts_are
    (subst (λ (q : Fraction). IsTurnStep (line_at t is.line) ts (suc column) q wide.step wide.left wide.right) inverse_is made.0) in
    wide_step t w wide
    (turn_is_step t.top t.costs t.rows.items t.basis.items (take (length t.costs.low) t.lines.items) (member_at t line)
    (member_at t is.line) (line_at t line) (line_at t is.line) (suc column) (form_line t w line line_in) pivot
    (form_line t w is.line is.line_in) wide.step wide.left wide.right turned made.1)
    made.1

-- what a positive fraction stands for is positive
pub positive_number : (z m : ℤ) (d D : ℕ) → 0 < d → 0 < D → (z *ℤ pos D) ≡ (m *ℤ pos d) → pos 0 <ℤ z → (a : ℕ) × (m ≡ pos a) × (0 < a)
positive_number (pos zero) m d D d_positive D_positive is positive = absurd (omega (arith, ints))
positive_number (negsuc n) m d D d_positive D_positive is positive = absurd (omega (arith, ints))
positive_number (pos (suc n)) (pos zero) d D d_positive D_positive is positive =
    let product : 0 < suc n * D = grind arith in
    absurd (omega (arith, ints))
positive_number (pos (suc n)) (pos (suc a)) d D d_positive D_positive is positive = (suc a, refl, omega arith)
positive_number (pos (suc n)) (negsuc a) d D d_positive D_positive is positive =
    let product : 0 < suc n * D = grind arith in
    let other : 0 < suc a * d = grind arith in
    absurd (omega (arith, ints))

-- the number of a form in a column in which its entry is positive
pub entry_number : (t : Table) (w : IsTableau t) (line column : ℕ) → line < length t.lines.items →
    IsPivot t.basis.items (line_at t line) (suc column) →
    (a : ℕ) × (number_at (numbers_of_line t w line) (suc column) ≡ pos a) × (0 < a)
entry_number t w line column line_in pivot =
    let n = length t.costs.low in
    let es = line_at t line in
    let f = member_form n t.rows.items (member_at t line) in
    let l = whole_line t w line line_in in
    let column_in : column < n = omega (arith, pivot.column, w.unboxed.count) in
    let here = number_there t.top es (suc column) l.numbers (omega (arith, line_long t w line line_in, column_in)) in
    let stands = stand_at w.unboxed.common es (numbers_of_line t w line) (suc column) l.stand
    (omega (arith, numbers_long n w.unboxed.common t.costs.low w.unboxed.lows f, column_in)) in
    positive_number (entry es (suc column)).numerator (number_at (numbers_of_line t w line) (suc column))
    (entry es (suc column)).denominator w.unboxed.common here.lowest.positive w.unboxed.positive stands pivot.above

-- the lines, turned by the quotients and the inverse that were made of a line
pub news_turned : (es row qs : List Fraction) (place : ℕ) (inverse : Fraction)
    (news rows lines : List (List Fraction)) → news ≡ map (λ fs. turned_by fs qs place inverse) rows → rows ≡ lines →
    qs ≡ divided_without place (entry row place) row 0 → inverse ≡ divided (whole (pos 1)) (entry row place) →
    row ≡ es → news ≡ map (turned_line es place) lines
news_turned es row qs place inverse news rows lines news_are rows_are qs_are inverse_is row_is =
    news_are
    ∙ ap (map (λ fs. turned_by fs qs place inverse)) rows_are
    ∙ ap (λ (ts : List Fraction). map (λ fs. turned_by fs ts place inverse) lines)
    (qs_are ∙ ap (λ (r : List Fraction). divided_without place (entry r place) r 0) row_is)
    ∙ ap (λ (q : Fraction). map (λ fs. turned_by fs (divided_without place (entry es place) es 0) place q) lines)
    (inverse_is ∙ ap (λ (r : List Fraction). divided (whole (pos 1)) (entry r place)) row_is)

-- what a pivot of the table needs
pub pivot_of : (t : Table) (w : IsTableau t) (line column a : ℕ) → line < length t.lines.items →
    IsPivot t.basis.items (line_at t line) (suc column) → IsLeastIn t line column →
    number_at (numbers_of_line t w line) (suc column) ≡ pos a → 0 < a →
    IsPivotOf t.top t.costs t.rows.items w.unboxed.common w.unboxed.lows (member_at t line) (line_at t line) column a
pivot_of t w line column a line_in pivot least at_column positive =
    let n = length t.costs.low in
    let f = member_form n t.rows.items (member_at t line) in
    let column_in : column < n = omega (arith, pivot.column, w.unboxed.count) in
    record {
      member = member_is t w line line_in;
      line = whole_line t w line line_in;
      j_in = column_in;
      at_j = sym (numbers_at n w.unboxed.common t.costs.low w.unboxed.lows f (suc column) (omega (arith, column_in))) ∙ at_column;
      positive = positive;
      least = least w;
    }

-- the table after a pivot is whole
pub pivot_whole : (t : Table) (w : IsTableau t) (line column : ℕ) (news : List (List Fraction)) →
    line < length t.lines.items → IsPivot t.basis.items (line_at t line) (suc column) → IsLeastIn t line column →
    news ≡ map (turned_line (line_at t line) (suc column)) t.lines.items →
    AreTableLines t.top (suc (length t.costs.low)) news →
    IsTableauOf t.top t.costs t.rows.items (slice_set t.basis.items column (member_at t line)) news
pivot_whole t w line column news line_in pivot least news_are numbers =
    let n = length t.costs.low in
    let es = line_at t line in
    let positive = entry_number t w line column line_in pivot in
    let p = pivot_of t w line column positive.0 line_in pivot least positive.1 positive.2 in
    subst (λ (lines : List (List Fraction)). IsTableauOf t.top t.costs t.rows.items (slice_set t.basis.items column (member_at t line)) lines) (sym news_are)
    (whole_turned t.top t.costs t.rows.items t.basis.items t.lines.items (member_at t line) es column positive.0 w p
    (subst (AreTableLines t.top (suc n)) news_are numbers))

-- the inverse of a positive entry isn't 0
inverted_not_zero : (z : ℤ) (d : ℕ) → 0 < d → pos 0 <ℤ z → (inverted z d).numerator ≢ pos 0
inverted_not_zero (pos zero) d d_positive positive none = absurd (omega (arith, ints))
inverted_not_zero (pos (suc n)) d d_positive positive none = omega (arith, ints)
inverted_not_zero (negsuc n) d d_positive positive none = absurd (omega (arith, ints))

pub inverse_not_zero : (q : Fraction) → 0 < q.denominator → pos 0 <ℤ q.numerator → (divided (whole (pos 1)) q).numerator ≢ pos 0
inverse_not_zero q d_positive positive =
    times_not_zero (whole (pos 1)) (inverse q) (omega arith) (inverse_positive q.numerator q.denominator)
    (λ one. omega (arith, ints)) (inverted_not_zero q.numerator q.denominator d_positive positive)

-- the places of the other members of a box
pub high_place : (costs : CostBox) (rows k : ℕ) (d : Member) → k < length costs.low →
    slice_index_or (members_of_box costs rows) (length costs.low + k) d ≡ high_member costs k
high_place costs rows k d k_in =
    let n = length costs.low in
    let lows = map (low_member costs) (numbers_from 0 n) in
    let highs = map (high_member costs) (numbers_from 0 n) in
    let lows_long : length lows ≡ n = length-map-numbers_from (low_member costs) 0 n in
    let highs_long : length highs ≡ n = length-map-numbers_from (high_member costs) 0 n in
    get_or_append_left (lows ++ highs) (map (λ row. Row row) (numbers_from 0 rows)) d (n + k)
    (omega (arith, length-append lows highs, lows_long, highs_long, k_in))
    ∙ ap (λ m. slice_index_or (lows ++ highs) (m + k) d) (sym lows_long)
    ∙ get_or-append-add lows highs k d
    ∙ get_or-map-numbers_from (high_member costs) 0 n k d k_in
    ∙ ap (high_member costs) (zero-add k)

pub row_place : (costs : CostBox) (rows k : ℕ) (d : Member) → k < rows →
    slice_index_or (members_of_box costs rows) (length costs.low + length costs.low + k) d ≡ Row k
row_place costs rows k d k_in =
    let n = length costs.low in
    let lows = map (low_member costs) (numbers_from 0 n) in
    let highs = map (high_member costs) (numbers_from 0 n) in
    let both_long : length (lows ++ highs) ≡ n + n =
    omega (
      arith,
      length-append lows highs,
      length-map-numbers_from (low_member costs) 0 n,
      length-map-numbers_from (high_member costs) 0 n,
    ) in
    ap (λ m. slice_index_or ((lows ++ highs) ++ map (λ row. Row row) (numbers_from 0 rows)) (m + k) d) (sym both_long)
    ∙ get_or-append-add (lows ++ highs) (map (λ row. Row row) (numbers_from 0 rows)) k d
    ∙ get_or-map-numbers_from (λ row. Row row) 0 rows k d k_in
    ∙ ap (λ row. Row row) (zero-add k)

pub members_long : (costs : CostBox) (rows : ℕ) → length (members_of_box costs rows) ≡ length costs.low + length costs.low + rows
members_long costs rows =
    let n = length costs.low in
    let lows = map (low_member costs) (numbers_from 0 n) in
    let highs = map (high_member costs) (numbers_from 0 n) in
    omega (
      arith,
      length-append (lows ++ highs) (map (λ row. Row row) (numbers_from 0 rows)),
      length-append lows highs,
      length-map-numbers_from (low_member costs) 0 n,
      length-map-numbers_from (high_member costs) 0 n,
      length-map-numbers_from (λ row. Row row) 0 rows,
    )

pub lines_long : (t : Table) (w : IsTableau t) → length t.lines.items ≡ length t.costs.low + length t.costs.low + length t.rows.items
lines_long t w =
    sym (length_zip (IsTableLine t.top w.unboxed.common t.costs t.rows.items w.unboxed.lows) (members_of_box t.costs (length t.rows.items))
    t.lines.items w.unboxed.lines)
    ∙ members_long t.costs (length t.rows.items)
