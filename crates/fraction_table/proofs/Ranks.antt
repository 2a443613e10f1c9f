-- The constants rise at a pivot, and so does the table's rank.
use Rattle.std.proofs.Common.{◌≡◌, ℕ, zero, suc, ◌+◌, ◌-◌, ◌*◌, ◌^◌, ◌<◌, ◌≤◌, refl, sym, ◌∙◌, ap, subst, List, [], ◌∷◌, map, length, arith, inl, inr}
use Rattle.std.specs.Prelude.{ℤ, pos, negsuc, ◌+ℤ◌, ◌-ℤ◌, ◌*ℤ◌, ◌<ℤ◌, ◌≤ℤ◌, nat_abs, take, slice_index_or, slice_set}
use Rattle.std.specs.List.{AllByRecursion}
use Rattle.std.proofs.lemmas.Int.{ints}
use Rattle.std.proofs.lemmas.List.{get_or-map, length-map, length-take-le}
use native.Mathlib.Nat.{div-le_self, mul-le-mul_right}
use Rattle.whole_numbers.specs.Fractions.{Fraction, StandsFor}
use Rattle.whole_numbers.proofs.Ring.{var, ◌⊕◌, ◌⊖◌, ◌⊗◌, ring}
use Rattle.whole_numbers.proofs.Sums.{lowest_unique}
use Rattle.whole_numbers.specs.Lists.{number_at}
use Rattle.design_problem.specs.Basis.{LeadsPositive, entry, member_form}
use Rattle.design_problem.specs.Earnest.{LexLess}
use Rattle.design_problem.specs.Steps.{IsPivot}
use Rattle.fraction_table.specs.declared.table.Table.{Table}
use Rattle.design_problem.specs.declared.boxes.CostBox.{CostBox}
use Rattle.fraction_lines.specs.TableLines.{IsTableNumber}
use Rattle.fraction_lines.specs.Turns.{AreTableLines}
use Rattle.fraction_table.specs.ValidTables.{AllLong, IsTableau}
use Rattle.fraction_table.specs.Pivots.{IsLeastIn, KeepsBoxAndRows, line_at, numbers_of_line, member_at, numbers_in_column, turned_column}
use Rattle.fraction_table.specs.Ranks.{digits_number, heights, past_heights, raised_height, rank}
use Rattle.fraction_table.proofs.theory.Height.{digits_number-lt, digits_rise, height_rises}
use Rattle.fraction_lines.proofs.TableLineLaws.{number_at as number_there, lines_at}
use Rattle.fraction_table.proofs.theory.Turns.{turned_rows}
use Rattle.fraction_table.proofs.theory.TurnedNumbers.{numbers_long}
use Rattle.fraction_table.proofs.theory.TurnedLeads.{column_other, length-numbers_in}
use Rattle.fraction_table.proofs.IntegralTurns.{IsPivotOf, stand_at, turned_line, whole_turned}
use Rattle.fraction_table.proofs.Bases.{low_line_stands, lows_counted}
use Rattle.fraction_table.proofs.Pivots.{entry_number, line_long, lines_long, pivot_of, positive_number, whole_line}
use Rattle.fraction_table.proofs.theory.Rise.{constants_rise, rise}
use Rattle.fraction_table.proofs.Solutions.{high_number, low_number, negative_number}

-- a fraction within the top isn't negative once it is raised
raised : (m : ℕ) (z : ℤ) → nat_abs z ≤ m → pos (nat_abs (z +ℤ pos m)) ≡ (z +ℤ pos m)
raised m z within = omega (arith, ints)

raised_enough : (top d : ℕ) (z : ℤ) → 0 < d → nat_abs z ≤ top → nat_abs z ≤ top * d
raised_enough top d z d_positive within =
    let enough : top ≤ top * d = grind arith in
    omega arith

raised_over : (top d e r : ℕ) (z : ℤ) → pos r ≡ (z +ℤ pos (top * d)) → pos (r * e) ≡ ((z *ℤ pos e) +ℤ pos (top * (d * e)))
raised_over top d e r z is =
    ap (λ x. x *ℤ pos e) is
    ∙ ring (z ∷ pos top ∷ pos d ∷ pos e ∷ []) ((var 0 ⊕ (var 1 ⊗ var 2)) ⊗ var 3) ((var 0 ⊗ var 3) ⊕ (var 1 ⊗ (var 2 ⊗ var 3))) refl

-- a lesser fraction has the lesser height
lesser_lower : (top : ℕ) (p q : Fraction) → IsTableNumber top p → IsTableNumber top q →
    (p.numerator *ℤ pos q.denominator) <ℤ (q.numerator *ℤ pos p.denominator) → raised_height top p < raised_height top q
lesser_lower top p q p_is q_is less =
    let b = p.denominator in
    let d = q.denominator in
    let a = nat_abs (p.numerator +ℤ pos (top * b)) in
    let c = nat_abs (q.numerator +ℤ pos (top * d)) in
    let first = raised_over top b d a p.numerator (raised (top * b) p.numerator (raised_enough top b p.numerator p_is.lowest.positive p_is.within.numerator)) in
    let second = raised_over top d b c q.numerator
    (raised (top * d) q.numerator (raised_enough top d q.numerator q_is.lowest.positive q_is.within.numerator)) in
    height_rises top a b c d p_is.lowest.positive q_is.lowest.positive p_is.within.denominator q_is.within.denominator
    (between (a * d) (c * b) (top * (b * d)) (top * (d * b)) (p.numerator *ℤ pos d) (q.numerator *ℤ pos b) first second (grind arith) less)
  where
    between : (m n s t : ℕ) (x y : ℤ) → pos m ≡ (x +ℤ pos s) → pos n ≡ (y +ℤ pos t) → s ≡ t → x <ℤ y → m < n
    between m n s t x y m_is n_is same lower = omega (arith, ints)

-- two fractions by the numbers that they stand for, the one over D and the other over D·a
crossed_numbers : (D a d e : ℕ) (p q x y : ℤ) → (p *ℤ pos D) ≡ (x *ℤ pos d) → (q *ℤ pos (D * a)) ≡ (y *ℤ pos e) →
    (((q *ℤ pos d) -ℤ (p *ℤ pos e)) *ℤ pos (D * (D * a))) ≡ (((pos D *ℤ y) -ℤ ((pos D *ℤ pos a) *ℤ x)) *ℤ pos (d * e))
crossed_numbers D a d e p q x y p_is q_is =
    ring (q ∷ pos d ∷ p ∷ pos e ∷ pos D ∷ pos a ∷ []) (((var 0 ⊗ var 1) ⊖ (var 2 ⊗ var 3)) ⊗ (var 4 ⊗ (var 4 ⊗ var 5)))
    (((var 0 ⊗ (var 4 ⊗ var 5)) ⊗ (var 1 ⊗ var 4)) ⊖ ((var 2 ⊗ var 4) ⊗ (var 3 ⊗ (var 4 ⊗ var 5)))) refl
    ∙ ap (λ z. (z *ℤ (pos d *ℤ pos D)) -ℤ ((p *ℤ pos D) *ℤ (pos e *ℤ (pos D *ℤ pos a)))) q_is
    ∙ ap (λ z. ((y *ℤ pos e) *ℤ (pos d *ℤ pos D)) -ℤ (z *ℤ (pos e *ℤ (pos D *ℤ pos a)))) p_is
    ∙ ring (y ∷ pos e ∷ pos d ∷ pos D ∷ x ∷ pos a ∷ [])
    (((var 0 ⊗ var 1) ⊗ (var 2 ⊗ var 3)) ⊖ ((var 4 ⊗ var 2) ⊗ (var 1 ⊗ (var 3 ⊗ var 5))))
    (((var 3 ⊗ var 0) ⊖ ((var 3 ⊗ var 5) ⊗ var 4)) ⊗ (var 2 ⊗ var 1)) refl

-- A constant before and after a pivot, with its numbers over D and over D·a.
pub record IsConstant (top D a : ℕ) (p q : Fraction) (x y : ℤ) : Type 0 where
  pub old : IsTableNumber top p
  pub new : IsTableNumber top q
  pub old_stands : StandsFor p x D
  pub new_stands : StandsFor q y (D * a)

abbrev difference : ℕ → ℕ → ℤ → ℤ → ℤ
difference D a x y = (pos D *ℤ y) -ℤ ((pos D *ℤ pos a) *ℤ x)

constant_rises : (top D a : ℕ) (p q : Fraction) (x y : ℤ) → 0 < D → 0 < a → IsConstant top D a p q x y →
    pos 0 <ℤ difference D a x y → raised_height top p < raised_height top q
constant_rises top D a p q x y D_positive a_positive c higher =
    let b = p.denominator in
    let d = q.denominator in
    let common : 0 < D * (D * a) = grind arith in
    let other : 0 < b * d = grind (arith, c.old.lowest.positive, c.new.lowest.positive) in
    let found = positive_number (difference D a x y) ((q.numerator *ℤ pos b) -ℤ (p.numerator *ℤ pos d)) (D * (D * a)) (b * d) common other
    (sym (crossed_numbers D a b d p.numerator q.numerator x y c.old_stands c.new_stands)) higher in
    lesser_lower top p q c.old c.new (less (p.numerator *ℤ pos d) (q.numerator *ℤ pos b) found.0 found.1 found.2)
  where
    less : (m n : ℤ) (k : ℕ) → (n -ℤ m) ≡ pos k → 0 < k → m <ℤ n
    less m n k is positive = omega (arith, ints)

constant_stays : (top D a : ℕ) (p q : Fraction) (x y : ℤ) → 0 < D → 0 < a → IsConstant top D a p q x y →
    difference D a x y ≡ pos 0 → raised_height top p ≡ raised_height top q
constant_stays top D a p q x y D_positive a_positive c level =
    let b = p.denominator in
    let d = q.denominator in
    let common : 0 < D * (D * a) = grind arith in
    let other : 0 < b * d = grind (arith, c.old.lowest.positive, c.new.lowest.positive) in
    let crossed = sym (crossed_numbers D a b d p.numerator q.numerator x y c.old_stands c.new_stands) in
    let over = (q.numerator *ℤ pos b) -ℤ (p.numerator *ℤ pos d) in
    let low = low_number (difference D a x y) over (D * (D * a)) (b * d) common other crossed (omega (arith, ints, level)) in
    let high = high_number (difference D a x y) over (D * (D * a)) (b * d) common other crossed (omega (arith, ints, level)) in
    ap (raised_height top) (lowest_unique p q c.old.lowest c.new.lowest (equal (p.numerator *ℤ pos d) (q.numerator *ℤ pos b) low high))
  where
    equal : (m n : ℤ) → (n -ℤ m) ≤ℤ pos 0 → pos 0 ≤ℤ (n -ℤ m) → m ≡ n
    equal m n low high = omega (arith, ints)

-- where the difference of two numbers leads, or those after it do, the heights rise
by_lead : (z : ℤ) (zs : List ℤ) (h k : ℕ) (hs ks : List ℕ) → LeadsPositive (z ∷ zs) → (pos 0 <ℤ z → h < k) →
    (z ≡ pos 0 → h ≡ k) → (LeadsPositive zs → LexLess hs ks) → LexLess (h ∷ hs) (k ∷ ks)
by_lead (pos zero) zs h k hs ks leads rises stays rest = inr (stays refl, rest leads)
by_lead (pos (suc n)) zs h k hs ks leads rises stays rest = inl (rises (omega (arith, ints)))
by_lead (negsuc n) zs h k hs ks leads rises stays rest = absurd leads

constants_higher : (top D a n : ℕ) (olds news : List (List Fraction)) (xs ys : List ℤ) → 0 < D → 0 < a → length xs ≡ n →
    length ys ≡ n → n ≤ length olds → n ≤ length news →
    ((v : ℕ) → v < n → IsConstant top D a (entry (slice_index_or olds v []) 0) (entry (slice_index_or news v []) 0)
    (slice_index_or xs v (pos 0)) (slice_index_or ys v (pos 0))) → LeadsPositive (rise D a ys xs) →
    LexLess (heights top n olds) (heights top n news)
constants_higher top D a zero olds news xs [] D_positive a_positive x_long y_long olds_long news_long each leads = absurd leads
constants_higher top D a zero olds news xs (y ∷ ys) D_positive a_positive x_long y_long olds_long news_long each leads = absurd (omega (arith, y_long))
constants_higher top D a (suc n) [] news xs ys D_positive a_positive x_long y_long olds_long news_long each leads = absurd (omega (arith, olds_long))
constants_higher top D a (suc n) (p ∷ olds) [] xs ys D_positive a_positive x_long y_long olds_long news_long each leads = absurd (omega (arith, news_long))
constants_higher top D a (suc n) (p ∷ olds) (q ∷ news) [] ys D_positive a_positive x_long y_long olds_long news_long each leads = absurd (omega (arith, x_long))
constants_higher top D a (suc n) (p ∷ olds) (q ∷ news) (x ∷ xs) [] D_positive a_positive x_long y_long olds_long
    news_long each leads = absurd (omega (arith, y_long))
constants_higher top D a (suc n) (p ∷ olds) (q ∷ news) (x ∷ xs) (y ∷ ys) D_positive a_positive x_long y_long olds_long news_long each leads =
    let c = each 0 (omega arith) in
    by_lead (difference D a x y) (rise D a ys xs) (raised_height top (entry p 0)) (raised_height top (entry q 0))
    (heights top n olds) (heights top n news) leads
    (constant_rises top D a (entry p 0) (entry q 0) x y D_positive a_positive c)
    (constant_stays top D a (entry p 0) (entry q 0) x y D_positive a_positive c)
    (λ later. constants_higher top D a n olds news xs ys D_positive a_positive (omega (arith, x_long))
    (omega (arith, y_long)) (omega (arith, olds_long)) (omega (arith, news_long))
    (λ v v_in. each (suc v) (omega (arith, v_in))) later)

-- heights are below their base
height_small : (top : ℕ) (q : Fraction) → IsTableNumber top q → raised_height top q < past_heights top
height_small top q q_is =
    let raised_small : nat_abs (q.numerator +ℤ pos (top * q.denominator)) ≤ top + top * top =
    small top q.denominator q.numerator q_is.within.numerator q_is.within.denominator in
    let wide : nat_abs (q.numerator +ℤ pos (top * q.denominator)) * (top * top) ≤ (top + top * top) * (top * top) = mul-le-mul_right (top * top) raised_small in
    omega (arith, div-le_self (nat_abs (q.numerator +ℤ pos (top * q.denominator)) * (top * top)) q.denominator)
  where
    size_sum : (m n k : ℕ) (z : ℤ) → nat_abs z ≤ m → n ≤ k → nat_abs (z +ℤ pos n) ≤ m + k
    size_sum m n k z z_small n_small = omega (arith, ints)

    small : (m d : ℕ) (z : ℤ) → nat_abs z ≤ m → d ≤ m → nat_abs (z +ℤ pos (m * d)) ≤ m + m * m
    small m d z z_small d_small = size_sum m (m * d) (m * m) z z_small (grind arith)

heights_small : (top n : ℕ) (lines : List (List Fraction)) →
    ((v : ℕ) → v < n → v < length lines → IsTableNumber top (entry (slice_index_or lines v []) 0)) →
    AllByRecursion (λ x. x < past_heights top) (heights top n lines)
heights_small top zero lines each = tt
heights_small top (suc n) [] each = tt
heights_small top (suc n) (line ∷ lines) each = (
  height_small top (entry line 0) (each 0 (omega arith) (omega arith)),
  heights_small top n lines (λ v v_in v_there. each (suc v) (omega (arith, v_in)) (omega (arith, v_there))),
)

heights_long : (top n : ℕ) (lines : List (List Fraction)) → n ≤ length lines → length (heights top n lines) ≡ n
heights_long top n lines many = length-map (take n lines) (λ line. raised_height top (entry line 0)) ∙ length-take-le n lines many

-- the first lines of a whole table
pub lines_many : (t : Table) → IsTableau t → length t.costs.low ≤ length t.lines.items
lines_many t w = omega (arith, lines_long t w)

constant_number : (t : Table) (w : IsTableau t) (v : ℕ) → v < length t.lines.items → IsTableNumber t.top (entry (line_at t v) 0)
constant_number t w v v_in = number_there t.top (line_at t v) 0 (whole_line t w v v_in).numbers (omega (arith, line_long t w v v_in))

-- the rank of a table is below a bound
pub rank_small : (t : Table) → IsTableau t → rank t < past_heights t.top ^ length t.costs.low
rank_small t w =
    let n = length t.costs.low in
    subst (λ (m : ℕ). rank t < past_heights t.top ^ m) (heights_long t.top n t.lines.items (lines_many t w))
    (digits_number-lt (past_heights t.top) (heights t.top n t.lines.items)
    (heights_small t.top n t.lines.items (λ v v_in v_there. constant_number t w v v_there)))

pub negative_size : (z : ℤ) → z <ℤ pos 0 → (u : ℕ) × (0 < u) × ((z +ℤ pos u) ≡ pos 0)
negative_size z negative = (nat_abs z, omega (arith, ints), omega (arith, ints))

first_number : (lows : List (List ℤ)) (place v : ℕ) → v < length lows →
    slice_index_or (numbers_in_column place lows) v (pos 0) ≡ number_at (slice_index_or lows v []) place
first_number lows place v v_in = get_or-map (λ ts. number_at ts place) lows v [] (pos 0) v_in

-- Before and after a pivot the constants of x - low are fractions of numbers in the first column.
constants_there : (t : Table) (w : IsTableau t) (line column a : ℕ) (line_in : line < length t.lines.items) →
    (p : IsPivotOf t.top t.costs t.rows.items w.unboxed.common w.unboxed.lows (member_at t line) (line_at t line) column
    a) → (rows : AreTableLines t.top (suc (length t.costs.low))
    (map (turned_line (line_at t line) (suc column)) t.lines.items)) → (v : ℕ) → v < length t.costs.low →
    IsConstant t.top w.unboxed.common a (entry (slice_index_or t.lines.items v []) 0)
    (entry (slice_index_or (map (turned_line (line_at t line) (suc column)) t.lines.items) v []) 0)
    (slice_index_or (numbers_in_column 0 w.unboxed.lows) v (pos 0))
    (slice_index_or (numbers_in_column 0 (turned_rows w.unboxed.lows (numbers_of_line t w line) (suc column) w.unboxed.common)) v
    (pos 0))
unfolding whole_turned
constants_there t w line column a line_in p rows v v_in =
    let news = map (turned_line (line_at t line) (suc column)) t.lines.items in
    let lows = turned_rows w.unboxed.lows (numbers_of_line t w line) (suc column) w.unboxed.common in
    let basis = slice_set t.basis.items column (member_at t line) in
    let whole = whole_turned t.top t.costs t.rows.items t.basis.items t.lines.items (member_at t line) (line_at t line) column a w p rows in
    let counted = lows_counted t.top t.costs t.rows.items t.basis.items t.lines.items w in
    let counted_after : length t.costs.low ≡ length lows = lows_counted t.top t.costs t.rows.items basis news whole in
    let many = lines_many t w in
    let as_many = length-map t.lines.items (turned_line (line_at t line) (suc column)) in
    let before = low_line_stands t.top t.costs t.rows.items t.basis.items t.lines.items w v 0 v_in (omega arith) in
    let after = low_line_stands t.top t.costs t.rows.items basis news whole v 0 v_in (omega arith) in
    let row = lines_at t.top (suc (length t.costs.low)) news v [] rows (omega (arith, as_many, many, v_in)) in
    record {
      old = constant_number t w v (omega (arith, many, v_in));
      new = number_there t.top (slice_index_or news v []) 0 row.1 (omega (arith, row.0));
      old_stands = subst (λ (z : ℤ). StandsFor (entry (line_at t v) 0) z w.unboxed.common)
          (sym (first_number w.unboxed.lows 0 v (omega (arith, counted, v_in)))) before.1;
      new_stands = subst (λ (z : ℤ). StandsFor (entry (slice_index_or news v []) 0) z (w.unboxed.common * a))
          (sym (first_number lows 0 v (omega (arith, counted_after, v_in)))) after.1;
    }

-- At a pivot the rank rises.
pub rank_rises : (t : Table) (w : IsTableau t) (line column : ℕ) (news : List (List Fraction)) →
    line < length t.lines.items → IsPivot t.basis.items (line_at t line) (suc column) → IsLeastIn t line column →
    news ≡ map (turned_line (line_at t line) (suc column)) t.lines.items →
    AreTableLines t.top (suc (length t.costs.low)) news →
    rank t < digits_number (past_heights t.top) (heights t.top (length t.costs.low) news)
unfolding whole_turned
rank_rises t w line column news line_in pivot least news_are rows =
    let n = length t.costs.low in
    let es = line_at t line in
    let rs = numbers_of_line t w line in
    let turned = map (turned_line es (suc column)) t.lines.items in
    let positive = entry_number t w line column line_in pivot in
    let a = positive.0 in
    let p = pivot_of t w line column a line_in pivot least positive.1 positive.2 in
    let turned_rows_are : AreTableLines t.top (suc n) turned = subst (AreTableLines t.top (suc n)) news_are rows in
    let many = lines_many t w in
    let as_many : length turned ≡ length t.lines.items = length-map t.lines.items (turned_line es (suc column)) in
    let counted = lows_counted t.top t.costs t.rows.items t.basis.items t.lines.items w in
    let rs_long : length rs ≡ suc n = numbers_long n w.unboxed.common t.costs.low w.unboxed.lows (member_form n t.rows.items (member_at t line)) in
    let column_is : numbers_in_column 0 (turned_rows w.unboxed.lows rs (suc column) w.unboxed.common)
    ≡ turned_column a (numbers_in_column 0 w.unboxed.lows) (number_at rs 0) (numbers_in_column (suc column) w.unboxed.lows) =
    column_other a w.unboxed.common w.unboxed.lows rs (suc column) 0
    (subst (λ (m : ℕ). AllLong m w.unboxed.lows) (sym rs_long) w.unboxed.long) positive.1
    (λ same. omega (arith, same)) (omega (arith, rs_long)) in
    let below = negative_size (number_at rs 0) (constant_negative t w line line_in pivot.below) in
    let in_columns : length (numbers_in_column 0 w.unboxed.lows) ≡
    length (numbers_in_column (suc column) w.unboxed.lows) = length-numbers_in 0 w.unboxed.lows (suc column) in
    let rises = constants_rise w.unboxed.common a (numbers_in_column 0 w.unboxed.lows) below.0 (number_at rs 0)
    (numbers_in_column (suc column) w.unboxed.lows) w.unboxed.positive below.1 below.2 in_columns
    (w.unboxed.lead column p.j_in) in
    let xs_long : length (numbers_in_column 0 w.unboxed.lows) ≡ n = length-map w.unboxed.lows (λ ts. number_at ts 0) ∙ sym counted in
    let lows = turned_rows w.unboxed.lows rs (suc column) w.unboxed.common in
    let whole = whole_turned t.top t.costs t.rows.items t.basis.items t.lines.items (member_at t line) es column a w p turned_rows_are in
    let counted_after : n ≡ length lows = lows_counted t.top t.costs t.rows.items (slice_set t.basis.items column (member_at t line)) turned whole in
    let ys_long : length (numbers_in_column 0 lows) ≡ n = length-map lows (λ ts. number_at ts 0) ∙ sym counted_after in
    let higher = constants_higher t.top w.unboxed.common a n t.lines.items turned (numbers_in_column 0 w.unboxed.lows)
    (numbers_in_column 0 lows) w.unboxed.positive positive.2 xs_long ys_long many (omega (arith, as_many, many))
    (constants_there t w line column a line_in p turned_rows_are)
    (subst (λ (ys : List ℤ). LeadsPositive (rise w.unboxed.common a ys (numbers_in_column 0 w.unboxed.lows))) (sym column_is) rises) in
    subst (λ (lines : List (List Fraction)). rank t < digits_number (past_heights t.top) (heights t.top n lines)) (sym news_are)
    (digits_rise (past_heights t.top) (heights t.top n t.lines.items) (heights t.top n turned)
    (heights_small t.top n t.lines.items (λ v v_in v_there. constant_number t w v v_there))
    (heights_small t.top n turned (λ v v_in v_there.
    (let row = lines_at t.top (suc n) turned v [] turned_rows_are v_there in
    number_there t.top (slice_index_or turned v []) 0 row.1 (omega (arith, row.0)))))
    (heights_long t.top n t.lines.items many ∙ sym (heights_long t.top n turned (omega (arith, as_many, many))))
    higher)
  where
    constant_negative : (t : Table) (w : IsTableau t) (line : ℕ) → line < length t.lines.items →
        (entry (line_at t line) 0).numerator <ℤ pos 0 → number_at (numbers_of_line t w line) 0 <ℤ pos 0
    constant_negative t w line line_in below =
        let l = whole_line t w line line_in in
        let stands = stand_at w.unboxed.common (line_at t line) (numbers_of_line t w line) 0 l.stand
        (omega (
          arith,
          numbers_long (length t.costs.low) w.unboxed.common t.costs.low w.unboxed.lows
              (member_form (length t.costs.low) t.rows.items (member_at t line)),
        )) in
        negative_number (entry (line_at t line) 0).numerator (number_at (numbers_of_line t w line) 0)
        (entry (line_at t line) 0).denominator w.unboxed.common (constant_number t w line line_in).lowest.positive
        w.unboxed.positive stands below

scaled_stands : (q : Fraction) (m : ℤ) (D a : ℕ) → StandsFor q m a → StandsFor q (m *ℤ pos D) (D * a)
scaled_stands q m D a stands =
    ring (q.numerator ∷ pos D ∷ pos a ∷ []) (var 0 ⊗ (var 1 ⊗ var 2)) ((var 0 ⊗ var 2) ⊗ var 1) refl
    ∙ ap (λ z. z *ℤ pos D) stands
    ∙ ring (m ∷ pos D ∷ pos q.denominator ∷ []) ((var 0 ⊗ var 2) ⊗ var 1) ((var 0 ⊗ var 1) ⊗ var 2) refl

-- The rank rises from one table to another of the same forms, where the constants of the one, each times the other's
-- denominator, rise.
pub rank_rises_to : (s t : Table) (w : IsTableau s) (v : IsTableau t) → KeepsBoxAndRows s t →
    LeadsPositive (rise w.unboxed.common v.unboxed.common
    (map (λ z. z *ℤ pos w.unboxed.common) (numbers_in_column 0 v.unboxed.lows)) (numbers_in_column 0 w.unboxed.lows)) →
    rank s < rank t
rank_rises_to s t w v keeps leads =
    let n = length s.costs.low in
    let D = w.unboxed.common in
    let a = v.unboxed.common in
    let xs = numbers_in_column 0 w.unboxed.lows in
    let ms = numbers_in_column 0 v.unboxed.lows in
    let ys = map (λ z. z *ℤ pos D) ms in
    let wide : length t.costs.low ≡ n = ap (λ (c : CostBox). length c.low) keeps.costs in
    let counted = lows_counted s.top s.costs s.rows.items s.basis.items s.lines.items w in
    let counted_after = lows_counted t.top t.costs t.rows.items t.basis.items t.lines.items v in
    let xs_long : length xs ≡ n = length-map w.unboxed.lows (λ ts. number_at ts 0) ∙ sym counted in
    let ms_long : length ms ≡ n = length-map v.unboxed.lows (λ ts. number_at ts 0) ∙ sym counted_after ∙ wide in
    let ys_long : length ys ≡ n = length-map ms (λ z. z *ℤ pos D) ∙ ms_long in
    let many = lines_many s w in
    let many_after : n ≤ length t.lines.items = omega (arith, lines_many t v, wide) in
    let each : (i : ℕ) → i < n → IsConstant s.top D a (entry (slice_index_or s.lines.items i []) 0)
    (entry (slice_index_or t.lines.items i []) 0) (slice_index_or xs i (pos 0)) (slice_index_or ys i (pos 0)) =
    λ i i_in. (
    let before = low_line_stands s.top s.costs s.rows.items s.basis.items s.lines.items w i 0 i_in (omega arith) in
    let after = low_line_stands t.top t.costs t.rows.items t.basis.items t.lines.items v i 0 (omega (arith, i_in, wide)) (omega arith) in
    let y_is : slice_index_or ys i (pos 0) ≡ (number_at (slice_index_or v.unboxed.lows i []) 0 *ℤ pos D) =
    get_or-map (λ z. z *ℤ pos D) ms i (pos 0) (pos 0) (omega (arith, ms_long, i_in))
    ∙ ap (λ z. z *ℤ pos D) (first_number v.unboxed.lows 0 i (omega (arith, counted_after, wide, i_in))) in
    record {
      old = constant_number s w i (omega (arith, many, i_in));
      new = subst (λ (top : ℕ). IsTableNumber top (entry (slice_index_or t.lines.items i []) 0)) keeps.top
          (constant_number t v i (omega (arith, many_after, i_in)));
      old_stands = subst (λ (z : ℤ). StandsFor (entry (line_at s i) 0) z D) (sym (first_number w.unboxed.lows 0 i (omega (arith, counted, i_in)))) before.1;
      new_stands = subst (λ (z : ℤ). StandsFor (entry (line_at t i) 0) z (D * a)) (sym y_is)
          (scaled_stands (entry (line_at t i) 0) (number_at (slice_index_or v.unboxed.lows i []) 0) D a after.1);
    }
    ) in
    let higher = constants_higher s.top D a n s.lines.items t.lines.items xs ys w.unboxed.positive v.unboxed.positive
    xs_long ys_long many many_after each leads in
    let rises : rank s < digits_number (past_heights s.top) (heights s.top n t.lines.items) =
    digits_rise (past_heights s.top) (heights s.top n s.lines.items) (heights s.top n t.lines.items)
    (heights_small s.top n s.lines.items (λ i i_in i_there. constant_number s w i i_there))
    (heights_small s.top n t.lines.items
    (λ i i_in i_there. subst (λ (top : ℕ). IsTableNumber top (entry (slice_index_or t.lines.items i []) 0)) keeps.top
    (constant_number t v i i_there)))
    (heights_long s.top n s.lines.items many ∙ sym (heights_long s.top n t.lines.items many_after))
    higher in
    subst (λ (m : ℕ). rank s < m)
    (ap (λ (top : ℕ). digits_number (past_heights top) (heights top n t.lines.items)) (sym keeps.top)
    ∙ ap (λ (m : ℕ). digits_number (past_heights t.top) (heights t.top m t.lines.items)) (sym wide))
    rises

-- where the rank rose it is nearer to its bound
pub nearer : (old new : Table) → IsTableau new → KeepsBoxAndRows old new → rank old < rank new →
    past_heights new.top ^ length new.costs.low - rank new < past_heights old.top ^ length old.costs.low - rank old
nearer old new w keeps rises =
    let same : past_heights new.top ^ length new.costs.low ≡ past_heights old.top ^ length old.costs.low =
    ap (λ (top : ℕ). past_heights top ^ length new.costs.low) keeps.top ∙ ap (λ (costs : CostBox). past_heights old.top ^ length costs.low) keeps.costs in
    less (past_heights new.top ^ length new.costs.low) (past_heights old.top ^ length old.costs.low) (rank old) (rank new) same (rank_small new w) rises
  where
    less : (m n a b : ℕ) → m ≡ n → b < m → a < b → m - b < n - a
    less m n a b same small rises = omega arith
