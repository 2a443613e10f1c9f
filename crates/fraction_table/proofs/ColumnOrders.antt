-- Two columns compared, line by line, each over its number in the pivot's form.
use Rattle.std.proofs.Common.{◌≡◌, ℕ, zero, suc, ◌*◌, ◌<◌, ◌≤◌, refl, sym, ◌∙◌, ap, subst, List, [], ◌∷◌, length, arith, Ordering, Less, Equal, Greater}
use Rattle.std.specs.Prelude.{ℤ, pos, negsuc, ◌-ℤ◌, ◌*ℤ◌, ◌<ℤ◌, slice_index_or}
use Rattle.std.specs.Ordering.{MatchOrdering, int_cmp}
use Rattle.std.proofs.lemmas.Int.{ints}
use Rattle.whole_numbers.proofs.Laws.{times_one}
use Rattle.whole_numbers.specs.Fractions.{StandsFor, divided, times, whole}
use Rattle.whole_numbers.proofs.FractionLaws.{divided_stands, product_positive, times_stands, stands_more}
use Rattle.whole_numbers.proofs.Orders.{order_ranks, order_stands, scaled_cmp}
use Rattle.whole_numbers.proofs.Ring.{var, num, ◌⊖◌, ◌⊗◌, ring, ring_by, using, nothing}
use Rattle.whole_numbers.specs.Lists.{number_at}
use Rattle.design_problem.specs.Basis.{entry, member_form}
use Rattle.fraction_table.specs.declared.table.Table.{Table}
use Rattle.fraction_table.specs.ValidTables.{IsTableau}
use Rattle.fraction_table.specs.Pivots.{LeadsNoNegative, entries_order, line_at, numbers_of_line, member_at, numbers_in_column, turned_column}
use Rattle.fraction_lines.proofs.ZeroFractions.{divided_lowest, times_lowest}
use Rattle.fraction_lines.proofs.TableLineLaws.{number_at as number_there}
use Rattle.fraction_table.proofs.theory.TurnedNumbers.{numbers_long}
use Rattle.fraction_table.proofs.IntegralTurns.{stand_at}
use Rattle.fraction_table.proofs.Bases.{low_line_stands, lows_counted}
use Rattle.fraction_table.proofs.Pivots.{line_long, whole_line}

-- a list that is 0 up to a positive number doesn't lead with a negative one
pub prefix_leads : (zs : List ℤ) (v : ℕ) → ((u : ℕ) → u < v → number_at zs u ≡ pos 0) → v < length zs → pos 0 <ℤ number_at zs v → LeadsNoNegative zs
prefix_leads [] v zeros v_in positive = tt
prefix_leads (pos zero ∷ zs) zero zeros v_in positive = absurd (omega (arith, ints))
prefix_leads (pos (suc n) ∷ zs) v zeros v_in positive = tt
prefix_leads (negsuc n ∷ zs) zero zeros v_in positive = absurd (omega (arith, ints))
prefix_leads (pos zero ∷ zs) (suc v) zeros v_in positive = prefix_leads zs v (λ u before. zeros (suc u) (omega arith)) (omega arith) positive
prefix_leads (negsuc n ∷ zs) (suc v) zeros v_in positive = absurd (below (negsuc n) (zeros 0 (omega arith)))
  where
    below : (z : ℤ) → negsuc n ≡ pos 0 → ⊥
    below z same = omega (arith, ints)

pub zeros_lead : (zs : List ℤ) → ((u : ℕ) → u < length zs → number_at zs u ≡ pos 0) → LeadsNoNegative zs
zeros_lead [] zeros = tt
zeros_lead (pos zero ∷ zs) zeros = zeros_lead zs (λ u u_in. zeros (suc u) (omega arith))
zeros_lead (pos (suc n) ∷ zs) zeros = tt
zeros_lead (negsuc n ∷ zs) zeros = absurd (below (zeros 0 (omega arith)))
  where
    below : negsuc n ≡ pos 0 → ⊥
    below same = omega (arith, ints)

pub column_at : (a : ℕ) (b : ℤ) (k j : ℕ) (lows : List (List ℤ)) (u : ℕ) → u < length lows →
    number_at (turned_column a (numbers_in_column k lows) b (numbers_in_column j lows)) u
    ≡ ((pos a *ℤ number_at (slice_index_or lows u []) k) -ℤ (b *ℤ number_at (slice_index_or lows u []) j))
column_at a b k j [] u u_in = absurd (omega arith)
column_at a b k j (ts ∷ lows) zero u_in = refl
column_at a b k j (ts ∷ lows) (suc u) u_in = column_at a b k j lows u (omega arith)

pub column_long : (a : ℕ) (b : ℤ) (k j : ℕ) (lows : List (List ℤ)) →
    length (turned_column a (numbers_in_column k lows) b (numbers_in_column j lows)) ≡ length lows
column_long a b k j [] = refl
column_long a b k j (ts ∷ lows) = ap suc (column_long a b k j lows)

-- what a comparison of whole numbers tells
same_numbers : (r : Ordering) (x y : ℤ) → r ≡ int_cmp x y → MatchOrdering r (x <ℤ y) (x ≡ y) (y <ℤ x)
same_numbers r x y e =
    subst (λ z. MatchOrdering r (z <ℤ y) (z ≡ y) (y <ℤ z)) (times_one x)
    (subst (λ z. MatchOrdering r ((x *ℤ pos 1) <ℤ z) ((x *ℤ pos 1) ≡ z) (z <ℤ (x *ℤ pos 1))) (times_one y)
    (order_ranks (whole x) (whole y) r (e ∙ scaled_cmp x y 1 (omega arith))))

-- What a comparison of two columns needs: the numbers a and b of the pivot's form in them, both positive.
pub record AreCompared (t : Table) (w : IsTableau t) (line column other a b : ℕ) : Type 0 where
  pub line_in : line < length t.lines.items
  pub column_in : column < length t.costs.low
  pub other_in : other < length t.costs.low
  pub at_column : number_at (numbers_of_line t w line) (suc column) ≡ pos a
  pub at_other : number_at (numbers_of_line t w line) (suc other) ≡ pos b
  pub a_positive : 0 < a
  pub b_positive : 0 < b

-- the entries of a line of x - low are ordered as their numbers, crosswise
order_numbers : (t : Table) (w : IsTableau t) (line column other a b u : ℕ) → AreCompared t w line column other a b →
    u < length t.costs.low → entries_order (line_at t u) column other
    (divided (entry (line_at t line) (suc other)) (entry (line_at t line) (suc column)))
    ≡ int_cmp (number_at (slice_index_or w.unboxed.lows u []) (suc other) *ℤ pos a)
    (number_at (slice_index_or w.unboxed.lows u []) (suc column) *ℤ pos b)
order_numbers t w line column other a b u c u_in =
    let n = length t.costs.low in
    let D = w.unboxed.common in
    let es = line_at t line in
    let f = member_form n t.rows.items (member_at t line) in
    let l = whole_line t w line c.line_in in
    let long = line_long t w line c.line_in in
    let own = number_there t.top es (suc column) l.numbers (omega (arith, long, c.column_in)) in
    let others = number_there t.top es (suc other) l.numbers (omega (arith, long, c.other_in)) in
    let own_stands = subst (λ z. StandsFor (entry es (suc column)) z D) c.at_column
    (stand_at D es (numbers_of_line t w line) (suc column) l.stand
    (omega (arith, numbers_long n D t.costs.low w.unboxed.lows f, c.column_in))) in
    let other_stands = subst (λ z. StandsFor (entry es (suc other)) z D) c.at_other
    (stand_at D es (numbers_of_line t w line) (suc other) l.stand
    (omega (arith, numbers_long n D t.costs.low w.unboxed.lows f, c.other_in))) in
    let q = divided (entry es (suc other)) (entry es (suc column)) in
    let q_lowest = divided_lowest (entry es (suc other)) (entry es (suc column)) others.lowest.positive in
    let q_stands = divided_stands (entry es (suc other)) (entry es (suc column)) (pos b) a D others.lowest.positive
    own.lowest.positive c.a_positive w.unboxed.positive other_stands own_stands in
    let first = low_line_stands t.top t.costs t.rows.items t.basis.items t.lines.items w u (suc column) u_in (omega (arith, c.column_in)) in
    let second = low_line_stands t.top t.costs t.rows.items t.basis.items t.lines.items w u (suc other) u_in (omega (arith, c.other_in)) in
    let x = number_at (slice_index_or w.unboxed.lows u []) (suc column) in
    let y = number_at (slice_index_or w.unboxed.lows u []) (suc other) in
    order_stands (entry (line_at t u) (suc other)) (times (entry (line_at t u) (suc column)) q) (y *ℤ pos a) (x *ℤ pos b) (D * a)
    second.0 (times_lowest (entry (line_at t u) (suc column)) q first.0 q_lowest.positive).positive (product_positive D a w.unboxed.positive c.a_positive)
    (stands_more (entry (line_at t u) (suc other)) y D a second.1)
    (times_stands (entry (line_at t u) (suc column)) q x (pos b) D a first.0 q_lowest.positive first.1 q_stands)

-- the lines before the v-th show no difference of the two columns
abbrev pub AreLevel : Table → ℕ → ℕ → ℕ → ℕ → Type 0
AreLevel t line column other v =
    (u : ℕ) → u < v → entries_order (line_at t u) column other (divided (entry (line_at t line) (suc other)) (entry (line_at t line) (suc column))) ≡ Equal

pub level_zero : (x y : ℤ) (a b : ℕ) → (y *ℤ pos a) ≡ (x *ℤ pos b) → ((pos a *ℤ y) -ℤ (pos b *ℤ x)) ≡ pos 0
level_zero x y a b same =
    ring_by (x ∷ y ∷ pos a ∷ pos b ∷ []) ((var 2 ⊗ var 1) ⊖ (var 3 ⊗ var 0)) (num (pos 0))
    (using (num (pos 1)) (var 1 ⊗ var 2) (var 0 ⊗ var 3) same nothing) refl

less_rise : (p q z : ℤ) → p <ℤ q → z ≡ (q -ℤ p) → pos 0 <ℤ z
less_rise p q z less z_is = omega (arith, ints)

pub greater_rise : (x y : ℤ) (a b : ℕ) → (x *ℤ pos b) <ℤ (y *ℤ pos a) → pos 0 <ℤ ((pos a *ℤ y) -ℤ (pos b *ℤ x))
greater_rise x y a b less =
    less_rise (x *ℤ pos b) (y *ℤ pos a) _ less (ring (x ∷ y ∷ pos a ∷ pos b ∷ []) ((var 2 ⊗ var 1) ⊖ (var 3 ⊗ var 0)) ((var 1 ⊗ var 2) ⊖ (var 0 ⊗ var 3)) refl)

-- the differences of two columns at the lines that show none
level_at : (t : Table) (w : IsTableau t) (line column other a b v u : ℕ) → AreCompared t w line column other a b →
    v ≤ length t.costs.low → AreLevel t line column other v → u < v →
    (number_at (slice_index_or w.unboxed.lows u []) (suc other) *ℤ pos a)
    ≡ (number_at (slice_index_or w.unboxed.lows u []) (suc column) *ℤ pos b)
level_at t w line column other a b v u c v_in level u_in =
    same_numbers Equal (number_at (slice_index_or w.unboxed.lows u []) (suc other) *ℤ pos a)
    (number_at (slice_index_or w.unboxed.lows u []) (suc column) *ℤ pos b)
    (sym (level u u_in) ∙ order_numbers t w line column other a b u c (omega (arith, u_in, v_in)))

-- the column stays first where the lines show no difference, or the first difference shows it less
pub stays_first : (t : Table) (w : IsTableau t) (line column other a b : ℕ) → AreCompared t w line column other a b →
    AreLevel t line column other (length t.costs.low) →
    LeadsNoNegative (turned_column a (numbers_in_column (suc other) w.unboxed.lows) (pos b)
    (numbers_in_column (suc column) w.unboxed.lows))
stays_first t w line column other a b c level =
    let counted = lows_counted t.top t.costs t.rows.items t.basis.items t.lines.items w in
    zeros_lead (turned_column a (numbers_in_column (suc other) w.unboxed.lows) (pos b) (numbers_in_column (suc column) w.unboxed.lows))
    (λ u u_in.
    (let within : u < length w.unboxed.lows = omega (arith, column_long a (pos b) (suc other) (suc column) w.unboxed.lows, u_in) in
    column_at a (pos b) (suc other) (suc column) w.unboxed.lows u within
    ∙ level_zero _ _ a b (level_at t w line column other a b (length t.costs.low) u c (omega arith) level (omega (arith, counted, within)))))

pub less_first : (t : Table) (w : IsTableau t) (line column other a b v : ℕ) →
    AreCompared t w line column other a b → v < length t.costs.low → AreLevel t line column other v →
    entries_order (line_at t v) column other
    (divided (entry (line_at t line) (suc other)) (entry (line_at t line) (suc column))) ≡ Greater →
    LeadsNoNegative (turned_column a (numbers_in_column (suc other) w.unboxed.lows) (pos b)
    (numbers_in_column (suc column) w.unboxed.lows))
less_first t w line column other a b v c v_in level greater =
    let counted = lows_counted t.top t.costs t.rows.items t.basis.items t.lines.items w in
    let x = number_at (slice_index_or w.unboxed.lows v []) (suc column) in
    let y = number_at (slice_index_or w.unboxed.lows v []) (suc other) in
    prefix_leads (turned_column a (numbers_in_column (suc other) w.unboxed.lows) (pos b) (numbers_in_column (suc column) w.unboxed.lows)) v
    (λ u u_in. column_at a (pos b) (suc other) (suc column) w.unboxed.lows u (omega (arith, counted, u_in, v_in))
    ∙ level_zero _ _ a b (level_at t w line column other a b v u c (omega (arith, v_in)) level u_in))
    (omega (arith, column_long a (pos b) (suc other) (suc column) w.unboxed.lows, counted, v_in))
    (subst (λ z. pos 0 <ℤ z) (sym (column_at a (pos b) (suc other) (suc column) w.unboxed.lows v (omega (arith, counted, v_in))))
    (greater_rise x y a b (same_numbers Greater (y *ℤ pos a) (x *ℤ pos b) (sym greater ∙ order_numbers t w line column other a b v c v_in))))

-- and the other column comes first where the first difference shows it less
pub other_first : (t : Table) (w : IsTableau t) (line column other a b v : ℕ) →
    AreCompared t w line column other a b → v < length t.costs.low → AreLevel t line column other v →
    entries_order (line_at t v) column other
    (divided (entry (line_at t line) (suc other)) (entry (line_at t line) (suc column))) ≡ Less →
    LeadsNoNegative (turned_column b (numbers_in_column (suc column) w.unboxed.lows) (pos a)
    (numbers_in_column (suc other) w.unboxed.lows))
other_first t w line column other a b v c v_in level less =
    let counted = lows_counted t.top t.costs t.rows.items t.basis.items t.lines.items w in
    let x = number_at (slice_index_or w.unboxed.lows v []) (suc column) in
    let y = number_at (slice_index_or w.unboxed.lows v []) (suc other) in
    prefix_leads (turned_column b (numbers_in_column (suc column) w.unboxed.lows) (pos a) (numbers_in_column (suc other) w.unboxed.lows)) v
    (λ u u_in. column_at b (pos a) (suc column) (suc other) w.unboxed.lows u (omega (arith, counted, u_in, v_in))
    ∙ level_zero _ _ b a (sym (level_at t w line column other a b v u c (omega (arith, v_in)) level u_in)))
    (omega (arith, column_long b (pos a) (suc column) (suc other) w.unboxed.lows, counted, v_in))
    (subst (λ z. pos 0 <ℤ z) (sym (column_at b (pos a) (suc column) (suc other) w.unboxed.lows v (omega (arith, counted, v_in))))
    (greater_rise y x b a (same_numbers Less (y *ℤ pos a) (x *ℤ pos b) (sym less ∙ order_numbers t w line column other a b v c v_in))))
