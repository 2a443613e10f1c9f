-- The columns that are left, as variable by variable is looked at; and the one that is chosen.
use native.Mathlib.Nat.{zero-mul}
use Rattle.std.proofs.Common.{◌≡◌, ℕ, zero, suc, ◌+◌, ◌*◌, ◌^◌, ◌<◌, ◌≤◌, refl, sym, ◌∙◌, ap, subst, List, [], ◌∷◌, map, length, arith, inl, inr, ◌⊎◌}
use Rattle.std.specs.Prelude.{ℤ, None, Some, pos, negsuc, ◌-ℤ◌, ◌*ℤ◌, ◌<ℤ◌, ◌≤ℤ◌, nat_abs, slice_index, slice_index_or, All}
use Rattle.std.proofs.lemmas.Int.{ints}
use Rattle.std.proofs.lemmas.List.{get_or-map, get_or_default, length-map}
use Rattle.std.proofs.lemmas.List.Elements.{All-tail}
use Rattle.whole_numbers.proofs.Ring.{var, ◌⊖◌, ◌⊗◌, ring}
use Rattle.std.proofs.lemmas.Bool.{cases_eq}
use Rattle.cost_base.specs.Lists.{Has}
use lib.IntN.{zero-*ℤ}
use Rattle.cost_base.proofs.ListLemmas.{has_at}
use Rattle.whole_numbers.specs.Lists.{number_at}
use Rattle.design_problem.specs.Basis.{LeadsPositive}
use Rattle.fraction_table.specs.Pivots.{LeadsNoNegative, numbers_in_column, turned_column}
use Rattle.fraction_table.proofs.ColumnOrders.{prefix_leads, zeros_lead, column_at, column_long, level_zero, greater_rise}
use Rattle.integer_pivots.specs.Choices.{AreLatest, AreLeast, IsPositiveAt, crosswise}
use Rattle.integer_pivots.specs.Leads.{AreLeads, IsLead}
use Rattle.integer_pivots.specs.Numbers.{AllWithin}
use Rattle.integer_pivots.specs.declared.line.Line.{Line}
use Rattle.integer_pivots.specs.Lines.{no_line, rows_of}
use Rattle.integer_pivots.proofs.LineReads.{numbers_small}
use Rattle.integer_pivots.proofs.ShareLaws.{times_positive}
use Rattle.whole_numbers.proofs.Sizes.{positive_is}
use Rattle.table_kernel.specs.Choices.{AreColumnsLeft, ComesFirst}
use Rattle.table_kernel.specs.declared.kernel.Kernel.{Kernel}
use Rattle.table_kernel.specs.Kernels.{IsBounded, IsKernel, IsShaped, width_of}
use Rattle.table_kernel.specs.Lines.{IsBestColumn, IsNotAfterInKernel}
use Rattle.table_kernel.specs.Numbers.{scaled_line, share_of}
use Rattle.table_kernel.proofs.Columns.{scaled_number}
use Rattle.table_kernel.proofs.Shares.{shares_some}
use Rattle.table_kernel.proofs.AtBasis.{lead_less}

-- a column that leads positive is positive at its lead
lead_sign : (z : ℤ) (zs : List ℤ) → LeadsPositive (z ∷ zs) → ((z ≡ pos 0) × LeadsPositive zs) ⊎ (pos 0 <ℤ z)
lead_sign (pos zero) zs leads = inl (refl, leads)
lead_sign (pos (suc n)) zs leads = inr (omega (arith, ints))
lead_sign (negsuc n) zs leads = absurd leads

no_zero : (z : ℤ) → pos 0 <ℤ z → z ≡ pos 0 → ⊥
no_zero z positive none = omega (arith, ints)

pub lead_positive : (rows : List (List ℤ)) (c lead : ℕ) → LeadsPositive (numbers_in_column c rows) → IsLead rows c lead →
    (lead < length rows) × (pos 0 <ℤ number_at (slice_index_or rows lead []) c)
lead_positive [] c lead leads is = absurd leads
lead_positive (row ∷ rows) c zero leads is = elim (lead_sign (number_at row c) (numbers_in_column c rows) leads) [
  | inl none ↦ absurd (is.there (omega arith) none.0)
  | inr positive ↦ (omega arith, positive)
]
lead_positive (row ∷ rows) c (suc lead) leads is = elim (lead_sign (number_at row c) (numbers_in_column c rows) leads) [
  | inl none ↦
      let rest : IsLead rows c lead =
      record {
        within = omega (arith, is.within);
        before = λ v before. is.before (suc v) (omega (arith, before));
        there = λ v_in. is.there (omega (arith, v_in));
      } in
      let found = lead_positive rows c lead none.1 rest in
      (omega (arith, found.0), found.1)
  | inr positive ↦ absurd (no_zero (number_at row c) positive (is.before 0 (omega arith)))
]

-- two columns that are level, and where the first difference shows the first one less
module _ (rows : List (List ℤ)) (line : List ℤ) (c d : ℕ) (c_is : IsPositiveAt line c) (d_is : IsPositiveAt line d) where
  abbrev own : ℕ
  own = nat_abs (number_at line c)

  abbrev others : ℕ
  others = nat_abs (number_at line d)

  abbrev there : ℕ → ℕ → ℤ
  there u k = number_at (slice_index_or rows u []) k

  own_read : (u : ℕ) → (there u d *ℤ pos own) ≡ crosswise (slice_index_or rows u []) line d c
  own_read u = ap (λ z. there u d *ℤ z) (sym (positive_is (number_at line c) c_is.1))

  others_read : (u : ℕ) → (there u c *ℤ pos others) ≡ crosswise (slice_index_or rows u []) line c d
  others_read u = ap (λ z. there u c *ℤ z) (sym (positive_is (number_at line d) d_is.1))

  column_zero : (u : ℕ) → u < length rows →
      crosswise (slice_index_or rows u []) line c d ≡ crosswise (slice_index_or rows u []) line d c →
      number_at (turned_column own (numbers_in_column d rows) (pos others) (numbers_in_column c rows)) u ≡ pos 0
  column_zero u u_in level =
      column_at own (pos others) d c rows u u_in ∙ level_zero (there u c) (there u d) own others (own_read u ∙ sym level ∙ sym (others_read u))

  read_first : LeadsNoNegative (turned_column own (numbers_in_column d rows) (pos others) (numbers_in_column c rows)) → ComesFirst rows line c d
  read_first leads =
      subst (λ z. LeadsNoNegative (turned_column own (numbers_in_column d rows) z (numbers_in_column c rows))) (sym (positive_is (number_at line d) d_is.1))
      leads

  pub level_first : ((u : ℕ) → u < length rows →
      crosswise (slice_index_or rows u []) line c d ≡ crosswise (slice_index_or rows u []) line d c) →
      ComesFirst rows line c d
  level_first level =
      read_first
      (zeros_lead (turned_column own (numbers_in_column d rows) (pos others) (numbers_in_column c rows))
      (λ u u_in. (let within : u < length rows = omega (arith, column_long own (pos others) d c rows, u_in) in column_zero u within (level u within))))

  pub less_first : (count : ℕ) → count < length rows →
      ((u : ℕ) → u < count → crosswise (slice_index_or rows u []) line c d
      ≡ crosswise (slice_index_or rows u []) line d c) →
      crosswise (slice_index_or rows count []) line c d <ℤ crosswise (slice_index_or rows count []) line d c →
      ComesFirst rows line c d
  less_first count count_in level less =
      read_first
      (prefix_leads (turned_column own (numbers_in_column d rows) (pos others) (numbers_in_column c rows)) count
      (λ u u_in. column_zero u (omega (arith, u_in, count_in)) (level u u_in))
      (omega (arith, column_long own (pos others) d c rows, count_in))
      (subst (λ z. pos 0 <ℤ z) (sym (column_at own (pos others) d c rows count count_in))
      (greater_rise (there count c) (there count d) own others
      (subst (λ z. z <ℤ (there count d *ℤ pos own)) (sym (others_read count))
      (subst (λ z. crosswise (slice_index_or rows count []) line c d <ℤ z) (sym (own_read count)) less)))))

-- those that lead latest have 0 before there, where the others have their first number, which is positive
pub latest_left : (rows : List (List ℤ)) (line : List ℤ) (leads : List ℕ) (latest : ℕ) (left : List ℕ) →
    length leads ≡ length line → AreLeads rows leads → ((c : ℕ) → c < length line → LeadsPositive (numbers_in_column c rows)) →
    AreLatest line leads (length line) latest left → AreColumnsLeft rows line latest left
latest_left rows line leads latest left counted lead positive are = record {
  each = λ c has. (are.each c has).0;
  level = λ c d u has other before. none c d u has before ∙ sym (none d c u other before);
  others = λ c is. elim (are.all c is.0 is) [
    | inl has ↦ inl has
    | inr earlier ↦ inr (λ d has.
        let first = is_lead c is.0 in
        let found = lead_positive rows c (slice_index leads c) (positive c is.0) first in
        less_first rows line d c (are.each d has).0 is (slice_index leads c) found.0
        (λ u before. none d c u has (omega (arith, before, earlier)) ∙ sym (zero_times (number_at line d) (first.before u before)))
        (subst (λ (z : ℤ). z <ℤ crosswise (slice_index_or rows (slice_index leads c) []) line c d)
        (sym (none d c (slice_index leads c) has earlier)) (times_positive _ _ found.1 (are.each d has).0.1)))
  ];
}
  where
    is_lead : (c : ℕ) → c < length line → IsLead rows c (slice_index leads c)
    is_lead c c_in = lead c (omega (arith, c_in, counted))

    zero_times : {z : ℤ} (factor : ℤ) → z ≡ pos 0 → (z *ℤ factor) ≡ pos 0
    zero_times factor zero_there = ap (λ y. y *ℤ factor) zero_there ∙ zero-*ℤ factor

    none : (c d u : ℕ) → Has left c → u < latest → crosswise (slice_index_or rows u []) line c d ≡ pos 0
    none c d u has before =
        let is = are.each c has in
        zero_times (number_at line d) ((is_lead c is.0.0).before u (omega (arith, before, is.1)))

-- one more was
pub one_more : (rows : List (List ℤ)) (line : List ℤ) (count : ℕ) (left least : List ℕ) → count < length rows →
    AreColumnsLeft rows line count left → AreLeast (slice_index_or rows count []) line left least →
    AreColumnsLeft rows line (count + 1) least
one_more rows line count left least count_in are narrow = record {
  each = λ c has. are.each c (narrow.within c has);
  level = λ c d u has other before. elim (cases_eq u count) [
    | inl same ↦ subst (λ (k : ℕ). crosswise (slice_index_or rows k []) line c d
        ≡ crosswise (slice_index_or rows k []) line d c) (sym same) (narrow.level c d has other)
    | inr apart ↦ are.level c d u (narrow.within c has) (narrow.within d other) (omega (arith, before, apart))
  ];
  others = λ c is. elim (are.others c is) [
    | inl has ↦ elim (narrow.others c has) [
      | inl stays ↦ inl stays
      | inr above ↦ inr (λ d other. less_first rows line d c (are.each d (narrow.within d other)) is count count_in
          (λ u before. are.level d c u (narrow.within d other) has before) (above d other))
    ]
    | inr after ↦ inr (λ d other. after d (narrow.within d other))
  ];
}

only_one : (left : List ℕ) (c d : ℕ) → length left ≡ 1 → Has left c → Has left d → c ≡ d
only_one [] c d one has other = absurd has
only_one (x ∷ []) c d one (inl same) (inl too) = same ∙ sym too
only_one (x ∷ []) c d one (inl same) (inr none) = absurd none
only_one (x ∷ []) c d one (inr none) other = absurd none
only_one (x ∷ y ∷ ys) c d one has other = absurd (omega arith)

-- where one is left, the other variables need no look
pub one_left : (rows : List (List ℤ)) (line : List ℤ) (count more : ℕ) (left : List ℕ) → length left ≡ 1 →
    AreColumnsLeft rows line count left → AreColumnsLeft rows line more left
one_left rows line count more left one are = record {
  each = are.each;
  level = λ c d u has other before.
      let same = only_one left c d one has other in
      ap (λ (k : ℕ). crosswise (slice_index_or rows u []) line c k) (sym same) ∙ ap (λ (k : ℕ). crosswise (slice_index_or rows u []) line k c) same;
  others = are.others;
}

-- each column that is left comes first
pub left_first : (rows : List (List ℤ)) (line : List ℤ) (left : List ℕ) (c d : ℕ) →
    AreColumnsLeft rows line (length rows) left → Has left c → IsPositiveAt line d → ComesFirst rows line c d
left_first rows line left c d are has d_is =
    elim (are.others d d_is) [
      | inl other ↦ level_first rows line c d (are.each c has) d_is (λ u u_in. are.level c d u has other u_in)
      | inr after ↦ after c has
    ]

lead_scaled : (z : ℤ) (g : ℕ) (zs ms : List ℤ) → 0 < g → (LeadsNoNegative zs → LeadsNoNegative ms) → LeadsNoNegative (z ∷ zs) →
    LeadsNoNegative ((z *ℤ pos g) ∷ ms)
lead_scaled (pos zero) (suc g) zs ms some rest leads =
    subst (λ (m : ℕ). LeadsNoNegative (pos m ∷ ms)) (sym (zero-mul (suc g))) (rest leads)
lead_scaled (pos (suc n)) (suc g) zs ms some rest leads =
    let product : 0 < suc n * suc g = grind arith in
    more (suc n * suc g) product
  where
    more : (m : ℕ) → 0 < m → LeadsNoNegative (pos m ∷ ms)
    more zero m_positive = absurd (omega arith)
    more (suc m) m_positive = tt
lead_scaled (negsuc n) g zs ms some rest leads = absurd leads
lead_scaled z zero zs ms some rest leads = absurd (omega arith)

-- what leads in the numbers of lines leads in the scaled ones
pub leads_scaled : (D own c d : ℕ) (others : ℤ) (lines : List Line) → All (λ (line : Line). 0 < share_of D line) lines →
    LeadsNoNegative (turned_column own (numbers_in_column d (rows_of lines)) others (numbers_in_column c (rows_of lines))) →
    LeadsNoNegative (turned_column own (numbers_in_column (suc d) (map (scaled_line D) lines)) others (numbers_in_column (suc c) (map (scaled_line D) lines)))
leads_scaled D own c d others [] shares leads = tt
leads_scaled D own c d others (line ∷ lines) shares leads =
    let g = share_of D line in
    let x = number_at line.numbers d in
    let y = number_at line.numbers c in
    let news = turned_column own (numbers_in_column (suc d) (map (scaled_line D) lines)) others (numbers_in_column (suc c) (map (scaled_line D) lines)) in
    let same : ((pos own *ℤ number_at (scaled_line D line) (suc d)) -ℤ (others *ℤ number_at (scaled_line D line) (suc c))) ≡
    (((pos own *ℤ x) -ℤ (others *ℤ y)) *ℤ pos g) =
    ap (λ z. (pos own *ℤ z) -ℤ (others *ℤ number_at (scaled_line D line) (suc c))) (scaled_number D line (suc d))
    ∙ ap (λ z. (pos own *ℤ (x *ℤ pos g)) -ℤ (others *ℤ z)) (scaled_number D line (suc c))
    ∙ ring (pos own ∷ x ∷ others ∷ y ∷ pos g ∷ []) ((var 0 ⊗ (var 1 ⊗ var 4)) ⊖ (var 2 ⊗ (var 3 ⊗ var 4))) (((var 0 ⊗ var 1) ⊖ (var 2 ⊗ var 3)) ⊗ var 4) refl in
    subst (λ (z : ℤ). LeadsNoNegative (z ∷ news)) (sym same)
    (lead_scaled ((pos own *ℤ x) -ℤ (others *ℤ y)) g (turned_column own (numbers_in_column d (rows_of lines)) others (numbers_in_column c (rows_of lines))) news
    (shares 0 no_line (omega arith))
    (leads_scaled D own c d others lines (All-tail (λ (l : Line). 0 < share_of D l) line lines shares)) leads)

-- and the other way round
pub leads_raw : (D c : ℕ) (lines : List Line) → All (λ (line : Line). 0 < share_of D line) lines →
    LeadsPositive (numbers_in_column (suc c) (map (scaled_line D) lines)) → LeadsPositive (numbers_in_column c (rows_of lines))
leads_raw D c [] shares leads = leads
leads_raw D c (line ∷ lines) shares leads =
    lead_less (share_of D line) (number_at line.numbers c) (numbers_in_column (suc c) (map (scaled_line D) lines)) (numbers_in_column c (rows_of lines))
    (shares 0 no_line (omega arith))
    (leads_raw D c lines (All-tail (λ (l : Line). 0 < share_of D l) line lines shares))
    (subst (λ (z : ℤ). LeadsPositive (z ∷ numbers_in_column (suc c) (map (scaled_line D) lines))) (scaled_number D line (suc c)) leads)

-- a variable's numbers, as they are read
pub row_read : (k : Kernel) (v : ℕ) (line : Line) (numbers : List ℤ) → v < length k.lows.items →
    line ≡ slice_index_or k.lows.items v line → numbers ≡ line.numbers → numbers ≡ slice_index_or (rows_of k.lows.items) v []
row_read k v line numbers v_in line_is is =
    is ∙ ap (λ (l : Line). l.numbers) (line_is ∙ get_or_default k.lows.items v line no_line v_in)
    ∙ sym (get_or-map (λ (l : Line). l.numbers) k.lows.items v no_line [] v_in)

pub row_is : (k : Kernel) (v : ℕ) → v < length k.lows.items → slice_index_or (rows_of k.lows.items) v [] ≡ (slice_index_or k.lows.items v no_line).numbers
row_is k v v_in = get_or-map (λ (l : Line). l.numbers) k.lows.items v no_line [] v_in

pub row_long : (k : Kernel) (v : ℕ) → IsShaped k → v < length k.lows.items → length k.entering.numbers ≤ length (slice_index_or (rows_of k.lows.items) v [])
row_long k v s v_in = omega (arith, s.entering, s.each v no_line v_in, ap length (row_is k v v_in))

pub row_small : (k : Kernel) (v : ℕ) → IsBounded k → v < length k.lows.items → AllWithin (2 ^ 30) (slice_index_or (rows_of k.lows.items) v [])
row_small k v b v_in = subst (AllWithin (2 ^ 30)) (sym (row_is k v v_in))
    (numbers_small (slice_index_or k.lows.items v no_line) (b.lines v no_line v_in))

-- those that lead latest in a kernel, as they are read
pub latest_read : (k : Kernel) (line : List ℤ) (leads : List ℕ) (latest : ℕ) (left : List ℕ) → line ≡ k.entering.numbers →
    leads ≡ k.leads.items → AreLatest line leads (length line) latest left →
    AreLatest k.entering.numbers k.leads.items (length k.entering.numbers) latest left
latest_read k line leads latest left line_is leads_are are =
    subst (λ (zs : List ℤ). AreLatest zs k.leads.items (length zs) latest left) line_is
    (subst (λ (vs : List ℕ). AreLatest line vs (length line) latest left) leads_are are)

pub left_of : (k : Kernel) (latest : ℕ) (left : List ℕ) → IsKernel k →
    AreLatest k.entering.numbers k.leads.items (length k.entering.numbers) latest left →
    AreColumnsLeft (rows_of k.lows.items) k.entering.numbers latest left
left_of k latest left m are =
    latest_left (rows_of k.lows.items) k.entering.numbers k.leads.items latest left (m.shaped.leads ∙ sym m.shaped.entering) m.shaped.lead
    (λ c c_in. (let inside : c < width_of k = omega (arith, c_in, m.shaped.entering) in
    leads_raw (nat_abs k.common) c k.lows.items (shares_some k m.bounded)
    (subst (λ (rows : List (List ℤ)). LeadsPositive (numbers_in_column (suc c) rows)) m.numbers.lows
    (m.tableau.unboxed.lead c inside))))
    are

-- a column that comes first among the lines' own numbers comes first over the common denominator
pub first_in_kernel : (k : Kernel) (c d : ℕ) → IsBounded k → ComesFirst (rows_of k.lows.items) k.entering.numbers c d → IsNotAfterInKernel k c d
first_in_kernel k c d b first =
    leads_scaled (nat_abs k.common) (nat_abs (number_at k.entering.numbers c)) c d (number_at k.entering.numbers d) k.lows.items (shares_some k b) first

-- the choice among those that are left at last
pub chosen_best : (k : Kernel) (left : List ℕ) (best : ℕ) → IsShaped k → IsBounded k →
    AreColumnsLeft (rows_of k.lows.items) k.entering.numbers (length k.lows.items) left → 0 < length left → best ≡ slice_index_or left 0 best →
    IsBestColumn k (Some best)
chosen_best k left best s b are some is =
    let has : Has left best = subst (Has left) (sym (is ∙ get_or_default left 0 best 0 some)) (has_at left 0 some) in
    let best_is = are.each best has in
    let counted : length (rows_of k.lows.items) ≡ length k.lows.items = length-map k.lows.items (λ (l : Line). l.numbers) in
    let all = subst (λ (n : ℕ). AreColumnsLeft (rows_of k.lows.items) k.entering.numbers n left) (sym counted) are in (
      omega (arith, best_is.0, s.entering),
      best_is.1,
      λ c c_in other positive.
          first_in_kernel k best c b
          (left_first (rows_of k.lows.items) k.entering.numbers left best c all has (omega (arith, c_in, s.entering), positive)),
    )

-- and where there is none
pub none_best : (k : Kernel) (latest : ℕ) (left : List ℕ) → IsShaped k →
    AreLatest k.entering.numbers k.leads.items (length k.entering.numbers) latest left → length left ≡ 0 → IsBestColumn k None
none_best k latest left s are none c c_in =
    by_sign (number_at k.entering.numbers c)
    (λ positive. (let inside : c < length k.entering.numbers = omega (arith, c_in, s.entering) in
    none_left (elim (are.all c inside (inside, positive))
    [ inl has ↦ has_some left c has | inr earlier ↦ are.some (omega (arith, earlier)) ])))
  where
    by_sign : (z : ℤ) → (pos 0 <ℤ z → ⊥) → z ≤ℤ pos 0
    by_sign (pos zero) never = omega (arith, ints)
    by_sign (pos (suc n)) never = absurd (never (omega (arith, ints)))
    by_sign (negsuc n) never = omega (arith, ints)

    has_some : (xs : List ℕ) (x : ℕ) → Has xs x → 0 < length xs
    has_some [] x has = absurd has
    has_some (y ∷ ys) x has = omega arith

    none_left : 0 < length left → ⊥
    none_left some = omega (arith, none, some)

-- a list for each line
pub rows_counted : (k : Kernel) (v : ℕ) → v < length k.lows.items → v < length (rows_of k.lows.items)
rows_counted k v v_in = omega (arith, v_in, length-map k.lows.items (λ (l : Line). l.numbers))
