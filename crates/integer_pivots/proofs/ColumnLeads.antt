-- The leads of columns before and after a pivot.
use Rattle.std.proofs.Common.{◌≡◌, ◌≢◌, ℕ, zero, suc, ◌+◌, ◌<◌, ◌≤◌, refl, sym, ◌∙◌, ap, subst, List, [], ◌∷◌, length, arith, inl, inr, ◌⊎◌, All}
use Rattle.std.specs.Prelude.{ℤ, pos, negsuc, ◌-ℤ◌, ◌*ℤ◌, ◌<ℤ◌, nat_abs, slice_index, slice_index_or, slice_set}
use Rattle.std.proofs.lemmas.Int.{ints, unsigned_abs-mul}
use Rattle.std.proofs.lemmas.Bool.{cases_eq, cases_lt}
use Rattle.std.proofs.lemmas.List.{length-map}
use Rattle.whole_numbers.proofs.FractionLaws.{product_positive}
use Rattle.whole_numbers.proofs.Ring.{var, num, ◌⊖◌, ◌⊗◌, ring_by, using, nothing}
use Rattle.whole_numbers.specs.Lists.{number_at}
use Rattle.design_problem.proofs.PaymentLaws.{some_or_none}
use Rattle.integer_pivots.specs.declared.line.Line.{Line}
use Rattle.integer_pivots.specs.Leads.{AreLeads, AreZeros, IsLead}
use Rattle.integer_pivots.specs.Lines.{no_line, rows_of}
use Rattle.integer_pivots.specs.Turns.{AreTurnedLines, IsTurnedLine, turn_at}
use Rattle.integer_pivots.proofs.TurnLaws.{turn_level, turn_positive}
use Rattle.integer_pivots.proofs.WrittenPlaces.{written_more}

-- a number of a line's list is the line's
pub row_number : (lines : List Line) (v c : ℕ) →
    number_at (slice_index_or (rows_of lines) v []) c ≡ number_at (slice_index_or lines v no_line).numbers c
row_number lines v c = ap (λ zs. number_at zs c) (Rattle.std.proofs.Math.ListN.get_or-map (λ (line : Line). line.numbers) lines v no_line)

some_size : (a : ℤ) → a ≢ pos 0 → 0 < nat_abs a
some_size (pos zero) some = absurd (some refl)
some_size (pos (suc n)) some = omega arith
some_size (negsuc n) some = omega arith

-- a product is 0 where a factor is
other_zero : (a b : ℤ) → (a *ℤ b) ≡ pos 0 → a ≢ pos 0 → b ≡ pos 0
other_zero a b e some =
    elim (cases_lt 0 (nat_abs b)) [
      | inl more ↦ absurd (omega (arith, product_positive (nat_abs a) (nat_abs b) (some_size a some) more, unsigned_abs-mul a b, ap nat_abs e))
      | inr none ↦ no_size b (omega (arith, none))
    ]
  where
    no_size : (z : ℤ) → nat_abs z ≡ 0 → z ≡ pos 0
    no_size z none = omega (arith, ints)

pub positive_some : (z : ℤ) → pos 0 <ℤ z → z ≢ pos 0
positive_some z positive none = omega (arith, ints)

-- A number x that has turned from z, where r stands across: d and e are the denominators before and after, m and f the
-- multiplier and the factor.
abbrev IsAfter : ℤ → ℤ → ℤ → ℤ → ℤ → ℤ → ℤ → Type 0
IsAfter d m f e r z x = (x *ℤ (d *ℤ m)) ≡ (((m *ℤ z) -ℤ (f *ℤ r)) *ℤ e)

-- none stays none where nothing is taken away, and one stays
none_left : (d m f e r z x : ℤ) → d ≢ pos 0 → m ≢ pos 0 → z ≡ pos 0 → (f *ℤ r) ≡ pos 0 → IsAfter d m f e r z x → x ≡ pos 0
none_left d m f e r z x d_some m_some none level is =
    other_zero m x
    (other_zero d (m *ℤ x)
    (ring_by (x ∷ d ∷ m ∷ f ∷ e ∷ r ∷ z ∷ []) (var 1 ⊗ (var 2 ⊗ var 0)) (num (pos 0))
    (using (num (pos 1)) (var 0 ⊗ (var 1 ⊗ var 2)) (((var 2 ⊗ var 6) ⊖ (var 3 ⊗ var 5)) ⊗ var 4) is
    (using (var 2 ⊗ var 4) (var 6) (num (pos 0)) none
    (using (num (negsuc 0) ⊗ var 4) (var 3 ⊗ var 5) (num (pos 0)) level nothing))) refl)
    d_some)
    m_some

some_left : (d m f e r z x : ℤ) → m ≢ pos 0 → e ≢ pos 0 → z ≢ pos 0 → (f *ℤ r) ≡ pos 0 → IsAfter d m f e r z x → x ≢ pos 0
some_left d m f e r z x m_some e_some some level is none =
    some (other_zero m z
    (other_zero e (m *ℤ z)
    (ring_by (x ∷ d ∷ m ∷ f ∷ e ∷ r ∷ z ∷ []) (var 4 ⊗ (var 2 ⊗ var 6)) (num (pos 0))
    (using (num (negsuc 0)) (var 0 ⊗ (var 1 ⊗ var 2)) (((var 2 ⊗ var 6) ⊖ (var 3 ⊗ var 5)) ⊗ var 4) is
    (using (var 1 ⊗ var 2) (var 0) (num (pos 0)) none
    (using (var 4) (var 3 ⊗ var 5) (num (pos 0)) level nothing))) refl)
    e_some)
    m_some)

-- and where there was none, one comes where something is taken away
some_comes : (d m f e r z x : ℤ) → e ≢ pos 0 → z ≡ pos 0 → f ≢ pos 0 → r ≢ pos 0 → IsAfter d m f e r z x → x ≢ pos 0
some_comes d m f e r z x e_some none along across is excluded =
    across (other_zero f r
    (other_zero e (f *ℤ r)
    (ring_by (x ∷ d ∷ m ∷ f ∷ e ∷ r ∷ z ∷ []) (var 4 ⊗ (var 3 ⊗ var 5)) (num (pos 0))
    (using (num (pos 1)) (var 0 ⊗ (var 1 ⊗ var 2)) (((var 2 ⊗ var 6) ⊖ (var 3 ⊗ var 5)) ⊗ var 4) is
    (using (num (negsuc 0) ⊗ (var 1 ⊗ var 2)) (var 0) (num (pos 0)) excluded
    (using (var 2 ⊗ var 4) (var 6) (num (pos 0)) none nothing))) refl)
    e_some)
    along)

-- at the pivot's column there is one after it where there was one before
abbrev IsOwnAfter : ℤ → ℤ → ℤ → ℤ → ℤ → ℤ → Type 0
IsOwnAfter d m f e s x = (x *ℤ (d *ℤ m)) ≡ ((f *ℤ s) *ℤ e)

own_none : (d m f e s x : ℤ) → d ≢ pos 0 → m ≢ pos 0 → f ≡ pos 0 → IsOwnAfter d m f e s x → x ≡ pos 0
own_none d m f e s x d_some m_some none is =
    other_zero m x
    (other_zero d (m *ℤ x)
    (ring_by (x ∷ d ∷ m ∷ f ∷ e ∷ s ∷ []) (var 1 ⊗ (var 2 ⊗ var 0)) (num (pos 0))
    (using (num (pos 1)) (var 0 ⊗ (var 1 ⊗ var 2)) ((var 3 ⊗ var 5) ⊗ var 4) is
    (using (var 5 ⊗ var 4) (var 3) (num (pos 0)) none nothing)) refl)
    d_some)
    m_some

own_some : (d m f e s x : ℤ) → s ≢ pos 0 → e ≢ pos 0 → f ≢ pos 0 → IsOwnAfter d m f e s x → x ≢ pos 0
own_some d m f e s x s_some e_some some is none =
    some (other_zero s f
    (other_zero e (s *ℤ f)
    (ring_by (x ∷ d ∷ m ∷ f ∷ e ∷ s ∷ []) (var 4 ⊗ (var 5 ⊗ var 3)) (num (pos 0))
    (using (num (negsuc 0)) (var 0 ⊗ (var 1 ⊗ var 2)) ((var 3 ⊗ var 5) ⊗ var 4) is
    (using (var 1 ⊗ var 2) (var 0) (num (pos 0)) none nothing)) refl)
    e_some)
    s_some)

-- the factor is 0 where the number at the pivot's column is
factor_none : (m f y p : ℤ) → p ≢ pos 0 → (m *ℤ y) ≡ (f *ℤ p) → y ≡ pos 0 → f ≡ pos 0
factor_none m f y p p_some level none =
    other_zero p f
    (ring_by (m ∷ f ∷ y ∷ p ∷ []) (var 3 ⊗ var 1) (num (pos 0))
    (using (num (negsuc 0)) (var 0 ⊗ var 2) (var 1 ⊗ var 3) level (using (var 0) (var 2) (num (pos 0)) none nothing)) refl)
    p_some

factor_some : (m f y p : ℤ) → m ≢ pos 0 → (m *ℤ y) ≡ (f *ℤ p) → y ≢ pos 0 → f ≢ pos 0
factor_some m f y p m_some level some none =
    some (other_zero m y
    (ring_by (m ∷ f ∷ y ∷ p ∷ []) (var 0 ⊗ var 2) (num (pos 0))
    (using (num (pos 1)) (var 0 ⊗ var 2) (var 1 ⊗ var 3) level (using (var 3) (var 1) (num (pos 0)) none nothing)) refl)
    m_some)

product_none : (f r : ℤ) → (f ≡ pos 0) ⊎ (r ≡ pos 0) → (f *ℤ r) ≡ pos 0
product_none f r (inl none) = ap (λ z. z *ℤ r) none ∙ lib.IntN.zero-*ℤ r
product_none f r (inr none) = ap (λ z. f *ℤ z) none ∙ lib.IntN.*ℤ-zero f

-- what the lead of a column after the pivot is told to be
pub record IsToldLead (news : List (List ℤ)) (column own pivots lead : ℕ) (across : ℤ) : Type 0 where
  pub same : across ≡ pos 0 → lead ≡ own
  pub earlier : own < pivots → lead ≡ own
  pub later : across ≢ pos 0 → pivots < own → lead ≡ pivots
  pub level : across ≢ pos 0 → own ≡ pivots → AreZeros news column own → IsLead news column lead

-- lines that turn at a pivot of an entering line
pub record IsPivot (entering : Line) (column : ℕ) (olds news : List Line) : Type 0 where
  pub turned : AreTurnedLines entering column olds news
  pub pivot : pos 0 <ℤ number_at entering.numbers column
  pub denominator : pos 0 <ℤ entering.denominator
  pub denominators : All (λ line. pos 0 <ℤ line.denominator) olds
  pub long : All (λ line. length line.numbers ≡ length entering.numbers) news

-- a column's lead after the pivot
module _ (entering : Line) (column : ℕ) (olds news : List Line) (t : IsPivot entering column olds news) where
  rows_count : length (rows_of news) ≡ length (rows_of olds)
  rows_count = length-map news (λ (line : Line). line.numbers) ∙ t.turned.count ∙ sym (length-map olds (λ (line : Line). line.numbers))

  inside_olds : (v : ℕ) → v < length (rows_of olds) → v < length olds
  inside_olds v v_in = omega (arith, v_in, length-map olds (λ (line : Line). line.numbers))

  module _ (v : ℕ) (v_in : v < length olds) where
    abbrev old : Line
    old = slice_index_or olds v no_line

    abbrev new : Line
    new = slice_index_or news v no_line

    is : IsTurnedLine (turn_at entering column old) column entering old new
    is = t.turned.each v v_in

    d_some : old.denominator ≢ pos 0
    d_some = positive_some old.denominator (t.denominators v no_line v_in)

    e_some : new.denominator ≢ pos 0
    e_some = positive_some new.denominator is.positive

    m_some : (turn_at entering column old).multiplier ≢ pos 0
    m_some = positive_some (turn_at entering column old).multiplier (turn_positive (number_at old.numbers column) (number_at entering.numbers column) t.pivot)

    factor_level : ((turn_at entering column old).multiplier *ℤ number_at old.numbers column)
        ≡ ((turn_at entering column old).factor *ℤ number_at entering.numbers column)
    factor_level = turn_level (number_at old.numbers column) (number_at entering.numbers column) t.pivot

    count : length old.numbers ≡ length entering.numbers
    count = sym is.count ∙ t.long v no_line (omega (arith, t.turned.count, v_in))

    line_none : number_at (slice_index_or (rows_of olds) v []) column ≡ pos 0 → (turn_at entering column old).factor ≡ pos 0
    line_none none =
        factor_none (turn_at entering column old).multiplier (turn_at entering column old).factor (number_at old.numbers column)
        (number_at entering.numbers column) (positive_some (number_at entering.numbers column) t.pivot) factor_level (sym (row_number olds v column) ∙ none)

    line_some : number_at (slice_index_or (rows_of olds) v []) column ≢ pos 0 → (turn_at entering column old).factor ≢ pos 0
    line_some some =
        factor_some (turn_at entering column old).multiplier (turn_at entering column old).factor (number_at old.numbers column)
        (number_at entering.numbers column) m_some factor_level (λ none. some (row_number olds v column ∙ none))

    own_stays_none : number_at (slice_index_or (rows_of olds) v []) column ≡ pos 0 → number_at (slice_index_or (rows_of news) v []) column ≡ pos 0
    own_stays_none none =
        row_number news v column
        ∙ own_none old.denominator (turn_at entering column old).multiplier (turn_at entering column old).factor new.denominator
        entering.denominator (number_at new.numbers column) d_some m_some (line_none none) is.own

    own_stays_some : number_at (slice_index_or (rows_of olds) v []) column ≢ pos 0 → number_at (slice_index_or (rows_of news) v []) column ≢ pos 0
    own_stays_some some none =
        own_some old.denominator (turn_at entering column old).multiplier (turn_at entering column old).factor new.denominator
        entering.denominator (number_at new.numbers column) (positive_some entering.denominator t.denominator) e_some (line_some some) is.own
        (sym (row_number news v column) ∙ none)

    module _ (c : ℕ) (c_in : c < length entering.numbers) (apart : c ≢ column) where
      after : IsAfter old.denominator (turn_at entering column old).multiplier (turn_at entering column old).factor new.denominator
          (number_at entering.numbers c) (number_at old.numbers c) (number_at new.numbers c)
      after = is.others c (omega (arith, c_in, count)) apart

      level_none : (number_at (slice_index_or (rows_of olds) v []) column ≡ pos 0) ⊎ (number_at entering.numbers c ≡ pos 0) →
          ((turn_at entering column old).factor *ℤ number_at entering.numbers c) ≡ pos 0
      level_none (inl none) = product_none _ _ (inl (line_none none))
      level_none (inr none) = product_none _ _ (inr none)

      none_stays : number_at (slice_index_or (rows_of olds) v []) c ≡ pos 0 →
          (number_at (slice_index_or (rows_of olds) v []) column ≡ pos 0) ⊎ (number_at entering.numbers c ≡ pos 0) →
          number_at (slice_index_or (rows_of news) v []) c ≡ pos 0
      none_stays none level =
          row_number news v c
          ∙ none_left old.denominator (turn_at entering column old).multiplier (turn_at entering column old).factor new.denominator
          (number_at entering.numbers c) (number_at old.numbers c) (number_at new.numbers c) d_some m_some
          (sym (row_number olds v c) ∙ none) (level_none level) after

      some_stays : number_at (slice_index_or (rows_of olds) v []) c ≢ pos 0 →
          (number_at (slice_index_or (rows_of olds) v []) column ≡ pos 0) ⊎ (number_at entering.numbers c ≡ pos 0) →
          number_at (slice_index_or (rows_of news) v []) c ≢ pos 0
      some_stays some level none =
          some_left old.denominator (turn_at entering column old).multiplier (turn_at entering column old).factor new.denominator
          (number_at entering.numbers c) (number_at old.numbers c) (number_at new.numbers c) m_some e_some
          (λ zero_there. some (row_number olds v c ∙ zero_there)) (level_none level) after (sym (row_number news v c) ∙ none)

      some_come : number_at (slice_index_or (rows_of olds) v []) c ≡ pos 0 → number_at (slice_index_or (rows_of olds) v []) column ≢ pos 0 →
          number_at entering.numbers c ≢ pos 0 → number_at (slice_index_or (rows_of news) v []) c ≢ pos 0
      some_come none along across excluded =
          some_comes old.denominator (turn_at entering column old).multiplier (turn_at entering column old).factor new.denominator
          (number_at entering.numbers c) (number_at old.numbers c) (number_at new.numbers c) e_some
          (sym (row_number olds v c) ∙ none) (line_some along) across after (sym (row_number news v c) ∙ excluded)

  -- the pivot's own column leads where it did
  own_stays : (lead : ℕ) → IsLead (rows_of olds) column lead → IsLead (rows_of news) column lead
  own_stays lead is = record {
    within = omega (arith, is.within, rows_count);
    before = λ v before. own_stays_none v (inside_olds v (omega (arith, before, is.within))) (is.before v before);
    there = λ v_in. (let inside : lead < length (rows_of olds) = omega (arith, v_in, rows_count) in
        own_stays_some lead (inside_olds lead inside) (is.there inside));
  }

  module _ (c : ℕ) (c_in : c < length entering.numbers) (apart : c ≢ column) where
    -- nothing across, or the pivot's column leads later
    lead_stays : (own : ℕ) → IsLead (rows_of olds) c own →
        ((v : ℕ) → v ≤ own → (number_at (slice_index_or (rows_of olds) v []) column ≡ pos 0) ⊎ (number_at entering.numbers c ≡ pos 0)) →
        IsLead (rows_of news) c own
    lead_stays own is level = record {
      within = omega (arith, is.within, rows_count);
      before = λ v before. none_stays v (inside_olds v (omega (arith, before, is.within))) c c_in apart (is.before v before) (level v (omega (arith, before)));
      there = λ v_in. (let inside : own < length (rows_of olds) = omega (arith, v_in, rows_count) in
          some_stays own (inside_olds own inside) c c_in apart (is.there inside) (level own (omega arith)));
    }

    -- the pivot's column leads earlier
    lead_moves : (own pivots : ℕ) → IsLead (rows_of olds) c own → IsLead (rows_of olds) column pivots →
        number_at entering.numbers c ≢ pos 0 → pivots < own → IsLead (rows_of news) c pivots
    lead_moves own pivots is other across earlier = record {
      within = omega (arith, other.within, rows_count);
      before = λ v before. none_stays v (inside_olds v (omega (arith, before, other.within))) c c_in apart
          (is.before v (omega (arith, before, earlier))) (inl (other.before v before));
      there = λ v_in. (let inside : pivots < length (rows_of olds) = omega (arith, v_in, rows_count) in
          some_come pivots (inside_olds pivots inside) c c_in apart (is.before pivots earlier) (other.there inside) across);
    }

    other_lead : (own pivots lead : ℕ) → IsLead (rows_of olds) c own → IsLead (rows_of olds) column pivots →
        IsToldLead (rows_of news) c own pivots lead (number_at entering.numbers c) → IsLead (rows_of news) c lead
    other_lead own pivots lead is other told =
        elim (some_or_none (number_at entering.numbers c)) [
          | inl none ↦ subst (IsLead (rows_of news) c) (sym (told.same none)) (lead_stays own is (λ v until. inr none))
          | inr across ↦ elim (cases_lt own pivots) [
            | inl earlier ↦ subst (IsLead (rows_of news) c) (sym (told.earlier earlier))
                (lead_stays own is (λ v until. inl (other.before v (omega (arith, until, earlier)))))
            | inr from ↦ elim (cases_eq own pivots) [
              | inl same ↦ told.level across same
                  (λ v before. none_stays v (inside_olds v (omega (arith, before, is.within))) c c_in apart (is.before v before)
                  (inl (other.before v (omega (arith, before, same)))))
              | inr differ ↦ (let later : pivots < own = omega (arith, from, differ) in
                  subst (IsLead (rows_of news) c) (sym (told.later across later)) (lead_moves own pivots is other across later))
            ]
          ]
        ]

  pub turned_lead : (c own pivots lead : ℕ) → c < length entering.numbers → (c ≡ column → own ≡ pivots) → IsLead (rows_of olds) c own →
      IsLead (rows_of olds) column pivots → IsToldLead (rows_of news) c own pivots lead (number_at entering.numbers c) →
      IsLead (rows_of news) c lead
  turned_lead c own pivots lead c_in alike is other told =
      elim (cases_eq c column) [
        | inr apart ↦ other_lead c c_in apart own pivots lead is other told
        | inl here ↦ elim (some_or_none (number_at entering.numbers c)) [
          | inl none ↦ subst (IsLead (rows_of news) c) (sym (told.same none)) (own_lead here)
          | inr across ↦ told.level across (alike here) (own_lead here).before
        ]
      ]
    where
      own_lead : c ≡ column → IsLead (rows_of news) c own
      own_lead here =
          subst (λ (k : ℕ). IsLead (rows_of news) k own) (sym here)
          (own_stays own (subst (λ (k : ℕ). IsLead (rows_of olds) k own) here is))

-- one more of the leads is turned
pub leads_more : (entering : Line) (column : ℕ) (olds news : List Line) → IsPivot entering column olds news →
    (befores now : List ℕ) (other lead : ℕ) → length now ≡ length befores → length befores ≡ length entering.numbers →
    other < length entering.numbers → column < length entering.numbers → AreLeads (rows_of olds) befores →
    ((c : ℕ) → c < other → IsLead (rows_of news) c (slice_index now c)) →
    ((c : ℕ) → other ≤ c → slice_index now c ≡ slice_index befores c) →
    IsToldLead (rows_of news) other (slice_index now other) (slice_index befores column) lead (number_at entering.numbers other) →
    (c : ℕ) → c < other + 1 → IsLead (rows_of news) c (slice_index (slice_set now other lead) c)
leads_more entering column olds news t befores now other lead as_many counted other_in column_in leads turned rest told =
    let own_is : slice_index now other ≡ slice_index befores other = rest other (omega arith) in
    written_more (IsLead (rows_of news)) 0 now other lead (omega (arith, as_many, counted, other_in)) turned
    (turned_lead entering column olds news t other (slice_index now other) (slice_index befores column) lead other_in
    (λ here. own_is ∙ ap (slice_index befores) here)
    (subst (IsLead (rows_of olds) other) (sym own_is) (leads other (omega (arith, counted, other_in))))
    (leads column (omega (arith, counted, column_in)))
    told)
