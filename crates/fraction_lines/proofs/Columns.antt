-- Lists of columns that rise: what they have at a column, at their end, and after their first column.
use Rattle.std.proofs.Common.{◌≡◌, ◌≢◌, ℕ, zero, suc, ◌+◌, ◌<◌, ◌≤◌, cond, Bool, true, false, refl, sym, ◌∙◌, ap, subst, List, [], ◌∷◌, ◌++◌, length, map, take, drop, arith, inl, inr}
use Rattle.std.specs.Prelude.{pos, ◌==◌}
use Rattle.std.proofs.lemmas.Bool.{cases_lt, eq-eqb, ne_eqb}
use Rattle.std.proofs.lemmas.Bool.Decides.{nat_tests}
use Rattle.cost_base.proofs.ListLemmas.{each_append}
use Rattle.whole_numbers.specs.Fractions.{Fraction, IsLowest}
use Rattle.fraction_lines.specs.TableLines.{IsTableNumber, Rises, fraction_at, nothing}
use Rattle.fraction_lines.specs.Entries.{AllNumbers, IsPutAtEnd, head_column, head_fraction, after_column, replaced}
use Rattle.fraction_lines.proofs.ZeroFractions.{lowest_zero}

pub fraction_here : (e : ℕ × Fraction) (es : List (ℕ × Fraction)) (k : ℕ) → e.0 ≡ k → fraction_at (e ∷ es) k ≡ e.1
fraction_here e es k same = ap (λ b. cond b e.1 (fraction_at es k)) (eq-eqb e.0 k same)

pub fraction_there : (e : ℕ × Fraction) (es : List (ℕ × Fraction)) (k : ℕ) → e.0 ≢ k → fraction_at (e ∷ es) k ≡ fraction_at es k
fraction_there e es k other = ap (λ b. cond b e.1 (fraction_at es k)) (ne_eqb e.0 k other)

pub at_below : (low high : ℕ) (es : List (ℕ × Fraction)) (k : ℕ) → Rises low high es → k < low → fraction_at es k ≡ nothing
at_below low high [] k rises below = refl
at_below low high (e ∷ es) k rises below =
    fraction_there e es k (apart rises.0)
    ∙ at_below (suc e.0) high es k rises.3 (omega (arith, rises.0))
  where
    apart : low ≤ e.0 → e.0 ≢ k
    apart h = omega arith

pub at_above : (low high : ℕ) (es : List (ℕ × Fraction)) (k : ℕ) → Rises low high es → high ≤ k → fraction_at es k ≡ nothing
at_above low high [] k rises above = refl
at_above low high (e ∷ es) k rises above =
    fraction_there e es k (apart rises.1) ∙ at_above (suc e.0) high es k rises.3 above
  where
    apart : e.0 < high → e.0 ≢ k
    apart h = omega arith

pub rises_widen : (low high more : ℕ) (es : List (ℕ × Fraction)) → Rises low high es → high ≤ more → Rises low more es
rises_widen low high more [] rises most = tt
rises_widen low high more (e ∷ es) rises most =
    (rises.0, omega (arith, rises.1), rises.2, rises_widen (suc e.0) high more es rises.3 most)

pub rises_lower : (low less high : ℕ) (es : List (ℕ × Fraction)) → Rises low high es → less ≤ low → Rises less high es
rises_lower low less high [] rises least = tt
rises_lower low less high (e ∷ es) rises least = (omega (arith, rises.0), rises.1, rises.2, rises.3)

pub rises_push : (low mid c : ℕ) (q : Fraction) (es : List (ℕ × Fraction)) → Rises low mid es → mid ≤ c → low ≤ c →
    q.numerator ≢ pos 0 → Rises low (suc c) (es ++ (c, q) ∷ [])
rises_push low mid c q [] rises after low_before not_zero = (low_before, omega arith, not_zero, tt)
rises_push low mid c q (e ∷ es) rises after low_before not_zero =
    (rises.0, omega (arith, rises.1), rises.2, rises_push (suc e.0) mid c q es rises.3 after (omega (arith, rises.1)) not_zero)

pub push_here : (low mid c : ℕ) (q : Fraction) (es : List (ℕ × Fraction)) → Rises low mid es → mid ≤ c → fraction_at (es ++ (c, q) ∷ []) c ≡ q
push_here low mid c q [] rises after = fraction_here (c, q) [] c refl
push_here low mid c q (e ∷ es) rises after =
    fraction_there e (es ++ (c, q) ∷ []) c (apart rises.1) ∙ push_here (suc e.0) mid c q es rises.3 after
  where
    apart : e.0 < mid → e.0 ≢ c
    apart h = omega arith

pub push_other : (c k : ℕ) (q : Fraction) (es : List (ℕ × Fraction)) → c ≢ k → fraction_at (es ++ (c, q) ∷ []) k ≡ fraction_at es k
push_other c k q [] other = fraction_there (c, q) [] k other
push_other c k q (e ∷ es) other = ap (λ f. cond (e.0 == k) e.1 f) (push_other c k q es other)

pub rises_length : (low high : ℕ) (es : List (ℕ × Fraction)) → Rises low high es → low ≤ high → low + length es ≤ high
rises_length low high [] rises ordered = omega arith
rises_length low high (e ∷ es) rises ordered =
    let rest = rises_length (suc e.0) high es rises.3 (omega (arith, rises.1)) in
    omega (arith, rises.0, rest)

-- the head is the list's fraction at a column that isn't after its first
pub head_at : (low high past : ℕ) (es : List (ℕ × Fraction)) (c : ℕ) → Rises low high es → c ≤ head_column es past → fraction_at es c ≡ head_fraction es c
head_at low high past [] c rises first = refl
head_at low high past (e ∷ es) c rises first =
    by_test (e.0 == c) (λ no. at_below (suc e.0) high es c rises.3 (omega arith))
  where
    by_test : (b : Bool) → (b ≡ false → fraction_at es c ≡ nothing) → cond b e.1 (fraction_at es c) ≡ cond b e.1 nothing
    by_test true rest = refl
    by_test false rest = rest refl

-- what holds of both choices of a test holds of its answer
pub test_cases : {X : Type 0} (P : X → Type 0) (a c : ℕ) (x y : X) → (a ≡ c → P x) → (a ≢ c → P y) → P (cond (a == c) x y)
test_cases P a c x y same other =
    by_test (a == c) (λ yes. same (grind (arith, nat_tests, yes))) (λ no. other (grind (arith, nat_tests, no)))
  where
    by_test : (b : Bool) → (b ≡ true → P x) → (b ≡ false → P y) → P (cond b x y)
    by_test true first second = first refl
    by_test false first second = second refl

-- what is left after a column rises behind it
pub after_rises : (low high past : ℕ) (es : List (ℕ × Fraction)) (c : ℕ) → Rises low high es → c ≤ head_column es past → Rises (suc c) high (after_column es c)
after_rises low high past [] c rises first = tt
after_rises low high past (e ∷ es) c rises first =
    test_cases (λ rest. Rises (suc c) high rest) e.0 c es (e ∷ es)
    (λ same. rises_lower (suc e.0) (suc c) high es rises.3 (omega (arith, same)))
    (λ other. (omega arith, rises.1, rises.2, rises.3))

-- and has the same fractions there
pub after_at : (es : List (ℕ × Fraction)) (c k : ℕ) → c < k → fraction_at es k ≡ fraction_at (after_column es c) k
after_at [] c k behind = refl
after_at (e ∷ es) c k behind =
    test_cases (λ rest. fraction_at (e ∷ es) k ≡ fraction_at rest k) e.0 c es (e ∷ es)
    (λ same. fraction_there e es k (omega (arith, same)))
    (λ other. refl)

-- before its first column a list has nothing
pub before_head : (low high past : ℕ) (es : List (ℕ × Fraction)) (k : ℕ) → Rises low high es → k < head_column es past → fraction_at es k ≡ nothing
before_head low high past [] k rises before = refl
before_head low high past (e ∷ es) k rises before = at_below e.0 high (e ∷ es) k (omega arith, rises.1, rises.2, rises.3) before

-- nor does taking that column change it
pub ahead_nothing : (es : List (ℕ × Fraction)) (c past : ℕ) → c < head_column es past → head_fraction es c ≡ nothing
ahead_nothing [] c past ahead = refl
ahead_nothing (e ∷ es) c past ahead = ap (λ b. cond b e.1 nothing) (ne_eqb e.0 c (λ same. omega (arith, same)))

pub ahead_same : (es : List (ℕ × Fraction)) (c past : ℕ) → c < head_column es past → after_column es c ≡ es
ahead_same [] c past ahead = refl
ahead_same (e ∷ es) c past ahead = ap (λ b. cond b es (e ∷ es)) (ne_eqb e.0 c (λ same. omega (arith, same)))

-- the first column is where the list may rise from
pub head_from : (low high : ℕ) (es : List (ℕ × Fraction)) → Rises low high es → low ≤ high → low ≤ head_column es high
head_from low high [] rises ordered = ordered
head_from low high (e ∷ es) rises ordered = rises.0

-- a list that ends has no next column
pub ends_empty : (low high : ℕ) (es : List (ℕ × Fraction)) → Rises low high es → high ≤ head_column es high → es ≡ []
ends_empty low high [] rises ended = refl
ends_empty low high (e ∷ es) rises ended = absurd (omega (arith, rises.1))

pub head_number : (top : ℕ) (es : List (ℕ × Fraction)) (c : ℕ) → IsTableNumber top nothing → AllNumbers top es → IsTableNumber top (head_fraction es c)
head_number top [] c zero_is numbers = zero_is
head_number top (e ∷ es) c zero_is numbers = test_cases (IsTableNumber top) e.0 c e.1 nothing (λ same. numbers.0) (λ other. zero_is)

pub after_numbers : (top : ℕ) (es : List (ℕ × Fraction)) (c : ℕ) → AllNumbers top es → AllNumbers top (after_column es c)
after_numbers top [] c numbers = tt
after_numbers top (e ∷ es) c numbers = test_cases (AllNumbers top) e.0 c es (e ∷ es) (λ same. numbers.1) (λ other. numbers)

pub put_rises : (mid c : ℕ) (q : Fraction) (old new : List (ℕ × Fraction)) → Rises 0 mid old → mid ≤ c → IsPutAtEnd old c q new → Rises 0 (suc c) new
put_rises mid c q old new rises after put =
    elim put [
      | inl none ↦ subst (λ (es : List (ℕ × Fraction)). Rises 0 (suc c) es) (sym none.1) (rises_widen 0 mid (suc c) old rises (omega arith))
      | inr some ↦ subst (λ (es : List (ℕ × Fraction)). Rises 0 (suc c) es) (sym some.1) (rises_push 0 mid c q old rises after (omega arith) some.0)
    ]

pub put_here : (mid c : ℕ) (q : Fraction) (old new : List (ℕ × Fraction)) → IsLowest q → Rises 0 mid old → mid ≤ c → IsPutAtEnd old c q new →
    fraction_at new c ≡ q
put_here mid c q old new q_lowest rises after put =
    elim put [
      | inl none ↦ ap (λ (es : List (ℕ × Fraction)). fraction_at es c) none.1 ∙ at_above 0 mid old c rises after ∙ sym (lowest_zero q q_lowest none.0)
      | inr some ↦ ap (λ (es : List (ℕ × Fraction)). fraction_at es c) some.1 ∙ push_here 0 mid c q old rises after
    ]

pub put_other : (c k : ℕ) (q : Fraction) (old new : List (ℕ × Fraction)) → c ≢ k → IsPutAtEnd old c q new → fraction_at new k ≡ fraction_at old k
put_other c k q old new other put =
    elim put [
      | inl none ↦ ap (λ (es : List (ℕ × Fraction)). fraction_at es k) none.1
      | inr some ↦ ap (λ (es : List (ℕ × Fraction)). fraction_at es k) some.1 ∙ push_other c k q old other
    ]

pub put_numbers : (top c : ℕ) (q : Fraction) (old new : List (ℕ × Fraction)) → AllNumbers top old → IsTableNumber top q → IsPutAtEnd old c q new →
    AllNumbers top new
put_numbers top c q old new numbers q_is put =
    elim put [
      | inl none ↦ subst (AllNumbers top) (sym none.1) numbers
      | inr some ↦ subst (AllNumbers top) (sym some.1) (each_append (λ (e : ℕ × Fraction). IsTableNumber top e.1) old ((c, q) ∷ []) numbers (q_is, tt))
    ]

-- each column of a list from some place on is at least the list's least
pub rises_from : (low high : ℕ) (es : List (ℕ × Fraction)) (m past : ℕ) → Rises low high es → m < length es → low ≤ head_column (drop m es) past
rises_from low high [] m past rises m_in = absurd (omega arith)
rises_from low high (e ∷ es) zero past rises m_in = rises.0
rises_from low high (e ∷ es) (suc m) past rises m_in =
    let later = rises_from (suc e.0) high es m past rises.3 (omega arith) in
    omega (arith, rises.0)

pub drop_rises : (low high m : ℕ) (es : List (ℕ × Fraction)) → Rises low high es → Rises low high (drop m es)
drop_rises low high zero es rises = rises
drop_rises low high (suc m) [] rises = tt
drop_rises low high (suc m) (e ∷ es) rises =
    rises_lower (suc e.0) low high (drop m es) (drop_rises (suc e.0) high m es rises.3) (omega (arith, rises.0))

pub take_rises : (low high m : ℕ) (es : List (ℕ × Fraction)) → Rises low high es → Rises low high (take m es)
take_rises low high zero es rises = tt
take_rises low high (suc m) [] rises = tt
take_rises low high (suc m) (e ∷ es) rises = (rises.0, rises.1, rises.2, take_rises (suc e.0) high m es rises.3)

-- a list of at most one pair has its fraction at its head
pub single_at : (es : List (ℕ × Fraction)) (column : ℕ) → length es ≤ 1 → fraction_at es column ≡ head_fraction es column
single_at [] column short = refl
single_at (e ∷ []) column short = refl
single_at (e ∷ f ∷ es) column short = absurd (omega arith)

-- after another fraction was put at a column
pub replaced_rises : (low high column : ℕ) (value : Fraction) (es : List (ℕ × Fraction)) → value.numerator ≢ pos 0 →
    Rises low high es → Rises low high (map (replaced column value) es)
replaced_rises low high column value [] not_zero rises = tt
replaced_rises low high column value (e ∷ es) not_zero rises =
    test_cases (λ f. Rises low high (f ∷ map (replaced column value) es)) e.0 column (e.0, value) e
    (λ same. (rises.0, rises.1, not_zero, replaced_rises (suc e.0) high column value es not_zero rises.3))
    (λ other. (rises.0, rises.1, rises.2, replaced_rises (suc e.0) high column value es not_zero rises.3))

pub replaced_other : (column k : ℕ) (value : Fraction) (es : List (ℕ × Fraction)) → column ≢ k →
    fraction_at (map (replaced column value) es) k ≡ fraction_at es k
replaced_other column k value [] apart = refl
replaced_other column k value (e ∷ es) apart =
    test_cases (λ f. fraction_at (f ∷ map (replaced column value) es) k ≡ fraction_at (e ∷ es) k) e.0 column (e.0, value) e
    (λ same. fraction_there (e.0, value) (map (replaced column value) es) k (subst (λ (n : ℕ). n ≢ k) (sym same) apart)
    ∙ replaced_other column k value es apart
    ∙ sym (fraction_there e es k (subst (λ (n : ℕ). n ≢ k) (sym same) apart)))
    (λ other. ap (λ f. cond (e.0 == k) e.1 f) (replaced_other column k value es apart))

pub replaced_here : (column : ℕ) (value : Fraction) (es : List (ℕ × Fraction)) → (fraction_at es column ≡ nothing → ⊥) →
    fraction_at (map (replaced column value) es) column ≡ value
replaced_here column value [] some = absurd (some refl)
replaced_here column value (e ∷ es) some =
    test_cases (λ f. fraction_at (f ∷ map (replaced column value) es) column ≡ value) e.0 column (e.0, value) e
    (λ same. fraction_here (e.0, value) (map (replaced column value) es) column same)
    (λ other. fraction_there e (map (replaced column value) es) column other
    ∙ replaced_here column value es (λ none. some (fraction_there e es column other ∙ none)))

-- a list that has nothing from a column on rises up to there
pub rises_until : (low high column : ℕ) (es : List (ℕ × Fraction)) → Rises low high es →
    ((k : ℕ) → column ≤ k → k < high → fraction_at es k ≡ nothing) → Rises low column es
rises_until low high column [] rises none = tt
rises_until low high column (e ∷ es) rises none =
    (rises.0, before, rises.2, rises_until (suc e.0) high column es rises.3 later)
  where
    before : e.0 < column
    before =
        elim (cases_lt e.0 column) [
          | inl less ↦ less
          | inr reached ↦ absurd (rises.2 (ap (λ (q : Fraction). q.numerator) (sym (fraction_here e es e.0 refl) ∙ none e.0 reached rises.1)))
        ]

    later : (k : ℕ) → column ≤ k → k < high → fraction_at es k ≡ nothing
    later k from k_in =
        elim (cases_lt e.0 k) [
          | inl behind ↦ sym (fraction_there e es k (omega arith)) ∙ none k from k_in
          | inr not_behind ↦ at_below (suc e.0) high es k rises.3 (omega arith)
        ]
