-- The rows of a line's multipliers are different, and sorted they rise; sums over them don't depend on the order.
use Rattle.std.proofs.Common.{◌≡◌, ◌≢◌, ℕ, zero, suc, ◌+◌, ◌*◌, ◌<◌, ◌≤◌, cond, refl, sym, ◌∙◌, ap, subst, List, [], ◌∷◌, ◌++◌, map, length, arith, inl, inr}
use Rattle.std.specs.Prelude.{ℤ, pos, negsuc, ◌+ℤ◌, ◌-ℤ◌, ◌*ℤ◌, ◌==◌, slice_index_or, sum_by}
use Rattle.std.specs.List.{AllPairs, AllByRecursion}
use Rattle.std.specs.List.Sorted.{IsNonDecreasingBy, IsPermutation}
use Rattle.std.proofs.lemmas.Int.{ints}
use Rattle.std.proofs.lemmas.Bool.{cases_eq, eq-eqb, ne_eqb}
use Rattle.std.proofs.lemmas.List.Sorted.{sum_by-IsPermutation}
use Rattle.std.proofs.lemmas.List.Sums.{sum_by-cons}
use Rattle.cost_base.proofs.ListLemmas.{each_append}
use borrow.Author.Differences.{up, down}
use Rattle.whole_numbers.specs.Fractions.{Fraction}
use Rattle.design_problem.specs.declared.form.Form.{Form}
use Rattle.design_problem.specs.declared.tree.Member.{Member}
use Rattle.design_problem.specs.declared.tree.Member.TheVariants.{Low, High, Row}
use Rattle.design_problem.specs.Forms.{form_at, value_for_costs, weighted}
use Rattle.design_problem.specs.Steps.{unless_zero}
use Rattle.design_problem.proofs.Weighted.{value-weighted}
use Rattle.fraction_table.specs.Multipliers.{Different, columns_numbered, numbered, whole_multiplier}

-- no member is the other
abbrev pub IsApart : Member → List Member → Type 0
IsApart member members = (k : ℕ) → k < length members → slice_index_or members k (Low 0 0) ≡ member → ⊥

-- the members are different
abbrev pub AreApart : List Member → Type 0
AreApart members = (j k : ℕ) → j < k → k < length members → slice_index_or members k (Low 0 0) ≡ slice_index_or members j (Low 0 0) → ⊥

row_other : (row other : ℕ) (qs : List Fraction) → other ≢ row → AllByRecursion (λ p. p.0 ≢ row) (numbered (Row other) qs)
row_other row other [] apart = tt
row_other row other (q ∷ qs) apart = (apart, row_other row other qs apart)

member_other : (row : ℕ) (member : Member) (qs : List Fraction) → (member ≡ Row row → ⊥) → AllByRecursion (λ p. p.0 ≢ row) (numbered member qs)
member_other row (Low v bound) qs apart = tt
member_other row (High v bound) qs apart = tt
member_other row (Row other) qs apart = row_other row other qs (λ same. apart (ap (λ (n : ℕ). Row n) same))

pub columns_other : (row : ℕ) (members : List Member) (qs : List Fraction) → IsApart (Row row) members →
    AllByRecursion (λ p. p.0 ≢ row) (columns_numbered members qs)
columns_other row [] qs apart = tt
columns_other row (member ∷ members) [] apart = tt
columns_other row (member ∷ members) (q ∷ qs) apart =
    each_append (λ p. p.0 ≢ row) (numbered member (unless_zero q.numerator q)) (columns_numbered members qs)
    (member_other row member (unless_zero q.numerator q) (apart 0 (omega arith)))
    (columns_other row members qs (λ k k_in. apart (suc k) (omega arith)))

-- one member more
member_first : (member : Member) (z : ℤ) (q : Fraction) (rest : List (ℕ × Fraction)) →
    ((row : ℕ) → member ≡ Row row → AllByRecursion (λ p. p.0 ≢ row) rest) → Different rest →
    Different (numbered member (unless_zero z q) ++ rest)
member_first (Low v bound) z q rest other different = different
member_first (High v bound) z q rest other different = different
member_first (Row row) (pos zero) q rest other different = different
member_first (Row row) (pos (suc n)) q rest other different = (other row refl, different)
member_first (Row row) (negsuc n) q rest other different = (other row refl, different)

pub columns_different : (members : List Member) (qs : List Fraction) → AreApart members → Different (columns_numbered members qs)
columns_different [] qs apart = tt
columns_different (member ∷ members) [] apart = tt
columns_different (member ∷ members) (q ∷ qs) apart =
    member_first member q.numerator q (columns_numbered members qs)
    (λ row is. columns_other row members qs (λ k k_in same. apart 0 (suc k) (omega arith) (omega arith) (same ∙ sym is)))
    (columns_different members qs (λ j k before k_in. apart (suc j) (suc k) (omega arith) (omega arith)))

own_first : (r : Member) (q : Fraction) (rest : List (ℕ × Fraction)) →
    ((row : ℕ) → r ≡ Row row → AllByRecursion (λ p. p.0 ≢ row) rest) → Different rest → Different (numbered r (q ∷ []) ++ rest)
own_first (Low v bound) q rest other different = different
own_first (High v bound) q rest other different = different
own_first (Row row) q rest other different = (other row refl, different)

pub parts_different : (r : Member) (q : Fraction) (members : List Member) (qs : List Fraction) → IsApart r members →
    AreApart members → Different (numbered r (q ∷ []) ++ columns_numbered members qs)
parts_different r q members qs own apart =
    own_first r q (columns_numbered members qs)
    (λ row is. columns_other row members qs (λ k k_in same. own k k_in (same ∙ sym is)))
    (columns_different members qs apart)

whole_other : (L row : ℕ) (parts : List (ℕ × Fraction)) → AllByRecursion (λ p. p.0 ≢ row) parts →
    AllByRecursion (λ p. p.0 ≢ row) (map (whole_multiplier L) parts)
whole_other L row [] other = tt
whole_other L row (part ∷ parts) other = (other.0, whole_other L row parts other.1)

pub whole_different : (L : ℕ) (parts : List (ℕ × Fraction)) → Different parts → Different (map (whole_multiplier L) parts)
whole_different L [] different = tt
whole_different L (part ∷ parts) different = (whole_other L part.0 parts different.0, whole_different L parts different.1)

-- how many parts are of a row
abbrev pub one_of : ℕ → (ℕ × ℕ) → ℕ
one_of row p = cond (p.0 == row) 1 0

count_none : (row : ℕ) (ps : List (ℕ × ℕ)) → AllByRecursion (λ p. p.0 ≢ row) ps → sum_by (one_of row) ps ≡ 0
count_none row [] other = refl
count_none row (p ∷ ps) other =
    let none : one_of row p ≡ 0 = ap (λ b. cond b 1 0) (ne_eqb p.0 row other.0) in
    omega (arith, sum_by-cons (one_of row) p ps, none, count_none row ps other.1)

pub count_most : (row : ℕ) (ps : List (ℕ × ℕ)) → Different ps → sum_by (one_of row) ps ≤ 1
count_most row [] different = omega arith
count_most row (p ∷ ps) different =
    elim (cases_eq p.0 row) [
      | inl same ↦
          let none = count_none row ps (subst (λ (n : ℕ). AllByRecursion (λ q. q.0 ≢ n) ps) same different.0) in
          let one : one_of row p ≡ 1 = ap (λ b. cond b 1 0) (eq-eqb p.0 row same) in
          omega (arith, sum_by-cons (one_of row) p ps, none, one)
      | inr other ↦
          let none : one_of row p ≡ 0 = ap (λ b. cond b 1 0) (ne_eqb p.0 row other) in
          omega (arith, sum_by-cons (one_of row) p ps, none, count_most row ps different.1)
    ]

count_one : (row : ℕ) (ps : List (ℕ × ℕ)) (k : ℕ) (d : ℕ × ℕ) → k < length ps → (slice_index_or ps k d).0 ≡ row → 1 ≤ sum_by (one_of row) ps
count_one row [] k d k_in there = absurd (omega arith)
count_one row (p ∷ ps) zero d k_in there =
    let one : one_of row p ≡ 1 = ap (λ b. cond b 1 0) (eq-eqb p.0 row there) in
    omega (arith, sum_by-cons (one_of row) p ps, one)
count_one row (p ∷ ps) (suc k) d k_in there =
    let rest = count_one row ps k d (omega arith) there in
    omega (arith, sum_by-cons (one_of row) p ps, rest)

count_two : (row : ℕ) (ps : List (ℕ × ℕ)) (i j : ℕ) (d : ℕ × ℕ) → i < j → j < length ps →
    (slice_index_or ps i d).0 ≡ row → (slice_index_or ps j d).0 ≡ row → 2 ≤ sum_by (one_of row) ps
count_two row [] i j d before j_in first second = absurd (omega arith)
count_two row (p ∷ ps) i zero d before j_in first second = absurd (omega arith)
count_two row (p ∷ ps) zero (suc j) d before j_in first second =
    let one : one_of row p ≡ 1 = ap (λ b. cond b 1 0) (eq-eqb p.0 row first) in
    let rest = count_one row ps j d (omega arith) second in
    omega (arith, sum_by-cons (one_of row) p ps, one, rest)
count_two row (p ∷ ps) (suc i) (suc j) d before j_in first second =
    let rest = count_two row ps i j d (omega arith) (omega arith) first second in
    omega (arith, sum_by-cons (one_of row) p ps, rest)

-- Parts of different rows that were put in order rise strictly.
pub rises_strictly : (xs ys : List (ℕ × ℕ)) → Different xs → IsPermutation xs ys → IsNonDecreasingBy (λ p. p.0) ys → AllPairs (λ a b. a.0 < b.0) ys
rises_strictly xs ys different moved up i j d before j_in =
    strictly (slice_index_or ys i d).0 (slice_index_or ys j d).0 (up i j d (omega arith) j_in)
    (λ same.
    (let row = (slice_index_or ys i d).0 in
    let two = count_two row ys i j d before j_in refl (sym same) in
    omega (arith, two, sum_by-IsPermutation (one_of row) xs ys moved, count_most row xs different)))
  where
    strictly : (a b : ℕ) → a ≤ b → (a ≡ b → ⊥) → a < b
    strictly a b most apart =
        elim (cases_eq a b) [
          | inl same ↦ absurd (apart same)
          | inr other ↦ omega arith
        ]

times_split : (m : ℕ) (z : ℤ) → (pos m *ℤ z) ≡ (pos (m * up z) -ℤ pos (m * down z))
times_split m (pos n) = omega (arith, ints)
times_split m (negsuc n) = omega (arith, ints)

abbrev raising : List Form → List ℕ → (ℕ × ℕ) → ℕ
raising forms w part = part.1 * up (value_for_costs (form_at forms part.0) w)

abbrev lowering : List Form → List ℕ → (ℕ × ℕ) → ℕ
lowering forms w part = part.1 * down (value_for_costs (form_at forms part.0) w)

value_split : (forms : List Form) (w : List ℕ) (parts : List (ℕ × ℕ)) →
    value_for_costs (weighted forms parts) w ≡ (pos (sum_by (raising forms w) parts) -ℤ pos (sum_by (lowering forms w) parts))
value_split forms w [] = refl
value_split forms w (part ∷ parts) =
    let a = raising forms w part in
    let b = lowering forms w part in
    let c = sum_by (raising forms w) parts in
    let d = sum_by (lowering forms w) parts in
    value-weighted forms part parts w
    ∙ ap (λ (z : ℤ). z +ℤ value_for_costs (weighted forms parts) w) (times_split part.1 (value_for_costs (form_at forms part.0) w))
    ∙ ap (λ (z : ℤ). (pos a -ℤ pos b) +ℤ z) (value_split forms w parts)
    ∙ regroup a b c d
    ∙ ap (λ (n : ℕ). pos n -ℤ pos (b + d)) (sym (sum_by-cons (raising forms w) part parts))
    ∙ ap (λ (n : ℕ). pos (sum_by (raising forms w) (part ∷ parts)) -ℤ pos n) (sym (sum_by-cons (lowering forms w) part parts))
  where
    regroup : (a b c d : ℕ) → ((pos a -ℤ pos b) +ℤ (pos c -ℤ pos d)) ≡ (pos (a + c) -ℤ pos (b + d))
    regroup a b c d = omega (arith, ints)

-- The weighted sum of forms doesn't depend on the order of the parts.
pub value_moved : (forms : List Form) (w : List ℕ) (xs ys : List (ℕ × ℕ)) → IsPermutation xs ys →
    value_for_costs (weighted forms ys) w ≡ value_for_costs (weighted forms xs) w
value_moved forms w xs ys moved =
    value_split forms w ys
    ∙ ap (λ (n : ℕ). pos n -ℤ pos (sum_by (lowering forms w) ys)) (sum_by-IsPermutation (raising forms w) xs ys moved)
    ∙ ap (λ (n : ℕ). pos (sum_by (raising forms w) xs) -ℤ pos n) (sum_by-IsPermutation (lowering forms w) xs ys moved)
    ∙ sym (value_split forms w xs)
