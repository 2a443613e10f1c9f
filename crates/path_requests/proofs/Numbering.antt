-- The numbers of those that pass a test: how many pass it before them.
use Rattle.std.proofs.Common.{inl, inr, ◌≡◌, ℕ, zero, suc, ◌+◌, ◌<◌, ◌≤◌, refl, sym, ◌∙◌, ap, List, ◌∷◌, length, arith, Bool, true, false, cond}
use Rattle.std.specs.Prelude.{All, filter, count_by, nat_lt}
use Rattle.std.proofs.lemmas.List.Elements.{All-nil, All-cons, All-weaker}
use Rattle.std.proofs.lemmas.Bool.{cases_Bool, lt-ltb, le-ltb}
use Rattle.cost_base.specs.Lists.{numbers_from}
use Rattle.lsdb_build.proofs.Pairs.{count_by-cons}

-- those among n numbers from a on that pass
abbrev pub passing : (ℕ → Bool) → ℕ → ℕ → List ℕ
passing test a n = filter test (numbers_from a n)

none_under : (test : ℕ → Bool) (o a n : ℕ) → o ≤ a → count_by (λ m. nat_lt m o) (passing test a n) ≡ 0
none_under test o a zero under = refl
none_under test o a (suc n) under =
    let rest = none_under test o (a + 1) n (omega arith) in
    elim (cases_Bool (test a)) [
      | inl passes ↦ rw passes (count_by-cons (λ m. nat_lt m o) a (passing test (a + 1) n) ∙ rw (le-ltb a o under) (omega (arith, rest)))
      | inr fails ↦ rw fails rest
    ]

-- as many of them stand before a place as pass up to there
pub count_before : (test : ℕ → Bool) (a k n : ℕ) → k ≤ n → count_by (λ m. nat_lt m (a + k)) (passing test a n) ≡ length (passing test a k)
count_before test a zero n within = none_under test (a + 0) a n (omega arith)
count_before test a (suc k) zero within = absurd (omega arith)
count_before test a (suc k) (suc n) within =
    let next : a + 1 + k ≡ a + suc k = omega arith in
    let rest : count_by (λ m. nat_lt m (a + suc k)) (passing test (a + 1) n) ≡ length (passing test (a + 1) k)
    = ap (λ o. count_by (λ m. nat_lt m o) (passing test (a + 1) n)) (sym next) ∙ count_before test (a + 1) k n (omega arith) in
    elim (cases_Bool (test a)) [
      | inl passes ↦ rw passes (count_by-cons (λ m. nat_lt m (a + suc k)) a (passing test (a + 1) n)
          ∙ rw (lt-ltb a (a + suc k) (omega arith)) (omega (arith, rest)))
      | inr fails ↦ rw fails rest
    ]

-- one that passes isn't the last number past the end
pub fewer_before : (test : ℕ → Bool) (a k n : ℕ) → k < n → test (a + k) ≡ true → length (passing test a k) < length (passing test a n)
fewer_before test a k zero within here = absurd (omega arith)
fewer_before test a zero (suc n) within here =
    let first : test a ≡ true = ap test (let same : a ≡ a + 0 = omega arith in same) ∙ here in
    rw first (omega arith)
fewer_before test a (suc k) (suc n) within here =
    let next : a + 1 + k ≡ a + suc k = omega arith in
    let rest = fewer_before test (a + 1) k n (omega arith) (ap test next ∙ here) in
    elim (cases_Bool (test a)) [
      | inl passes ↦ rw passes (omega (arith, rest))
      | inr fails ↦ rw fails rest
    ]

-- the one of a number
pub record IsNumbered (test : ℕ → Bool) (a n j : ℕ) : Type 0 where
  pub place : ℕ
  pub within : place < n
  pub passes : test (a + place) ≡ true
  pub number : length (passing test a place) ≡ j

pub numbered : (test : ℕ → Bool) (a n j : ℕ) → j < length (passing test a n) → IsNumbered test a n j
numbered test a zero j below = absurd (omega arith)
numbered test a (suc n) j below = by_test (numbered test (a + 1) n) (test a) refl j below
  where
    next : (place : ℕ) → a + 1 + place ≡ a + suc place
    next place = omega arith

    here : a + 0 ≡ a
    here = omega arith

    by_test : ((k : ℕ) → k < length (passing test (a + 1) n) → IsNumbered test (a + 1) n k) → (b : Bool) → test a ≡ b →
        (j : ℕ) → j < length (cond b (a ∷ passing test (a + 1) n) (passing test (a + 1) n)) →
        IsNumbered test a (suc n) j
    by_test more true passes zero below = record { place = 0; within = omega arith; passes = ap test here ∙ passes; number = refl }
    by_test more true passes (suc j) below =
        let rest = more j (omega arith) in
        record {
          place = suc rest.place;
          within = omega (arith, rest.within);
          passes = ap test (sym (next rest.place))
              ∙ rest.passes;
          number = rw passes (omega (arith, rest.number));
        }
    by_test more false fails j below =
        let rest = more j below in
        record {
          place = suc rest.place;
          within = omega (arith, rest.within);
          passes = ap test (sym (next rest.place))
              ∙ rest.passes;
          number = rw fails rest.number;
        }

pub passing_all : (test : ℕ → Bool) (a n : ℕ) → All (λ l. (l < a + n) × (test l ≡ true)) (passing test a n)
passing_all test a zero = All-nil (λ l. (l < a + 0) × (test l ≡ true))
passing_all test a (suc n) =
    let rest = All-weaker (λ l. (l < a + 1 + n) × (test l ≡ true)) (λ l. (l < a + suc n) × (test l ≡ true))
    (λ l h. (omega (arith, h.0), h.1)) (passing test (a + 1) n) (passing_all test (a + 1) n) in
    elim (cases_Bool (test a)) [
      | inl passes ↦ rw passes (All-cons (λ l. (l < a + suc n) × (test l ≡ true)) a (passing test (a + 1) n) (omega arith, passes) rest)
      | inr fails ↦ rw fails rest
    ]
