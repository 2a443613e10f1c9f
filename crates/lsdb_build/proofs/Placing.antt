-- The places of interfaces with one interface more, and the first of them that passes.
use Rattle.std.proofs.Common.{append-nil, suc, ◌≡◌, ℕ, ◌+◌, ◌<◌, ◌++◌, inl, inr, Bool, true, false, cond, ◌&&◌, not, eqb, List, [], ◌∷◌, Option, Some, None, Vec, unwrap_or, length, get_or, take, slice_get, refl, sym, ap, ◌∙◌, arith}
use Rattle.std.proofs.lemmas.Bool.{cases_Bool, and_parts, eqb-true}
use Rattle.std.proofs.lemmas.List.{take_more, length-take-le}
use Rattle.indexmap.specs.IndexMap.{IndexMap, get, Updates}
use Rattle.lsdb_build.specs.declared.port.Subnet.{Subnet}
use Rattle.lsdb_build.specs.Neighbours.{Port, shares_subnet, is_other, is_port, place_from}
use Rattle.lsdb_build.specs.Tallies.{same_subnet}
use Rattle.lsdb_build.specs.Topology.{places_from}
use Rattle.lsdb_build.specs.Places.{places_or_none, places_at, passes}

-- a subnet is its length and its address
pub same_subnets : (s t : Subnet) → same_subnet s t ≡ true → s ≡ t
same_subnets s t same =
    let parts = and_parts (eqb s.length t.length) (eqb s.address t.address) same in
    let lengths = eqb-true s.length t.length parts.0 in
    let addresses = eqb-true s.address t.address parts.1 in
    λ i. record { length = lengths i; address = addresses i }

-- the list that is there, or else an empty one
listed_or : {A : Type 0} (found : Option (Vec ℕ A)) (fresh : Vec ℕ A) → fresh.items ≡ [] → (unwrap_or found fresh).items ≡ places_or_none found
listed_or None fresh none = none
listed_or (Some places) fresh none = refl

-- a subnet's list with one place more
pub places_more : {A S : Type 0} (old new : IndexMap Subnet (Vec ℕ A) S) (subnet : Subnet) (place : ℕ)
    (fresh before after : Vec ℕ A) → fresh.items ≡ [] → before ≡ unwrap_or (get same_subnet old subnet) fresh →
    after.items ≡ before.items ++ place ∷ [] → Updates same_subnet old new subnet (Some after) → (key : Subnet) →
    places_at new key ≡ places_at old key ++ cond (same_subnet subnet key) (place ∷ []) []
places_more {A} old new subnet place fresh before after none before_is after_is updates key =
    elim (cases_Bool (same_subnet subnet key)) [
      | inl same ↦
          ap places_or_none (updates.0 key ∙ ap (λ b. cond b (Some after) (get same_subnet old key)) same)
          ∙ after_is
          ∙ ap (λ (places : Vec ℕ A). places.items ++ place ∷ []) before_is
          ∙ ap (λ (places : List ℕ). places ++ place ∷ []) (listed_or (get same_subnet old subnet) fresh none
          ∙ ap (places_at old) (same_subnets subnet key same))
          ∙ sym (ap (λ b. places_at old key ++ cond b (place ∷ []) []) same)
      | inr differs ↦
          ap places_or_none (updates.0 key ∙ ap (λ b. cond b (Some after) (get same_subnet old key)) differs)
          ∙ sym (append-nil (places_at old key))
          ∙ sym (ap (λ b. places_at old key ++ cond b (place ∷ []) []) differs)
    ]

-- the places of two lists, one after the other
places_append : (n : ℕ) (test : Port → Bool) (xs ys : List Port) → places_from n test (xs ++ ys) ≡ places_from n test xs ++ places_from (n + length xs) test ys
places_append n test [] ys = ap (λ m. places_from m test ys) (omega arith)
places_append n test (x ∷ xs) ys =
    by_test (test x) (places_append (n + 1) test xs ys
    ∙ ap (λ m. places_from (n + 1) test xs ++ places_from m test ys) (omega arith))
  where
    by_test : (b : Bool) → places_from (n + 1) test (xs ++ ys) ≡ places_from (n + 1) test xs
        ++ places_from (n + suc (length xs)) test ys →
        cond b (n ∷ places_from (n + 1) test (xs ++ ys)) (places_from (n + 1) test (xs ++ ys))
        ≡ cond b (n ∷ places_from (n + 1) test xs) (places_from (n + 1) test xs)
        ++ places_from (n + suc (length xs)) test ys
    by_test true rest = ap (λ places. n ∷ places) rest
    by_test false rest = rest

-- one interface further, which passes or not
pub places_next : (test : Port → Bool) (xs : List Port) (i : ℕ) (x : Port) → i < length xs → x ≡ get_or xs i x →
    places_from 0 test (take (i + 1) xs) ≡ places_from 0 test (take i xs) ++ cond (test x) (i ∷ []) []
places_next test xs i x within is =
    ap (places_from 0 test) (take_more xs i x within)
    ∙ places_append 0 test (take i xs) (get_or xs i x ∷ [])
    ∙ ap (λ n. places_from 0 test (take i xs) ++ cond (test (get_or xs i x)) (n ∷ []) []) (omega (arith, length-take-le i xs (omega arith)))
    ∙ ap (λ y. places_from 0 test (take i xs) ++ cond (test y) (i ∷ []) []) (sym is)

-- the first of the places is that of the first interface that passes
pub first_place : (n : ℕ) (test : Port → Bool) (xs : List Port) → slice_get (places_from n test xs) 0 ≡ place_from n test xs
first_place n test [] = refl
first_place n test (x ∷ xs) = by_test (test x) (first_place (n + 1) test xs)
  where
    by_test : (b : Bool) → slice_get (places_from (n + 1) test xs) 0 ≡ place_from (n + 1) test xs →
        slice_get (cond b (n ∷ places_from (n + 1) test xs) (places_from (n + 1) test xs)) 0
        ≡ cond b (Some n) (place_from (n + 1) test xs)
    by_test true rest = refl
    by_test false rest = rest

-- the first of some places whose interface passes
abbrev pub first_passing : (Port → Bool) → List Port → List ℕ → Option ℕ
first_passing test ports [] = None
first_passing test ports (place ∷ places) = cond (passes test (slice_get ports place)) (Some place) (first_passing test ports places)

-- where each interface that passes the test is among those of the places, the first of the places that passes is the
-- first of all
passing_first : (test wide : Port → Bool) → ((p : Port) → wide p ≡ false → test p ≡ false) →
    (ports : List Port) (n : ℕ) (xs : List Port) → ((k : ℕ) → slice_get ports (n + k) ≡ slice_get xs k) →
    first_passing test ports (places_from n wide xs) ≡ place_from n test xs
passing_first test wide narrows ports n [] rest = refl
passing_first test wide narrows ports n (x ∷ xs) rest =
    let later = passing_first test wide narrows ports (n + 1) xs (λ k. ap (slice_get ports) (omega arith) ∙ rest (suc k)) in
    elim (cases_Bool (wide x)) [
      | inl within ↦
          ap (λ b. first_passing test ports (cond b (n ∷ places_from (n + 1) wide xs) (places_from (n + 1) wide xs))) within
          ∙ ap (λ o. cond (passes test o) (Some n) (first_passing test ports (places_from (n + 1) wide xs))) (ap (slice_get ports) (omega arith) ∙ rest 0)
          ∙ ap (λ o. cond (test x) (Some n) o) later
      | inr without ↦
          ap (λ b. first_passing test ports (cond b (n ∷ places_from (n + 1) wide xs) (places_from (n + 1) wide xs))) without
          ∙ later
          ∙ sym (ap (λ b. cond b (Some n) (place_from (n + 1) test xs)) (narrows x without))
    ]

-- the other interface of a subnet is the first other one of the interfaces on it
pub other_first : (p : Port) (ports : List Port) → first_passing (is_other p) ports (places_from 0 (shares_subnet p) ports) ≡ place_from 0 (is_other p) ports
other_first p ports =
    passing_first (is_other p) (shares_subnet p) (λ q apart. ap (λ b. b && not (is_port p q)) apart) ports 0 ports (λ k. ap (slice_get ports) (omega arith))
