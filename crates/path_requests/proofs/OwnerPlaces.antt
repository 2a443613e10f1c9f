-- The owners stand in order: how many stand before a place is found by halving.
use Rattle.std.proofs.Common.{◌≡◌, ℕ, zero, suc, ◌≤◌, List, [], ◌∷◌, length, Bool, true, false, refl, ◌∙◌, arith}
use Rattle.std.specs.Prelude.{count_by, nat_lt}
use Rattle.std.specs.List.Sorted.{IsNonDecreasingBy, IsPartitionPoint, IsPartitionedBy}
use Rattle.std.proofs.lemmas.List.Sorted.{IsPartitionedBy-ltb}
use Rattle.std.proofs.lemmas.List.Kept.{IsNonDecreasingBy-filter}
use Rattle.cost_base.specs.Lists.{numbers_from}
use Rattle.cost_base.proofs.ListLemmas.{length-numbers_from, get_or-numbers_from}
use Rattle.request_reader.specs.Asked.{Asked}
use Rattle.lsdb_build.specs.Graphs.{Database}
use Rattle.lsdb_build.proofs.Pairs.{count_by-cons}
use Rattle.path_requests.specs.Meaning.{own, owners}

numbers_rise : (n : ℕ) → IsNonDecreasingBy (λ m. m) (numbers_from 0 n)
numbers_rise n = λ i j d before within.
    let count = length-numbers_from 0 n in
    omega (arith, get_or-numbers_from 0 n i d (omega (arith, count)), get_or-numbers_from 0 n j d (omega (arith, count)))

pub owners_partitioned : (a : Asked) (d : Database) (o : ℕ) → IsPartitionedBy (λ m. nat_lt m o) (owners a d)
owners_partitioned a d o =
    let numbers = numbers_from 0 (length d.links) in
    IsPartitionedBy-ltb (λ m. m) (owners a d) o (IsNonDecreasingBy-filter (λ m. m) (own a d) numbers (numbers_rise (length d.links)))

-- as many pass a test as stand before the place from which on none passes
pub count_at_point : (test : ℕ → Bool) (xs : List ℕ) (i : ℕ) → i ≤ length xs →
    IsPartitionPoint (λ m. test m ≡ true) (λ m. test m ≡ false) xs i → count_by test xs ≡ i
count_at_point test [] zero within point = refl
count_at_point test [] (suc i) within point = absurd (omega arith)
count_at_point test (x ∷ xs) zero within point =
    let first : test x ≡ false = point.1 0 0 (omega arith) (omega arith) in
    count_by-cons test x xs
    ∙ rw first (omega (
      arith,
      count_at_point test xs 0 (omega arith) (
        (λ k d from below. absurd (omega arith)),
        (λ k d from below. point.1 (suc k) d (omega arith) (omega arith)),
      ),
    ))
count_at_point test (x ∷ xs) (suc i) within point =
    let first : test x ≡ true = point.0 0 0 (omega arith) (omega arith) in
    count_by-cons test x xs
    ∙ rw first (omega (
      arith,
      count_at_point test xs i (omega arith) (
        (λ k d from below. point.0 (suc k) d (omega arith) (omega arith)),
        (λ k d from below. point.1 (suc k) d (omega arith) (omega arith)),
      ),
    ))
