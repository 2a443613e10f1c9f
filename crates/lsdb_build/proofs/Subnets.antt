-- Interfaces on one subnet, and the first members of transit subnets.
use Rattle.std.proofs.Common.{◌≡◌, ℕ, zero, suc, ◌+◌, ◌<◌, ◌≤◌, ◌⊎◌, inl, inr, Bool, true, false, cond, ◌||◌, ◌&&◌, not, eqb, eq-eqb, List, [], ◌∷◌, Some, None, length, refl, sym, ap, ◌∙◌, arith, slice_get, All, AllPairs}
use Rattle.std.specs.List.{list_any}
use Rattle.std.proofs.lemmas.Bool.{false≢true, or_parts, and_parts, and_from, cases_Bool, eqb-true, false_from_ne_true, not-true, cases_order}
use Rattle.std.proofs.lemmas.Option.{none-some, same_Some}
use Rattle.std.proofs.lemmas.List.Elements.{All-nil, All-cons, All-head, All-tail, All-weaker}
use Rattle.std.proofs.lemmas.List.Kept.{AllPairs-cons}
use Rattle.cost_base.proofs.ListLemmas.{same_test, pairs_nil, cond-none}
use Rattle.interface_model.specs.declared.Kind.{Kind}
use Rattle.interface_model.specs.declared.Kind.TheVariants.{PointToPoint, Broadcast}
use Rattle.interface_model.specs.Addresses.{subnet}
use Rattle.lsdb_build.specs.Neighbours.{Port, shares_subnet, is_broadcast, first_members, place_from}
use Rattle.lsdb_build.specs.Topology.{first_where, same_kind}
use Rattle.lsdb_build.proofs.Pairs.{pair_at}

-- what it means to share a subnet
pub record OneSubnet (p q : Port) : Type 0 where
  pub length : p.interface.length ≡ q.interface.length
  pub subnet : subnet p.address p.interface.length ≡ subnet q.address q.interface.length

pub shares_tells : (p q : Port) → shares_subnet p q ≡ true → OneSubnet p q
shares_tells p q h =
    let parts = and_parts (eqb p.interface.length q.interface.length) (eqb (subnet p.address p.interface.length) (subnet q.address q.interface.length)) h in
    record { length = eqb-true _ _ parts.0; subnet = eqb-true _ _ parts.1 }

pub shares_from : (p q : Port) → OneSubnet p q → shares_subnet p q ≡ true
shares_from p q h = and_from _ _ (eq-eqb _ _ h.length) (eq-eqb _ _ h.subnet)

pub shares_itself : (p : Port) → shares_subnet p p ≡ true
shares_itself p = shares_from p p (record { length = refl; subnet = refl })

pub shares_back : (p q : Port) → shares_subnet p q ≡ true → shares_subnet q p ≡ true
shares_back p q h = let s = shares_tells p q h in shares_from q p (record { length = sym s.length; subnet = sym s.subnet })

pub shares_swap : (p q : Port) → shares_subnet p q ≡ shares_subnet q p
shares_swap p q = same_test (shares_subnet p q) (shares_subnet q p) (shares_back p q) (shares_back q p)

pub shares_on : (p q r : Port) → shares_subnet p q ≡ true → shares_subnet q r ≡ true → shares_subnet p r ≡ true
shares_on p q r h k =
    let s = shares_tells p q h in
    let t = shares_tells q r k in
    shares_from p r (record { length = s.length ∙ t.length; subnet = s.subnet ∙ t.subnet })

-- two interfaces of one subnet share it with the same interfaces
pub shares_alike : (p q : Port) → shares_subnet p q ≡ true → (r : Port) → shares_subnet p r ≡ shares_subnet q r
shares_alike p q h r = same_test _ _ (λ k. shares_on q p r (shares_back p q h) k) (λ k. shares_on p q r h k)

pub shares_not_back : (p q : Port) → shares_subnet p q ≡ false → shares_subnet q p ≡ false
shares_not_back p q h = false_from_ne_true _ (λ k. false≢true (sym h ∙ shares_back q p k))

-- a check of one earlier interface that finds none holds of no pair
pub record NonePasses (t : Port → Port → Bool) (before xs : List Port) : Type 0 where
  pub across : All (λ p. list_any (λ q. t q p) before ≡ false) xs
  pub pairs : AllPairs (λ a b. t a b ≡ false) xs

pub none_passes : (t : Port → Port → Bool) (before xs : List Port) → first_where (λ b p. list_any (λ q. t q p) b) before xs ≡ None → NonePasses t before xs
none_passes t before [] h = record { across = All-nil (λ p. list_any (λ q. t q p) before ≡ false); pairs = pairs_nil (λ a b. t a b ≡ false) }
none_passes t before (p ∷ xs) h =
    let step = cond-none (list_any (λ q. t q p) before) p (first_where (λ b v. list_any (λ q. t q v) b) (p ∷ before) xs) h in
    let rest = none_passes t (p ∷ before) xs step.1 in
    record {
      across = All-cons (λ v. list_any (λ q. t q v) before ≡ false) p xs step.0
          (All-weaker (λ v. list_any (λ q. t q v) (p ∷ before) ≡ false) (λ v. list_any (λ q. t q v) before ≡ false)
          (λ v k. (or_parts (t p v) (list_any (λ q. t q v) before) k).1) xs rest.across);
      pairs = AllPairs-cons (λ a b. t a b ≡ false) p xs
          (All-weaker (λ v. list_any (λ q. t q v) (p ∷ before) ≡ false) (λ v. t p v ≡ false)
          (λ v k. (or_parts (t p v) (list_any (λ q. t q v) before) k).0) xs rest.across) rest.pairs;
    }

-- interfaces of one subnet have one network kind
pub kinds_tell : (a b : Kind) → same_kind a b ≡ true → a ≡ b
kinds_tell PointToPoint PointToPoint h = refl
kinds_tell PointToPoint Broadcast h = absurd (false≢true h)
kinds_tell Broadcast PointToPoint h = absurd (false≢true h)
kinds_tell Broadcast Broadcast h = refl

abbrev pub differs_in_kind : Port → Port → Bool
differs_in_kind q p = shares_subnet q p && not (same_kind q.interface.kind p.interface.kind)

one_kind : (a b : Port) → differs_in_kind a b ≡ false → shares_subnet a b ≡ true → a.interface.kind ≡ b.interface.kind
one_kind a b same shares =
    elim (cases_Bool (same_kind a.interface.kind b.interface.kind)) [
      | inl one ↦ kinds_tell a.interface.kind b.interface.kind one
      | inr two ↦ absurd (false≢true (sym same ∙ and_from _ _ shares (ap not two)))
    ]

pub kinds_at : (xs : List Port) → AllPairs (λ a b. differs_in_kind a b ≡ false) xs → (i j : ℕ) (p q : Port) →
    slice_get xs i ≡ Some p → slice_get xs j ≡ Some q → shares_subnet p q ≡ true → p.interface.kind ≡ q.interface.kind
kinds_at xs pairs i j p q at_i at_j shares = by_order (cases_order i j)
  where
    by_order : (i ≡ j) ⊎ ((i < j) ⊎ (j < i)) → p.interface.kind ≡ q.interface.kind
    by_order (inl same) = ap (λ (v : Port). v.interface.kind) (same_Some p q (sym at_i ∙ ap (slice_get xs) same ∙ at_j))
    by_order (inr (inl below)) = one_kind p q (pair_at (λ a b. differs_in_kind a b ≡ false) xs pairs i j p q below at_i at_j) shares
    by_order (inr (inr above)) = sym (one_kind q p (pair_at (λ a b. differs_in_kind a b ≡ false) xs pairs j i q p above at_j at_i) (shares_back p q shares))

-- the first place that passes, where it is the only one
pub place_only : (test : Port → Bool) (n : ℕ) (xs : List Port) (m : ℕ) (y : Port) → slice_get xs m ≡ Some y →
    test y ≡ true → ((k : ℕ) (z : Port) → slice_get xs k ≡ Some z → test z ≡ true → k ≡ m) →
    place_from n test xs ≡ Some (n + m)
place_only test n [] m y at passes only = absurd (none-some y at)
place_only test n (x ∷ xs) zero y at passes only =
    ap (λ b. cond b (Some n) (place_from (n + 1) test xs)) (ap test (same_Some x y at) ∙ passes) ∙ ap Some (omega arith)
place_only test n (x ∷ xs) (suc m) y at passes only =
    let fails : test x ≡ false = false_from_ne_true (test x) (λ h. absurd (zero_suc (only 0 x refl h))) in
    ap (λ b. cond b (Some n) (place_from (n + 1) test xs)) fails
    ∙ place_only test (n + 1) xs m y at passes (λ k z at_k h. (let e = only (suc k) z at_k h in omega arith))
    ∙ ap Some (omega arith)
  where
    zero_suc : 0 ≡ suc m → ⊥
    zero_suc h = omega arith

-- what holds of the interfaces holds of the first members among them
pub firsts_all : (P : Port → Type 0) (before xs : List Port) → All P xs → All P (first_members before xs)
firsts_all P before [] all = All-nil P
firsts_all P before (p ∷ xs) all = by_test (is_broadcast p && not (list_any (shares_subnet p) before)) (firsts_all P (p ∷ before) xs (All-tail P p xs all))
  where
    by_test : (b : Bool) → All P (first_members (p ∷ before) xs) → All P (cond b (p ∷ first_members (p ∷ before) xs) (first_members (p ∷ before) xs))
    by_test true rest = All-cons P p (first_members (p ∷ before) xs) (All-head P p xs all) rest
    by_test false rest = rest

pub firsts_length : (before xs : List Port) → length (first_members before xs) ≤ length xs
firsts_length before [] = omega arith
firsts_length before (p ∷ xs) = by_test (is_broadcast p && not (list_any (shares_subnet p) before)) (firsts_length (p ∷ before) xs)
  where
    by_test : (b : Bool) → length (first_members (p ∷ before) xs) ≤ length xs →
        length (cond b (p ∷ first_members (p ∷ before) xs) (first_members (p ∷ before) xs)) ≤ suc (length xs)
    by_test true h = omega arith
    by_test false h = omega arith

-- a first member is broadcast, no interface before shares its subnet, and no two share one
pub record AreFirst (before firsts : List Port) : Type 0 where
  pub broadcast : All (λ f. is_broadcast f ≡ true) firsts
  pub fresh : All (λ f. list_any (shares_subnet f) before ≡ false) firsts
  pub apart : AllPairs (λ a b. shares_subnet a b ≡ false) firsts

pub firsts_are_first : (before xs : List Port) → AreFirst before (first_members before xs)
firsts_are_first before [] = record {
  broadcast = All-nil (λ f. is_broadcast f ≡ true);
  fresh = All-nil (λ f. list_any (shares_subnet f) before ≡ false);
  apart =
      pairs_nil (λ a b. shares_subnet a b ≡ false);
}
firsts_are_first before (p ∷ xs) = by_test (is_broadcast p && not (list_any (shares_subnet p) before)) refl (firsts_are_first (p ∷ before) xs)
  where
    older : (firsts : List Port) → AreFirst (p ∷ before) firsts → All (λ f. list_any (shares_subnet f) before ≡ false) firsts
    older firsts rest = All-weaker (λ f. list_any (shares_subnet f) (p ∷ before) ≡ false)
        (λ f. list_any (shares_subnet f) before ≡ false)
        (λ f h. (or_parts (shares_subnet f p) (list_any (shares_subnet f) before) h).1) firsts rest.fresh

    other : (firsts : List Port) → AreFirst (p ∷ before) firsts → All (λ f. shares_subnet p f ≡ false) firsts
    other firsts rest = All-weaker (λ f. list_any (shares_subnet f) (p ∷ before) ≡ false)
        (λ f. shares_subnet p f ≡ false)
        (λ f h. shares_not_back f p (or_parts (shares_subnet f p) (list_any (shares_subnet f) before) h).0)
        firsts rest.fresh

    by_test : (b : Bool) → (is_broadcast p && not (list_any (shares_subnet p) before)) ≡ b →
        AreFirst (p ∷ before) (first_members (p ∷ before) xs) →
        AreFirst before (cond b (p ∷ first_members (p ∷ before) xs) (first_members (p ∷ before) xs))
    by_test true is rest =
        let parts = and_parts (is_broadcast p) (not (list_any (shares_subnet p) before)) is in
        let firsts = first_members (p ∷ before) xs in
        record {
          broadcast = All-cons (λ f. is_broadcast f ≡ true) p firsts parts.0 rest.broadcast;
          fresh = All-cons (λ f. list_any (shares_subnet f) before ≡ false) p firsts (not-true _ parts.1) (older firsts rest);
          apart = AllPairs-cons (λ a b. shares_subnet a b ≡ false) p firsts (other firsts rest) rest.apart;
        }
    by_test false is rest = record { broadcast = rest.broadcast; fresh = older (first_members (p ∷ before) xs) rest; apart = rest.apart }

-- a first member of the interface's subnet
pub record FirstOf (p : Port) (firsts : List Port) : Type 0 where
  pub place : ℕ
  pub item : Port
  pub at : slice_get firsts place ≡ Some item
  pub shares : shares_subnet p item ≡ true

-- one more first member in front, or none
kept_first : (p : Port) (b : Bool) (x : Port) (firsts : List Port) → FirstOf p firsts → FirstOf p (cond b (x ∷ firsts) firsts)
kept_first p true x firsts found = record { place = suc found.place; item = found.item; at = found.at; shares = found.shares }
kept_first p false x firsts found = found

new_first : (p : Port) (b : Bool) (x : Port) (firsts : List Port) → b ≡ true → shares_subnet p x ≡ true → FirstOf p (cond b (x ∷ firsts) firsts)
new_first p true x firsts is shares = record { place = 0; item = x; at = refl; shares = shares }
new_first p false x firsts is shares = absurd (false≢true is)

-- at an interface of the subnet: it is the first member, or one before it shares the subnet
at_first : (before : List Port) (x : Port) (xs : List Port) (p : Port) → shares_subnet p x ≡ true →
    is_broadcast x ≡ true → FirstOf p (first_members before (x ∷ xs)) ⊎ (list_any (shares_subnet p) before ≡ true)
at_first before x xs p same broadcast =
    elim (cases_Bool (list_any (shares_subnet x) before)) [
      | inl earlier ↦ inr (ap (λ (test : Port → Bool). list_any test before) (λ i q. shares_alike p x same q i) ∙ earlier)
      | inr fresh ↦ inl (new_first p (is_broadcast x && not (list_any (shares_subnet x) before)) x
          (first_members (x ∷ before) xs) (and_from _ _ broadcast (ap not fresh)) same)
    ]

-- the subnet of a broadcast interface has a first member, or one before it
pub first_found : (before xs : List Port) (k : ℕ) (p : Port) → slice_get xs k ≡ Some p →
    All (λ q. shares_subnet p q ≡ true → is_broadcast q ≡ true) xs → FirstOf p (first_members before xs)
    ⊎ (list_any (shares_subnet p) before ≡ true)
first_found before [] k p at all = absurd (none-some p at)
first_found before (x ∷ xs) zero p at all =
    let is_same : shares_subnet p x ≡ true = ap (shares_subnet p) (same_Some x p at) ∙ shares_itself p in
    at_first before x xs p is_same (All-head (λ q. shares_subnet p q ≡ true → is_broadcast q ≡ true) x xs all is_same)
first_found before (x ∷ xs) (suc k) p at all =
    elim (cases_Bool (shares_subnet p x)) [
      | inl same ↦ at_first before x xs p same (All-head (λ q. shares_subnet p q ≡ true → is_broadcast q ≡ true) x xs all same)
      | inr other ↦
          elim (first_found (x ∷ before) xs k p at (All-tail (λ q. shares_subnet p q ≡ true → is_broadcast q ≡ true) x xs all)) [
            | inl found ↦ inl (kept_first p (is_broadcast x && not (list_any (shares_subnet x) before)) x (first_members (x ∷ before) xs) found)
            | inr earlier ↦ inr (ap (λ b. b || list_any (shares_subnet p) before) (sym other) ∙ earlier)
          ]
    ]
