-- A tally with one key more.
use Rattle.std.proofs.Common.{zero, suc, zero-add, nat_lt, nat_eq, not, ◌||◌, ◌&&◌, ◌==◌, ◌≡◌, ℕ, ◌+◌, ◌<◌, ◌≤◌, ◌^◌, inl, inr, Bool, true, false, cond, List, [], ◌∷◌, Some, unwrap_or, count_by, length, get_or, take, reverse, map, refl, sym, ap, ◌∙◌, subst, arith}
use Rattle.std.proofs.lemmas.List.{length-map, length-reverse, length-take}
use Rattle.std.proofs.lemmas.List.Sums.{count_by-le-length}
use Rattle.std.specs.List.{list_any, list_all}
use Rattle.std.proofs.lemmas.Bool.{cases_Bool, le-ltb, lt-ltb, ne_eqb}
use Rattle.std.specs.Bool.{beq}
use Rattle.std.specs.Cmp.{IsEquivalence}
use Rattle.indexmap.specs.IndexMap.{IndexMap, get, get_by, Updates}
use Rattle.lsdb_build.specs.declared.port.Subnet.{Subnet}
use Rattle.lsdb_build.specs.Neighbours.{Port, shares_subnet, is_broadcast, is_broadcast_kind}
use Rattle.lsdb_build.specs.Tallies.{count_of, IsTally, subnet_of, same_subnet, same_trait, kind_on, rank_on}
use Rattle.lsdb_build.specs.Topology.{is_mismatch, first_where, lacks_designated, same_kind}
use Rattle.interface_model.specs.declared.Kind.{Kind}
use Rattle.interface_model.specs.declared.Kind.TheVariants.{PointToPoint, Broadcast}
use Rattle.lsdb_build.proofs.FirstPlaces.{reverse_more, count_by-reverse, IsLeft, left_on, first_met}
use Rattle.lsdb_build.proofs.Pairs.{count_by-cons, count_agree}
use Rattle.lsdb_build.proofs.Subnets.{shares_swap}

module _ {K S : Type 0} (eq : K → K → Bool) (laws : IsEquivalence eq) (old new : IndexMap K ℕ S) (key : K) where
  -- equal keys came as often
  count_alike : (other : K) → eq key other ≡ true → count_of eq old key ≡ count_of eq old other
  count_alike other same = ap (λ (test : K → Bool). unwrap_or (get_by test old) 0) (λ i x. laws.congr key other x same i)

  pub tally_more : (n : ℕ) → n ≡ count_of eq old key → Updates eq old new key (Some (n + 1)) → (keys : List K) →
      IsTally eq old keys → IsTally eq new (key ∷ keys)
  tally_more n is updates keys tally other =
      elim (cases_Bool (eq key other)) [
        | inl same ↦
            ap (λ o. unwrap_or o 0) (updates.0 other ∙ ap (λ b. cond b (Some (n + 1)) (get eq old other)) same)
            ∙ ap (λ m. m + 1) (is ∙ count_alike other same ∙ tally other)
            ∙ omega arith
            ∙ sym (count_by-cons (λ k. eq k other) key keys ∙ ap (λ b. cond b 1 0 + count_by (λ k. eq k other) keys) same)
        | inr differs ↦
            ap (λ o. unwrap_or o 0) (updates.0 other ∙ ap (λ b. cond b (Some (n + 1)) (get eq old other)) differs)
            ∙ tally other
            ∙ sym (count_by-cons (λ k. eq k other) key keys ∙ ap (λ b. cond b 1 0 + count_by (λ k. eq k other) keys) differs ∙ omega arith)
      ]

module _ {X K S : Type 0} (eq : K → K → Bool) (of : X → K) (counts : IndexMap K ℕ S) (xs : List X) (i : ℕ) where
  -- one more element that was told apart by its key
  pub tally_on : (x : X) → i < length xs → x ≡ get_or xs i x → (key : K) → key ≡ of x →
      IsTally eq counts (key ∷ map of (reverse (take i xs))) → IsTally eq counts (map of (reverse (take (i + 1) xs)))
  tally_on x within is key key_is tally =
      subst (λ ys. IsTally eq counts (map of ys)) (reverse_more xs i x within is)
      (subst (λ k. IsTally eq counts (k ∷ map of (reverse (take i xs)))) key_is tally)

  -- no key came more often than there are elements
  pub tally_few : IsTally eq counts (map of (reverse (take i xs))) → length xs ≤ 4000 → (key : K) → count_of eq counts key < 2 ^ 31
  tally_few tally few key =
      omega (
        arith,
        tally key,
        count_by-le-length (λ k. eq k key) (map of (reverse (take i xs))),
        length-map (reverse (take i xs)) of,
        length-reverse (take i xs),
        length-take i xs,
      )

-- a count of what a function gives
pub count_by-map : {X K : Type 0} (f : K → Bool) (of : X → K) (xs : List X) → count_by f (map of xs) ≡ count_by (λ x. f (of x)) xs
count_by-map f of [] = refl
count_by-map f of (x ∷ xs) =
    count_by-cons f (of x) (map of xs) ∙ ap (λ n. cond (f (of x)) 1 0 + n) (count_by-map f of xs) ∙ sym (count_by-cons (λ y. f (of y)) x xs)

-- the keys of a list turned round, counted
pub count_by-keys : {X K : Type 0} (f : K → Bool) (of : X → K) (xs : List X) → count_by f (map of (reverse xs)) ≡ count_by (λ x. f (of x)) xs
count_by-keys f of xs = count_by-map f of (reverse xs) ∙ count_by-reverse (λ x. f (of x)) xs

-- all elements in order
pub tally_whole : {X K S : Type 0} (eq : K → K → Bool) (of : X → K) (counts : IndexMap K ℕ S) (xs : List X) →
    IsTally eq counts (map of (reverse xs)) → IsTally eq counts (map of xs)
tally_whole eq of counts xs tally key = tally key ∙ count_by-keys (λ k. eq k key) of xs ∙ sym (count_by-map (λ k. eq k key) of xs)

-- how many interfaces share an interface's subnet
pub members_counted : {S : Type 0} (counts : IndexMap Subnet ℕ S) (all : List Port) (p : Port) →
    IsTally same_subnet counts (map subnet_of all) →
    count_of same_subnet counts (subnet_of p) ≡ count_by (shares_subnet p) all
members_counted counts all p tally =
    tally (subnet_of p) ∙ count_by-map (λ k. same_subnet k (subnet_of p)) subnet_of all
    ∙ count_agree (λ q. shares_subnet q p) (shares_subnet p) (λ q. shares_swap q p) all

-- no element passes where each fails
none_any : {X : Type 0} (f g : X → Bool) → ((x : X) → not (f x) ≡ g x) → (xs : List X) → not (list_any f xs) ≡ list_all g xs
none_any f g fails [] = refl
none_any f g fails (x ∷ xs) = by_test (f x) (g x) (fails x) (none_any f g fails xs)
  where
    by_test : (a b : Bool) → not a ≡ b → not (list_any f xs) ≡ list_all g xs → not (a || list_any f xs) ≡ (b && list_all g xs)
    by_test true b is rest = ap (λ c. c && list_all g xs) is
    by_test false b is rest = rest ∙ ap (λ c. c && list_all g xs) is

-- whether any passes, by the count of those that pass
pub any_counted : {X : Type 0} (f : X → Bool) (xs : List X) → nat_lt 0 (count_by f xs) ≡ list_any f xs
any_counted f [] = refl
any_counted f (x ∷ xs) =
    ap (nat_lt 0) (count_by-cons f x xs) ∙ by_test (f x) (count_by f xs) (any_counted f xs)
  where
    by_test : (b : Bool) (n : ℕ) → nat_lt 0 n ≡ list_any f xs → nat_lt 0 (cond b 1 0 + n) ≡ (b || list_any f xs)
    by_test true n same = lt-ltb 0 (1 + n) (omega arith)
    by_test false n same = ap (nat_lt 0) (zero-add n) ∙ same

pub none_counted : {X : Type 0} (f : X → Bool) (xs : List X) → nat_eq (count_by f xs) 0 ≡ not (list_any f xs)
none_counted f xs = by_count (count_by f xs) ∙ ap not (any_counted f xs)
  where
    by_count : (n : ℕ) → nat_eq n 0 ≡ not (nat_lt 0 n)
    by_count zero = refl
    by_count (suc n) = ne_eqb (suc n) 0 (λ h. omega arith) ∙ sym (ap not (lt-ltb 0 (suc n) (omega arith)))

-- whether an earlier interface has the key, by how often it came
pub any_tallied : {K S : Type 0} (eq : K → K → Bool) (of : Port → K) (counts : IndexMap K ℕ S) (before : List Port)
    (p : Port) (key : K) (n : ℕ) → n ≡ count_of eq counts key → key ≡ of p →
    IsTally eq counts (map of before) → list_any (λ q. eq (of q) (of p)) before ≡ nat_lt 0 n
any_tallied eq of counts before p key n count_is key_is tally =
    sym (ap (nat_lt 0) (count_is ∙ ap (count_of eq counts) key_is ∙ tally (of p)
    ∙ count_by-map (λ k. eq k (of p)) of before) ∙ any_counted (λ q. eq (of q) (of p)) before)

-- A walk over interfaces that tallies their keys.

-- the first so many are tallied, and none of them is met
pub record IsWalked {K S : Type 0} (eq : K → K → Bool) (of : Port → K) (f : List Port → Port → Bool) (counts : IndexMap K ℕ S)
    (ports : List Port) (i : ℕ) : Type 0 where
  pub seen : IsTally eq counts (map of (reverse (take i ports)))
  pub left : IsLeft f ports i

-- the walk goes on past an interface that isn't met
pub walked_on : {K S : Type 0} (eq : K → K → Bool) (of : Port → K) (f : List Port → Port → Bool) (counts news : IndexMap K ℕ S)
    (ports : List Port) (i : ℕ) (p : Port) → IsWalked eq of f counts ports i → i < length ports → p ≡ get_or ports i p →
    (key : K) → key ≡ of p → IsTally eq news (key ∷ map of (reverse (take i ports))) →
    f (reverse (take i ports)) p ≡ false → IsWalked eq of f news ports (i + 1)
walked_on eq of f counts news ports i p walked within is key key_is added fails =
    record {
      seen = tally_on eq of news ports i p within is key key_is added;
      left = left_on f ports i walked.left p within is fails;
    }

-- an earlier interface has the key
abbrev pub is_second : {K : Type 0} (eq : K → K → Bool) (of : Port → K) → List Port → Port → Bool
is_second eq of before p = list_any (λ q. eq (of q) (of p)) before

module _ {K S : Type 0} (eq : K → K → Bool) (of : Port → K) (counts : IndexMap K ℕ S) (ports : List Port) (i : ℕ) (p : Port)
    (walked : IsWalked eq of (is_second eq of) counts ports i) (within : i < length ports) (is : p ≡ get_or ports i p)
    (key : K) (key_is : key ≡ of p) (n : ℕ) (count_is : n ≡ count_of eq counts key) where
  by_count : is_second eq of (reverse (take i ports)) p ≡ nat_lt 0 n
  by_count = any_tallied eq of counts (reverse (take i ports)) p key n count_is key_is walked.seen

  -- the walk goes on past an interface whose key is new
  pub second_passed : (news : IndexMap K ℕ S) → IsTally eq news (key ∷ map of (reverse (take i ports))) → n ≤ 0 →
      IsWalked eq of (is_second eq of) news ports (i + 1)
  second_passed news added none =
      walked_on eq of (is_second eq of) counts news ports i p walked within is key key_is added (by_count ∙ le-ltb 0 n none)

  -- it ends at the first whose key came before
  pub second_met : 0 < n → first_where (is_second eq of) [] ports ≡ Some p
  second_met some = first_met (is_second eq of) ports i walked.left p within is (by_count ∙ lt-ltb 0 n some)

-- whether an earlier interface of the other kind is on the same subnet
pub kinds_counted : {S : Type 0} (counts : IndexMap (Bool × Subnet) ℕ S) (before : List Port) (p : Port) →
    IsTally same_trait counts (map kind_on before) →
    nat_lt 0 (count_of same_trait counts (not (is_broadcast p), subnet_of p)) ≡ is_mismatch before p
kinds_counted counts before p tally =
    ap (nat_lt 0) (tally other ∙ count_by-map (λ k. same_trait k other) kind_on before)
    ∙ any_counted (λ q. same_trait (kind_on q) other) before
    ∙ ap (λ (test : Port → Bool). list_any test before)
    (λ i q. by_kinds q.interface.kind p.interface.kind (shares_subnet q p) i)
  where
    other : Bool × Subnet
    other = (not (is_broadcast p), subnet_of p)

    by_kinds : (k l : Kind) (shares : Bool) → (beq (is_broadcast_kind k) (not (is_broadcast_kind l)) && shares) ≡ (shares && not (same_kind k l))
    by_kinds PointToPoint PointToPoint true = refl
    by_kinds PointToPoint PointToPoint false = refl
    by_kinds PointToPoint Broadcast true = refl
    by_kinds PointToPoint Broadcast false = refl
    by_kinds Broadcast PointToPoint true = refl
    by_kinds Broadcast PointToPoint false = refl
    by_kinds Broadcast Broadcast true = refl
    by_kinds Broadcast Broadcast false = refl

-- whether no interface on the subnet may become its designated router
pub designated_counted : {S : Type 0} (counts : IndexMap (Bool × Subnet) ℕ S) (all : List Port) (p : Port) →
    IsTally same_trait counts (map rank_on all) → nat_eq (count_of same_trait counts (true, subnet_of p)) 0
    ≡ lacks_designated all p
designated_counted counts all p tally =
    ap (λ n. nat_eq n 0) (tally able ∙ count_by-map (λ k. same_trait k able) rank_on all)
    ∙ none_counted (λ q. same_trait (rank_on q) able) all
    ∙ none_any _ _ (λ q. ap (λ b. not (beq (nat_lt 0 q.interface.priority) true && b)) (shares_swap q p)
    ∙ by_priority q.interface.priority (shares_subnet p q)) all
  where
    able : Bool × Subnet
    able = (true, subnet_of p)

    by_priority : (n : ℕ) (shares : Bool) → not (beq (nat_lt 0 n) true && shares) ≡ (not shares || n == 0)
    by_priority zero true = refl
    by_priority zero false = refl
    by_priority (suc n) true = ap (λ b. not (beq b true && true)) (lt-ltb 0 (suc n) (omega arith)) ∙ sym (ne_eqb (suc n) 0 (λ h. omega arith))
    by_priority (suc n) false = ap (λ b. not (beq b true && false)) (lt-ltb 0 (suc n) (omega arith))

-- those of either trait, counted together
both_traits : {X : Type 0} (trait f : X → Bool) (xs : List X) →
    count_by (λ x. beq (trait x) true && f x) xs + count_by (λ x. beq (trait x) false && f x) xs ≡ count_by f xs
both_traits trait f [] = refl
both_traits trait f (x ∷ xs) =
    let yes_more = count_by-cons (λ y. beq (trait y) true && f y) x xs in
    let no_more = count_by-cons (λ y. beq (trait y) false && f y) x xs in
    by_test (trait x) (f x) yes_more no_more (count_by-cons f x xs) (both_traits trait f xs)
  where
    by_test : (b c : Bool) → count_by (λ y. beq (trait y) true && f y) (x ∷ xs) ≡ cond (beq b true && c) 1 0 + count_by (λ y. beq (trait y) true && f y) xs →
        count_by (λ y. beq (trait y) false && f y) (x ∷ xs) ≡ cond (beq b false && c) 1 0 + count_by (λ y. beq (trait y) false && f y) xs →
        count_by f (x ∷ xs) ≡ cond c 1 0 + count_by f xs →
        count_by (λ y. beq (trait y) true && f y) xs + count_by (λ y. beq (trait y) false && f y) xs ≡ count_by f xs →
        count_by (λ y. beq (trait y) true && f y) (x ∷ xs) + count_by (λ y. beq (trait y) false && f y) (x ∷ xs) ≡ count_by f (x ∷ xs)
    by_test true true one two all rest = omega (arith, one, two, all, rest)
    by_test true false one two all rest = omega (arith, one, two, all, rest)
    by_test false true one two all rest = omega (arith, one, two, all, rest)
    by_test false false one two all rest = omega (arith, one, two, all, rest)

-- how many interfaces before stand on the same subnet, by the counts of both kinds
pub both_counted : {S : Type 0} (counts : IndexMap (Bool × Subnet) ℕ S) (before : List Port) (p : Port) → IsTally same_trait counts (map kind_on before) →
    count_of same_trait counts (true, subnet_of p) + count_of same_trait counts (false, subnet_of p) ≡ count_by (λ q. shares_subnet q p) before
both_counted counts before p tally =
    ap (λ n. n + count_of same_trait counts (false, subnet_of p)) (tally (true, subnet_of p)
    ∙ count_by-map (λ k. same_trait k (true, subnet_of p)) kind_on before)
    ∙ ap (λ n. count_by (λ q. same_trait (kind_on q) (true, subnet_of p)) before + n) (tally (false, subnet_of p)
    ∙ count_by-map (λ k. same_trait k (false, subnet_of p)) kind_on before)
    ∙ both_traits is_broadcast (λ q. shares_subnet q p) before
