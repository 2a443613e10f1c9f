-- The first place that a check meets, one step of a loop on.
use Rattle.std.proofs.Common.{append-nil, ◌≡◌, ℕ, ◌+◌, ◌<◌, ◌≤◌, ◌++◌, Bool, true, false, filter, cond, ◌&&◌, not, List, [], ◌∷◌, None, Some, length, get_or, take, drop, reverse, count_by, sym, ap, ◌∙◌, map}
use Rattle.std.specs.List.{list_any}
use Rattle.std.proofs.lemmas.List.{at_drop_all, at_drop_more, take_more, reverse-append, map-append}
use Rattle.std.proofs.Math.Bool.{not-not}
use Rattle.std.proofs.lemmas.List.Elements.{filter_more}
use Rattle.std.proofs.lemmas.List.Sorted.{list_any-IsPermutation, sum_by-IsPermutation, IsPermutation-reverse}
use Rattle.cost_base.specs.Lists.{same_bytes}
use Rattle.cost_base.proofs.ListLemmas.{list_any-map}
use Rattle.interface_model.specs.Records.{Router}
use Rattle.lsdb_build.specs.Neighbours.{Port, shares_subnet, is_broadcast, first_members}
use Rattle.lsdb_build.specs.Topology.{first_where, second_of_name}

-- a list turned round passes a test alike
pub list_any-reverse : {X : Type 0} (p : X → Bool) (xs : List X) → list_any p (reverse xs) ≡ list_any p xs
list_any-reverse p xs = sym (list_any-IsPermutation p xs (reverse xs) (IsPermutation-reverse xs))

-- a list turned round has as many that pass
pub count_by-reverse : {X : Type 0} (p : X → Bool) (xs : List X) → count_by p (reverse xs) ≡ count_by p xs
count_by-reverse p xs = sum_by-IsPermutation (λ x. cond (p x) 1 0) xs (reverse xs) (IsPermutation-reverse xs)

-- one more in front of the list turned round
pub reverse_more : {X : Type 0} (xs : List X) (i : ℕ) (x : X) → i < length xs → x ≡ get_or xs i x → x ∷ reverse (take i xs) ≡ reverse (take (i + 1) xs)
reverse_more xs i x within is =
    sym (ap reverse (take_more xs i x within) ∙ reverse-append (take i xs) (get_or xs i x ∷ [])
    ∙ ap (λ y. y ∷ reverse (take i xs)) (sym is))

first_where-more : (f : List Port → Port → Bool) (xs : List Port) (i : ℕ) (p : Port) → i < length xs →
    p ≡ get_or xs i p → (b : Bool) → f (reverse (take i xs)) p ≡ b →
    first_where f (reverse (take i xs)) (drop i xs)
    ≡ cond b (Some p) (first_where f (reverse (take (i + 1) xs)) (drop (i + 1) xs))
first_where-more f xs i p within is b b_is =
    at_drop_more (first_where f (reverse (take i xs))) xs i p within
    ∙ ap (λ q. cond (f (reverse (take i xs)) q) (Some q) (first_where f (q ∷ reverse (take i xs)) (drop (i + 1) xs))) (sym is)
    ∙ ap (λ c. cond c (Some p) (first_where f (p ∷ reverse (take i xs)) (drop (i + 1) xs))) b_is
    ∙ ap (λ before. cond b (Some p) (first_where f before (drop (i + 1) xs))) (reverse_more xs i p within is)

-- no interface of the first so many is met
abbrev pub IsLeft : (List Port → Port → Bool) → List Port → ℕ → Type 0
IsLeft f xs i = first_where f [] xs ≡ first_where f (reverse (take i xs)) (drop i xs)

module _ (f : List Port → Port → Bool) (xs : List Port) (i : ℕ) (left : IsLeft f xs i) where
  -- a walk goes on past an interface that isn't met
  pub left_on : (p : Port) → i < length xs → p ≡ get_or xs i p → f (reverse (take i xs)) p ≡ false → IsLeft f xs (i + 1)
  left_on p within is fails = left ∙ first_where-more f xs i p within is false fails

  -- it stops at the first that is met
  pub first_met : (p : Port) → i < length xs → p ≡ get_or xs i p → f (reverse (take i xs)) p ≡ true → first_where f [] xs ≡ Some p
  first_met p within is meets = left ∙ first_where-more f xs i p within is true meets

  -- at the end none is met
  pub none_met : length xs ≤ i → first_where f [] xs ≡ None
  none_met past = left ∙ at_drop_all (first_where f (reverse (take i xs))) xs i past

pub first_members-more : (xs : List Port) (i : ℕ) (p : Port) → i < length xs → p ≡ get_or xs i p → (b : Bool) →
    b ≡ (is_broadcast p && not (list_any (shares_subnet p) (reverse (take i xs)))) →
    first_members (reverse (take i xs)) (drop i xs)
    ≡ cond b (p ∷ first_members (reverse (take (i + 1) xs)) (drop (i + 1) xs))
    (first_members (reverse (take (i + 1) xs)) (drop (i + 1) xs))
first_members-more xs i p within is b b_is =
    at_drop_more (first_members (reverse (take i xs))) xs i p within
    ∙ ap (λ (q : Port). cond (is_broadcast q && not (list_any (shares_subnet q) (reverse (take i xs))))
    (q ∷ first_members (q ∷ reverse (take i xs)) (drop (i + 1) xs))
    (first_members (q ∷ reverse (take i xs)) (drop (i + 1) xs))) (sym is)
    ∙ ap (λ c. cond c (p ∷ first_members (p ∷ reverse (take i xs)) (drop (i + 1) xs)) (first_members (p ∷ reverse (take i xs)) (drop (i + 1) xs))) (sym b_is)
    ∙ ap (λ before. cond b (p ∷ first_members before (drop (i + 1) xs)) (first_members before (drop (i + 1) xs))) (reverse_more xs i p within is)

-- one more name in front of the names turned round
names_more : (xs : List Router) (i : ℕ) (r : Router) → i < length xs → r ≡ get_or xs i r →
    r.name ∷ reverse (map (λ x. x.name) (take i xs)) ≡ reverse (map (λ x. x.name) (take (i + 1) xs))
names_more xs i r within is =
    sym (ap (λ ys. reverse (map (λ (x : Router). x.name) ys)) (take_more xs i r within)
    ∙ ap reverse (map-append (λ (x : Router). x.name) (take i xs) (get_or xs i r ∷ []))
    ∙ reverse-append (map (λ (x : Router). x.name) (take i xs)) ((get_or xs i r).name ∷ [])
    ∙ ap (λ (y : Router). y.name ∷ reverse (map (λ (x : Router). x.name) (take i xs))) (sym is))

second_of_name-more : (xs : List Router) (i : ℕ) (r : Router) → i < length xs → r ≡ get_or xs i r →
    second_of_name (reverse (map (λ x. x.name) (take i xs))) i (drop i xs)
    ≡ cond (list_any (λ x. same_bytes r.name x.name) (take i xs)) (Some i)
    (second_of_name (reverse (map (λ x. x.name) (take (i + 1) xs))) (i + 1) (drop (i + 1) xs))
second_of_name-more xs i r within is =
    at_drop_more (second_of_name (reverse (map (λ x. x.name) (take i xs))) i) xs i r within
    ∙ ap (λ (q : Router). cond (list_any (same_bytes q.name) (reverse (map (λ x. x.name) (take i xs)))) (Some i)
    (second_of_name (q.name ∷ reverse (map (λ x. x.name) (take i xs))) (i + 1) (drop (i + 1) xs))) (sym is)
    ∙ ap (λ b. cond b (Some i) (second_of_name (r.name ∷ reverse (map (λ x. x.name) (take i xs))) (i + 1)
    (drop (i + 1) xs))) (list_any-reverse (same_bytes r.name) (map (λ x. x.name) (take i xs))
    ∙ list_any-map (same_bytes r.name) (λ (x : Router). x.name) (take i xs))
    ∙ ap (λ before. cond (list_any (λ x. same_bytes r.name x.name) (take i xs)) (Some i)
    (second_of_name before (i + 1) (drop (i + 1) xs))) (names_more xs i r within is)

-- the routers' names in order
abbrev pub names_of : List Router → List (List ℕ)
names_of xs = map (λ r. r.name) xs

-- no router of the first so many has the name of an earlier one
abbrev pub AreNew : List Router → ℕ → Type 0
AreNew xs i = second_of_name [] 0 xs ≡ second_of_name (reverse (names_of (take i xs))) i (drop i xs)

module _ (names : List (List ℕ)) (xs : List Router) (i : ℕ) (r : Router) (within : i < length xs)
    (is : r ≡ get_or xs i r) (are : names ≡ names_of (take i xs)) where
  -- the names seen, with that of one more router
  pub names_seen : (more : List (List ℕ)) → more ≡ names ++ r.name ∷ [] → more ≡ names_of (take (i + 1) xs)
  names_seen more added =
      added ∙ ap (λ (ns : List (List ℕ)). ns ++ r.name ∷ []) are
      ∙ sym (ap names_of (take_more xs i r within)
      ∙ map-append (λ (x : Router). x.name) (take i xs) (get_or xs i r ∷ [])
      ∙ ap (λ (y : Router). names_of (take i xs) ++ y.name ∷ []) (sym is))

  -- what is left, by whether the router's name is new
  pub name_test : AreNew xs i → (new : Bool) → new ≡ not (list_any (same_bytes r.name) names) →
      second_of_name [] 0 xs ≡ cond (not new) (Some i) (second_of_name (reverse (names_of (take (i + 1) xs))) (i + 1) (drop (i + 1) xs))
  name_test left new new_is =
      left ∙ second_of_name-more xs i r within is
      ∙ ap (λ b. cond b (Some i) (second_of_name (reverse (names_of (take (i + 1) xs))) (i + 1) (drop (i + 1) xs)))
      before
    where
      before : list_any (λ x. same_bytes r.name x.name) (take i xs) ≡ not new
      before =
          sym (list_any-map (same_bytes r.name) (λ (x : Router). x.name) (take i xs))
          ∙ ap (list_any (same_bytes r.name)) (sym are)
          ∙ sym (ap not new_is ∙ not-not (list_any (same_bytes r.name) names))

-- one element further, which passes or not
pub filter_kept : {X : Type 0} (f : X → Bool) (xs : List X) (i : ℕ) (x : X) → i < length xs → x ≡ get_or xs i x →
    f x ≡ true → filter f (take (i + 1) xs) ≡ filter f (take i xs) ++ x ∷ []
filter_kept f xs i x within is passes =
    filter_more f xs i x within ∙ ap (λ y. filter f (take i xs) ++ cond (f y) (y ∷ []) []) (sym is)
    ∙ ap (λ b. filter f (take i xs) ++ cond b (x ∷ []) []) passes

pub filter_passed : {X : Type 0} (f : X → Bool) (xs : List X) (i : ℕ) (x : X) → i < length xs → x ≡ get_or xs i x →
    f x ≡ false → filter f (take (i + 1) xs) ≡ filter f (take i xs)
filter_passed f xs i x within is fails =
    filter_more f xs i x within ∙ ap (λ y. filter f (take i xs) ++ cond (f y) (y ∷ []) []) (sym is)
    ∙ ap (λ b. filter f (take i xs) ++ cond b (x ∷ []) []) fails ∙ append-nil (filter f (take i xs))
