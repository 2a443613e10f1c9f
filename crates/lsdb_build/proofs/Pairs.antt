-- Pairs of a list's elements, and the places of those that pass a test.
use Rattle.std.proofs.Common.{◌≡◌, ◌≢◌, ℕ, zero, suc, ◌+◌, ◌<◌, ◌⊎◌, inl, inr, Bool, true, false, cond, List, [], ◌∷◌, Some, get_or, map, count_by, refl, sym, ap, ◌∙◌, subst, arith, slice_get, All, AllPairs}
use Rattle.std.specs.List.{filter}
use Rattle.std.proofs.lemmas.Bool.{false≢true, cases_Bool}
use Rattle.std.proofs.lemmas.Option.{none-some, same_Some, slice_get_within, get_or_from_slice_get, slice_get-get_or}
use Rattle.std.proofs.lemmas.List.Elements.{All-head, All-tail}
use Rattle.std.proofs.lemmas.List.Sums.{sum_by-cons}

-- what holds of each element holds of the one at a place
pub all_at : {X : Type 0} (P : X → Type 0) (xs : List X) → All P xs → (k : ℕ) (x : X) → slice_get xs k ≡ Some x → P x
all_at P xs all k x at = subst P (get_or_from_slice_get xs k x x at) (all k x (slice_get_within xs k x at))

-- what holds of each element, place by place
pub all_from_at : {X : Type 0} (P : X → Type 0) (xs : List X) → ((k : ℕ) (x : X) → slice_get xs k ≡ Some x → P x) → All P xs
all_from_at P xs each = λ k d within. each k (get_or xs k d) (slice_get-get_or xs k d within)

-- what holds of pairs holds of the elements at two places
pub pair_at : {X : Type 0} (R : X → X → Type 0) (xs : List X) → AllPairs R xs → (i j : ℕ) (x y : X) → i < j →
    slice_get xs i ≡ Some x → slice_get xs j ≡ Some y → R x y
pair_at R xs pairs i j x y below at_i at_j =
    subst (λ v. R v y) (get_or_from_slice_get xs i x x at_i)
    (subst (λ v. R (get_or xs i x) v) (get_or_from_slice_get xs j y x at_j)
    (pairs i j x below (slice_get_within xs j y at_j)))

pub pairs_weaker : {X : Type 0} (R S : X → X → Type 0) → ((x y : X) → R x y → S x y) → (xs : List X) → AllPairs R xs → AllPairs S xs
pairs_weaker R S then xs pairs = λ i j d below within. then (get_or xs i d) (get_or xs j d) (pairs i j d below within)

-- the element at a place of a mapped list
pub map_at : {X Y : Type 0} (f : X → Y) (xs : List X) (k : ℕ) (y : Y) → slice_get (map f xs) k ≡ Some y → (x : X) × (slice_get xs k ≡ Some x) × (y ≡ f x)
map_at f [] k y at = absurd (none-some y at)
map_at f (x ∷ xs) zero y at = (x, refl, sym (same_Some (f x) y at))
map_at f (x ∷ xs) (suc k) y at = map_at f xs k y at

pub at_map : {X Y : Type 0} (f : X → Y) (xs : List X) (k : ℕ) (x : X) → slice_get xs k ≡ Some x → slice_get (map f xs) k ≡ Some (f x)
at_map f [] k x at = absurd (none-some x at)
at_map f (y ∷ xs) zero x at = ap (λ v. Some (f v)) (same_Some y x at)
at_map f (y ∷ xs) (suc k) x at = at_map f xs k x at

pub count_by-cons : {X : Type 0} (f : X → Bool) (x : X) (xs : List X) → count_by f (x ∷ xs) ≡ cond (f x) 1 0 + count_by f xs
count_by-cons f x xs = sum_by-cons (λ y. cond (f y) 1 0) x xs

-- two tests that agree count alike
pub count_agree : {X : Type 0} (f g : X → Bool) → ((x : X) → f x ≡ g x) → (xs : List X) → count_by f xs ≡ count_by g xs
count_agree f g same [] = refl
count_agree f g same (x ∷ xs) =
    count_by-cons f x xs ∙ ap (λ b. cond b 1 0 + count_by f xs) (same x) ∙ ap (λ n. cond (g x) 1 0 + n) (count_agree f g same xs) ∙ sym (count_by-cons g x xs)

filter_by : {X : Type 0} (f : X → Bool) (b : Bool) (x : X) (kept xs : List X) → (f x ≡ true → b ≡ true) →
    count_by f kept ≡ count_by f xs → count_by f (cond b (x ∷ kept) kept) ≡ count_by f (x ∷ xs)
filter_by f true x kept xs passes same = count_by-cons f x kept ∙ ap (λ n. cond (f x) 1 0 + n) same ∙ sym (count_by-cons f x xs)
filter_by f false x kept xs passes same =
    elim (cases_Bool (f x)) [
      | inl does ↦ absurd (false≢true (passes does))
      | inr fails ↦ same ∙ sym (count_by-cons f x xs ∙ ap (λ b. cond b 1 0 + count_by f xs) fails ∙ omega arith)
    ]

-- a filter that lets through all that pass a test keeps their count
pub count_filter : {X : Type 0} (f g : X → Bool) (xs : List X) → All (λ x. f x ≡ true → g x ≡ true) xs → count_by f (filter g xs) ≡ count_by f xs
count_filter f g [] all = refl
count_filter f g (x ∷ xs) all =
    filter_by f (g x) x (filter g xs) xs (All-head (λ v. f v ≡ true → g v ≡ true) x xs all)
    (count_filter f g xs (All-tail (λ v. f v ≡ true → g v ≡ true) x xs all))

-- none passes where the count is 0
pub none_pass : {X : Type 0} (f : X → Bool) (xs : List X) → count_by f xs ≡ 0 → (k : ℕ) (x : X) → slice_get xs k ≡ Some x → f x ≡ true → ⊥
none_pass f [] count k x at passes = none-some x at
none_pass f (y ∷ xs) count zero x at passes =
    let whole = count_by-cons f y xs ∙ ap (λ b. cond b 1 0 + count_by f xs) (ap f (same_Some y x at) ∙ passes) in
    omega arith
none_pass f (y ∷ xs) count (suc k) x at passes = none_pass f xs (omega (arith, count_by-cons f y xs)) k x at passes

-- the one place that passes
pub record OnlyPlace {X : Type 0} (f : X → Bool) (xs : List X) : Type 0 where
  pub place : ℕ
  pub item : X
  pub at : slice_get xs place ≡ Some item
  pub passes : f item ≡ true
  pub only : (k : ℕ) (x : X) → slice_get xs k ≡ Some x → f x ≡ true → k ≡ place

-- the two places that pass
pub record TwoPlaces {X : Type 0} (f : X → Bool) (xs : List X) : Type 0 where
  pub first : ℕ
  pub second : ℕ
  pub item : X
  pub other : X
  pub apart : first < second
  pub at_first : slice_get xs first ≡ Some item
  pub at_second : slice_get xs second ≡ Some other
  pub first_passes : f item ≡ true
  pub second_passes : f other ≡ true
  pub only : (k : ℕ) (x : X) → slice_get xs k ≡ Some x → f x ≡ true → (k ≡ first) ⊎ (k ≡ second)

pub one_place : {X : Type 0} (f : X → Bool) (xs : List X) → count_by f xs ≡ 1 → OnlyPlace f xs
one_place f [] count = absurd (omega arith)
one_place {X} f (x ∷ xs) count =
    elim (cases_Bool (f x)) [
      | inl does ↦
          let rest : count_by f xs ≡ 0 = omega (arith, count_by-cons f x xs ∙ ap (λ b. cond b 1 0 + count_by f xs) does) in
          record { place = 0; item = x; at = refl; passes = does; only = only_first rest }
      | inr fails ↦
          let rest = one_place f xs (omega (arith, count_by-cons f x xs ∙ ap (λ b. cond b 1 0 + count_by f xs) fails)) in
          record { place = suc rest.place; item = rest.item; at = rest.at; passes = rest.passes; only = only_later fails rest.place rest.only }
    ]
  where
    only_first : count_by f xs ≡ 0 → (k : ℕ) (y : X) → slice_get (x ∷ xs) k ≡ Some y → f y ≡ true → k ≡ 0
    only_first none zero y at does = refl
    only_first none (suc k) y at does = absurd (none_pass f xs none k y at does)

    only_later : f x ≡ false → (place : ℕ) → ((k : ℕ) (y : X) → slice_get xs k ≡ Some y → f y ≡ true → k ≡ place) →
        (k : ℕ) (y : X) → slice_get (x ∷ xs) k ≡ Some y → f y ≡ true → k ≡ suc place
    only_later fails place only zero y at does = absurd (false≢true (sym fails ∙ ap f (same_Some x y at) ∙ does))
    only_later fails place only (suc k) y at does = ap suc (only k y at does)

pub two_places : {X : Type 0} (f : X → Bool) (xs : List X) → count_by f xs ≡ 2 → TwoPlaces f xs
two_places f [] count = absurd (omega arith)
two_places {X} f (x ∷ xs) count =
    elim (cases_Bool (f x)) [
      | inl does ↦
          let rest = one_place f xs (omega (arith, count_by-cons f x xs ∙ ap (λ b. cond b 1 0 + count_by f xs) does)) in
          record {
            first = 0;
            second = suc rest.place;
            item = x;
            other = rest.item;
            apart = omega arith;
            at_first = refl;
            at_second = rest.at;
            first_passes = does;
            second_passes = rest.passes;
            only =
                with_first rest.place rest.only;
          }
      | inr fails ↦
          let rest = two_places f xs (omega (arith, count_by-cons f x xs ∙ ap (λ b. cond b 1 0 + count_by f xs) fails)) in
          record {
            first = suc rest.first;
            second = suc rest.second;
            item = rest.item;
            other = rest.other;
            apart = omega (arith, rest.apart);
            at_first = rest.at_first;
            at_second = rest.at_second;
            first_passes =
                rest.first_passes;
            second_passes = rest.second_passes;
            only =
                both_later fails rest.first rest.second rest.only;
          }
    ]
  where
    with_first : (place : ℕ) → ((k : ℕ) (y : X) → slice_get xs k ≡ Some y → f y ≡ true → k ≡ place) → (k : ℕ) (y : X) →
        slice_get (x ∷ xs) k ≡ Some y → f y ≡ true → (k ≡ 0) ⊎ (k ≡ suc place)
    with_first place only zero y at does = inl refl
    with_first place only (suc k) y at does = inr (ap suc (only k y at does))

    both_later : f x ≡ false → (first second : ℕ) →
        ((k : ℕ) (y : X) → slice_get xs k ≡ Some y → f y ≡ true → (k ≡ first) ⊎ (k ≡ second)) → (k : ℕ) (y : X) →
        slice_get (x ∷ xs) k ≡ Some y → f y ≡ true → (k ≡ suc first) ⊎ (k ≡ suc second)
    both_later fails first second only zero y at does = absurd (false≢true (sym fails ∙ ap f (same_Some x y at) ∙ does))
    both_later fails first second only (suc k) y at does = elim (only k y at does) [ inl one ↦ inl (ap suc one) | inr two ↦ inr (ap suc two) ]

-- the other of two places that pass
pub record OtherPlace {X : Type 0} (f : X → Bool) (xs : List X) (l : ℕ) : Type 0 where
  pub place : ℕ
  pub item : X
  pub apart : place ≢ l
  pub at : slice_get xs place ≡ Some item
  pub passes : f item ≡ true
  pub only : (k : ℕ) (x : X) → slice_get xs k ≡ Some x → f x ≡ true → (k ≡ l) ⊎ (k ≡ place)

pub other_place : {X : Type 0} (f : X → Bool) (xs : List X) → count_by f xs ≡ 2 → (l : ℕ) (x : X) → slice_get xs l ≡ Some x → f x ≡ true → OtherPlace f xs l
other_place {X} f xs count l x at passes =
    let both = two_places f xs count in
    elim (both.only l x at passes) [
      | inl is_first ↦ record {
        place = both.second;
        item = both.other;
        apart = λ h. (let below = both.apart in omega arith);
        at = both.at_second;
        passes = both.second_passes;
        only =
            λ k y at_k does. (elim (both.only k y at_k does)
            [ inl one ↦ inl (one ∙ sym is_first) | inr two ↦ inr two ]);
      }
      | inr is_second ↦ record {
        place = both.first;
        item = both.item;
        apart = λ h. (let below = both.apart in omega arith);
        at = both.at_first;
        passes = both.first_passes;
        only =
            λ k y at_k does. (elim (both.only k y at_k does)
            [ inl one ↦ inr one | inr two ↦ inl (two ∙ sym is_second) ]);
      }
    ]
