-- Lists: numbers in a row, maps and filters over them, tests of images, a list with one more element, what a list has
-- and lacks, two lists together, and pairs.
use Rattle.std.proofs.Common.{◌≡◌, ◌≢◌, ℕ, zero, suc, ◌+◌, ◌<◌, ◌≤◌, refl, sym, ◌∙◌, ap, subst, List, [], ◌∷◌, ◌++◌, All, Bool, true, false, cond, ◌||◌, filter, map, length, get_or, arith, Option, None, Some, append_assoc, zero-add, ◌⊎◌, inl, inr, take, drop, AllPairs}
use Rattle.std.specs.List.{AllByRecursion, AllZip, cons_option, list_any, filter_map}
use Rattle.std.specs.Option.{option_or}
use Rattle.std.proofs.lemmas.Bool.{false_from_ne_true, false≢true}
use Rattle.std.proofs.lemmas.List.{append-nil, length-map, map-append, drop_more, take_more}
use Rattle.std.proofs.lemmas.List.Elements.{All-cons, All-head, All-nil, All-tail, filter-append, All-append, All-map, filter_map-append}
use Rattle.std.proofs.lemmas.List.Folds.{list_any_at}
use native.Mathlib.Decide.{ℕ_discrete}
use Rattle.std.specs.Prelude.{Contains}
use Rattle.std.proofs.lemmas.List.Kept.{AllPairs-cons}
use Rattle.cost_base.specs.Lists.{numbers_from, first_of, last_of, Lacks, NoneTwice, Has}

-- Numbers in a row.

-- there are as many as are asked for
pub length-numbers_from : (a n : ℕ) → length (numbers_from a n) ≡ n
length-numbers_from a zero = refl
length-numbers_from a (suc n) = ap suc (length-numbers_from (a + 1) n)

-- one number more at the end
pub numbers_from-more : (a n : ℕ) → numbers_from a (suc n) ≡ numbers_from a n ++ (a + n) ∷ []
numbers_from-more a zero = ap (λ x. x ∷ []) (omega arith)
numbers_from-more a (suc n) =
    let next : a + 1 + n ≡ a + suc n = omega arith in
    ap (λ xs. a ∷ xs) (numbers_from-more (a + 1) n ∙ ap (λ x. numbers_from (a + 1) n ++ x ∷ []) next)

pub numbers_from-push : (a n : ℕ) → numbers_from a (n + 1) ≡ numbers_from a n ++ (a + n) ∷ []
numbers_from-push a n = let next : n + 1 ≡ suc n = omega arith in ap (numbers_from a) next ∙ numbers_from-more a n

-- one number more, put behind those that pass, where it passes
pub filter-numbers_from-push : (p : ℕ → Bool) (n : ℕ) (old new : List ℕ) → old ≡ filter p (numbers_from 0 n) →
    new ≡ cond (p n) (old ++ n ∷ []) old → new ≡ filter p (numbers_from 0 (n + 1))
filter-numbers_from-push p n old new is pushed =
    pushed ∙ by_test (p n) ∙ ap (λ (xs : List ℕ). xs ++ cond (p n) (n ∷ []) []) is
    ∙ sym (ap (filter p) (numbers_from-push 0 n) ∙ filter-append p (numbers_from 0 n) ((0 + n) ∷ [])
    ∙ ap (λ m. filter p (numbers_from 0 n) ++ filter p (m ∷ [])) none_more)
  where
    none_more : 0 + n ≡ n
    none_more = omega arith

    by_test : (b : Bool) → cond b (old ++ n ∷ []) old ≡ old ++ cond b (n ∷ []) []
    by_test true = refl
    by_test false = sym (append-nil old)

-- the number at a place
pub get_or-numbers_from : (a n k d : ℕ) → k < n → get_or (numbers_from a n) k d ≡ a + k
get_or-numbers_from a zero k d within = absurd (omega arith)
get_or-numbers_from a (suc n) zero d within = omega arith
get_or-numbers_from a (suc n) (suc k) d within = get_or-numbers_from (a + 1) n k d (omega arith) ∙ omega arith

-- what a function gives of each: as many as the numbers
pub length-map-numbers_from : {X : Type 0} (f : ℕ → X) (a n : ℕ) → length (map f (numbers_from a n)) ≡ n
length-map-numbers_from f a n = length-map (numbers_from a n) f ∙ length-numbers_from a n

-- what a function gives, at a place
pub get_or-map-numbers_from : {X : Type 0} (f : ℕ → X) (a n k : ℕ) (d : X) → k < n → get_or (map f (numbers_from a n)) k d ≡ f (a + k)
get_or-map-numbers_from f a zero k d within = absurd (omega arith)
get_or-map-numbers_from f a (suc n) zero d within = ap f (omega arith)
get_or-map-numbers_from f a (suc n) (suc k) d within = get_or-map-numbers_from f (a + 1) n k d (omega arith) ∙ ap f (omega arith)

-- functions that agree on the numbers give one list
pub map-numbers_from-agree : {X : Type 0} (f g : ℕ → X) (a n : ℕ) → ((k : ℕ) → a ≤ k → k < a + n → f k ≡ g k) →
    map f (numbers_from a n) ≡ map g (numbers_from a n)
map-numbers_from-agree f g a zero agree = refl
map-numbers_from-agree f g a (suc n) agree =
    cc (agree a (omega arith) (omega arith), map-numbers_from-agree f g (a + 1) n (λ k above below. agree k (omega arith) (omega arith)))

-- tests that agree on the numbers keep the same
pub filter-numbers_from-agree : (f g : ℕ → Bool) (a n : ℕ) → ((k : ℕ) → a ≤ k → k < a + n → f k ≡ g k) →
    filter f (numbers_from a n) ≡ filter g (numbers_from a n)
filter-numbers_from-agree f g a zero agree = refl
filter-numbers_from-agree f g a (suc n) agree =
    cc (agree a (omega arith) (omega arith), filter-numbers_from-agree f g (a + 1) n (λ k above below. agree k (omega arith) (omega arith)))

-- what holds of each number that passes holds of those that are kept
pub all_kept : (P : ℕ → Type 0) (test : ℕ → Bool) (a n : ℕ) → ((k : ℕ) → a ≤ k → k < a + n → test k ≡ true → P k) → All P (filter test (numbers_from a n))
all_kept P test a zero each = All-nil P
all_kept P test a (suc n) each =
    by_test (test a) (λ passes. each a (omega arith) (omega arith) passes)
    (all_kept P test (a + 1) n (λ k above below passes. each k (omega arith) (omega arith) passes))
  where
    by_test : (b : Bool) → (b ≡ true → P a) → All P (filter test (numbers_from (a + 1) n)) →
        All P (cond b (a ∷ filter test (numbers_from (a + 1) n)) (filter test (numbers_from (a + 1) n)))
    by_test true here rest = All-cons P a (filter test (numbers_from (a + 1) n)) (here refl) rest
    by_test false here rest = rest

-- what holds of the numbers that are kept holds of each that passes
pub kept_all : (P : ℕ → Type 0) (test : ℕ → Bool) (a n : ℕ) → All P (filter test (numbers_from a n)) → (k : ℕ) → a ≤ k → k < a + n → test k ≡ true → P k
kept_all P test a zero all k above below passes = absurd (omega arith)
kept_all P test a (suc n) all k above below passes =
    let split = by_test (test a) all in
    elim (ℕ_discrete k a) [
      | yes same ↦ subst P (sym same) (split.0 (ap test (sym same) ∙ passes))
      | no other ↦ kept_all P test (a + 1) n split.1 k (omega arith) (omega arith) passes
    ]
  where
    by_test : (b : Bool) → All P (cond b (a ∷ filter test (numbers_from (a + 1) n))
        (filter test (numbers_from (a + 1) n))) → (b ≡ true → P a) × All P (filter test (numbers_from (a + 1) n))
    by_test true all = (λ passes. All-head P a (filter test (numbers_from (a + 1) n)) all, All-tail P a (filter test (numbers_from (a + 1) n)) all)
    by_test false all = (λ passes. absurd (false≢true passes), all)

-- Maps and tests.

-- functions that agree give one list
pub map-agree : {X Y : Type 0} (f g : X → Y) (xs : List X) → ((x : X) → f x ≡ g x) → map f xs ≡ map g xs
map-agree f g [] agree = refl
map-agree f g (x ∷ xs) agree = cc (agree x, map-agree f g xs agree)

-- a test of what a function gives
pub list_any-map : {X Y : Type 0} (p : Y → Bool) (f : X → Y) (xs : List X) → list_any p (map f xs) ≡ list_any (λ x. p (f x)) xs
list_any-map p f [] = refl
list_any-map p f (x ∷ xs) = ap (λ later. p (f x) || later) (list_any-map p f xs)

-- tests that agree on each element find alike
pub list_any-agree : {X : Type 0} (p q : X → Bool) (xs : List X) → All (λ x. p x ≡ q x) xs → list_any p xs ≡ list_any q xs
list_any-agree p q [] same = refl
list_any-agree p q (x ∷ xs) same =
    cc (All-head (λ y. p y ≡ q y) x xs same, list_any-agree p q xs (All-tail (λ y. p y ≡ q y) x xs same))

-- two tests of which each holds where the other does
pub same_test : (a b : Bool) → (a ≡ true → b ≡ true) → (b ≡ true → a ≡ true) → a ≡ b
same_test true b there back = sym (there refl)
same_test false true there back = back refl
same_test false false there back = refl

-- a test that no element passes, at one of them
pub none_passes : {X : Type 0} (p : X → Bool) (xs : List X) → list_any p xs ≡ false → (k : ℕ) (d : X) → k < length xs → p (get_or xs k d) ≡ false
none_passes p xs none k d within = false_from_ne_true (p (get_or xs k d)) (λ passes. false≢true (sym none ∙ list_any_at p xs k d within passes))

-- a list of which a function makes none is none
pub none_mapped : {X Y : Type 0} (f : X → Y) (xs : List X) → map f xs ≡ [] → xs ≡ []
none_mapped f [] none = refl
none_mapped f (x ∷ xs) none = cc

-- One more element, and none.

pub length-push : {X : Type 0} (xs : List X) (x : X) → length (xs ++ x ∷ []) ≡ suc (length xs)
length-push [] x = refl
length-push (y ∷ xs) x = ap suc (length-push xs x)

-- no element in two lists together
pub append-none : {X : Type 0} (xs ys : List X) → xs ++ ys ≡ [] → (xs ≡ []) × (ys ≡ [])
append-none [] ys none = (refl, none)
append-none (x ∷ xs) ys none = absurd (cc)

pub first_of-push : {X : Type 0} (xs : List X) (x : X) → first_of (xs ++ x ∷ []) ≡ option_or (first_of xs) (Some x)
first_of-push [] x = refl
first_of-push (y ∷ xs) x = refl

-- the first of a list with one more or none
pub first_of-push_option : {X : Type 0} (o : Option X) (xs : List X) → first_of (xs ++ cons_option o []) ≡ option_or (first_of xs) o
first_of-push_option None [] = refl
first_of-push_option None (x ∷ xs) = refl
first_of-push_option (Some x) xs = first_of-push xs x

pub last_of-push : {X : Type 0} (xs : List X) (x : X) → last_of (xs ++ x ∷ []) ≡ Some x
last_of-push [] x = refl
last_of-push (y ∷ []) x = refl
last_of-push (y ∷ z ∷ xs) x = last_of-push (z ∷ xs) x

-- the last of a list with one more in front
pub last_of-cons : {X : Type 0} (x : X) (xs : List X) → last_of (x ∷ xs) ≡ option_or (last_of xs) (Some x)
last_of-cons x [] = refl
last_of-cons x (y ∷ []) = refl
last_of-cons x (y ∷ z ∷ xs) = last_of-cons x (z ∷ xs)

pub option_or-none : {X : Type 0} (o : Option X) → option_or o None ≡ o
option_or-none None = refl
option_or-none (Some x) = refl

pub option_or-assoc : {X : Type 0} (a b c : Option X) → option_or (option_or a b) c ≡ option_or a (option_or b c)
option_or-assoc None b c = refl
option_or-assoc (Some x) b c = refl

-- neither of two, where there is none of both
pub option_or-parts : {X : Type 0} (a b : Option X) → option_or a b ≡ None → (a ≡ None) × (b ≡ None)
option_or-parts None b none = (refl, none)
option_or-parts (Some x) b none = absurd (cc)

-- none where a test fails, and none besides
pub cond-none : {X : Type 0} (b : Bool) (x : X) (o : Option X) → cond b (Some x) o ≡ None → (b ≡ false) × (o ≡ None)
cond-none true x o none = absurd (cc)
cond-none false x o none = (refl, none)

-- the first of a kind, with one more
pub first_of-filter_map-push : {X Y : Type 0} (pick : X → Option Y) (xs : List X) (x : X) →
    first_of (filter_map pick (xs ++ x ∷ [])) ≡ option_or (first_of (filter_map pick xs)) (pick x)
first_of-filter_map-push pick xs x = ap first_of (filter_map-append pick xs (x ∷ [])) ∙ first_of-push_option (pick x) (filter_map pick xs)

-- a list without a first element is empty
pub none_first : {X : Type 0} (xs : List X) → first_of xs ≡ None → xs ≡ []
none_first [] none = refl
none_first (x ∷ xs) none = absurd (cc)

-- the element that was read, and those behind it
pub drop_read : {X : Type 0} (xs : List X) (k : ℕ) (x : X) → k < length xs → x ≡ get_or xs k x → drop k xs ≡ x ∷ drop (k + 1) xs
drop_read {X} xs k x within is = drop_more xs k x within ∙ ap (λ (y : X). y ∷ drop (k + 1) xs) (sym is)

-- the images of the first so many, with that of one more
pub map_put : {X Y : Type 0} (f : X → Y) (xs : List X) (i : ℕ) (x : X) → i < length xs → x ≡ get_or xs i x →
    (made : List Y) → made ≡ map f (take i xs) → (y : Y) → y ≡ f x → (more : List Y) → more ≡ made ++ y ∷ [] → more ≡ map f (take (i + 1) xs)
map_put f xs i x within is made are y y_is more added =
    added ∙ ap (λ ys. ys ++ y ∷ []) are ∙ ap (λ z. map f (take i xs) ++ z ∷ []) (y_is ∙ ap f is)
    ∙ sym (ap (map f) (take_more xs i x within) ∙ map-append f (take i xs) (get_or xs i x ∷ []))

-- What a list has.

-- a list has a number or hasn't
pub has_or_not : (xs : List ℕ) (x : ℕ) → Has xs x ⊎ (Has xs x → ⊥)
has_or_not [] x = inr (λ has. has)
has_or_not (y ∷ ys) x = elim (ℕ_discrete x y) [
  | yes same ↦ inl (inl same)
  | no other ↦ elim (has_or_not ys x) [
    | inl has ↦ inl (inr has)
    | inr hasnt ↦ inr (λ has. elim has [ inl same ↦ other same | inr later ↦ hasnt later ])
  ]
]

-- each of its elements
pub has_at : (xs : List ℕ) (i : ℕ) → i < length xs → Has xs (get_or xs i 0)
has_at [] i i_in = absurd (omega arith)
has_at (x ∷ xs) zero i_in = inl refl
has_at (x ∷ xs) (suc i) i_in = inr (has_at xs i (omega arith))

-- what holds of each element holds of what the list has
pub all_has : (P : ℕ → Type 0) (xs : List ℕ) (x : ℕ) → All P xs → Has xs x → P x
all_has P [] x all has = absurd has
all_has P (y ∷ ys) x all (inl same) = subst P (sym same) (All-head P y ys all)
all_has P (y ∷ ys) x all (inr has) = all_has P ys x (All-tail P y ys all) has

-- what each of its beginnings has
pub taken_has : (n : ℕ) (xs : List ℕ) (x : ℕ) → Has (take n xs) x → Has xs x
taken_has zero xs x has = absurd has
taken_has (suc n) [] x has = absurd has
taken_has (suc n) (y ∷ ys) x (inl same) = inl same
taken_has (suc n) (y ∷ ys) x (inr has) = inr (taken_has n ys x has)

-- what the second of two lists has
pub has_right : (xs ys : List ℕ) (x : ℕ) → Has ys x → Has (xs ++ ys) x
has_right [] ys x has = has
has_right (z ∷ zs) ys x has = inr (has_right zs ys x has)

-- one element more in front
pub contains_later : {X : Type 0} (x : X) (xs : List X) (y : X) → Contains xs y → Contains (x ∷ xs) y
contains_later x xs y has = (suc has.0, omega (arith, has.1), has.2)

-- What a list lacks.

-- a number that a list lacks is none of its elements
pub all_lacks : (xs : List ℕ) (x : ℕ) → Lacks xs x → All (λ y. x ≢ y) xs
all_lacks [] x lacks = All-nil (λ y. x ≢ y)
all_lacks (y ∷ ys) x lacks = All-cons (λ z. x ≢ z) y ys lacks.0 (all_lacks ys x lacks.1)

-- nothing that it has
pub has_lacks : (xs : List ℕ) (x : ℕ) → Has xs x → Lacks xs x → ⊥
has_lacks [] x has lacks = has
has_lacks (y ∷ ys) x (inl same) lacks = lacks.0 same
has_lacks (y ∷ ys) x (inr has) lacks = has_lacks ys x has lacks.1

-- two lists lack what each of them lacks
pub lacks_both : (xs ys : List ℕ) (x : ℕ) → Lacks xs x → Lacks ys x → Lacks (xs ++ ys) x
lacks_both [] ys x first rest = rest
lacks_both (z ∷ zs) ys x first rest = (first.0, lacks_both zs ys x first.1 rest)

-- a list lacks what another element is not, put at its end
pub lacks_push : (xs : List ℕ) (y x : ℕ) → Lacks xs x → x ≢ y → Lacks (xs ++ y ∷ []) x
lacks_push [] y x lacks other = (other, tt)
lacks_push (z ∷ zs) y x lacks other = (lacks.0, lacks_push zs y x lacks.1 other)

-- a longer list lacks no more
pub lacks_first : (xs ys : List ℕ) (x : ℕ) → Lacks (xs ++ ys) x → Lacks xs x
lacks_first [] ys x lacks = tt
lacks_first (z ∷ zs) ys x lacks = (lacks.0, lacks_first zs ys x lacks.1)

-- what a list lacks differs from each of its elements
pub lacks_seam : (xs : List ℕ) (y : ℕ) (ys : List ℕ) (x : ℕ) → Lacks (xs ++ y ∷ ys) x → x ≢ y
lacks_seam [] y ys x lacks = lacks.0
lacks_seam (z ∷ zs) y ys x lacks = lacks_seam zs y ys x lacks.1

-- an element that is new goes to the end
pub none_twice_push : (xs : List ℕ) (x : ℕ) → NoneTwice xs → Lacks xs x → NoneTwice (xs ++ x ∷ [])
none_twice_push [] x once lacks = (tt, tt)
none_twice_push (z ∷ zs) x once lacks = (lacks_push zs x z once.0 (λ same. lacks.0 (sym same)), none_twice_push zs x once.1 lacks.1)

-- an element differs from each before it
pub none_twice_seam : (xs : List ℕ) (x : ℕ) (ys : List ℕ) → NoneTwice (xs ++ x ∷ ys) → Lacks xs x
none_twice_seam [] x ys once = tt
none_twice_seam (z ∷ zs) x ys once = (λ same. lacks_seam zs x ys z once.0 (sym same), none_twice_seam zs x ys once.1)

-- a list to which what belongs to each number in turn is put
pub put_more : {X : Type 0} (start olds news : List X) (f : ℕ → X) (k : ℕ) (x : X) → news ≡ olds ++ x ∷ [] →
    olds ≡ start ++ map f (numbers_from 0 k) → x ≡ f k → news ≡ start ++ map f (numbers_from 0 (k + 1))
put_more start olds news f k x news_are olds_are x_is =
    news_are
    ∙ ap (λ xs. xs ++ x ∷ []) olds_are
    ∙ ap (λ y. (start ++ map f (numbers_from 0 k)) ++ y ∷ []) (x_is ∙ ap f (sym (zero-add k)))
    ∙ append_assoc start (map f (numbers_from 0 k)) (f (0 + k) ∷ [])
    ∙ ap (λ xs. start ++ xs) (sym (ap (map f) (numbers_from-push 0 k) ∙ map-append f (numbers_from 0 k) ((0 + k) ∷ [])))

-- Two lists, one after the other or side by side.

-- what holds of each element of two lists holds of each of the first
pub All-left : {X : Type 0} (P : X → Type 0) (xs ys : List X) → All P (xs ++ ys) → All P xs
All-left P [] ys all = All-nil P
All-left P (x ∷ xs) ys all = All-cons P x xs (All-head P x (xs ++ ys) all) (All-left P xs ys (All-tail P x (xs ++ ys) all))

-- and of each of the second
pub All-right : {X : Type 0} (P : X → Type 0) (xs ys : List X) → All P (xs ++ ys) → All P ys
All-right P [] ys all = all
All-right P (x ∷ xs) ys all = All-right P xs ys (All-tail P x (xs ++ ys) all)

-- What holds of each element, one after another.

-- of each of two lists
pub each_append : {X : Type 0} (P : X → Type 0) (xs ys : List X) → AllByRecursion P xs → AllByRecursion P ys → AllByRecursion P (xs ++ ys)
each_append P [] ys first rest = rest
each_append P (x ∷ xs) ys first rest = (first.0, each_append P xs ys first.1 rest)

-- of the first of two lists
pub each_left : {X : Type 0} (P : X → Type 0) (xs ys : List X) → AllByRecursion P (xs ++ ys) → AllByRecursion P xs
each_left P [] ys all = tt
each_left P (x ∷ xs) ys all = (all.0, each_left P xs ys all.1)

-- and of the second
pub each_right : {X : Type 0} (P : X → Type 0) (xs ys : List X) → AllByRecursion P (xs ++ ys) → AllByRecursion P ys
each_right P [] ys all = all
each_right P (x ∷ xs) ys all = each_right P xs ys all.1

-- and what follows from it
pub each_weaker : {X : Type 0} (P Q : X → Type 0) (xs : List X) → ((x : X) → P x → Q x) → AllByRecursion P xs → AllByRecursion Q xs
each_weaker P Q [] step all = tt
each_weaker P Q (x ∷ xs) step all = (step x all.0, each_weaker P Q xs step all.1)

-- of what a function gives for each
pub each_mapped : {X Y : Type 0} (P : Y → Type 0) (f : X → Y) (xs : List X) → ((x : X) → P (f x)) → AllByRecursion P (map f xs)
each_mapped P f [] each = tt
each_mapped P f (x ∷ xs) each = (each x, each_mapped P f xs each)

-- at each place
pub all_from_each : {X : Type 0} (P : X → Type 0) (xs : List X) → AllByRecursion P xs → All P xs
all_from_each P [] all k d k_in = absurd (omega arith)
all_from_each P (x ∷ xs) all zero d k_in = all.0
all_from_each P (x ∷ xs) all (suc k) d k_in = all_from_each P xs all.1 k d (omega arith)

-- and of each where it holds at each place
pub each_from_places : {X : Type 0} (P : X → Type 0) (xs : List X) (d : X) → ((k : ℕ) → k < length xs → P (get_or xs k d)) → AllByRecursion P xs
each_from_places P [] d at = tt
each_from_places P (x ∷ xs) d at = (at 0 (omega arith), each_from_places P xs d (λ k k_in. at (suc k) (omega arith)))

-- two lists side by side are as long as each other
pub length_zip : {X Y : Type 0} (R : X → Y → Type 0) (xs : List X) (ys : List Y) → AllZip R xs ys → length xs ≡ length ys
length_zip R [] [] zip = refl
length_zip R [] (y ∷ ys) zip = absurd zip
length_zip R (x ∷ xs) [] zip = absurd zip
length_zip R (x ∷ xs) (y ∷ ys) zip = ap suc (length_zip R xs ys zip.1)

-- one more of both lists
pub zip_push : {X Y : Type 0} (R : X → Y → Type 0) (xs : List X) (ys : List Y) (x : X) (y : Y) → AllZip R xs ys → R x y → AllZip R (xs ++ x ∷ []) (ys ++ y ∷ [])
zip_push R [] [] x y zip here = (here, tt)
zip_push R [] (w ∷ ys) x y zip here = absurd zip
zip_push R (z ∷ xs) [] x y zip here = absurd zip
zip_push R (z ∷ xs) (w ∷ ys) x y zip here = (zip.0, zip_push R xs ys x y zip.1 here)

-- Pairs of a list's elements.

pub pairs_nil : {X : Type 0} (R : X → X → Type 0) → AllPairs R []
pairs_nil R = λ i j d below within. absurd (omega arith)

pub pairs_head : {X : Type 0} (R : X → X → Type 0) (x : X) (xs : List X) → AllPairs R (x ∷ xs) → All (R x) xs
pairs_head R x xs pairs = λ k d within. pairs 0 (suc k) d (omega arith) (omega arith)

pub pairs_tail : {X : Type 0} (R : X → X → Type 0) (x : X) (xs : List X) → AllPairs R (x ∷ xs) → AllPairs R xs
pairs_tail R x xs pairs = λ i j d below within. pairs (suc i) (suc j) d (omega arith) (omega arith)

-- of two lists, one after the other
pub pairs_append : {X : Type 0} (R : X → X → Type 0) (xs ys : List X) → AllPairs R xs → AllPairs R ys → All (λ x. All (R x) ys) xs → AllPairs R (xs ++ ys)
pairs_append R [] ys first second across = second
pairs_append R (x ∷ xs) ys first second across =
    AllPairs-cons R x (xs ++ ys) (All-append (R x) xs ys (pairs_head R x xs first) (All-head (λ v. All (R v) ys) x xs across))
    (pairs_append R xs ys (pairs_tail R x xs first) second (All-tail (λ v. All (R v) ys) x xs across))

-- of what a function gives
pub pairs_map : {X Y : Type 0} (R : Y → Y → Type 0) (f : X → Y) (xs : List X) → AllPairs (λ a b. R (f a) (f b)) xs → AllPairs R (map f xs)
pairs_map R f [] pairs = pairs_nil R
pairs_map R f (x ∷ xs) pairs =
    AllPairs-cons R (f x) (map f xs) (All-map (R (f x)) f xs (pairs_head (λ a b. R (f a) (f b)) x xs pairs))
    (pairs_map R f xs (pairs_tail (λ a b. R (f a) (f b)) x xs pairs))
