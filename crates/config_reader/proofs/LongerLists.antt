-- Lists read by places, and lists with one more element.
use Rattle.std.proofs.Common.{◌≡◌, ℕ, zero, suc, ◌+◌, ◌<◌, ◌≤◌, List, [], ◌∷◌, ◌++◌, Bool, cond, true, false, refl, sym, ap, ◌∙◌, arith, map, Option, Some, None, get_or, length, append-nil}
use Rattle.std.specs.List.{filter, filter_map, cons_option}
use Rattle.std.specs.Prelude.{slice_get}
use Rattle.std.proofs.lemmas.List.{map-append}
use Rattle.std.proofs.lemmas.List.Elements.{filter-append, filter_map-append}
use Rattle.cost_base.specs.Lists.{numbers_from, last_of}
use Rattle.cost_base.proofs.ListLemmas.{map-numbers_from-agree, filter-numbers_from-agree, numbers_from-more}

pub filter_map-numbers_agree : {X : Type 0} (f g : ℕ → Option X) (a n : ℕ) → ((i : ℕ) → a ≤ i → i < a + n → f i ≡ g i) →
    filter_map f (numbers_from a n) ≡ filter_map g (numbers_from a n)
filter_map-numbers_agree f g a zero agree = refl
filter_map-numbers_agree f g a (suc n) agree =
    cc (agree a (omega arith) (omega arith), filter_map-numbers_agree f g (a + 1) n (λ i above below. agree i (omega arith) (omega arith)))

-- a map over one number more
pub map-numbers_more : {X : Type 0} (f g : ℕ → X) (n : ℕ) → ((i : ℕ) → i < n → f i ≡ g i) →
    map f (numbers_from 0 (suc n)) ≡ map g (numbers_from 0 n) ++ f n ∷ []
map-numbers_more f g n agree =
    ap (map f) (numbers_from-more 0 n)
    ∙ map-append f (numbers_from 0 n) ((0 + n) ∷ [])
    ∙ cc (map-numbers_from-agree f g 0 n (λ i above below. agree i (omega arith)), ap f (zero_more n))
  where
    zero_more : (n : ℕ) → 0 + n ≡ n
    zero_more n = omega arith

pub filter_map-numbers_more : {X : Type 0} (f g : ℕ → Option X) (n : ℕ) → ((i : ℕ) → i < n → f i ≡ g i) →
    filter_map f (numbers_from 0 (suc n)) ≡ filter_map g (numbers_from 0 n) ++ cons_option (f n) []
filter_map-numbers_more f g n agree =
    ap (filter_map f) (numbers_from-more 0 n)
    ∙ filter_map-append f (numbers_from 0 n) ((0 + n) ∷ [])
    ∙ cc (filter_map-numbers_agree f g 0 n (λ i above below. agree i (omega arith)), ap f (zero_more n))
  where
    zero_more : (n : ℕ) → 0 + n ≡ n
    zero_more n = omega arith

-- a filter over one number more
pub filter-numbers_more : (f g : ℕ → Bool) (n : ℕ) → ((i : ℕ) → i < n → f i ≡ g i) →
    filter f (numbers_from 0 (suc n)) ≡ filter g (numbers_from 0 n) ++ cond (f n) (n ∷ []) []
filter-numbers_more f g n agree =
    ap (filter f) (numbers_from-more 0 n)
    ∙ filter-append f (numbers_from 0 n) ((0 + n) ∷ [])
    ∙ cc (filter-numbers_from-agree f g 0 n (λ i above below. agree i (omega arith)), one (0 + n) n (omega arith))
  where
    one : (a b : ℕ) → a ≡ b → filter f (a ∷ []) ≡ cond (f b) (b ∷ []) []
    one a b e = ap (λ x. filter f (x ∷ [])) e

-- a filter over one number more, which doesn't pass
pub filter-numbers_same : (f g : ℕ → Bool) (n : ℕ) → ((i : ℕ) → i < n → f i ≡ g i) → f n ≡ false →
    filter f (numbers_from 0 (suc n)) ≡ filter g (numbers_from 0 n)
filter-numbers_same f g n agree fails =
    ap (filter f) (numbers_from-more 0 n)
    ∙ filter-append f (numbers_from 0 n) ((0 + n) ∷ [])
    ∙ ap (λ rest. filter f (numbers_from 0 n) ++ rest) (none (0 + n) (omega arith))
    ∙ append-nil (filter f (numbers_from 0 n))
    ∙ filter-numbers_from-agree f g 0 n (λ i above below. agree i (omega arith))
  where
    none : (m : ℕ) → m ≡ n → filter f (m ∷ []) ≡ []
    none m same = let e : f m ≡ false = ap f same ∙ fails in rw e

-- the last number of a range that passes a test lies in the range
pub last_passing-lt : (p : ℕ → Bool) (a n i : ℕ) → last_of (filter p (numbers_from a n)) ≡ Some i → i < a + n
last_passing-lt p a zero i last = absurd (cc)
last_passing-lt p a (suc n) i last = cases (p a) (filter p (numbers_from (a + 1) n)) (λ e. last_passing-lt p (a + 1) n i e) last
  where
    cases : (b : Bool) (rest : List ℕ) → (last_of rest ≡ Some i → i < a + 1 + n) → last_of (cond b (a ∷ rest) rest) ≡ Some i → i < a + suc n
    cases true [] below e = let same : a ≡ i = cc in omega arith
    cases true (x ∷ xs) below e = let h = below e in omega arith
    cases false rest below e = let h = below e in omega arith

-- a place past the end holds nothing
pub absent : {X : Type 0} (xs : List X) (k : ℕ) (d : X) → slice_get xs k ≡ None → get_or xs k d ≡ d
absent [] k d none = refl
absent (x ∷ xs) zero d none = absurd (cc)
absent (x ∷ xs) (suc k) d none = absent xs k d none

-- an element within a list
pub slice_get-within : {X : Type 0} (xs : List X) (k : ℕ) (d : X) → k < length xs → slice_get xs k ≡ Some (get_or xs k d)
slice_get-within [] k d within = absurd (omega arith)
slice_get-within (x ∷ xs) zero d within = refl
slice_get-within (x ∷ xs) (suc k) d within = slice_get-within xs k d (omega arith)
