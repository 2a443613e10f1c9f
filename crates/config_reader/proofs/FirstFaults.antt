-- The first fault of several rules is the earliest of their first faults.
use Rattle.std.proofs.Common.{◌≡◌, ℕ, zero, suc, ◌+◌, ◌<◌, ◌≤◌, List, [], ◌∷◌, ◌++◌, Bool, cond, true, false, refl, sym, ap, ◌∙◌, arith, Option, Some, None, ltb}
use Rattle.std.specs.Prelude.{map}
use Rattle.std.specs.List.{filter, filter_map, flat_map, cons_option}
use Rattle.std.specs.Option.{option_or}
use Rattle.std.proofs.lemmas.Bool.{lt-ltb, le-ltb, ltb-false, ltb-true}
use Rattle.cost_base.specs.Lists.{numbers_from, first_of}
use Rattle.config_reader.specs.declared.fault.ConfigFault.{ConfigFault}
use Rattle.config_reader.specs.FaultList.{Fault, at_line}
use Rattle.config_reader.specs.Drafting.{earliest}

-- the first fault of a rule over lines
abbrev pub firsts_at : (ℕ → Option ConfigFault) → ℕ → ℕ → Option Fault
firsts_at f a n = first_of (filter_map (λ i. at_line (i + 1) (f i)) (numbers_from a n))

pub first_cons : {X : Type 0} (o : Option X) (xs : List X) → first_of (cons_option o xs) ≡ option_or o (first_of xs)
first_cons None xs = refl
first_cons (Some x) xs = refl

pub firsts_suc : (f : ℕ → Option ConfigFault) (a n : ℕ) → firsts_at f a (suc n) ≡ option_or (at_line (a + 1) (f a)) (firsts_at f (a + 1) n)
firsts_suc f a n = first_cons (at_line (a + 1) (f a)) (filter_map (λ i. at_line (i + 1) (f i)) (numbers_from (a + 1) n))

-- its line is past the start
pub bound : (f : ℕ → Option ConfigFault) (a n : ℕ) (x : Fault) → firsts_at f a n ≡ Some x → a < x.line
bound f a zero x e = absurd (cc)
bound f a (suc n) x e = cases (f a) (firsts_at f (a + 1) n) (λ h. bound f (a + 1) n x h) (sym (firsts_suc f a n) ∙ e)
  where
    cases : (o : Option ConfigFault) (rest : Option Fault) → (rest ≡ Some x → a + 1 < x.line) → option_or (at_line (a + 1) o) rest ≡ Some x → a < x.line
    cases None rest later h = let k = later h in omega arith
    cases (Some c) rest later h = let same : a + 1 ≡ x.line = ap (λ (o : Option Fault). line_or o) h in omega (arith, same)
      where
        line_or : Option Fault → ℕ
        line_or None = 0
        line_or (Some y) = y.line

-- a fault before every other one
pub before_all : (x : Fault) (o : Option Fault) → ((y : Fault) → o ≡ Some y → x.line ≤ y.line) → earliest (Some x) o ≡ Some x
before_all x None later = refl
before_all x (Some y) later = ap (λ b. cond b (Some y) (Some x)) (le-ltb y.line x.line (later y refl))

pub past_all : (o : Option Fault) (y : Fault) → ((x : Fault) → o ≡ Some x → y.line < x.line) → earliest o (Some y) ≡ Some y
past_all None y later = refl
past_all (Some x) y later = ap (λ b. cond b (Some y) (Some x)) (lt-ltb y.line x.line (later x refl))

pub earliest_none : (o : Option Fault) → earliest o None ≡ o
earliest_none None = refl
earliest_none (Some x) = refl

-- two rules
pub merge : (f g : ℕ → Option ConfigFault) (a n : ℕ) → firsts_at (λ i. option_or (f i) (g i)) a n ≡ earliest (firsts_at f a n) (firsts_at g a n)
merge f g a zero = refl
merge f g a (suc n) =
    firsts_suc (λ i. option_or (f i) (g i)) a n
    ∙ cases (f a) (g a) (merge f g (a + 1) n)
    ∙ ap (earliest (option_or (at_line (a + 1) (f a)) (firsts_at f (a + 1) n))) (sym (firsts_suc g a n))
    ∙ ap (λ o. earliest o (firsts_at g a (suc n))) (sym (firsts_suc f a n))
  where
    cases : (o p : Option ConfigFault) → firsts_at (λ i. option_or (f i) (g i)) (a + 1) n ≡ earliest (firsts_at f (a + 1) n) (firsts_at g (a + 1) n) →
        option_or (at_line (a + 1) (option_or o p)) (firsts_at (λ i. option_or (f i) (g i)) (a + 1) n)
        ≡ earliest (option_or (at_line (a + 1) o) (firsts_at f (a + 1) n))
        (option_or (at_line (a + 1) p) (firsts_at g (a + 1) n))
    cases None None more = more
    cases None (Some c) more = sym (past_all (firsts_at f (a + 1) n) (record { line = a + 1; fault = c }) (λ x h. bound f (a + 1) n x h))
    cases (Some c) None more = sym (before_all (record { line = a + 1; fault = c }) (firsts_at g (a + 1) n)
        (λ y h. let k = bound g (a + 1) n y h in omega arith))
    cases (Some c) (Some d) more =
        sym (before_all (record { line = a + 1; fault = c }) (Some (record { line = a + 1; fault = d }))
        (λ y h. let k : a + 1 ≡ y.line = ap line_or h in omega (arith, k)))
      where
        line_or : Option Fault → ℕ
        line_or None = 0
        line_or (Some y) = y.line

-- rules that agree
pub agree : (f g : ℕ → Option ConfigFault) (a n : ℕ) → ((i : ℕ) → a ≤ i → i < a + n → f i ≡ g i) → firsts_at f a n ≡ firsts_at g a n
agree f g a zero same = refl
agree f g a (suc n) same =
    firsts_suc f a n
    ∙ ap (λ o. option_or (at_line (a + 1) o) (firsts_at f (a + 1) n)) (same a (omega arith) (omega arith))
    ∙ ap (option_or (at_line (a + 1) (g a))) (agree f g (a + 1) n (λ i above below. same i (omega arith) (omega arith)))
    ∙ sym (firsts_suc g a n)

-- a rule that is never met
pub never : (f : ℕ → Option ConfigFault) (a n : ℕ) → ((i : ℕ) → f i ≡ None) → firsts_at f a n ≡ None
never f a zero none = refl
never f a (suc n) none = firsts_suc f a n ∙ ap (λ o. option_or (at_line (a + 1) o) (firsts_at f (a + 1) n)) (none a) ∙ never f (a + 1) n none

-- a rule that is met first at a place
pub met_at : (f : ℕ → Option ConfigFault) (a n j : ℕ) (c : ConfigFault) → f j ≡ Some c →
    ((i : ℕ) → i < j → f i ≡ None) → a ≤ j → j < a + n → firsts_at f a n ≡ Some (record { line = j + 1; fault = c })
met_at f a zero j c here earlier above below = absurd (omega arith)
met_at f a (suc n) j c here earlier above below = firsts_suc f a n
    ∙ cases (ltb a j) refl (λ less. met_at f (a + 1) n j c here earlier (omega arith) (omega arith))
  where
    cases : (b : Bool) → ltb a j ≡ b → (a < j → firsts_at f (a + 1) n ≡ Some (record { line = j + 1; fault = c })) →
        option_or (at_line (a + 1) (f a)) (firsts_at f (a + 1) n) ≡ Some (record { line = j + 1; fault = c })
    cases true e later = let less : a < j = ltb-true a j e in ap (λ o. option_or (at_line (a + 1) o) (firsts_at f (a + 1) n)) (earlier a less) ∙ later less
    cases false e later =
        let same : a ≡ j = omega (arith, ltb-false a j e) in
        ap (λ o. option_or (at_line (a + 1) o) (firsts_at f (a + 1) n)) (ap f same ∙ here) ∙ ap (λ k. Some (record { line = k + 1; fault = c })) same

-- the earliest of three
pub earliest_assoc : (a b c : Option Fault) → earliest (earliest a b) c ≡ earliest a (earliest b c)
earliest_assoc None b c = refl
earliest_assoc (Some a) None c = refl
earliest_assoc (Some a) (Some b) None = cases (ltb b.line a.line)
  where
    cases : (p : Bool) → earliest (cond p (Some b) (Some a)) None ≡ cond p (Some b) (Some a)
    cases true = refl
    cases false = refl
earliest_assoc (Some a) (Some b) (Some c) = cases (ltb b.line a.line) (ltb c.line b.line) refl refl
  where
    cases : (p q : Bool) → ltb b.line a.line ≡ p → ltb c.line b.line ≡ q →
        earliest (cond p (Some b) (Some a)) (Some c) ≡ earliest (Some a) (cond q (Some c) (Some b))
    cases true true e f = let pa = ltb-true b.line a.line e in let pb = ltb-true c.line b.line f in
        ap (λ r. cond r (Some c) (Some b)) f
        ∙ sym (ap (λ r. cond r (Some c) (Some a)) (lt-ltb c.line a.line (omega arith)))
    cases true false e f = ap (λ r. cond r (Some c) (Some b)) f ∙ sym (ap (λ r. cond r (Some b) (Some a)) e)
    cases false true e f = refl
    cases false false e f =
        let pa = ltb-false b.line a.line e in
        let pb = ltb-false c.line b.line f in
        ap (λ r. cond r (Some c) (Some a)) (le-ltb c.line a.line (omega arith)) ∙ sym (ap (λ r. cond r (Some b) (Some a)) e)

-- the first of lists that are joined
first_append : {X : Type 0} (xs ys : List X) → first_of (xs ++ ys) ≡ option_or (first_of xs) (first_of ys)
first_append [] ys = refl
first_append (x ∷ xs) ys = refl

pub first_flat : (F : ℕ → List Fault) (f : ℕ → Option ConfigFault) (a n : ℕ) →
    ((i : ℕ) → first_of (F i) ≡ at_line (i + 1) (f i)) → first_of (flat_map F (numbers_from a n)) ≡ firsts_at f a n
first_flat F f a zero same = refl
first_flat F f a (suc n) same =
    first_append (F a) (flat_map F (numbers_from (a + 1) n))
    ∙ ap (λ o. option_or o (first_of (flat_map F (numbers_from (a + 1) n)))) (same a)
    ∙ ap (option_or (at_line (a + 1) (f a))) (first_flat F f (a + 1) n same)
    ∙ sym (firsts_suc f a n)

-- the first of five on one line
pub first_five : (n : ℕ) (o p q r s : Option ConfigFault) → first_of (filter_map (at_line n) (o ∷ p ∷ q ∷ r ∷ s ∷ []))
    ≡ at_line n (option_or (option_or (option_or (option_or o p) q) r) s)
first_five n (Some x) p q r s = refl
first_five n None (Some x) q r s = refl
first_five n None None (Some x) r s = refl
first_five n None None None (Some x) s = refl
first_five n None None None None (Some x) = refl
first_five n None None None None None = refl

pub first_front : (o : Option ConfigFault) (rest : List Fault) → first_of (filter_map (at_line 0) (o ∷ []) ++ rest) ≡ option_or (at_line 0 o) (first_of rest)
first_front None rest = refl
first_front (Some x) rest = refl

-- a filter before a filter_map that passes over what it drops
pub first_filtered : {X Y : Type 0} (p : X → Bool) (h : X → Option Y) (xs : List X) →
    ((x : X) → p x ≡ false → h x ≡ None) → filter_map h (filter p xs) ≡ filter_map h xs
first_filtered p h [] drops = refl
first_filtered {X} {Y} p h (x ∷ xs) drops = cases (p x) refl (first_filtered p h xs drops)
  where
    cases : (b : Bool) → p x ≡ b → filter_map h (filter p xs) ≡ filter_map h xs →
        filter_map h (cond b (x ∷ filter p xs) (filter p xs)) ≡ cons_option (h x) (filter_map h xs)
    cases true e more = ap (cons_option (h x)) more
    cases false e more = more ∙ ap (λ o. cons_option o (filter_map h xs)) (sym (drops x e))

pub filter_map-map : {X Y Z : Type 0} (h : Y → Option Z) (g : X → Y) (xs : List X) → filter_map h (map g xs) ≡ filter_map (λ x. h (g x)) xs
filter_map-map h g [] = refl
filter_map-map h g (x ∷ xs) = ap (cons_option (h (g x))) (filter_map-map h g xs)
