-- Refusals by one of several tests.
use Rattle.std.proofs.Common.{◌≡◌, ℕ, ◌<◌, refl, sym, subst, List, [], ◌∷◌, ◌++◌, inl, inr}
use Rattle.std.specs.Prelude.{Some, Result, Ok, Err, IfErr, IsErrAnd}
use Rattle.cost_base.specs.Order.{FirstOf, NoneOf}
use Rattle.cost_base.specs.declared.refusal.Refusal.{Refusal}
use Rattle.cost_base.specs.declared.refusal.Refusal.TheVariants.{Refused, OutOfMemory}
use Rattle.evidence_checker.specs.declared.fault.CheckFault.{CheckFault}
use Rattle.evidence_checker.specs.Numbers.{check_fault_number}
use Rattle.evidence_checker.specs.Refusals.{FailedTest, AtFirst, IsFirstPlace, StopsBy}

-- the refusal at the first place
pub stop_at : (Fails : ℕ → Type 0) (number var place : ℕ) → place ≡ var → IsFirstPlace Fails (Some var) →
    FirstOf (AtFirst number Fails ∷ []) (record { number = number; place = place })
stop_at Fails number var place e first = inl (refl, subst Fails (sym e) first.0, λ k before. first.1 k (subst (λ (n : ℕ). k < n) e before))

-- one test alone
pub only_test : (t : FailedTest → Type 0) (f : FailedTest) → FirstOf (t ∷ []) f → t f
only_test t f first = elim first [ inl here ↦ here | inr none ↦ absurd none.1 ]

-- the tests of several parts, one after another
first_left : (ts us : List (FailedTest → Type 0)) (f : FailedTest) → FirstOf ts f → FirstOf (ts ++ us) f
first_left [] us f first = absurd first
first_left (t ∷ ts) us f first = elim first [ inl here ↦ inl here | inr later ↦ inr (later.0, first_left ts us f later.1) ]

first_right : (ts us : List (FailedTest → Type 0)) (f : FailedTest) → NoneOf ts → FirstOf us f → FirstOf (ts ++ us) f
first_right [] us f none first = first
first_right (t ∷ ts) us f none first = inr (none.0, first_right ts us f none.1 first)

pub stop_left : (ts us : List (FailedTest → Type 0)) (s : Refusal CheckFault ℕ) → StopsBy ts s → StopsBy (ts ++ us) s
stop_left ts us (Refused fault place) stops = first_left ts us (record { number = check_fault_number fault; place = place }) stops
stop_left ts us OutOfMemory stops = tt

pub stop_right : (ts us : List (FailedTest → Type 0)) (s : Refusal CheckFault ℕ) → NoneOf ts → StopsBy us s → StopsBy (ts ++ us) s
stop_right ts us (Refused fault place) none stops = first_right ts us (record { number = check_fault_number fault; place = place }) none stops
stop_right ts us OutOfMemory none stops = tt

pub none_left_right : (ts us : List (FailedTest → Type 0)) → NoneOf ts → NoneOf us → NoneOf (ts ++ us)
none_left_right [] us none others = others
none_left_right (t ∷ ts) us none others = (none.0, none_left_right ts us none.1 others)

-- where no test fails, none is the first
pub none_first : {F : Type 0} (ts : List (F → Type 0)) (f : F) → NoneOf ts → FirstOf ts f → ⊥
none_first [] f none first = first
none_first (t ∷ ts) f none first = elim first [ inl here ↦ none.0 f here | inr later ↦ none_first ts f none.1 later.1 ]

pub none_refused : (ts : List (FailedTest → Type 0)) (fault : CheckFault) (place : ℕ) → NoneOf ts → StopsBy ts (Refused fault place) → ⊥
none_refused ts fault place none stops = none_first ts (record { number = check_fault_number fault; place = place }) none stops

-- what is known of a stop that is handed on
pub err_tells : {T : Type 0} (r : Result T (Refusal CheckFault ℕ)) (s : Refusal CheckFault ℕ) (P : Refusal CheckFault ℕ → Type 0) → IsErrAnd r (λ e. e ≡ s) →
    P s → IfErr r P
err_tells (Ok x) s P is tells = absurd is
err_tells (Err e) s P is tells = subst P (sym is) tells
