-- Refusals of an answer: the number of a test, and the place where it fails.
use Rattle.std.specs.Prelude.{◌≡◌, ℕ, ◌+◌, ◌<◌, List, [], ◌∷◌, ◌⊎◌, Option, Some, None}
use Rattle.cost_base.specs.Order.{FirstOf, NoneOf}
use Rattle.cost_base.specs.declared.refusal.Refusal.{Refusal}
use Rattle.cost_base.specs.declared.refusal.Refusal.TheVariants.{Refused, OutOfMemory}
use Rattle.evidence_checker.specs.Numbers.{check_fault_number}
use Rattle.evidence_checker.specs.declared.fault.CheckFault.{CheckFault}

-- the number of a test that fails, and the place where it does: 0, or that of a variable, a request, a row or a line of
-- a tree
pub record FailedTest : Type 0 where
  pub number : ℕ
  pub place : ℕ

-- a test of the answer that has no place fails
abbrev pub AtNoPlace : ℕ → Type 0 → FailedTest → Type 0
AtNoPlace number Fails f = (f.number ≡ number) × (f.place ≡ 0) × Fails

-- a test of numbered things fails at a place, and at none before
abbrev pub AtFirst : ℕ → (ℕ → Type 0) → FailedTest → Type 0
AtFirst number Fails f = (f.number ≡ number) × Fails f.place × ((k : ℕ) → k < f.place → Fails k → ⊥)

-- the first place at which a test fails, if any
abbrev pub IsFirstPlace : (ℕ → Type 0) → Option ℕ → Type 0
IsFirstPlace Fails None = (k : ℕ) → Fails k → ⊥
IsFirstPlace Fails (Some place) = Fails place × ((k : ℕ) → k < place → Fails k → ⊥)

-- a test of one item of a list fails
abbrev pub OnItem : ℕ → Type 0 → ℕ → Type 0
OnItem number Fails n = (n ≡ number) × Fails

-- the first item of a list that fails one of its tests, and the first of the tests that it fails
abbrev pub AtFirstItem : {X : Type 0} → (X → List (ℕ → Type 0)) → ℕ → List X → FailedTest → Type 0
AtFirstItem tests place [] f = ⊥
AtFirstItem tests place (x ∷ xs) f =
    ((f.place ≡ place) × FirstOf (tests x) f.number) ⊎ (NoneOf (tests x) × AtFirstItem tests (place + 1) xs f)

-- a refusal is the first of the tests that fails; want of memory says nothing
abbrev pub StopsBy : List (FailedTest → Type 0) → Refusal CheckFault ℕ → Type 0
StopsBy tests (Refused fault place) = FirstOf tests (record { number = check_fault_number fault; place = place })
StopsBy tests OutOfMemory = Unit {0}
