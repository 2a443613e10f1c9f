-- The faults of a file, line by line.
use Rattle.std.specs.Prelude.{◌≡◌, ℕ, ◌+◌, List, [], ◌∷◌, ◌++◌, Option, Some, None, length}
use Rattle.cost_base.specs.declared.refusal.Refusal.{Refusal}
use Rattle.cost_base.specs.declared.refusal.Refusal.TheVariants.{Refused, OutOfMemory}

-- a fault, and the line at which it stands
pub record FaultyLine (F : Type 0) : Type 0 where
  pub fault : F
  pub line : ℕ

-- the fault as one of the line of number n
abbrev pub fault_at : {F : Type 0} → ℕ → F → FaultyLine F
fault_at {F} n fault = record { fault = fault; line = n }

-- the fault of a line of number n, where it has one
abbrev pub fault_in_line : {F : Type 0} → ℕ → Option F → Option (FaultyLine F)
fault_in_line {F} n None = None
fault_in_line {F} n (Some fault) = Some (fault_at n fault)

-- the fault of the line of number n as a list, which is empty where the line has none
abbrev pub faults_at : {F : Type 0} → ℕ → Option F → List (FaultyLine F)
faults_at {F} n None = []
faults_at {F} n (Some fault) = fault_at n fault ∷ []

-- the faults of these lines, which follow some lines, where the fault of a line is told by the lines before it
abbrev pub faults_by_line : {F : Type 0} → (List (List ℕ) → List ℕ → Option F) → List (List ℕ) → List (List ℕ) → List (FaultyLine F)
faults_by_line {F} fault_behind before [] = []
faults_by_line {F} fault_behind before (line ∷ more) =
    faults_at (length before + 1) (fault_behind before line) ++ faults_by_line fault_behind (before ++ line ∷ []) more

-- a refusal tells the fault; want of memory says nothing
abbrev pub TellsFault : {F : Type 0} → Option (FaultyLine F) → Refusal F ℕ → Type 0
TellsFault {F} faulty (Refused fault line) = faulty ≡ Some (fault_at line fault)
TellsFault {F} faulty OutOfMemory = Unit {0}
