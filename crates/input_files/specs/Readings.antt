-- Readings of files, one file after another, and how what comes of the files ends them.
use Rattle.std.specs.Prelude.{◌≡◌, ℕ, List, [], ◌∷◌, Option, Some, None, Result, Ok, Err}
use Rattle.cost_base.specs.declared.ShelfStop.{ShelfStop}
use Rattle.cost_base.specs.declared.ShelfStop.TheVariants as stop
use Rattle.cost_base.specs.Histories.{Taken}
use Rattle.text_lines.specs.LineFaults.{FaultyLine}
use Rattle.input_files.specs.declared.stop.FileFault.TheVariants.{TooLong}
use Rattle.input_files.specs.FaultNumbers.{file_fault_number}

-- a refusal of input: its number, the file and the line
pub record InputRefusal : Type 0 where
  pub number : ℕ
  pub file : List ℕ
  pub line : ℕ

-- What is read of files: a file of at most so many bytes, with what follows from its bytes; or the first fault; or what
-- the files say.
pub data Reading (A : Type 0) : Type 0 where
  Take : (name : List ℕ) → (most : ℕ) → (List ℕ → Reading A) → Reading A
  Refused : InputRefusal → Reading A
  Ready : A → Reading A

infixl 10 ◌>>=◌
-- one reading after another: the second goes on with what the first one says
abbrev pub ◌>>=◌ : {A B : Type 0} → Reading A → (A → Reading B) → Reading B
(Take name most next) >>= f = Take name most (λ bytes. next bytes >>= f)
(Refused r) >>= f = Refused r
(Ready x) >>= f = f x

-- what is said, unless there is a fault: then that fault is refused
abbrev pub unless_refused : {A X : Type 0} → (X → InputRefusal) → A → Option X → Reading A
unless_refused refused said None = Ready said
unless_refused refused said (Some fault) = Refused (refused fault)

-- what is said, or the fault that is refused
abbrev pub or_refused : {A X : Type 0} → (X → InputRefusal) → Result A X → Reading A
or_refused refused (Ok said) = Ready said
or_refused refused (Err fault) = Refused (refused fault)

-- how a fault with its place is refused, where faults have these numbers: the place stands for the line
abbrev pub place_refused : {F : Type 0} → (F → ℕ) → List ℕ → F × ℕ → InputRefusal
place_refused numbered file fault = record { number = numbered fault.0; file = file; line = fault.1 }

-- how a faulty line is refused, where faults have these numbers
abbrev pub line_refused : {F : Type 0} → (F → ℕ) → List ℕ → FaultyLine F → InputRefusal
line_refused numbered file faulty = place_refused numbered file (faulty.fault, faulty.line)

-- how a reading ends: the files say this, or their first fault is this, or this file failed
pub data End (A : Type 0) : Type 0 where
  Says : A → End A
  Faulty : InputRefusal → End A
  Failed : List ℕ → End A

-- a file is longer than its limit
abbrev pub too_long : List ℕ → InputRefusal
too_long file = record { number = file_fault_number TooLong; file = file; line = 0 }

-- of what came of a file: this of its bytes, this where it was too long, and this where it failed
abbrev pub OnCame : Result (List ℕ) ShelfStop → (List ℕ → Type 0) → Type 0 → Type 0 → Type 0
OnCame (Ok bytes) Bytes Long Fault = Bytes bytes
OnCame (Err stop.TooLong) Bytes Long Fault = Long
OnCame (Err stop.Failed) Bytes Long Fault = Fault
OnCame (Err stop.OutOfMemory) Bytes Long Fault = ⊥

-- What came of files ends a reading so. It is of exactly the files that the reading asks for, each once, in its turn
-- and with its limit, up to the first fault or the first file that failed.
abbrev pub EndsAs : {A : Type 0} → Reading A → List Taken → End A → Type 0
EndsAs (Ready x) [] end = end ≡ Says x
EndsAs (Ready x) (taken ∷ more) end = ⊥
EndsAs (Refused r) [] end = end ≡ Faulty r
EndsAs (Refused r) (taken ∷ more) end = ⊥
EndsAs (Take name most next) [] end = ⊥
EndsAs (Take name most next) (taken ∷ more) end =
    (taken.name ≡ name) × (taken.most ≡ most)
    × OnCame taken.came (λ bytes. EndsAs (next bytes) more end) ((more ≡ []) × (end ≡ Faulty (too_long name))) ((more ≡ []) × (end ≡ Failed name))

-- of what came of a file: this of its bytes, and this where none came
abbrev pub OnBytes : Result (List ℕ) ShelfStop → (List ℕ → Type 0) → Type 0 → Type 0
OnBytes (Ok bytes) Bytes Stopped = Bytes bytes
OnBytes (Err stop) Bytes Stopped = Stopped

-- What came of files begins a reading. It is of files that the reading asks for, each once, in its turn and with its
-- limit, and of no other: what comes behind may be missing, and nothing comes behind a file that stopped it.
abbrev pub Begins : {A : Type 0} → Reading A → List Taken → Type 0
Begins reading [] = Unit {0}
Begins (Ready x) (taken ∷ more) = ⊥
Begins (Refused r) (taken ∷ more) = ⊥
Begins (Take name most next) (taken ∷ more) =
    (taken.name ≡ name) × (taken.most ≡ most) × OnBytes taken.came (λ bytes. Begins (next bytes) more) (more ≡ [])

-- what a shelf gave between two states, of which `gave` tells, is a list of this kind
pub record Gave (gave : List Taken → Type 0) (P : List Taken → Type 0) : Type 0 where
  pub came : List Taken
  pub given : gave came
  pub so : P came
