-- What came of a read.
use Rattle.std.specs.Prelude.{◌≡◌, ℕ, Result, Err}
use Rattle.cost_base.specs.declared.refusal.Refusal.{Refusal}
use Rattle.cost_base.specs.declared.refusal.Refusal.TheVariants.{Refused, OutOfMemory}
use Rattle.live_reader.specs.declared.fault.Lack.{Lack}

-- the refusal tells what a value says: the place of the first object that lacks something; want of memory says nothing
abbrev pub TellsLack : {X : Type 0} → Result X ℕ → Refusal Lack ℕ → Type 0
TellsLack said (Refused lack place) = said ≡ Err place
TellsLack said OutOfMemory = Unit {0}
