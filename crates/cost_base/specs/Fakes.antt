-- What the fakes of the outside do.
use Rattle.std.specs.Prelude.{◌≡◌, ◌⊎◌, ℕ, ◌+◌, ◌-◌, ◌^◌, Bool, List, [], ◌∷◌, Option, Some, None, if◌then◌else◌, ◌==◌, IsTrue, length, min, Result, IsErrOf, IsOk, OnOk}
use Rattle.std.specs.List.{list_any}
use Rattle.cost_base.specs.declared.ShelfStop.{ShelfStop}
use Rattle.cost_base.specs.declared.ShelfStop.TheVariants.{Failed, OutOfMemory}
use Rattle.cost_base.specs.declared.memory_shelf.MemoryShelf.{MemoryShelf}

-- the bytes that a sink tells, as long as nothing was lost
abbrev pub unless_lost : Bool → List ℕ → Option (List ℕ)
unless_lost lost bytes = if lost then None else Some bytes

-- the number of a call is listed
abbrev pub IsListed : List ℕ → ℕ → Type 0
IsListed calls call = IsTrue (list_any (λ other. other == call) calls)

-- the call failed, or memory was wanting
abbrev pub FailsOrLacksMemory : {T : Type 0} → Result T ShelfStop → Type 0
FailsOrLacksMemory result = IsErrOf result Failed ⊎ IsErrOf result OutOfMemory

-- a call fails where there is this cause, unless memory is wanting, and nowhere else
pub record FailsWhere {T : Type 0} (cause : Type 0) (result : Result T ShelfStop) : Type 0 where
  pub only : IsErrOf result Failed → cause
  pub surely : cause → FailsOrLacksMemory result

-- a call succeeds exactly where this holds
pub record SucceedsWhere {T E : Type 0} (cause : Type 0) (result : Result T E) : Type 0 where
  pub only : OnOk result cause
  pub surely : cause → IsOk result

-- a call is counted up to the last number of u64, and the files and the numbers of the calls that are to fail stay
pub record IsNextCall (before now : MemoryShelf) : Type 0 where
  pub counted : now.calls ≡ min (before.calls + 1) (2 ^ 64 - 1)
  pub files : now.files.items ≡ before.files.items
  pub fail : now.fail.items ≡ before.fail.items

-- how many bytes of its piece a call keeps, where the call is listed; the first pair of a call counts
abbrev pub kept_at : List (ℕ × ℕ) → ℕ → Option ℕ
kept_at [] call = None
kept_at (pair ∷ pairs) call = if pair.0 == call then Some pair.1 else kept_at pairs call

-- how many bytes of a piece are kept, where there is room
abbrev pub kept_or_all : Option ℕ → List ℕ → ℕ
kept_or_all None piece = length piece
kept_or_all (Some kept) piece = min kept (length piece)
