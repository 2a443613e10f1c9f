-- The records that a shelf and a sink keep of what went through them.
use Rattle.std.specs.Prelude.{◌≡◌, ℕ, Bool, true, false, List, [], ◌∷◌, ◌++◌, take, Option, None, Some}
use Rattle.cost_base.specs.Outside.{GotAll}

-- what a record tells, as long as nothing was left out of it
abbrev pub unless_lacking : {A : Type 0} → Bool → List A → Option (List A)
unless_lacking true kept = None
unless_lacking false kept = Some kept

-- a piece that was put, and whether the sink took it whole
pub record PutPiece : Type 0 where
  pub piece : List ℕ
  pub whole : Bool

-- the bytes that a sink took of a piece: all of them or, where it refused the piece, a prefix
abbrev pub IsTakenOf : Bool → List ℕ → List ℕ → Type 0
IsTakenOf true piece bytes = bytes ≡ piece
IsTakenOf false piece bytes = (n : ℕ) × (bytes ≡ take n piece)

-- the bytes that a sink took of these pieces, one after another
abbrev pub AreTakenOf : List PutPiece → List ℕ → Type 0
AreTakenOf [] bytes = bytes ≡ []
AreTakenOf (put ∷ puts) bytes = (first : List ℕ) × ((rest : List ℕ) ×
    IsTakenOf put.whole put.piece first × AreTakenOf puts rest × (bytes ≡ first ++ rest))

-- what a shelf gave, and a record of it that grew by exactly that
pub record IsNoted {A : Type 0} (gave : List A → Type 0) (before now : Option (List A))
    (came : List A) : Type 0 where
  pub given : gave came
  pub noted : GotAll before now came

-- what a sink was handed, and a record of pieces that grew by those of which it took exactly these bytes
pub record IsNotedInPieces (handed : List ℕ → Type 0) (before now : Option (List PutPiece))
    (bytes : List ℕ) : Type 0 where
  pub given : handed bytes
  pub puts : List PutPiece
  pub noted : GotAll before now puts
  pub taken : AreTakenOf puts bytes
