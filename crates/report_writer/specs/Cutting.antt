-- The pieces in which a text is handed over.
use Rattle.std.specs.Prelude.{◌≡◌, ◌⊎◌, ℕ, ◌+◌, ◌*◌, ◌==◌, List, [], ◌∷◌, take, drop, length, min, max, slice_index, Option, None, Some, Result, Ok, Err}
use Rattle.std.specs.List.{position}
use Rattle.cost_base.specs.declared.Status.{Status}
use Rattle.cost_base.specs.declared.Status.TheVariants.{WriteFault}
use Rattle.report_writer.specs.declared.report.Pieces.{Pieces}
use Rattle.report_writer.specs.declared.report.Pieces.TheVariants as kind
use Rattle.report_writer.specs.declared.report.Text.{Text}
use Rattle.report_writer.specs.declared.report.Text.TheVariants.{Made, Fixed, Lsas}

-- the place behind the first LF of a text, from the LF's place and the text's length; the end where there is no LF
abbrev pub end_of_first_line : Option ℕ → ℕ → ℕ
end_of_first_line None all = all
end_of_first_line (Some place) all = place + 1

-- how long the first line of a text is, with its LF
abbrev pub line_size : List ℕ → ℕ
line_size text = end_of_first_line (position (λ byte. byte == 10) text) (length text)

-- how long the first of some LSAs is by its header (RFC 2328, A.4.1): no less than a header, and no more than is there
abbrev pub lsa_size : List ℕ → ℕ
lsa_size bytes = min (max 20 (256 * slice_index bytes 18 + slice_index bytes 19)) (length bytes)

-- how long the first piece of a text of lines, or of LSAs, is
abbrev pub piece_size : Pieces → List ℕ → ℕ
piece_size kind.Lines = line_size
piece_size kind.Lsas = lsa_size

-- how long the first piece of a report's text is: of LSAs an LSA, else a line
abbrev pub size_of_piece : Text → List ℕ → ℕ
size_of_piece (Made bytes) = line_size
size_of_piece (Fixed text) = line_size
size_of_piece (Lsas bytes) = lsa_size

-- pieces cut off the front of a text, each of the size of its first piece, and what is left behind them
abbrev pub AreCutOff : (List ℕ → ℕ) → List (List ℕ) → List ℕ → List ℕ → Type 0
AreCutOff size [] text left = left ≡ text
AreCutOff size (piece ∷ pieces) text left = (piece ≡ take (size text) text) × AreCutOff size pieces (drop (size text) text) left

-- pieces handed over one after another: between each two there is a state of the sink
abbrev pub AreHanded : {K : Type 0} → (K → K → List ℕ → Type 0) → K → List (List ℕ) → K → Type 0
AreHanded handed before [] now = now ≡ before
AreHanded {K} handed before (piece ∷ pieces) now = (next : K) × handed before next piece × AreHanded handed next pieces now

-- the sink was handed a text piece by piece, but for what is left
pub record ArePutOf {K : Type 0} (handed : K → K → List ℕ → Type 0) (before now : K) (size : List ℕ → ℕ)
    (text left : List ℕ) : Type 0 where
  pub pieces : List (List ℕ)
  pub given : AreHanded handed before pieces now
  pub cut : AreCutOff size pieces text left

-- the sink was handed some pieces of a text one after another, and of the next one a prefix
pub record IsCutShort {K : Type 0} (handed : K → K → List ℕ → Type 0) (before now : K) (size : List ℕ → ℕ)
    (text : List ℕ) : Type 0 where
  pub left : List ℕ
  pub middle : K
  pub whole : ArePutOf handed before middle size text left
  pub length : ℕ
  pub part : handed middle now (take length (take (size left) left))

-- a text was handed over whole, piece by piece, or was cut short by a fault
abbrev pub IsPutInPieces : {K T E : Type 0} → (K → K → List ℕ → Type 0) → K → K → (List ℕ → ℕ) → List ℕ → Result T E → Type 0
IsPutInPieces handed before now size text (Ok x) = ArePutOf handed before now size text []
IsPutInPieces handed before now size text (Err e) = IsCutShort handed before now size text

-- a text was put piece by piece or, where the run ends with a fault of writing, a part of it
abbrev pub PutsPieces : {K : Type 0} → (K → K → List ℕ → Type 0) → K → K → (List ℕ → ℕ) → List ℕ → Status → Type 0
PutsPieces handed before now size text end =
    ArePutOf handed before now size text [] ⊎ ((end ≡ WriteFault) × IsCutShort handed before now size text)

-- a text was put line by line, or LSA by LSA
abbrev pub PutsByPieces : {K : Type 0} → (K → K → List ℕ → Type 0) → K → K → Status → Type 0
PutsByPieces handed before now end = (text : List ℕ) ×
    (PutsPieces handed before now line_size text end ⊎ PutsPieces handed before now lsa_size text end)
