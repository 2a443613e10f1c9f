-- The line of a refusal, and what it means in a sentence.
use Rattle.std.specs.Prelude.{◌≡◌, ℕ, List, [], ◌∷◌, ◌++◌, if◌then◌else◌, Option, None, Some, IsSomeAnd, codes}
use denote.Ref.{Bor}
use Rattle.std.specs.List.{concat, join_with_byte}
use Rattle.std.specs.Option.{option_map, option_copied}
use Rattle.cost_base.specs.Decimal.{decimal}
use Rattle.cost_base.specs.Lists.{same_bytes}
use Rattle.refusal_sentences.specs.declared.place.Place.{Place}
use Rattle.refusal_sentences.specs.declared.place.Place.TheVariants.{Line, Byte, Spot, Variable, Path, Row, TreeLine, Nothing}
use Rattle.refusal_sentences.specs.declared.line.LineParts.{LineParts}
use Rattle.refusal_sentences.specs.Meanings.{meant_by}

-- the line of a refusal in a file, or of a rejection, which names none
abbrev pub told_line : ℕ → Option (List ℕ) → ℕ → List ℕ
told_line number (Some file) place =
    join_with_byte 32 (codes "refused" ∷ decimal number ∷ file ∷ decimal place ∷ []) ++ 10 ∷ []
told_line number None place = join_with_byte 32 (codes "rejected" ∷ decimal number ∷ decimal place ∷ []) ++ 10 ∷ []

-- a text was cut in two, and these are the two parts
abbrev pub IsCutIn : List ℕ → List ℕ → Option (Bor (List ℕ) × Bor (List ℕ)) → Type 0
IsCutIn one other found = IsSomeAnd found (λ pair. (pair.0.now ≡ one) × (pair.1.now ≡ other))

-- what a line tells: a number, the file where it names one, and the printed number of the place
pub record IsParted (told : ℕ) (in_file : Option (List ℕ)) (at : List ℕ) (parts : LineParts) : Type 0 where
  pub number : parts.number ≡ told
  pub file : option_copied parts.file ≡ in_file
  pub place : parts.place.now ≡ at

-- the word before the printed number of a place; None where the place is nothing, or line 0: the file as a whole
abbrev pub word_before : Place → List ℕ → Option (List ℕ)
word_before Line place = if same_bytes place (codes "0") then None else Some (codes "line")
word_before Byte place = Some (codes "byte")
word_before Spot place = Some (codes "place")
word_before Variable place = Some (codes "variable")
word_before Path place = Some (codes "path")
word_before Row place = Some (codes "row")
word_before TreeLine place = Some (codes "tree line")
word_before Nothing place = None

-- the sentence on a refusal, `FILE, line 12: it means this`, without the parts that there aren't
abbrev pub sentence : Option (List ℕ) → Option (List ℕ) → List ℕ → List ℕ → List ℕ
sentence (Some file) (Some word) place says =
    concat (file ∷ codes ", " ∷ word ∷ codes " " ∷ place ∷ codes ": " ∷ says ∷ [])
sentence (Some file) None place says = concat (file ∷ codes ": " ∷ says ∷ [])
sentence None (Some word) place says = concat (word ∷ codes " " ∷ place ∷ codes ": " ∷ says ∷ [])
sentence None None place says = says

-- the sentence on a refusal by its number, the file that it names, and the printed number of its place
abbrev pub sentence_by : ℕ → Option (List ℕ) → List ℕ → Option (List ℕ)
sentence_by number file place =
    option_map (λ meant. sentence file (word_before meant.place place) place meant.says) (meant_by number)
