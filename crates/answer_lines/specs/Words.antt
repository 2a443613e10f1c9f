-- The words of a line that is cut at each space.
use Rattle.std.specs.Prelude.{◌≡◌, ℕ, List, [], ◌∷◌, codes, Option, Some, None}
use Rattle.std.specs.Option.{option_copied}
use Rattle.cost_base.specs.Decimal.{decimal}
use Rattle.design_problem.specs.declared.tree.Entry.{Entry}
use Rattle.design_problem.specs.declared.tree.Entry.TheVariants.{Tighten, Split, Halve, Refute, Undone}
use Rattle.design_problem.specs.AnswerRanges.{BoundsEntry}
use Rattle.design_problem.specs.Text.{side_word, step_word, ratio_word, members_words, multiplier_words, FitsEntry}
use Rattle.text_lines.specs.Numbers.{split}
use Rattle.answer_lines.specs.declared.words.Pieces.{Pieces}

-- the words of the rest of a line, where there is one
abbrev pub words_of_rest : Option (List ℕ) → List (List ℕ)
words_of_rest None = []
words_of_rest (Some text) = split 32 text

-- the words of a line that its reader has left
abbrev pub words_left : Pieces → List (List ℕ)
words_left p = words_of_rest (option_copied p.left)

-- the words of a tree line
abbrev pub entry_words : Entry → List (List ℕ)
entry_words (Tighten v side bound row) = codes "tighten" ∷ decimal v ∷ side_word side ∷ decimal bound ∷ decimal row ∷ []
entry_words (Split v bound) = codes "split" ∷ decimal v ∷ decimal bound ∷ []
entry_words (Halve v bound wide) =
    codes "halve" ∷ decimal v ∷ decimal bound ∷ step_word wide.step ∷ ratio_word wide.left ∷ ratio_word wide.right ∷ members_words wide.basis
entry_words (Refute parts) = codes "refute" ∷ multiplier_words parts
entry_words Undone = codes "open" ∷ []

-- words say an entry: its numbers fit, and the words are those of its tree line
pub record SaysEntry (words : List (List ℕ)) (entry : Entry) : Type 0 where
  pub bounds : BoundsEntry entry
  pub fits : FitsEntry entry
  pub is : words ≡ entry_words entry

-- the words say no entry
abbrev pub SaysNoEntry : List (List ℕ) → Type 0
SaysNoEntry words = (entry : Entry) → SaysEntry words entry → ⊥
