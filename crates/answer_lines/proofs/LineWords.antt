-- The words of the lines of an answer.
use Rattle.std.proofs.Common.{◌≡◌, ℕ, List, [], ◌∷◌, map, codes, refl}
use Rattle.std.proofs.lemmas.List.Elements.{All-cons}
use Rattle.cost_base.specs.Decimal.{decimal}
use Rattle.cost_base.specs.Words.{HasNoSpace}
use Rattle.design_problem.specs.declared.form.Row.{Row}
use Rattle.design_problem.specs.Text.{row_line}
use Rattle.text_lines.specs.Numbers.{split}
use Rattle.evidence_text.specs.Parts.{part_word, tree_line}
use Rattle.evidence_text.specs.declared.TreePart.{TreePart}
use Rattle.evidence_text.specs.declared.TreePart.TheVariants.{Proof, Undecided}
use Rattle.answer_lines.proofs.SpacedWords.{spaceless-from, numbers-spaceless, to-words}

part-spaceless : (part : TreePart) → HasNoSpace (part_word part)
part-spaceless Proof = spaceless-from (codes "proof") refl
part-spaceless Undecided = spaceless-from (codes "open") refl

-- the words of the head of a tree
pub tree-words : (line : List ℕ) (part : TreePart) (cap count : ℕ) → line ≡ tree_line part cap count →
    split 32 line ≡ part_word part ∷ decimal cap ∷ decimal count ∷ []
tree-words line part cap count e =
    to-words line (part_word part) (decimal cap ∷ decimal count ∷ []) e
    (All-cons HasNoSpace (part_word part) (decimal cap ∷ decimal count ∷ []) (part-spaceless part) (numbers-spaceless (cap ∷ count ∷ [])))

-- the words of a row
pub row-words : (line : List ℕ) (row : Row) → line ≡ row_line row → split 32 line ≡ codes "row" ∷ map decimal (row.request ∷ row.rival)
row-words line row e =
    to-words line (codes "row") (map decimal (row.request ∷ row.rival)) e
    (All-cons HasNoSpace (codes "row") (map decimal (row.request ∷ row.rival))
    (spaceless-from (codes "row") refl) (numbers-spaceless (row.request ∷ row.rival)))
