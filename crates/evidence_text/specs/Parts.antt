-- The parts of an answer's text that have a tree.
use Rattle.std.specs.Prelude.{ℕ, List, codes}
use Rattle.design_problem.specs.Text.{none_line, tree_head}
use Rattle.evidence_text.specs.declared.TreePart.{TreePart}
use Rattle.evidence_text.specs.declared.TreePart.TheVariants.{Proof, Undecided}

-- the word that a part with a tree begins with
abbrev pub part_word : TreePart → List ℕ
part_word Proof = codes "proof"
part_word Undecided = codes "open"

-- the line of a part that has no tree
abbrev pub no_tree_line : TreePart → List ℕ
no_tree_line part = none_line (part_word part)

-- the first line of a part of an answer that has a tree
abbrev pub tree_line : TreePart → ℕ → ℕ → List ℕ
tree_line part cap count = tree_head (part_word part) cap count
