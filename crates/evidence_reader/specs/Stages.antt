-- What the stages of a reader find, and where each leads. No public clause cites it.
use Rattle.std.specs.Prelude.{◌≡◌, ◌≢◌, ℕ, zero, ◌<◌, List, [], ◌∷◌, ◌++◌, codes, Option, Some, None}
use Rattle.cost_base.specs.Words.{IsOneWord}
use Rattle.design_problem.specs.Text.{router_lines, costs_line, interface_line, answer_cost_line, router_line}
use Rattle.evidence_text.specs.Parts.{no_tree_line, tree_line}
use Rattle.answer_lines.specs.declared.other_text.OtherText.{OtherText}
use Rattle.answer_lines.specs.Grammar.{TextPlace, AtSections, AtInterface, AtCost, AtFloor, AtRow, AtTree}
use Rattle.evidence_text.specs.declared.TreePart.{TreePart}
use Rattle.evidence_text.specs.declared.TreePart.TheVariants.{Proof, Undecided}
use Rattle.evidence_reader.specs.declared.stage_costs.CostsHead.{CostsHead}
use Rattle.evidence_reader.specs.declared.stage_costs.CostsHead.TheVariants.{NoCosts, Greatest}
use Rattle.evidence_reader.specs.declared.stage_sections.SectionLine.{SectionLine}
use Rattle.evidence_reader.specs.declared.stage_sections.SectionLine.TheVariants.{Router, Interface}
use Rattle.evidence_reader.specs.declared.stage_sections.CostWords.{CostWords}
use Rattle.evidence_reader.specs.declared.stage_trees.PartHead.{PartHead}
use Rattle.evidence_reader.specs.declared.stage_trees.PartHead.TheVariants.{NoTree, TreeHead}

-- the line that the costs of an answer begin with
abbrev pub costs_head_line : CostsHead → List ℕ
costs_head_line NoCosts = codes "costs none"
costs_head_line (Greatest greatest) = costs_line greatest

-- the place behind the line that the costs of an answer begin with
abbrev pub behind_costs_head : CostsHead → TextPlace
behind_costs_head NoCosts = AtFloor
behind_costs_head (Greatest greatest) = AtSections None None

-- a line of one more cost behind the cost line of a router
abbrev pub IsSectionLine : Option (List ℕ) → List ℕ → SectionLine → Type 0
IsSectionLine before line (Router name) = IsOneWord name.now × (before ≢ Some name.now) × (line ≡ router_line name.now)
IsSectionLine before line (Interface router name) = (before ≡ Some router.now) × IsOneWord name.now × (line ≡ interface_line name.now)

-- the place behind the line that one more cost begins with: that of a router, or of an interface
abbrev pub behind_section_line : Option OtherText → SectionLine → TextPlace
behind_section_line of (Router name) = AtInterface of name.now
behind_section_line of (Interface router name) = AtCost of router.now

-- the lines of a cost behind its router
abbrev pub words_lines : CostWords → List (List ℕ)
words_lines words = interface_line words.interface.now ∷ answer_cost_line words.cost ∷ codes "exit" ∷ []

-- a cost line has names of one word, and a cost from 1
pub record FitsWords (words : CostWords) : Type 0 where
  pub router : IsOneWord words.router.now
  pub interface : IsOneWord words.interface.now
  pub cost : 0 < words.cost

-- the lines of one more cost, with that of its router where it is another than the last one
abbrev pub lines_of_words : Option (List ℕ) → CostWords → List (List ℕ)
lines_of_words before words = router_lines before words.router.now ++ words_lines words

-- the place before a part of an answer that may have a tree
abbrev pub before_part : TreePart → TextPlace
before_part Proof = AtRow zero
before_part Undecided = AtTree Proof zero zero

-- the first line of a part: without a tree, or with a tree's cap and count
abbrev pub part_head_line : TreePart → PartHead → List ℕ
part_head_line part NoTree = no_tree_line part
part_head_line part (TreeHead cap count) = tree_line part cap count

-- the place behind the first line of a part, which is one without a tree or has a tree's cap and count
abbrev pub behind_part_head : TreePart → PartHead → TextPlace
behind_part_head part NoTree = AtTree part 0 0
behind_part_head part (TreeHead cap count) = AtTree part 1 count
