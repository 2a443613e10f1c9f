-- What the stages of the reading find. No public clause cites it.
use Rattle.std.specs.Prelude.{ℕ, List, [], ◌∷◌, ◌++◌, Option, Some, None}
use Rattle.cost_base.specs.Decimal.{decimal}
use Rattle.answer_lines.specs.declared.other_text.OtherText.{OtherText}
use Rattle.answer_lines.specs.declared.other_text.OtherText.TheVariants.{Total}
use Rattle.answer_lines.specs.Grammar.{TextPlace, AtSections, AtSectionsEnd, answer_head, costs_front, no_costs_line, other_head}

-- the lines that a text begins with: its head, and in `total`'s text that of the answer inside
abbrev pub heads_of : OtherText → List (List ℕ)
heads_of Total = other_head Total ∷ answer_head ∷ []
heads_of text = other_head text ∷ []

-- the line before the costs of a text with costs: it has a number, or says that there are none
abbrev pub costs_head_of : OtherText → Option ℕ → List ℕ
costs_head_of text None = no_costs_line text
costs_head_of text (Some number) = costs_front text ++ decimal number

-- the place behind the line before the costs of a text, which has a number or says that there are none
abbrev pub behind_costs_head_of : OtherText → Option ℕ → TextPlace
behind_costs_head_of text None = AtSectionsEnd text
behind_costs_head_of text (Some number) = AtSections (Some text) None
