-- The first line behind the last cost line of the sections.
use Rattle.std.specs.Prelude.{◌⊎◌, ℕ, List, Option}
use Rattle.answer_lines.specs.declared.other_text.OtherText.{OtherText}
use Rattle.answer_lines.specs.Grammar.{TextPlace, IsRouterNext, IsInterfaceAgain}
use Rattle.answer_lines.specs.Places.{IsFirstInText}

-- a line of one more cost, behind a cost line: of another router, or of a further interface of the same router
abbrev pub IsCostBegun : Option OtherText → Option (List ℕ) → List ℕ → TextPlace → Type 0
IsCostBegun of before line next = IsRouterNext of before line next ⊎ IsInterfaceAgain of before line next

-- no line of one more cost stands first in a text
abbrev pub LacksCost : Option OtherText → Option (List ℕ) → List ℕ → Type 0
LacksCost of before bytes = (line left : List ℕ) (next : TextPlace) → IsFirstInText bytes line left → IsCostBegun of before line next → ⊥
