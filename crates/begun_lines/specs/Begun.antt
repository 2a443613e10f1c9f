-- Bytes that lines of one form begin with. No public clause cites it.
use Rattle.std.specs.Prelude.{◌≡◌, ◌≢◌, ℕ, ◌<◌, ◌≤◌, List, [], ◌∷◌, ◌++◌, All, length, map, ◌⊎◌, Option, Some, None}
use Rattle.cost_base.specs.Decimal.{decimal}
use Rattle.cost_base.specs.Words.{IsOneWord}
use Rattle.design_problem.specs.declared.form.Row.{Row}
use Rattle.design_problem.specs.AnswerRanges.{IsIndex, BoundsRow}
use Rattle.design_problem.specs.Text.{row_line, router_line}
use Rattle.answer_lines.specs.declared.other_text.OtherText.{OtherText}
use Rattle.answer_lines.specs.Grammar.{TextPlace, AtInterface, IsEndNext}
use Rattle.answer_lines.specs.Places.{BeginsLawful}

-- a line begins with these bytes
abbrev pub IsLineFront : List ℕ → List ℕ → Type 0
IsLineFront rest line = (more : List ℕ) × (rest ++ more ≡ line)

-- the word of a number that is at most the greatest
abbrev pub IsNumberWord : List ℕ → ℕ → Type 0
IsNumberWord word greatest = (n : ℕ) × (n ≤ greatest) × (word ≡ decimal n)

-- some bytes, with a number behind them that is at most the greatest, begin with these
abbrev pub BeginsNumber : List ℕ → List ℕ → ℕ → Type 0
BeginsNumber rest front greatest = (n : ℕ) × (n ≤ greatest) × IsLineFront rest (front ++ decimal n)

-- some bytes, with a name behind them, begin with these, and are a line of at most 65,536 bytes
abbrev pub BeginsName : List ℕ → List ℕ → Type 0
BeginsName rest front = (name : List ℕ) × IsOneWord name × IsLineFront rest (front ++ name) × (length (front ++ name) ≤ 65536)

-- the head of a tree, with its cap and its count, begins with these bytes
abbrev pub BeginsTree : List ℕ → List ℕ → Type 0
BeginsTree rest front = (cap count : ℕ) × (cap ≤ 65535) × (count ≤ 4294967295) × IsLineFront rest (front ++ (decimal cap ++ 32 ∷ decimal count))

-- these bytes hold the whole cap of the head of a tree
abbrev pub BeginsCount : List ℕ → List ℕ → Type 0
BeginsCount rest front = (cap : ℕ) × (behind : List ℕ) × (cap ≤ 65535) × (rest ≡ front ++ (decimal cap ++ 32 ∷ behind)) × BeginsNumber behind [] 4294967295

-- the line `router R` of this router; no line where there is none
abbrev pub IsRouterOf : Option (List ℕ) → List ℕ → Type 0
IsRouterOf router line = (name : List ℕ) × (router ≡ Some name) × (line ≡ router_line name)

-- the line of a router, not that of the cost line before, begins with these bytes
abbrev pub BeginsRouter : Option (List ℕ) → List ℕ → Type 0
BeginsRouter before rest = (name : List ℕ) × IsOneWord name × (before ≢ Some name) × IsLineFront rest (router_line name) × (length (router_line name) ≤ 65536)

-- the line of a further interface, which stands only behind a cost line, begins with these bytes
abbrev pub BeginsAgain : Option OtherText → Option (List ℕ) → List ℕ → Type 0
BeginsAgain text None rest = ⊥
BeginsAgain text (Some router) rest = BeginsLawful (AtInterface text router) rest

-- the line of one more cost begins with these bytes: that of another router, or of a further interface
abbrev pub BeginsNextCost : Option OtherText → Option (List ℕ) → List ℕ → Type 0
BeginsNextCost text before rest = BeginsRouter before rest ⊎ BeginsAgain text before rest

-- some line of a kind begins with these bytes
abbrev pub BeginsOne : (List ℕ → Type 0) → List ℕ → Type 0
BeginsOne kind rest = (more : List ℕ) × kind (rest ++ more)

-- the line that ends the sections begins with these bytes
abbrev pub BeginsEnd : Option OtherText → List ℕ → Type 0
BeginsEnd text rest = (more : List ℕ) × (next : TextPlace) × IsEndNext text (rest ++ more) next × (length (rest ++ more) ≤ 65536)

-- the line of a row
abbrev pub IsLineOfRow : List ℕ → Type 0
IsLineOfRow line = (row : Row) × BoundsRow row × (line ≡ row_line row)

-- the line of a row, of at most 65,536 bytes
abbrev pub IsShortRow : List ℕ → Type 0
IsShortRow line = IsLineOfRow line × (length line ≤ 65536)

-- the line of a row, and a space behind it, with room for one more edge
abbrev pub BeginsEdge : List ℕ → Type 0
BeginsEdge rest = (line : List ℕ) × IsLineOfRow line × (rest ≡ line ++ 32 ∷ []) × (length rest < 65536)

-- words that are decimal numbers of 32 bits
abbrev pub AreNumberWords : List (List ℕ) → Type 0
AreNumberWords words = (ns : List ℕ) × All IsIndex ns × (words ≡ map decimal ns)
