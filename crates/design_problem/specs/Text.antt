-- The text of an answer, as a function of the answer.
use Rattle.std.specs.Prelude.{◌≡◌, ◌≢◌, ℕ, ◌+◌, ◌^◌, ◌<◌, ◌≤◌, List, [], ◌∷◌, ◌++◌, ℤ, pos, negsuc, nat_abs, map, length, codes, Option, None, Some, All, if◌then◌else◌}
use Rattle.std.specs.List.{join_with_byte, concat}
use Rattle.cost_base.specs.Decimal.{decimal}
use Rattle.cost_base.specs.Lists.{same_bytes}
use Rattle.cost_base.specs.Words.{IsOneWord}
use Rattle.cost_base.specs.declared.StepName.{StepName}
use Rattle.cost_base.specs.declared.StepName.TheVariants.{Add, Sub, Mul, Div, Lcm, Scale}
use Rattle.cost_base.specs.declared.Ratio.{Ratio}
use Rattle.design_problem.specs.declared.form.Row.{Row}
use Rattle.design_problem.specs.declared.tree.Side.{Side}
use Rattle.design_problem.specs.declared.tree.Side.TheVariants.{Low as LowSide, High as HighSide}
use Rattle.design_problem.specs.declared.tree.Member.{Member}
use Rattle.design_problem.specs.declared.tree.Member.TheVariants.{Low as ByLow, High as ByHigh, Row as ByRow}
use Rattle.design_problem.specs.declared.tree.Entry.{Entry}
use Rattle.design_problem.specs.declared.tree.Entry.TheVariants.{Tighten, Split, Halve, Refute, Undone}
use Rattle.design_problem.specs.declared.answer.Verdict.{Verdict}
use Rattle.design_problem.specs.declared.answer.Verdict.TheVariants.{Optimal, Impossible, Undecided}
use Rattle.design_problem.specs.declared.answer.Costs.{Costs}
use Rattle.design_problem.specs.declared.answer.CostLine.{CostLine}
use Rattle.design_problem.specs.declared.answer.Floor.{Floor}
use Rattle.design_problem.specs.declared.answer.Floor.TheVariants.{Absent, Empty, Var}
use Rattle.design_problem.specs.declared.answer.CapTree.{CapTree}
use Rattle.whole_numbers.specs.Fractions.{Fraction, IsLowest}
use Rattle.design_problem.specs.Steps.{ratio_of}
use Rattle.design_problem.specs.Answers.{AnswerParts}

-- words with one space between each two
abbrev pub spaced : List (List ℕ) → List ℕ
spaced words = join_with_byte 32 words

-- the words behind `verdict`: `optimal K`, `impossible` or `undecided budget CAP`
abbrev pub verdict_words : Verdict → List (List ℕ)
verdict_words (Optimal k) = codes "optimal" ∷ decimal k ∷ []
verdict_words Impossible = codes "impossible" ∷ []
verdict_words (Undecided cap) = codes "undecided" ∷ codes "budget" ∷ decimal cap ∷ []

-- the line of an answer's verdict
abbrev pub verdict_line : Verdict → List ℕ
verdict_line verdict = spaced (codes "verdict" ∷ verdict_words verdict)

-- the first two lines of an answer: its header and its verdict
abbrev pub head_lines : Verdict → List (List ℕ)
head_lines verdict = codes "ospfcost answer 1" ∷ verdict_line verdict ∷ []

-- the line `router R` of a section
abbrev pub router_line : List ℕ → List ℕ
router_line name = spaced (codes "router" ∷ name ∷ [])

-- the line `interface IF` of a section
abbrev pub interface_line : List ℕ → List ℕ
interface_line name = spaced (codes "interface" ∷ name ∷ [])

-- the line ` ip ospf cost N` of a section
abbrev pub answer_cost_line : ℕ → List ℕ
answer_cost_line cost = spaced (codes " ip" ∷ codes "ospf" ∷ codes "cost" ∷ decimal cost ∷ [])

-- the lines that a cost line prints behind the line of its router
abbrev pub interface_lines : CostLine → List (List ℕ)
interface_lines line = interface_line line.interface ∷ answer_cost_line line.cost ∷ codes "exit" ∷ []

-- the router's line, unless it is that of the cost line before
abbrev pub router_lines : Option (List ℕ) → List ℕ → List (List ℕ)
router_lines None router = router_line router ∷ []
router_lines (Some before) router = if same_bytes before router then [] else router_line router ∷ []

-- the lines of costs: `router R` where it changes, then `interface IF`, ` ip ospf cost N` and `exit`
abbrev pub cost_lines : Option (List ℕ) → List CostLine → List (List ℕ)
cost_lines before [] = []
cost_lines before (line ∷ lines) =
    router_lines before line.router ++ (interface_lines line ++ cost_lines (Some line.router) lines)

-- the line `costs K` of an answer, K being the greatest cost
abbrev pub costs_line : ℕ → List ℕ
costs_line greatest = spaced (codes "costs" ∷ decimal greatest ∷ [])

-- the section of costs: `costs K` with its lines, or `costs none`
abbrev pub costs_lines : Option Costs → List (List ℕ)
costs_lines None = codes "costs none" ∷ []
costs_lines (Some costs) = costs_line costs.greatest ∷ cost_lines None costs.lines

-- the word behind `floor`: a variable's number, `empty` or `none`
abbrev pub floor_word : Floor → List ℕ
floor_word Absent = codes "none"
floor_word Empty = codes "empty"
floor_word (Var v) = decimal v

-- the line of an answer's floor
abbrev pub floor_line : Floor → List ℕ
floor_line floor = spaced (codes "floor" ∷ floor_word floor ∷ [])

-- the line `rows N`, which counts the rows of a text
abbrev pub rows_line : ℕ → List ℕ
rows_line count = spaced (codes "rows" ∷ decimal count ∷ [])

-- `row`, the number of a request, and the edges of its rival
abbrev pub row_line : Row → List ℕ
row_line row = spaced (codes "row" ∷ decimal row.request ∷ map decimal row.rival)

-- the part of rows in a text: the line that counts them, and a line for each
abbrev pub rows_lines : List Row → List (List ℕ)
rows_lines rows = rows_line (length rows) ∷ map row_line rows

-- the word that a side is written as: `low` or `high`
abbrev pub side_word : Side → List ℕ
side_word LowSide = codes "low"
side_word HighSide = codes "high"

-- the word of a step of arithmetic
abbrev pub step_word : StepName → List ℕ
step_word Add = codes "add"
step_word Sub = codes "sub"
step_word Mul = codes "mul"
step_word Div = codes "div"
step_word Lcm = codes "lcm"
step_word Scale = codes "scale"

-- a whole number in decimal, with `-` where it is negative
abbrev pub integer : ℤ → List ℕ
integer (pos n) = decimal n
integer (negsuc n) = 45 ∷ decimal (n + 1)

-- a fraction as `NUMERATOR/DENOMINATOR`
abbrev pub ratio_word : Ratio → List ℕ
ratio_word q = integer q.numerator ++ 47 ∷ integer q.denominator

-- a member of a basis: `low V BOUND`, `high V BOUND` or `row R`
abbrev pub member_words : Member → List (List ℕ)
member_words (ByLow v bound) = codes "low" ∷ decimal v ∷ decimal bound ∷ []
member_words (ByHigh v bound) = codes "high" ∷ decimal v ∷ decimal bound ∷ []
member_words (ByRow row) = codes "row" ∷ decimal row ∷ []

-- the members of a basis, one after another
abbrev pub members_words : List Member → List (List ℕ)
members_words [] = []
members_words (member ∷ members) = member_words member ++ members_words members

-- the row numbers and multipliers of a Refute, one after another
abbrev pub multiplier_words : List (ℕ × ℕ) → List (List ℕ)
multiplier_words [] = []
multiplier_words (part ∷ parts) = decimal part.0 ∷ decimal part.1 ∷ multiplier_words parts

-- the line of an entry: `tighten`, `split`, `halve` or `refute` with its numbers, or `open`
abbrev pub entry_line : Entry → List ℕ
entry_line (Tighten v side bound row) = spaced (codes "tighten" ∷ decimal v ∷ side_word side ∷ decimal bound ∷ decimal row ∷ [])
entry_line (Split v bound) = spaced (codes "split" ∷ decimal v ∷ decimal bound ∷ [])
entry_line (Halve v bound wide) =
    spaced (codes "halve" ∷ decimal v ∷ decimal bound ∷ step_word wide.step ∷ ratio_word wide.left ∷ ratio_word wide.right ∷ members_words wide.basis)
entry_line (Refute parts) = spaced (codes "refute" ∷ multiplier_words parts)
entry_line Undone = codes "open"

-- the line of a part that has nothing: its word and `none`
abbrev pub none_line : List ℕ → List ℕ
none_line word = spaced (word ∷ codes "none" ∷ [])

-- the first line of a part with a tree: its word, the cap, and how many lines follow
abbrev pub tree_head : List ℕ → ℕ → ℕ → List ℕ
tree_head word cap count = spaced (word ∷ decimal cap ∷ decimal count ∷ [])

-- a tree's line with its cap and its number of entries, and a line for each entry; or `none`
abbrev pub tree_lines : List ℕ → Option CapTree → List (List ℕ)
tree_lines word None = none_line word ∷ []
tree_lines word (Some t) = tree_head word t.cap (length t.tree) ∷ map entry_line t.tree

-- the last two lines of an answer
abbrev pub end_lines : List (List ℕ)
end_lines = codes "wide none" ∷ codes "end" ∷ []

-- the lines of an answer's text: header, verdict, costs, floor, rows, proof, undecided tree and end
abbrev pub answer_lines : AnswerParts → List (List ℕ)
answer_lines a =
    head_lines a.verdict
    ++ costs_lines a.costs
    ++ (floor_line a.floor ∷ rows_lines a.rows)
    ++ tree_lines (codes "proof") a.proof
    ++ tree_lines (codes "open") a.undecided
    ++ end_lines

-- the text of an answer: each of its lines with an LF
abbrev pub text : AnswerParts → List ℕ
text a = concat (map (λ line. line ++ 10 ∷ []) (answer_lines a))

-- a fraction as it is printed: in lowest terms, its two numbers of at most 127 bits
pub record IsPrintedRatio (q : Ratio) : Type 0 where
  pub fraction : Fraction
  pub same : q ≡ ratio_of fraction
  pub lowest : IsLowest fraction
  pub numerator : nat_abs fraction.numerator < 2 ^ 127
  pub denominator : fraction.denominator < 2 ^ 127

-- a Halve's fractions are printed ones, and its basis names a member; a Refute has a part, and multipliers of at most
-- 31 digits
abbrev pub FitsEntry : Entry → Type 0
FitsEntry (Tighten v side bound row) = Unit {0}
FitsEntry (Split v bound) = Unit {0}
FitsEntry (Halve v bound wide) = IsPrintedRatio wide.left × IsPrintedRatio wide.right × (wide.basis ≢ [])
FitsEntry (Refute parts) = (parts ≢ []) × All (λ part. part.1 < 10 ^ 31) parts
FitsEntry Undone = Unit {0}

-- a tree can be printed: it has fewer than 2^32 lines, and each of them fits
pub record FitsTreeLines (t : CapTree) : Type 0 where
  pub count : length t.tree < 2 ^ 32
  pub entries : All FitsEntry t.tree

-- a tree, where there is one, can be printed
abbrev pub FitsTree : Option CapTree → Type 0
FitsTree None = Unit {0}
FitsTree (Some t) = FitsTreeLines t

-- a line of costs has names of one word, and a cost from 1
pub record FitsCostLine (line : CostLine) : Type 0 where
  pub router : IsOneWord line.router
  pub interface : IsOneWord line.interface
  pub cost : 0 < line.cost

-- costs, where there are some, can be printed
abbrev pub FitsCosts : Option Costs → Type 0
FitsCosts None = Unit {0}
FitsCosts (Some costs) = All FitsCostLine costs.lines

-- what every answer keeps: its text is in the grammar, and no line of it passes 65,536 bytes
pub record FitsAnswer (a : AnswerParts) : Type 0 where
  pub costs : FitsCosts a.costs
  pub proof : FitsTree a.proof
  pub undecided : FitsTree a.undecided
  pub lines : All (λ line. length line ≤ 65536) (answer_lines a)
