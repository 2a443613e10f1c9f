-- The grammar of an answer's text, line by line: which lines may stand at a place, and where each leads; and that of
-- the other texts of which costs are read, those of `total`, `spread` and `change`.
use Rattle.std.specs.Prelude.{◌≡◌, ◌≢◌, ℕ, zero, suc, ◌+◌, ◌<◌, ◌≤◌, ◌⊎◌, List, [], ◌∷◌, ◌++◌, if◌then◌else◌, codes, Option, Some, None}
use Rattle.cost_base.specs.Decimal.{decimal}
use Rattle.cost_base.specs.Lists.{same_bytes}
use Rattle.cost_base.specs.Words.{IsOneWord}
use Rattle.text_lines.specs.Lines.{IsOneLine}
use Rattle.design_problem.specs.declared.form.Row.{Row}
use Rattle.design_problem.specs.declared.tree.Entry.{Entry}
use Rattle.design_problem.specs.declared.answer.Verdict.{Verdict}
use Rattle.design_problem.specs.declared.answer.Floor.{Floor}
use Rattle.design_problem.specs.AnswerRanges.{IsIndex, IsCost, IsRowNumber, BoundsVerdict, BoundsFloor, BoundsRow, BoundsEntry}
use Rattle.design_problem.specs.Text.{router_line, spaced, row_line, entry_line, FitsEntry, verdict_line, costs_line, interface_line, answer_cost_line, floor_line, rows_line}
use Rattle.design_problem.specs.Trees.{subtree_count}
use Rattle.evidence_text.specs.Parts.{no_tree_line, tree_line}
use Rattle.evidence_text.specs.declared.TreePart.{TreePart}
use Rattle.evidence_text.specs.declared.TreePart.TheVariants.{Proof, Undecided}
use Rattle.answer_lines.specs.declared.other_text.OtherText.{OtherText}
use Rattle.answer_lines.specs.declared.other_text.OtherText.TheVariants.{Total, Spread, Change}

-- a place between two lines
pub data TextPlace : Type 0 where
  -- before the first line, and behind it
  AtHead : TextPlace
  AtVerdict : TextPlace
  AtCosts : TextPlace
  -- among the sections of an answer, or of another text, with the router of the cost line before
  AtSections : Option OtherText → Option (List ℕ) → TextPlace
  -- behind the line of a router, of an interface, and of a cost, each with its router
  AtInterface : Option OtherText → List ℕ → TextPlace
  AtCost : Option OtherText → List ℕ → TextPlace
  AtExit : Option OtherText → List ℕ → TextPlace
  -- behind `costs none`
  AtFloor : TextPlace
  AtRows : TextPlace
  -- among the rows, with how many are still announced
  AtRow : ℕ → TextPlace
  -- among the lines of a tree, with its open places and how many lines are still announced
  AtTree : TreePart → ℕ → ℕ → TextPlace
  AtEnd : TextPlace
  AfterEnd : TextPlace
  -- before the first line of another text, in `total`'s before that of the answer inside, before the verdict and the
  -- costs
  AtOtherHead : OtherText → TextPlace
  AtInnerHead : TextPlace
  AtOtherVerdict : OtherText → TextPlace
  AtOtherCosts : OtherText → TextPlace
  -- behind the line that there are no costs, where the line has to stand that ends the sections
  AtSectionsEnd : OtherText → TextPlace
  -- among the lines that nobody reads, with how many lines `end` still stand before the last one
  AtUnread : ℕ → TextPlace

-- the line of a router that isn't that of the cost line before, which leads to an interface
pub record IsRouterNext (text : Option OtherText) (before : Option (List ℕ)) (line : List ℕ) (next : TextPlace) : Type 0 where
  pub name : List ℕ
  pub word : IsOneWord name
  pub other : before ≢ Some name
  pub is : line ≡ router_line name
  pub leads : next ≡ AtInterface text name

-- the line of an interface of a router, which leads to its cost
pub record IsInterfaceNext (text : Option OtherText) (router line : List ℕ) (next : TextPlace) : Type 0 where
  pub name : List ℕ
  pub word : IsOneWord name
  pub is : line ≡ interface_line name
  pub leads : next ≡ AtCost text router

-- the line of a floor, which leads to the rows
pub record IsFloorNext (line : List ℕ) (next : TextPlace) : Type 0 where
  pub floor : Floor
  pub bounds : BoundsFloor floor
  pub is : line ≡ floor_line floor
  pub leads : next ≡ AtRows

-- the line of a further interface of a router, which stands only behind a cost line
abbrev pub IsInterfaceAgain : Option OtherText → Option (List ℕ) → List ℕ → TextPlace → Type 0
IsInterfaceAgain text None line next = ⊥
IsInterfaceAgain text (Some router) line next = IsInterfaceNext text router line next

-- the cost of an interface, which leads to `exit`
pub record IsCostNext (text : Option OtherText) (router line : List ℕ) (next : TextPlace) : Type 0 where
  pub cost : ℕ
  pub some : 0 < cost
  pub bounds : IsCost cost
  pub is : line ≡ answer_cost_line cost
  pub leads : next ≡ AtExit text router

-- the line of a verdict, which leads to the costs
pub record IsVerdictNext (line : List ℕ) (next : TextPlace) : Type 0 where
  pub verdict : Verdict
  pub bounds : BoundsVerdict verdict
  pub is : line ≡ verdict_line verdict
  pub leads : next ≡ AtCosts

-- the line `costs K`, which leads to the sections
pub record IsGreatestNext (line : List ℕ) (next : TextPlace) : Type 0 where
  pub greatest : ℕ
  pub bounds : IsCost greatest
  pub is : line ≡ costs_line greatest
  pub leads : next ≡ AtSections None None

-- the line that counts the rows, which leads among them
pub record IsRowsNext (line : List ℕ) (next : TextPlace) : Type 0 where
  pub count : ℕ
  pub bounds : IsRowNumber count
  pub is : line ≡ rows_line count
  pub leads : next ≡ AtRow count

-- the line of a row, behind which so many rows are still announced
pub record IsRowNext (left : ℕ) (line : List ℕ) (next : TextPlace) : Type 0 where
  pub row : Row
  pub bounds : BoundsRow row
  pub is : line ≡ row_line row
  pub leads : next ≡ AtRow left

-- the first line of a part with a tree, behind which one place is open
pub record IsTreeNext (part : TreePart) (line : List ℕ) (next : TextPlace) : Type 0 where
  pub cap : ℕ
  pub count : ℕ
  pub cap_bounds : IsCost cap
  pub count_bounds : IsIndex count
  pub is : line ≡ tree_line part cap count
  pub leads : next ≡ AtTree part 1 count

-- the first line of a part: without a tree it leads where the end of a tree does, else to the tree's first place
abbrev pub IsPartNext : TreePart → List ℕ → TextPlace → Type 0
IsPartNext part line next = ((line ≡ no_tree_line part) × (next ≡ AtTree part 0 0)) ⊎ IsTreeNext part line next

-- a tree line takes the first open place away, and opens one for each of its subtrees
pub record IsEntryNext (part : TreePart) (places left : ℕ) (line : List ℕ) (next : TextPlace) : Type 0 where
  pub entry : Entry
  pub bounds : BoundsEntry entry
  pub fits : FitsEntry entry
  pub is : line ≡ entry_line entry
  pub leads : next ≡ AtTree part (subtree_count entry + places) left

-- bytes with a number behind them, at most the greatest
abbrev pub IsFrontAndNumber : List ℕ → ℕ → List ℕ → Type 0
IsFrontAndNumber front greatest line = (n : ℕ) × (n ≤ greatest) × (line ≡ front ++ decimal n)

-- the first line of an answer's text
abbrev pub answer_head : List ℕ
answer_head = codes "ospfcost answer 1"

-- the first line of another text
abbrev pub other_head : OtherText → List ℕ
other_head Total = codes "ospfcost total 1"
other_head Spread = codes "ospfcost spread answer 1"
other_head Change = codes "ospfcost change 1"

-- where the first line leads: in `total`'s text to that of the answer inside, else to the verdict
abbrev pub behind_other_head : OtherText → TextPlace
behind_other_head Total = AtInnerHead
behind_other_head text = AtOtherVerdict text

-- a verdict without costs, or one that is undecided, in the texts of `spread` and `change`
abbrev pub IsPlainVerdict : List ℕ → Type 0
IsPlainVerdict line = (line ≡ codes "verdict impossible") ⊎ (line ≡ codes "verdict undecided")

-- the line of the verdict in another text; in `total`'s it is an answer's
abbrev pub IsOtherVerdict : OtherText → List ℕ → Type 0
IsOtherVerdict Total line = (verdict : Verdict) × BoundsVerdict verdict × (line ≡ verdict_line verdict)
IsOtherVerdict Spread line = (line ≡ codes "verdict fit") ⊎ IsPlainVerdict line
IsOtherVerdict Change line = IsFrontAndNumber (codes "verdict fewest ") 4294967295 line ⊎ IsPlainVerdict line

-- the word before the costs of another text, with a space behind it
abbrev pub costs_front : OtherText → List ℕ
costs_front Change = codes "changes "
costs_front text = codes "costs "

-- the line that another text has no costs
abbrev pub no_costs_line : OtherText → List ℕ
no_costs_line text = costs_front text ++ codes "none"

-- the greatest number behind the word for costs of another text: a cost, or how many cost lines there are
abbrev pub greatest_of_costs : OtherText → ℕ
greatest_of_costs Change = 4294967295
greatest_of_costs text = 65535

-- the line that ends the sections of another text: that of the floor in `total`'s, else that of the number of rows
abbrev pub IsSectionsEnd : OtherText → List ℕ → Type 0
IsSectionsEnd Total line = (floor : Floor) × BoundsFloor floor × (line ≡ floor_line floor)
IsSectionsEnd text line = IsFrontAndNumber (codes "rows ") 18446744073709551615 line

-- how many lines `end` stand before the last one: in `total`'s text that of the answer inside
abbrev pub inner_ends : OtherText → ℕ
inner_ends Total = 1
inner_ends text = 0

-- the line that ends the sections, and where it leads: in an answer to the rows, in another text among lines that
-- nobody reads
abbrev pub IsEndNext : Option OtherText → List ℕ → TextPlace → Type 0
IsEndNext None line next = IsFloorNext line next
IsEndNext (Some text) line next = IsSectionsEnd text line × (next ≡ AtUnread (inner_ends text))

-- the place behind a line `end` that so many others still follow
abbrev pub behind_end : ℕ → TextPlace
behind_end zero = AfterEnd
behind_end (suc more) = AtUnread more

-- the place behind a line that nobody reads
abbrev pub behind_unread : ℕ → List ℕ → TextPlace
behind_unread more line = if same_bytes line (codes "end") then behind_end more else AtUnread more

-- the lines that are in the grammar at a place, and where they lead. Nothing is where a tree has lines left over and no
-- open place, or the other way round.
abbrev pub Next : TextPlace → List ℕ → TextPlace → Type 0
Next AtHead line next = (line ≡ answer_head) × (next ≡ AtVerdict)
Next AtVerdict line next = IsVerdictNext line next
Next AtCosts line next = ((line ≡ codes "costs none") × (next ≡ AtFloor)) ⊎ IsGreatestNext line next
Next AtFloor line next = IsFloorNext line next
Next (AtSections text before) line next = IsRouterNext text before line next ⊎ IsInterfaceAgain text before line next ⊎ IsEndNext text line next
Next (AtInterface text router) line next = IsInterfaceNext text router line next
Next (AtCost text router) line next = IsCostNext text router line next
Next (AtExit text router) line next = (line ≡ codes "exit") × (next ≡ AtSections text (Some router))
Next AtRows line next = IsRowsNext line next
Next (AtRow zero) line next = IsPartNext Proof line next
Next (AtRow (suc left)) line next = IsRowNext left line next
Next (AtTree part (suc places) (suc left)) line next = IsEntryNext part places left line next
Next (AtTree part zero (suc left)) line next = ⊥
Next (AtTree part (suc places) zero) line next = ⊥
Next (AtTree Proof zero zero) line next = IsPartNext Undecided line next
Next (AtTree Undecided zero zero) line next = (line ≡ codes "wide none") × (next ≡ AtEnd)
Next AtEnd line next = (line ≡ codes "end") × (next ≡ AfterEnd)
Next AfterEnd line next = ⊥
Next (AtOtherHead text) line next = (line ≡ other_head text) × (next ≡ behind_other_head text)
Next AtInnerHead line next = (line ≡ answer_head) × (next ≡ AtOtherVerdict Total)
Next (AtOtherVerdict text) line next = IsOtherVerdict text line × (next ≡ AtOtherCosts text)
Next (AtOtherCosts text) line next =
    ((line ≡ no_costs_line text) × (next ≡ AtSectionsEnd text))
    ⊎ (IsFrontAndNumber (costs_front text) (greatest_of_costs text) line × (next ≡ AtSections (Some text) None))
Next (AtSectionsEnd text) line next = IsEndNext (Some text) line next
Next (AtUnread more) line next = IsOneLine line × (next ≡ behind_unread more line)
