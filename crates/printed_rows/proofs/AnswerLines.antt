-- The text of an answer is in the grammar, and its lines are short enough.
use Rattle.std.proofs.Common.{ℕ, ◌^◌, ◌<◌, ◌≤◌, List, [], ◌∷◌, ◌++◌, map, length, true, false, arith, Bool}
use Rattle.std.specs.Prelude.{codes, All, Option, None, Some, if◌then◌else◌}
use Rattle.std.proofs.lemmas.List.Elements.{All-nil, All-cons, All-head, All-tail, All-append, All-map}
use Rattle.cost_base.specs.Decimal.{decimal}
use Rattle.cost_base.specs.Lists.{same_bytes}
use Rattle.design_problem.specs.declared.answer.Verdict.{Verdict}
use Rattle.design_problem.specs.declared.answer.Verdict.TheVariants.{Optimal, Impossible, Undecided}
use Rattle.design_problem.specs.declared.answer.Costs.{Costs}
use Rattle.design_problem.specs.declared.answer.CostLine.{CostLine}
use Rattle.design_problem.specs.declared.answer.Floor.{Floor}
use Rattle.design_problem.specs.declared.answer.Floor.TheVariants.{Absent, Empty, Var}
use Rattle.design_problem.specs.declared.answer.CapTree.{CapTree}
use Rattle.design_problem.specs.declared.form.Row.{Row}
use Rattle.design_problem.specs.declared.tree.Entry.{Entry}
use Rattle.design_problem.specs.Answers.{AnswerParts}
use Rattle.design_problem.specs.Text.{spaced, verdict_words, router_lines, cost_lines, costs_lines, floor_word, row_line, entry_line, tree_lines, answer_lines, FitsCosts, FitsTree, FitsAnswer}
use Rattle.printed_rows.specs.FittingTexts.{FitText, IsTextLine}
use Rattle.printed_rows.specs.PrintedCosts.{IsNamedCost}
use Rattle.printed_rows.proofs.TreeLines.{IsPrintable, spaced-le, thing_digits, cost_digits, row_digits}

-- the number of a verdict is a cost
abbrev pub FitsVerdict : Verdict → Type 0
FitsVerdict (Optimal k) = k ≤ 65535
FitsVerdict Impossible = Unit {0}
FitsVerdict (Undecided cap) = cap ≤ 65535

-- the variable of a floor is below 2 ^ 32
abbrev pub FitsFloor : Floor → Type 0
FitsFloor Absent = Unit {0}
FitsFloor Empty = Unit {0}
FitsFloor (Var v) = v < 2 ^ 32

-- costs that can be printed
abbrev pub CanPrintCosts : Option Costs → Type 0
CanPrintCosts None = Unit {0}
CanPrintCosts (Some costs) = All IsNamedCost costs.lines × (costs.greatest ≤ 65535)

abbrev pub CanPrintTree : Option CapTree → Type 0
CanPrintTree None = Unit {0}
CanPrintTree (Some t) = IsPrintable t

-- two words, the first of at most 20 bytes and the second of at most 4,096
pub two_words : (word next : List ℕ) → length word ≤ 20 → length next ≤ 4096 → IsTextLine (spaced (word ∷ next ∷ []))
two_words word next small more = let words = spaced-le (word ∷ next ∷ []) in omega arith

cost_short : (cost : ℕ) → cost ≤ 65535 → IsTextLine (spaced (codes " ip" ∷ codes "ospf" ∷ codes "cost" ∷ decimal cost ∷ []))
cost_short cost most = let words = spaced-le (codes " ip" ∷ codes "ospf" ∷ codes "cost" ∷ decimal cost ∷ []) in omega (arith, cost_digits cost most)

verdict_short : (verdict : Verdict) → FitsVerdict verdict → IsTextLine (spaced (codes "verdict" ∷ verdict_words verdict))
verdict_short (Optimal k) fits = let words = spaced-le (codes "verdict" ∷ codes "optimal" ∷ decimal k ∷ []) in omega (arith, cost_digits k fits)
verdict_short Impossible fits = omega arith
verdict_short (Undecided cap) fits = let words =
    spaced-le (codes "verdict" ∷ codes "undecided" ∷ codes "budget" ∷ decimal cap ∷ []) in
    omega (arith, cost_digits cap fits)

floor_short : (floor : Floor) → FitsFloor floor → IsTextLine (spaced (codes "floor" ∷ floor_word floor ∷ []))
floor_short Absent fits = omega arith
floor_short Empty fits = omega arith
floor_short (Var v) fits = two_words (codes "floor") (decimal v) (omega arith) (omega (arith, thing_digits v fits))

-- the line of a router, or none
router_short : (before : Option (List ℕ)) (router : List ℕ) → length router ≤ 4096 → All IsTextLine (router_lines before router)
router_short None router few = All-cons IsTextLine (spaced (codes "router" ∷ router ∷ [])) [] (two_words (codes "router") router (omega arith) few) (All-nil IsTextLine)
router_short (Some before) router few = unless (same_bytes before router)
  where
    unless : (same : Bool) → All IsTextLine (if same then [] else spaced (codes "router" ∷ router ∷ []) ∷ [])
    unless true = All-nil IsTextLine
    unless false = All-cons IsTextLine (spaced (codes "router" ∷ router ∷ [])) [] (two_words (codes "router") router (omega arith) few) (All-nil IsTextLine)

-- the lines of the costs
cost_lines_short : (before : Option (List ℕ)) (lines : List CostLine) → All IsNamedCost lines → All IsTextLine (cost_lines before lines)
cost_lines_short before [] named = All-nil IsTextLine
cost_lines_short before (line ∷ lines) named =
    let here : IsNamedCost line = All-head IsNamedCost line lines named in
    let name = spaced (codes "interface" ∷ line.interface ∷ []) in
    let cost = spaced (codes " ip" ∷ codes "ospf" ∷ codes "cost" ∷ decimal line.cost ∷ []) in
    let more = cost_lines (Some line.router) lines in
    All-append IsTextLine (router_lines before line.router) (name ∷ cost ∷ codes "exit" ∷ more) (router_short before line.router here.0.short)
    (All-cons IsTextLine name (cost ∷ codes "exit" ∷ more) (two_words (codes "interface") line.interface (omega arith) here.1.short)
    (All-cons IsTextLine cost (codes "exit" ∷ more) (cost_short line.cost here.3)
    (All-cons IsTextLine (codes "exit") more (omega arith) (cost_lines_short (Some line.router) lines (All-tail IsNamedCost line lines named)))))

pub costs_short : (costs : Option Costs) → CanPrintCosts costs → All IsTextLine (costs_lines costs)
costs_short None can = All-cons IsTextLine (codes "costs none") [] (omega arith) (All-nil IsTextLine)
costs_short (Some costs) can =
    All-cons IsTextLine (spaced (codes "costs" ∷ decimal costs.greatest ∷ [])) (cost_lines None costs.lines)
    (two_words (codes "costs") (decimal costs.greatest) (omega arith)
    (omega (arith, cost_digits costs.greatest can.1)))
    (cost_lines_short None costs.lines can.0)

-- such costs are in the grammar
pub costs_fit : (costs : Option Costs) → CanPrintCosts costs → FitsCosts costs
costs_fit None can = tt
costs_fit (Some costs) can = λ k d k_in. let here = can.0 k d k_in in record { router = here.0.word; interface = here.1.word; cost = here.2 }

pub trees_short : (word : List ℕ) (t : Option CapTree) → length word ≤ 20 → CanPrintTree t → All IsTextLine (tree_lines word t)
trees_short word None small can = All-cons IsTextLine (spaced (word ∷ codes "none" ∷ [])) [] (two_words word (codes "none") small (omega arith)) (All-nil IsTextLine)
trees_short word (Some t) small can =
    let words = spaced-le (word ∷ decimal t.cap ∷ decimal (length t.tree) ∷ []) in
    All-cons IsTextLine (spaced (word ∷ decimal t.cap ∷ decimal (length t.tree) ∷ [])) (map entry_line t.tree)
    (omega (arith, cost_digits t.cap can.cap, thing_digits (length t.tree) can.count))
    (All-map IsTextLine entry_line t.tree can.lines)

pub tree_fits : (t : Option CapTree) → CanPrintTree t → FitsTree t
tree_fits None can = tt
tree_fits (Some t) can = record { count = can.count; entries = can.entries }

-- the lines of the rows
pub rows_lines_short : {R : Type 0} (line_of : R → List ℕ) (rows : List R) → length rows < 2 ^ 64 →
    All (λ row. IsTextLine (line_of row)) rows → All IsTextLine (spaced (codes "rows" ∷ decimal (length rows) ∷ []) ∷ map line_of rows)
rows_lines_short line_of rows few short =
    All-cons IsTextLine (spaced (codes "rows" ∷ decimal (length rows) ∷ [])) (map line_of rows)
    (two_words (codes "rows") (decimal (length rows)) (omega arith) (omega (arith, row_digits (length rows) few)))
    (All-map IsTextLine line_of rows short)

-- rows of short lines fit a text, with a tree that can be printed
pub fit_text : {R : Type 0} (line_of : R → List ℕ) (cap : ℕ) (rows : List R) (tree : List Entry) → length rows < 2 ^ 64 →
    All (λ row. IsTextLine (line_of row)) rows → IsPrintable (record { cap = cap; tree = tree }) → FitText line_of cap rows tree
fit_text line_of cap rows tree few short printable = record {
  rows_fit = rows_lines_short line_of rows few short;
  proof_fits = trees_short (codes "proof") (Some (record { cap = cap; tree = tree })) (omega arith) printable;
  open_fits = trees_short (codes "open") (Some (record { cap = cap; tree = tree })) (omega arith) printable;
}

pub rows_part : (floor : Floor) (rows : List Row) → FitsFloor floor → length rows < 2 ^ 64 → All (λ row. IsTextLine (row_line row)) rows →
    All IsTextLine (spaced (codes "floor" ∷ floor_word floor ∷ []) ∷ spaced (codes "rows" ∷ decimal (length rows) ∷ []) ∷ map row_line rows)
rows_part floor rows fits few short =
    All-cons IsTextLine (spaced (codes "floor" ∷ floor_word floor ∷ []))
    (spaced (codes "rows" ∷ decimal (length rows) ∷ []) ∷ map row_line rows) (floor_short floor fits)
    (rows_lines_short row_line rows few short)

lines_short : (a : AnswerParts) → FitsVerdict a.verdict → CanPrintCosts a.costs → FitsFloor a.floor →
    length a.rows < 2 ^ 64 → All (λ row. IsTextLine (row_line row)) a.rows → CanPrintTree a.proof →
    CanPrintTree a.undecided → All IsTextLine (answer_lines a)
lines_short a verdict costs floor few rows proof undecided =
    let first = codes "ospfcost answer 1" ∷ spaced (codes "verdict" ∷ verdict_words a.verdict) ∷ [] in
    let second = costs_lines a.costs in
    let third = spaced (codes "floor" ∷ floor_word a.floor ∷ []) ∷ spaced (codes "rows" ∷ decimal (length a.rows) ∷ []) ∷ map row_line a.rows in
    let fourth = tree_lines (codes "proof") a.proof in
    let fifth = tree_lines (codes "open") a.undecided in
    let last = codes "wide none" ∷ codes "end" ∷ [] in
    All-append IsTextLine (first ++ second ++ third ++ fourth ++ fifth) last
    (All-append IsTextLine (first ++ second ++ third ++ fourth) fifth
    (All-append IsTextLine (first ++ second ++ third) fourth
    (All-append IsTextLine (first ++ second) third
    (All-append IsTextLine first second
    (All-cons IsTextLine (codes "ospfcost answer 1") (spaced (codes "verdict" ∷ verdict_words a.verdict) ∷ []) (omega arith)
    (All-cons IsTextLine (spaced (codes "verdict" ∷ verdict_words a.verdict)) [] (verdict_short a.verdict verdict) (All-nil IsTextLine)))
    (costs_short a.costs costs))
    (rows_part a.floor a.rows floor few rows))
    (trees_short (codes "proof") a.proof (omega arith) proof))
    (trees_short (codes "open") a.undecided (omega arith) undecided))
    (All-cons IsTextLine (codes "wide none") (codes "end" ∷ []) (omega arith) (All-cons IsTextLine (codes "end") [] (omega arith) (All-nil IsTextLine)))

-- an answer of parts that can be printed keeps what every answer keeps
pub answer_kept : (a : AnswerParts) → FitsVerdict a.verdict → CanPrintCosts a.costs → FitsFloor a.floor →
    length a.rows < 2 ^ 64 → All (λ row. IsTextLine (row_line row)) a.rows → CanPrintTree a.proof →
    CanPrintTree a.undecided → FitsAnswer a
answer_kept a verdict costs floor few rows proof undecided = record {
  costs = costs_fit a.costs costs;
  proof = tree_fits a.proof proof;
  undecided = tree_fits a.undecided undecided;
  lines = lines_short a verdict costs floor few rows proof undecided;
}
