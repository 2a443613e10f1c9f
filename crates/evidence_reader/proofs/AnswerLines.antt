-- No line of an answer holds an LF.
use Rattle.std.proofs.Common.{ℕ, List, [], ◌∷◌, ◌++◌, All, length, map, codes, Bool, cond, true, false, Option, Some, None, refl}
use Rattle.std.proofs.lemmas.List.Elements.{All-nil, All-cons, All-head, All-tail, All-append}
use Rattle.cost_base.specs.Decimal.{decimal}
use Rattle.cost_base.specs.Lists.{same_bytes}
use Rattle.design_problem.specs.declared.form.Row.{Row}
use Rattle.design_problem.specs.declared.tree.Entry.{Entry}
use Rattle.design_problem.specs.declared.answer.Costs.{Costs}
use Rattle.design_problem.specs.declared.answer.CostLine.{CostLine}
use Rattle.design_problem.specs.declared.answer.CapTree.{CapTree}
use Rattle.design_problem.specs.Answers.{AnswerParts}
use Rattle.design_problem.specs.Text.{spaced, verdict_words, router_lines, cost_lines, costs_lines, floor_word, row_line, entry_line, tree_lines, FitsCostLine, FitsCosts, verdict_line, costs_line, interface_line, answer_cost_line, floor_line, rows_line, end_lines, router_line}
use Rattle.text_lines.specs.Lines.{IsOneLine}
use Rattle.text_lines.proofs.WordLaws.{word-line}
use Rattle.evidence_text.proofs.AnswerOrder.{ordered, after_proof, after_rows, after_floor, after_costs, after_head}
use Rattle.evidence_reader.proofs.WholeWords.{written, spaced-whole, number-whole, numbers-whole, verdict-whole, floor-whole, entry-line}

entry-lines : (entries : List Entry) → All IsOneLine (map entry_line entries)
entry-lines [] = All-nil IsOneLine
entry-lines (entry ∷ entries) = All-cons IsOneLine (entry_line entry) (map entry_line entries) (entry-line entry) (entry-lines entries)

row-lines : (rows : List Row) → All IsOneLine (map row_line rows)
row-lines [] = All-nil IsOneLine
row-lines (row ∷ rows) =
    All-cons IsOneLine (row_line row) (map row_line rows)
    (spaced-whole (codes "row" ∷ map decimal (row.request ∷ row.rival)) (written (codes "row") refl, numbers-whole (row.request ∷ row.rival)))
    (row-lines rows)

-- the router's line or none, and what follows
with-router : (before : Option (List ℕ)) (router : List ℕ) (rest : List (List ℕ)) → IsOneLine router →
    All IsOneLine rest → All IsOneLine (router_lines before router ++ rest)
with-router before router rest name others = cases before
  where
    line : IsOneLine (router_line router)
    line = spaced-whole (codes "router" ∷ router ∷ []) (written (codes "router") refl, (name, tt))

    either : (same : Bool) → All IsOneLine (cond same [] (router_line router ∷ []) ++ rest)
    either true = others
    either false = All-cons IsOneLine (router_line router) rest line others

    cases : (before : Option (List ℕ)) → All IsOneLine (router_lines before router ++ rest)
    cases None = All-cons IsOneLine (router_line router) rest line others
    cases (Some b) = either (same_bytes b router)

cost-whole : (n : ℕ) → IsOneLine (answer_cost_line n)
cost-whole n =
    spaced-whole (codes " ip" ∷ codes "ospf" ∷ codes "cost" ∷ decimal n ∷ []) (
      written (codes " ip") refl,
      (written (codes "ospf") refl, (written (codes "cost") refl, (number-whole n, tt))),
    )

section-lines : (before : Option (List ℕ)) (lines : List CostLine) → All FitsCostLine lines → All IsOneLine (cost_lines before lines)
section-lines before [] fits = All-nil IsOneLine
section-lines before (line ∷ lines) fits =
    let first : FitsCostLine line = All-head FitsCostLine line lines fits in
    let others : List (List ℕ) = codes "exit" ∷ cost_lines (Some line.router) lines in
    with-router before line.router (interface_line line.interface ∷ answer_cost_line line.cost ∷ others) (word-line line.router first.router)
    (All-cons IsOneLine (interface_line line.interface) (answer_cost_line line.cost ∷ others)
    (spaced-whole (codes "interface" ∷ line.interface ∷ []) (written (codes "interface") refl, (word-line line.interface first.interface, tt)))
    (All-cons IsOneLine (answer_cost_line line.cost) others (cost-whole line.cost)
    (All-cons IsOneLine (codes "exit") (cost_lines (Some line.router) lines) (written (codes "exit") refl)
    (section-lines (Some line.router) lines (All-tail FitsCostLine line lines fits)))))

costs-one : (costs : Option Costs) → FitsCosts costs → All IsOneLine (costs_lines costs)
costs-one None fits = All-cons IsOneLine (codes "costs none") [] (written (codes "costs none") refl) (All-nil IsOneLine)
costs-one (Some costs) fits =
    All-cons IsOneLine (costs_line costs.greatest) (cost_lines None costs.lines)
    (spaced-whole (codes "costs" ∷ decimal costs.greatest ∷ []) (
      written (codes "costs") refl,
      (number-whole costs.greatest, tt),
    ))
    (section-lines None costs.lines fits)

tree-one : (word : List ℕ) (tree : Option CapTree) → IsOneLine word → All IsOneLine (tree_lines word tree)
tree-one word None whole = All-cons IsOneLine (spaced (word ∷ codes "none" ∷ [])) []
    (spaced-whole (word ∷ codes "none" ∷ []) (whole, (written (codes "none") refl, tt))) (All-nil IsOneLine)
tree-one word (Some t) whole =
    All-cons IsOneLine (spaced (word ∷ decimal t.cap ∷ decimal (length t.tree) ∷ [])) (map entry_line t.tree)
    (spaced-whole (word ∷ decimal t.cap ∷ decimal (length t.tree) ∷ []) (whole, (number-whole t.cap, (number-whole (length t.tree), tt))))
    (entry-lines t.tree)

end-one : All IsOneLine end_lines
end-one = All-cons IsOneLine (codes "wide none") (codes "end" ∷ []) (written (codes "wide none") refl)
    (All-cons IsOneLine (codes "end") [] (written (codes "end") refl) (All-nil IsOneLine))

-- the lines of an answer whose names are words hold no LF
pub ordered-one : (a : AnswerParts) → FitsCosts a.costs → All IsOneLine (ordered a)
ordered-one a fits =
    let trees : All IsOneLine (after_rows a) =
    All-append IsOneLine (tree_lines (codes "proof") a.proof) (after_proof a) (tree-one (codes "proof") a.proof (written (codes "proof") refl))
    (All-append IsOneLine (tree_lines (codes "open") a.undecided) end_lines (tree-one (codes "open") a.undecided (written (codes "open") refl)) end-one) in
    let rows : All IsOneLine (after_floor a) =
    All-cons IsOneLine (rows_line (length a.rows)) (map row_line a.rows ++ after_rows a)
    (spaced-whole (codes "rows" ∷ decimal (length a.rows) ∷ []) (
      written (codes "rows") refl,
      (number-whole (length a.rows), tt),
    ))
    (All-append IsOneLine (map row_line a.rows) (after_rows a) (row-lines a.rows) trees) in
    let costs : All IsOneLine (after_head a) =
    All-append IsOneLine (costs_lines a.costs) (after_costs a) (costs-one a.costs fits)
    (All-cons IsOneLine (floor_line a.floor) (after_floor a)
    (spaced-whole (codes "floor" ∷ floor_word a.floor ∷ []) (
      written (codes "floor") refl,
      (floor-whole a.floor, tt),
    )) rows) in
    All-cons IsOneLine (codes "ospfcost answer 1") (verdict_line a.verdict ∷ after_head a) (written (codes "ospfcost answer 1") refl)
    (All-cons IsOneLine (verdict_line a.verdict) (after_head a)
    (spaced-whole (codes "verdict" ∷ verdict_words a.verdict) (
      written (codes "verdict") refl,
      verdict-whole a.verdict,
    )) costs)
