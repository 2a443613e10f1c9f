-- The lines of an answer are lawful, one after another.
use Rattle.std.proofs.Common.{◌≡◌, ◌≢◌, ℕ, zero, suc, ◌+◌, ◌≤◌, List, [], ◌∷◌, ◌++◌, All, length, map, codes, Option, Some, None, Bool, true, false, cond, refl, sym, subst, ◌∙◌, inl, inr}
use Rattle.std.specs.Cmp.Lexicographic.{pointwise_decides}
use Rattle.std.proofs.lemmas.Bool.{true≢false}
use Rattle.std.proofs.lemmas.Bool.Decides.{Decides-eqb}
use Rattle.std.proofs.lemmas.List.Elements.{All-head, All-tail}
use Rattle.cost_base.specs.Lists.{same_bytes}
use Rattle.design_problem.specs.declared.form.Row.{Row}
use Rattle.design_problem.specs.declared.tree.Entry.{Entry}
use Rattle.design_problem.specs.declared.answer.Verdict.{Verdict}
use Rattle.design_problem.specs.declared.answer.Costs.{Costs}
use Rattle.design_problem.specs.declared.answer.CostLine.{CostLine}
use Rattle.design_problem.specs.declared.answer.Floor.{Floor}
use Rattle.design_problem.specs.declared.answer.CapTree.{CapTree}
use Rattle.design_problem.specs.Answers.{AnswerParts}
use Rattle.design_problem.specs.AnswerRanges.{IsCost, IsRowNumber, BoundsVerdict, BoundsFloor, BoundsRow, BoundsEntry, BoundsCosts, BoundsTree, HasBounds}
use Rattle.design_problem.specs.Text.{row_line, entry_line, cost_lines, costs_lines, tree_lines, answer_lines, FitsEntry, FitsCostLine, FitsCosts, FitsTree, FitsAnswer, head_lines, interface_line, answer_cost_line, floor_line, rows_lines, end_lines, router_line}
use Rattle.design_problem.specs.Trees.{subtree_count, AreSeveralTrees}
use Rattle.answer_lines.specs.declared.other_text.OtherText.{OtherText}
use Rattle.answer_lines.proofs.FirstLines.{has-room}
use Rattle.answer_lines.specs.Grammar.{TextPlace, Next, IsInterfaceNext, AtHead, AtVerdict, AtCosts, AtSections, AtInterface, AtCost, AtExit, AtFloor, AtRows, AtRow, AtTree, AtEnd, AfterEnd}
use Rattle.evidence_text.specs.Parts.{part_word}
use Rattle.answer_lines.specs.Lawful.{LeadOn}
use Rattle.evidence_reader.specs.Stages.{before_part}
use Rattle.evidence_text.specs.declared.TreePart.{TreePart}
use Rattle.evidence_text.specs.declared.TreePart.TheVariants.{Proof, Undecided}
use Rattle.evidence_text.proofs.AnswerOrder.{answer_lines-ordered, ordered}
use Rattle.evidence_reader.proofs.SectionLines.{router_before}
use Rattle.evidence_reader.proofs.TreeLines.{part_says}

-- lines in the grammar, one after another, however long they are
abbrev pub GoOn : TextPlace → List (List ℕ) → TextPlace → Type 0
GoOn place [] last = place ≡ last
GoOn place (line ∷ lines) last = (next : TextPlace) × Next place line next × GoOn next lines last

pub go-then : (from mid to : TextPlace) (xs ys : List (List ℕ)) → GoOn from xs mid → GoOn mid ys to → GoOn from (xs ++ ys) to
go-then from mid to [] ys first second = subst (λ p. GoOn p ys to) (sym first) second
go-then from mid to (x ∷ xs) ys first second = (first.0, first.1, go-then first.0 mid to xs ys first.2 second)

-- short lines of the grammar are lawful
pub lawful : (from to : TextPlace) (xs : List (List ℕ)) → All (λ line. length line ≤ 65536) xs → GoOn from xs to → LeadOn from xs to
lawful from to [] short on = on
lawful from to (x ∷ xs) short on =
    let P : List ℕ → Type 0 = λ line. length line ≤ 65536 in
    (on.0, record { is = on.1; short = has-room from x (All-head P x xs short) }, lawful on.0 to xs (All-tail P x xs short) on.2)

head-on : (verdict : Verdict) → BoundsVerdict verdict → GoOn AtHead (head_lines verdict) AtCosts
head-on verdict bounds = (AtVerdict, (refl, refl), (AtCosts, record { verdict = verdict; bounds = bounds; is = refl; leads = refl }, refl))

-- a cost behind its interface
cost-on : (of : Option OtherText) (router : List ℕ) (line : CostLine) (rest : List (List ℕ)) (to : TextPlace) → FitsCostLine line → IsCost line.cost →
    GoOn (AtSections of (Some router)) rest to → GoOn (AtCost of router) (answer_cost_line line.cost ∷ codes "exit" ∷ rest) to
cost-on of router line rest to fits bounds behind = (
  AtExit of router,
  record { cost = line.cost; some = fits.cost; bounds = bounds; is = refl; leads = refl },
  (AtSections of (Some router), (refl, refl), behind),
)

interface-is : (of : Option OtherText) (router : List ℕ) (line : CostLine) → FitsCostLine line →
    IsInterfaceNext of router (interface_line line.interface) (AtCost of router)
interface-is of router line fits = record { name = line.interface; word = fits.interface; is = refl; leads = refl }

-- a cost behind the line of its router
section-on : (of : Option OtherText) (before : Option (List ℕ)) (line : CostLine) (rest : List (List ℕ)) (to : TextPlace) → before ≢ Some line.router →
    FitsCostLine line →
    GoOn (AtCost of line.router) rest to → GoOn (AtSections of before) (router_line line.router ∷ interface_line line.interface ∷ rest) to
section-on of before line rest to other fits behind = (
  AtInterface of line.router,
  inl (record { name = line.router; word = fits.router; other = other; is = refl; leads = refl }),
  (AtCost of line.router, interface-is of line.router line fits, behind),
)

-- a cost without or with the line of its router, as its router is that of the cost before or another one
again-on : (of : Option OtherText) (before : List ℕ) (line : CostLine) (rest : List (List ℕ)) (to : TextPlace) (same : Bool) →
    same_bytes before line.router ≡ same → FitsCostLine line →
    GoOn (AtCost of line.router) rest to →
    GoOn (AtSections of (Some before))
    (cond same [] (router_line line.router ∷ []) ++ (interface_line line.interface ∷ rest)) to
again-on of before line rest to true is fits behind =
    let same : before ≡ line.router = (pointwise_decides Decides-eqb before line.router).0 is in
    (AtCost of before, inr (inl (interface-is of before line fits)), subst (λ r. GoOn (AtCost of r) rest to) (sym same) behind)
again-on of before line rest to false is fits behind = section-on of (Some before) line rest to (other is) fits behind
  where
    other : same_bytes before line.router ≡ false → Some before ≢ Some line.router
    other isnt e = true≢false (sym ((pointwise_decides Decides-eqb before line.router).1 (cc)) ∙ isnt)

pub costs-on : (of : Option OtherText) (before : Option (List ℕ)) (lines : List CostLine) → All FitsCostLine lines →
    All (λ line. IsCost line.cost) lines →
    GoOn (AtSections of before) (cost_lines before lines) (AtSections of (router_before before lines))
costs-on of before [] fits bounds = refl
costs-on of before (line ∷ lines) fits bounds =
    let P : CostLine → Type 0 = λ line. IsCost line.cost in
    let first : FitsCostLine line = All-head FitsCostLine line lines fits in
    let to : TextPlace = AtSections of (router_before (Some line.router) lines) in
    let behind = costs-on of (Some line.router) lines (All-tail FitsCostLine line lines fits) (All-tail P line lines bounds) in
    cases before first (cost-on of line.router line (cost_lines (Some line.router) lines) to first (All-head P line lines bounds) behind)
  where
    cases : (before : Option (List ℕ)) → FitsCostLine line →
        GoOn (AtCost of line.router) (answer_cost_line line.cost ∷ codes "exit" ∷ cost_lines (Some line.router) lines)
        (AtSections of (router_before (Some line.router) lines)) →
        GoOn (AtSections of before) (cost_lines before (line ∷ lines)) (AtSections of (router_before (Some line.router) lines))
    cases None first behind = section-on of None line
        (answer_cost_line line.cost ∷ codes "exit" ∷ cost_lines (Some line.router) lines)
        (AtSections of (router_before (Some line.router) lines)) (λ e. cc) first behind
    cases (Some b) first behind = again-on of b line
        (answer_cost_line line.cost ∷ codes "exit" ∷ cost_lines (Some line.router) lines)
        (AtSections of (router_before (Some line.router) lines)) (same_bytes b line.router) refl first behind

-- the place behind costs
abbrev behind_costs : Option Costs → TextPlace
behind_costs None = AtFloor
behind_costs (Some costs) = AtSections None (router_before None costs.lines)

some-costs-on : (costs : Option Costs) → FitsCosts costs → BoundsCosts costs → GoOn AtCosts (costs_lines costs) (behind_costs costs)
some-costs-on None fits bounds = (AtFloor, inl (refl, refl), refl)
some-costs-on (Some costs) fits bounds =
    (AtSections None None, inr (record { greatest = costs.greatest; bounds = bounds.0; is = refl; leads = refl }), costs-on None None costs.lines fits bounds.1)

floor-on : (costs : Option Costs) (floor : Floor) → BoundsFloor floor → Next (behind_costs costs) (floor_line floor) AtRows
floor-on None floor bounds = record { floor = floor; bounds = bounds; is = refl; leads = refl }
floor-on (Some costs) floor bounds = inr (inr (record { floor = floor; bounds = bounds; is = refl; leads = refl }))

each-row-on : (rows : List Row) → All BoundsRow rows → GoOn (AtRow (length rows)) (map row_line rows) (AtRow 0)
each-row-on [] bounds = refl
each-row-on (row ∷ rows) bounds = (
  AtRow (length rows),
  record { row = row; bounds = All-head BoundsRow row rows bounds; is = refl; leads = refl },
  each-row-on rows (All-tail BoundsRow row rows bounds),
)

rows-on : (rows : List Row) → IsRowNumber (length rows) → All BoundsRow rows → GoOn AtRows (rows_lines rows) (AtRow 0)
rows-on rows count bounds = (AtRow (length rows), record { count = length rows; bounds = count; is = refl; leads = refl }, each-row-on rows bounds)

-- the lines of as many whole trees as places are open
entries-on : (part : TreePart) (places : ℕ) (entries : List Entry) → AreSeveralTrees places entries → All BoundsEntry entries → All FitsEntry entries →
    GoOn (AtTree part places (length entries)) (map entry_line entries) (AtTree part 0 0)
entries-on part zero [] whole bounds fits = refl
entries-on part (suc places) [] whole bounds fits = absurd whole
entries-on part zero (entry ∷ entries) whole bounds fits = absurd whole
entries-on part (suc places) (entry ∷ entries) whole bounds fits = (
  AtTree part (subtree_count entry + places) (length entries),
  record { entry = entry; bounds = All-head BoundsEntry entry entries bounds; fits = All-head FitsEntry entry entries fits; is = refl; leads = refl },
  entries-on part (subtree_count entry + places) entries whole (All-tail BoundsEntry entry entries bounds) (All-tail FitsEntry entry entries fits),
)

tree-on : (part : TreePart) (tree : Option CapTree) → FitsTree tree → BoundsTree tree →
    GoOn (before_part part) (tree_lines (part_word part) tree) (AtTree part 0 0)
tree-on part None fits bounds = (AtTree part 0 0, part_says part _ _ (inl (refl, refl)), refl)
tree-on part (Some t) fits bounds = (
  AtTree part 1 (length t.tree),
  part_says part _ _ (inr (record { cap = t.cap; count = length t.tree; cap_bounds = bounds.0; count_bounds = fits.count; is = refl; leads = refl })),
  entries-on part 1 t.tree bounds.1 bounds.2 fits.entries,
)

end-on : GoOn (AtTree Undecided 0 0) end_lines AfterEnd
end-on = (AtEnd, (refl, refl), (AfterEnd, (refl, refl), refl))

ordered-on : (a : AnswerParts) → FitsAnswer a → HasBounds a → IsRowNumber (length a.rows) → GoOn AtHead (ordered a) AfterEnd
ordered-on a fits bounds count =
    go-then AtHead AtCosts AfterEnd (head_lines a.verdict) _ (head-on a.verdict bounds.verdict)
    (go-then AtCosts (behind_costs a.costs) AfterEnd (costs_lines a.costs) _ (some-costs-on a.costs fits.costs bounds.costs) (
      AtRows,
      floor-on a.costs a.floor bounds.floor,
      go-then AtRows (AtRow 0) AfterEnd (rows_lines a.rows) _ (rows-on a.rows count bounds.rows)
          (go-then (AtRow 0) (AtTree Proof 0 0) AfterEnd (tree_lines (codes "proof") a.proof) _ (tree-on Proof a.proof fits.proof bounds.proof)
          (go-then (AtTree Proof 0 0) (AtTree Undecided 0 0) AfterEnd (tree_lines (codes "open") a.undecided)
          end_lines (tree-on Undecided a.undecided fits.undecided bounds.undecided) end-on)),
    ))

-- the lines of an answer whose rows have a number of 64 bits lead from the head behind the end
pub answer-leads : (a : AnswerParts) → FitsAnswer a → HasBounds a → IsRowNumber (length a.rows) → LeadOn AtHead (answer_lines a) AfterEnd
answer-leads a fits bounds count =
    let short : All (λ line. length line ≤ 65536) (ordered a) =
    subst (λ (l : List (List ℕ)). All (λ line. length line ≤ 65536) l) (answer_lines-ordered a) fits.lines in
    subst (λ (l : List (List ℕ)). LeadOn AtHead l AfterEnd) (sym (answer_lines-ordered a))
    (lawful AtHead AfterEnd (ordered a) short (ordered-on a fits bounds count))
