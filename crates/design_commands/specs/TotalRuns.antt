-- What `total` prints.
use Rattle.std.specs.Prelude.{◌≡◌, ◌⊎◌, ℕ, ◌+◌, ◌<◌, ◌≤◌, List, [], ◌∷◌, ◌++◌, codes, Some}
use Rattle.cost_base.specs.Decimal.{decimal}
use Rattle.cost_base.specs.declared.Status.{Status}
use Rattle.cost_base.specs.declared.Status.TheVariants.{Done, Impossible, Undecided}
use Rattle.design_problem.specs.declared.form.Row.{Row}
use Rattle.design_problem.specs.declared.answer.CapTree.{CapTree}
use Rattle.design_problem.specs.declared.tree.Entry.{Entry}
use Rattle.design_problem.specs.Problems.{DesignProblem}
use Rattle.design_problem.specs.Rows.{greatest_cost}
use Rattle.design_problem.specs.Trees.{IsClosed}
use Rattle.design_problem.specs.declared.answer.Verdict.{Verdict}
use Rattle.design_problem.specs.declared.answer.Verdict.TheVariants.{Optimal, Impossible as ByNone, Undecided as VerdictUndecided}
use Rattle.design_problem.specs.Answers.{AnswerParts}
use Rattle.design_problem.specs.Text.{row_line, spaced, text, tree_lines, rows_lines}
use Rattle.evidence_text.specs.AnswerValues.{IsAnswerValue}
use Rattle.text_lines.specs.Lines.{with_ends}
use Rattle.least_total.specs.Totals.{HasLeastTotal, total}
use Rattle.printed_rows.specs.FittingTexts.{FitText}
use Rattle.least_total.specs.Results.{IsTotalAnswer, IsPrintedWithin, IsUndecidedTotal, IsTotalSheet}
use Rattle.least_total.specs.declared.finding.Total.{Total}
use Rattle.least_total.specs.declared.finding.Total.TheVariants.{Least, Undecided as TotalUndecided}
use Rattle.least_total.specs.declared.finding.TotalEvidence.{TotalEvidence}
use Rattle.least_total.specs.declared.finding.TotalEvidence.TheVariants.{Floor, Tree}
use Rattle.report_writer.specs.declared.report.Report.{Report}
use Rattle.report_writer.specs.Reports.{Reports}
use Rattle.wide_fraction.specs.SearchLimits.{SearchLimits}
use Rattle.input_files.specs.Outcomes.{Input}
use Rattle.design_commands.specs.Designs.{IsDesigned, IsShownImpossible, IsShownUndecided, AreCheapestBack}
use Rattle.read_back_laws.specs.ReadBack.{IsReadBack}

-- the text of `total`: the whole text of an answer, the total of its costs, and the lines of the evidence for it
abbrev pub total_text : List ℕ → ℕ → List (List ℕ) → List ℕ
total_text inside sum shown =
    with_ends (codes "ospfcost total 1" ∷ []) ++ inside
    ++ with_ends (spaced (codes "total" ∷ decimal sum ∷ []) ∷ [])
    ++ with_ends shown
    ++ with_ends (codes "end" ∷ [])

-- the line `floor total`: the total of the costs is that of the lower bounds, so it is the least
abbrev pub floor_lines : List (List ℕ)
floor_lines = codes "floor total" ∷ []

-- the evidence of a least total by a closed tree: the parts `rows` and `proof` of the text of `total`
abbrev pub proof_lines : List Row → CapTree → List (List ℕ)
proof_lines rows t = rows_lines rows ++ tree_lines (codes "proof") (Some t)

-- what used the budget up below a total: the line `bound B`, and the parts `rows` and `open` of the text of `total`
abbrev pub bound_lines : ℕ → List Row → CapTree → List (List ℕ)
bound_lines bound rows t = spaced (codes "bound" ∷ decimal bound ∷ []) ∷ (rows_lines rows ++ tree_lines (codes "open") (Some t))

-- the tree of these entries at a cap
abbrev pub at_cap : ℕ → List Entry → CapTree
at_cap cap tree = record { cap = cap; tree = tree }

-- the lines print a closed earnest tree over the box at the costs' greatest cost, in which the form of the total has
-- the bound right below the costs' total: none of best costs has a smaller total
pub record IsProvedTotal (limits : SearchLimits) (p : DesignProblem) (w : List ℕ) (shown : List (List ℕ)) : Type 0 where
  pub most : ℕ
  pub below : most + 1 ≡ total w
  pub rows : List Row
  pub tree : List Entry
  pub sheet : IsTotalSheet p rows tree
  pub earnest : IsPrintedWithin p limits.top limits.nodes (greatest_cost w) most rows tree
  pub closed : IsClosed tree
  pub spelled : shown ≡ proof_lines rows (at_cap (greatest_cost w) tree)

-- the lines are `floor total`, and the total of the costs is that of the lower bounds
pub record IsFloorTotal (p : DesignProblem) (w : List ℕ) (shown : List (List ℕ)) : Type 0 where
  pub floor : total w ≡ total p.low
  pub spelled : shown ≡ floor_lines

-- The bytes print best costs that have the least total: the text of an answer, as a design prints it, with these costs;
-- their total; and what shows that it is the least. The costs are read back from these bytes as from a design's.
pub record IsTotalled (limits : SearchLimits) (d : Input) (bytes : List ℕ) : Type 0 where
  pub inside : List ℕ
  pub designed : IsDesigned limits d inside
  pub back : IsReadBack d bytes designed.costs
  pub only : AreCheapestBack d bytes
  pub least : HasLeastTotal d.problem designed.costs
  pub shown : List (List ℕ)
  pub shows : IsFloorTotal d.problem designed.costs shown ⊎ IsProvedTotal limits d.problem designed.costs shown
  pub spelled : bytes ≡ total_text inside (total designed.costs) shown

-- The bytes show that the budget was used up at a bound of the total: they print an answer with best costs, their
-- total, and a tree, earnest over the box at their greatest cost, with an undone entry and exactly as many entries as
-- the budget, in which the form of the total has the bound. The bound is at least the total of the lower bounds, and
-- below that of the costs, which are read back from these bytes as from a design's.
pub record IsShownUndecidedTotal (limits : SearchLimits) (d : Input) (bytes : List ℕ) : Type 0 where
  pub inside : List ℕ
  pub designed : IsDesigned limits d inside
  pub back : IsReadBack d bytes designed.costs
  pub only : AreCheapestBack d bytes
  pub bound : ℕ
  pub from_lows : total d.problem.low ≤ bound
  pub below : bound < total designed.costs
  pub rows : List Row
  pub tree : List Entry
  pub sheet : IsTotalSheet d.problem rows tree
  pub used_up : IsUndecidedTotal d.problem limits.top limits.nodes (greatest_cost designed.costs) bound rows tree
  pub spelled : bytes ≡ total_text inside (total designed.costs) (bound_lines bound rows (at_cap (greatest_cost designed.costs) tree))

-- `total`: the least total among the best costs; or that no costs are fit; or that the budget was used up, for the
-- greatest cost or for the total
abbrev pub MayTotal : SearchLimits → Input → Status → List ℕ → Type 0
MayTotal limits d Done bytes = IsTotalled limits d bytes
MayTotal limits d Impossible bytes = IsShownImpossible limits d.problem bytes
MayTotal limits d Undecided bytes = IsShownUndecided limits d.problem bytes ⊎ IsShownUndecidedTotal limits d bytes
MayTotal limits d status bytes = ⊥

-- What the room of the command finds.

-- the lines of the evidence of a least total: `floor total`, or the rows and the tree at this cap
abbrev pub shown_lines : ℕ → TotalEvidence → List (List ℕ)
shown_lines cap Floor = floor_lines
shown_lines cap (Tree rows tree) = proof_lines rows.items (at_cap cap tree)

-- the answer with the costs that the search for the least total found
abbrev pub answer_in : Total → AnswerParts
answer_in (Least answer sum proof) = answer
answer_in (TotalUndecided answer sum bound rows tree) = answer

-- the status of a run of `total` that prints what the search for the least total found
abbrev pub found_status : Total → Status
found_status (Least answer sum proof) = Done
found_status (TotalUndecided answer sum bound rows tree) = Undecided

-- the text of `total` on what the search for the least total found, whose trees stand at this cap
abbrev pub found_text : ℕ → Total → List ℕ
found_text cap (Least answer sum proof) = total_text (text answer) sum (shown_lines cap proof)
found_text cap (TotalUndecided answer sum bound rows tree) = total_text (text answer) sum (bound_lines bound rows.items (at_cap cap tree))

-- the rows and the tree that show a least total, at this cap, fit a text
abbrev pub CanPrintProof : ℕ → TotalEvidence → Type 0
CanPrintProof cap Floor = Unit {0}
CanPrintProof cap (Tree rows tree) = FitText row_line cap rows.items tree

-- the rows and the tree of what the search for the least total found, at this cap, fit a text
abbrev pub CanReport : ℕ → Total → Type 0
CanReport cap (Least answer sum proof) = CanPrintProof cap proof
CanReport cap (TotalUndecided answer sum bound rows tree) = FitText row_line cap rows.items tree

-- the report of what the search for the least total found, whose answer is a value of its type
pub record ReportsFoundAs (cap : ℕ) (found : Total) (report : Report) : Type 0 where
  pub value : IsAnswerValue (answer_in found)
  pub reports : Reports (found_status found) (found_text cap found) report

-- the report of what the search for the least total finds from a valid optimal answer of this greatest cost
pub record ReportsFound (limits : SearchLimits) (p : DesignProblem) (a : AnswerParts) (cap : ℕ) (report : Report) : Type 0 where
  pub found : Total
  pub answered : IsTotalAnswer p limits.top limits.nodes a found
  pub reports : ReportsFoundAs cap found report

-- the text of `total` by an answer's verdict: of the least total from an optimal answer, else the answer's own text
abbrev pub IsTotalText : SearchLimits → DesignProblem → AnswerParts → Verdict → List ℕ → Type 0
IsTotalText limits p a (Optimal k) bytes = (found : Total) × IsTotalAnswer p limits.top limits.nodes a found × (bytes ≡ found_text k found)
IsTotalText limits p a ByNone bytes = bytes ≡ text a
IsTotalText limits p a (VerdictUndecided cap) bytes = bytes ≡ text a

-- the bytes are the text of `total` by an answer for which the advisors were asked as `Asks` tells
abbrev pub TellsTotal : SearchLimits → DesignProblem → (AnswerParts → Type 0) → List ℕ → Type 0
TellsTotal limits p Asks bytes = (a : AnswerParts) × IsAnswerValue a × IsTotalText limits p a a.verdict bytes × Asks a

-- the report of `total` by an answer's verdict: of the least total from an optimal answer, else of the answer itself
abbrev pub ReportsTotal : SearchLimits → DesignProblem → AnswerParts → Verdict → Report → Type 0
ReportsTotal limits p a (Optimal k) report = ReportsFound limits p a k report
ReportsTotal limits p a ByNone report = Reports Impossible (text a) report
ReportsTotal limits p a (VerdictUndecided cap) report = Reports Undecided (text a) report
