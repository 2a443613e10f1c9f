-- A text is that of one answer.
use Rattle.std.proofs.Common.{◌≡◌, ℕ, List, All, codes, Option, refl, sym, ap, subst, ◌∙◌}
use Rattle.design_problem.specs.declared.form.Row.{Row}
use Rattle.design_problem.specs.declared.answer.Verdict.{Verdict}
use Rattle.design_problem.specs.declared.answer.Costs.{Costs}
use Rattle.design_problem.specs.declared.answer.Floor.{Floor}
use Rattle.design_problem.specs.declared.answer.CapTree.{CapTree}
use Rattle.design_problem.specs.Answers.{AnswerParts}
use Rattle.design_problem.specs.Text.{answer_lines, text, FitsCosts}
use Rattle.text_lines.specs.Lines.{lines, IsOneLine}
use Rattle.text_lines.proofs.LineLaws.{lines-concat}
use Rattle.evidence_text.proofs.AnswerOrder.{answer_lines-ordered, ordered, after_proof, after_rows, after_floor}
use Rattle.answer_lines.proofs.ListParts.{head-is, tail-is}
use Rattle.answer_lines.proofs.SpacedWords.{spaceless-from}
use Rattle.evidence_reader.specs.Laws.{OneAnswer}
use Rattle.evidence_reader.proofs.AnswerLines.{ordered-one}
use Rattle.evidence_reader.proofs.SameWords.{verdict-same}
use Rattle.evidence_reader.proofs.SameLines.{costs-same, floor_line-same, rows-same, tree-same}

-- the lines of an answer are those of its text
text-lines : (a : AnswerParts) → FitsCosts a.costs → lines (text a) ≡ ordered a
text-lines a fits =
    lines-concat (answer_lines a) (subst (λ (l : List (List ℕ)). All IsOneLine l) (sym (answer_lines-ordered a)) (ordered-one a fits)) ∙ answer_lines-ordered a

abbrev answer : Verdict → Option Costs → Floor → List Row → Option CapTree → Option CapTree → AnswerParts
answer verdict costs floor rows proof undecided =
    record { verdict = verdict; costs = costs; floor = floor; rows = rows; proof = proof; undecided = undecided }

parts-same : (a b : AnswerParts) → a.verdict ≡ b.verdict → a.costs ≡ b.costs → a.floor ≡ b.floor →
    a.rows ≡ b.rows → a.proof ≡ b.proof → a.undecided ≡ b.undecided → a ≡ b
parts-same a b verdict costs floor rows proof undecided =
    ap (λ x. answer x a.costs a.floor a.rows a.proof a.undecided) verdict
    ∙ ap (λ x. answer b.verdict x a.floor a.rows a.proof a.undecided) costs
    ∙ ap (λ x. answer b.verdict b.costs x a.rows a.proof a.undecided) floor
    ∙ ap (λ x. answer b.verdict b.costs b.floor x a.proof a.undecided) rows
    ∙ ap (λ x. answer b.verdict b.costs b.floor b.rows x a.undecided) proof
    ∙ ap (answer b.verdict b.costs b.floor b.rows b.proof) undecided

-- answers with the same lines are one
lines-tell : (a b : AnswerParts) → ordered a ≡ ordered b → a ≡ b
lines-tell a b e =
    let behind = tail-is _ _ _ _ e in
    let costs = costs-same a.costs b.costs a.floor b.floor (after_floor a) (after_floor b) (tail-is _ _ _ _ behind) in
    let rows = rows-same a.rows b.rows (after_rows a) (after_rows b) (tail-is _ _ _ _ costs.1) in
    let proof = tree-same (codes "proof") (spaceless-from (codes "proof") refl) a.proof b.proof (after_proof a) (after_proof b) rows.1 in
    let undecided = tree-same (codes "open") (spaceless-from (codes "open") refl) a.undecided b.undecided _ _ proof.1 in
    parts-same a b (verdict-same a.verdict b.verdict (head-is _ _ _ _ behind)) costs.0
    (floor_line-same a.floor b.floor (head-is _ _ _ _ costs.1)) rows.0 proof.0 undecided.0

pub texts_tell : OneAnswer
texts_tell a b first second e = lines-tell a b (sym (text-lines a first.costs) ∙ ap lines e ∙ text-lines b second.costs)
