-- The parts of an answer's text, in their order.
use Rattle.std.proofs.Common.{◌≡◌, ℕ, List, [], ◌∷◌, ◌++◌, codes, append_assoc, ◌∙◌, sym, ap, subst, Option}
use Rattle.design_problem.specs.declared.answer.Answer.TheInside.{Inside}
use Rattle.design_problem.specs.declared.answer.CapTree.{CapTree}
use Rattle.design_problem.specs.declared.answer.Costs.{Costs}
use Rattle.design_problem.specs.declared.form.Row.{Row}
use Rattle.design_problem.specs.Answers.{AnswerParts}
use Rattle.design_problem.specs.Text.{costs_lines, tree_lines, answer_lines, text, head_lines, floor_line, rows_lines, end_lines}
use Rattle.text_lines.specs.Lines.{with_ends}
use Rattle.evidence_text.specs.Lines.{AreShort}
use Rattle.text_lines.proofs.LineLaws.{with_ends-append}
use Rattle.evidence_text.proofs.TextLaws.{short_front, short_rest}

-- what an answer holds
abbrev pub parts_held : Inside → AnswerParts
parts_held a = record {
  verdict = a.verdict;
  costs = a.costs;
  floor = a.floor;
  rows = a.rows;
  proof = a.proof;
  undecided = a.undecided;
}

-- what follows the proof
abbrev pub after_proof : AnswerParts → List (List ℕ)
after_proof a = tree_lines (codes "open") a.undecided ++ end_lines

-- what follows the rows
abbrev pub after_rows : AnswerParts → List (List ℕ)
after_rows a = tree_lines (codes "proof") a.proof ++ after_proof a

-- what follows the floor
abbrev pub after_floor : AnswerParts → List (List ℕ)
after_floor a = rows_lines a.rows ++ after_rows a

-- what follows the costs
abbrev pub after_costs : AnswerParts → List (List ℕ)
after_costs a = floor_line a.floor ∷ after_floor a

-- what follows the head
abbrev pub after_head : AnswerParts → List (List ℕ)
after_head a = costs_lines a.costs ++ after_costs a

-- all lines, part after part
abbrev pub ordered : AnswerParts → List (List ℕ)
ordered a = head_lines a.verdict ++ after_head a

-- the lines of an answer are those of its parts
pub answer_lines-ordered : (a : AnswerParts) → answer_lines a ≡ ordered a
answer_lines-ordered a =
    let A : List (List ℕ) = head_lines a.verdict in
    let B : List (List ℕ) = costs_lines a.costs in
    let C : List (List ℕ) = floor_line a.floor ∷ rows_lines a.rows in
    let D : List (List ℕ) = tree_lines (codes "proof") a.proof in
    let E : List (List ℕ) = tree_lines (codes "open") a.undecided in
    append_assoc (((A ++ B) ++ C) ++ D) E end_lines
    ∙ append_assoc ((A ++ B) ++ C) D (E ++ end_lines)
    ∙ append_assoc (A ++ B) C (D ++ (E ++ end_lines))
    ∙ append_assoc A B (C ++ (D ++ (E ++ end_lines)))

-- the text of an answer, part after part
parts_text : (a : AnswerParts) →
    text a ≡ with_ends (head_lines a.verdict)
    ++ (with_ends (costs_lines a.costs)
    ++ (with_ends (floor_line a.floor ∷ [])
    ++ (with_ends (rows_lines a.rows)
    ++ (with_ends (tree_lines (codes "proof") a.proof)
    ++ (with_ends (tree_lines (codes "open") a.undecided) ++ with_ends end_lines)))))
parts_text a =
    let H : List ℕ = with_ends (head_lines a.verdict) in
    let C : List ℕ = with_ends (costs_lines a.costs) in
    let F : List ℕ = with_ends (floor_line a.floor ∷ []) in
    let R : List ℕ = with_ends (rows_lines a.rows) in
    let P : List ℕ = with_ends (tree_lines (codes "proof") a.proof) in
    ap with_ends (answer_lines-ordered a)
    ∙ with_ends-append (head_lines a.verdict) (after_head a)
    ∙ ap (λ t. H ++ t) (with_ends-append (costs_lines a.costs) (after_costs a))
    ∙ ap (λ t. H ++ (C ++ t)) (with_ends-append (floor_line a.floor ∷ []) (after_floor a))
    ∙ ap (λ t. H ++ (C ++ (F ++ t))) (with_ends-append (rows_lines a.rows) (after_rows a))
    ∙ ap (λ t. H ++ (C ++ (F ++ (R ++ t)))) (with_ends-append (tree_lines (codes "proof") a.proof) (after_proof a))
    ∙ ap (λ t. H ++ (C ++ (F ++ (R ++ (P ++ t))))) (with_ends-append (tree_lines (codes "open") a.undecided) end_lines)

-- the same, with the parts as a caller holds them
pub text-parts : (a answer : AnswerParts) (costs : Option Costs) (rows : List Row) (proof undecided : Option CapTree) →
    a ≡ answer → costs ≡ a.costs → rows ≡ a.rows → proof ≡ a.proof → undecided ≡ a.undecided →
    text answer ≡ with_ends (head_lines a.verdict)
    ++ (with_ends (costs_lines costs)
    ++ (with_ends (floor_line a.floor ∷ [])
    ++ (with_ends (rows_lines rows)
    ++ (with_ends (tree_lines (codes "proof") proof)
    ++ (with_ends (tree_lines (codes "open") undecided) ++ with_ends end_lines)))))
text-parts a answer costs rows proof undecided same e f g h =
    let part_costs = ap (λ (x : Option Costs). record {
      verdict = a.verdict;
      costs = x;
      floor = a.floor;
      rows = rows;
      proof = proof;
      undecided = undecided;
    }) e in
    let part_rows = ap (λ (x : List Row). record {
      verdict = a.verdict;
      costs = a.costs;
      floor = a.floor;
      rows = x;
      proof = proof;
      undecided = undecided;
    }) f in
    let part_proof = ap (λ (x : Option CapTree). record {
      verdict = a.verdict;
      costs = a.costs;
      floor = a.floor;
      rows = a.rows;
      proof = x;
      undecided = undecided;
    }) g in
    let part_undecided = ap (λ (x : Option CapTree). record {
      verdict = a.verdict;
      costs = a.costs;
      floor = a.floor;
      rows = a.rows;
      proof = a.proof;
      undecided = x;
    }) h in
    let held : AnswerParts = record { verdict = a.verdict; costs = costs; floor = a.floor; rows = rows; proof = proof; undecided = undecided } in
    let is : held ≡ a = part_costs ∙ part_rows ∙ part_proof ∙ part_undecided in
    ap text (sym same ∙ sym is) ∙ parts_text held

-- each part of an answer has short lines
pub record AreShortParts (a : AnswerParts) : Type 0 where
  pub head : AreShort (head_lines a.verdict)
  pub costs : AreShort (costs_lines a.costs)
  pub floor : AreShort (floor_line a.floor ∷ [])
  pub rows : AreShort (rows_lines a.rows)
  pub proof : AreShort (tree_lines (codes "proof") a.proof)
  pub undecided : AreShort (tree_lines (codes "open") a.undecided)
  pub end : AreShort end_lines

pub short_parts : (a : AnswerParts) → AreShort (answer_lines a) → AreShortParts a
short_parts a short =
    let all : AreShort (ordered a) = subst AreShort (answer_lines-ordered a) short in
    let behind_head = short_rest (head_lines a.verdict) (after_head a) all in
    let behind_costs = short_rest (costs_lines a.costs) (after_costs a) behind_head in
    let behind_floor = short_rest (floor_line a.floor ∷ []) (after_floor a) behind_costs in
    let behind_rows = short_rest (rows_lines a.rows) (after_rows a) behind_floor in
    let behind_proof = short_rest (tree_lines (codes "proof") a.proof) (after_proof a) behind_rows in
    record {
      head = short_front (head_lines a.verdict) (after_head a) all;
      costs = short_front (costs_lines a.costs) (after_costs a) behind_head;
      floor = short_front (floor_line a.floor ∷ []) (after_floor a) behind_costs;
      rows = short_front (rows_lines a.rows) (after_rows a) behind_floor;
      proof = short_front (tree_lines (codes "proof") a.proof) (after_proof a) behind_rows;
      undecided = short_front (tree_lines (codes "open") a.undecided) end_lines behind_proof;
      end = short_rest (tree_lines (codes "open") a.undecided) end_lines behind_proof;
    }
