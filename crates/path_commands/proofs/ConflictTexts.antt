-- The text of `conflict`, part by part.
use Rattle.std.proofs.Common.{◌≡◌, ℕ, ◌+◌, ◌<◌, sym, ◌∙◌, ap, subst, List, [], ◌∷◌, ◌++◌, length, drop, get_or, append_assoc, arith}
use Rattle.std.specs.Prelude.{All, codes, Some}
use Rattle.std.proofs.lemmas.List.{at_drop_more, get_or_default}
use Rattle.design_problem.specs.declared.answer.CapTree.{CapTree}
use Rattle.design_problem.specs.declared.form.Row.{Row}
use Rattle.design_problem.specs.declared.tree.Entry.{Entry}
use Rattle.design_problem.specs.Problems.{DesignProblem}
use Rattle.design_problem.specs.Boxes.{IsInBox}
use Rattle.design_problem.specs.Rows.{box_of}
use Rattle.design_problem.specs.Text.{tree_lines, rows_lines}
use Rattle.text_lines.specs.Lines.{with_ends}
use Rattle.text_lines.proofs.LineLaws.{with_ends-append}
use Rattle.least_conflict.specs.declared.conflict.Conflict.TheVariants.{Fit, Least, Undecided}
use Rattle.least_conflict.specs.Conflicts.{IsLeastConflictShown, all_requests}
use Rattle.printed_parts.specs.SharedParts.{at_greatest_bound, costs_part}
use Rattle.path_commands.specs.Conflicts.{conflict_text, members_line, without_line, without_parts}
use Rattle.printed_parts.proofs.TextParts.{joined}

-- The whole texts.

pub fits_spelled : (p : DesignProblem) (w members head costs whole : List ℕ) → members ≡ all_requests p →
    head ≡ with_ends (codes "ospfcost conflict 1" ∷ codes "verdict none" ∷ members_line members ∷ []) →
    costs ≡ head ++ with_ends (costs_part p w) → whole ≡ costs ++ with_ends (codes "end" ∷ []) →
    whole ≡ conflict_text p (Fit w)
fits_spelled p w members head costs whole all first second last =
    let lines = codes "ospfcost conflict 1" ∷ codes "verdict none" ∷ members_line members ∷ [] in
    joined (lines ++ costs_part p w) (codes "end" ∷ []) costs whole (joined lines (costs_part p w) head costs first second) last
    ∙ ap (λ (ms : List ℕ). with_ends ((codes "ospfcost conflict 1" ∷ codes "verdict none" ∷ members_line ms ∷ costs_part p w) ++ codes "end" ∷ [])) all

pub undecided_spelled : (p : DesignProblem) (members : List ℕ) (rows : List Row) (tree : List Entry)
    (head evidence whole : List ℕ) →
    head ≡ with_ends (codes "ospfcost conflict 1" ∷ codes "verdict undecided" ∷ members_line members ∷ []) →
    evidence ≡ head ++ with_ends (rows_lines rows ++ tree_lines (codes "open") (Some (at_greatest_bound p tree))) →
    whole ≡ evidence ++ with_ends (codes "end" ∷ []) → whole ≡ conflict_text p (Undecided members rows tree)
undecided_spelled p members rows tree head evidence whole first second last =
    let lines = codes "ospfcost conflict 1" ∷ codes "verdict undecided" ∷ members_line members ∷ [] in
    let part = rows_lines rows ++ tree_lines (codes "open") (Some (at_greatest_bound p tree)) in
    joined (lines ++ part) (codes "end" ∷ []) evidence whole (joined lines part head evidence first second) last

pub least_spelled : (p : DesignProblem) (members : List ℕ) (rows : List Row) (tree : List Entry)
    (without : List (List ℕ)) (head evidence each whole : List ℕ) →
    head ≡ with_ends (codes "ospfcost conflict 1" ∷ codes "verdict core" ∷ members_line members ∷ []) →
    evidence ≡ head ++ with_ends (rows_lines rows ++ tree_lines (codes "proof") (Some (at_greatest_bound p tree))) →
    each ≡ evidence ++ with_ends (without_parts p members without) → whole ≡ each ++ with_ends (codes "end" ∷ []) →
    whole ≡ conflict_text p (Least members rows tree without)
least_spelled p members rows tree without head evidence each whole first second third last =
    let lines = codes "ospfcost conflict 1" ∷ codes "verdict core" ∷ members_line members ∷ [] in
    let part = rows_lines rows ++ tree_lines (codes "proof") (Some (at_greatest_bound p tree)) in
    let more = without_parts p members without in
    joined ((lines ++ part) ++ more) (codes "end" ∷ []) each whole
    (joined (lines ++ part) more evidence each (joined lines part head evidence first second) third) last

-- The costs without each member.

-- with one more member's
pub without_more : (p : DesignProblem) (members : List ℕ) (lists : List (List ℕ)) (i d : ℕ) (none w : List ℕ)
    (member : ℕ) (old new whole : List ℕ) → i < length members → i < length lists → member ≡ get_or members i d →
    w ≡ get_or lists i none →
    new ≡ old ++ with_ends (without_line member ∷ costs_part p w) →
    old ++ with_ends (without_parts p (drop i members) (drop i lists)) ≡ whole →
    new ++ with_ends (without_parts p (drop (i + 1) members) (drop (i + 1) lists)) ≡ whole
without_more p members lists i d none w member old new whole known listed is_member is_list pushed so_far =
    let first = without_line member ∷ costs_part p w in
    let rest = without_parts p (drop (i + 1) members) (drop (i + 1) lists) in
    let next_member = at_drop_more (λ (ms : List ℕ). without_parts p ms (drop i lists)) members i d known in
    let next_list = at_drop_more (λ (ws : List (List ℕ)). without_parts p (get_or members i d ∷ drop (i + 1) members) ws) lists i none listed in
    let same : without_parts p (get_or members i d ∷ drop (i + 1) members) (get_or lists i none ∷ drop (i + 1) lists) ≡ first ++ rest =
    ap (λ (m : ℕ). (without_line m ∷ costs_part p (get_or lists i none)) ++ rest) (sym is_member)
    ∙ ap (λ (v : List ℕ). (without_line member ∷ costs_part p v) ++ rest) (sym is_list) in
    ap (λ (bytes : List ℕ). bytes ++ with_ends rest) pushed
    ∙ append_assoc old (with_ends first) (with_ends rest)
    ∙ ap (λ (bytes : List ℕ). old ++ bytes) (sym (with_ends-append first rest))
    ∙ ap (λ (lines : List (List ℕ)). old ++ with_ends lines) (sym (next_member ∙ next_list ∙ same))
    ∙ so_far

-- the tree of a part by its other name
pub evidence_pushed : (p : DesignProblem) (rows : List Row) (tree : List Entry) (t : CapTree) (word old new : List ℕ) →
    t ≡ at_greatest_bound p tree → new ≡ old ++ with_ends (rows_lines rows ++ tree_lines word (Some t)) →
    new ≡ old ++ with_ends (rows_lines rows ++ tree_lines word (Some (at_greatest_bound p tree)))
evidence_pushed p rows tree t word old new is pushed = pushed ∙ ap (λ (u : CapTree). old ++ with_ends (rows_lines rows ++ tree_lines word (Some u))) is

-- each of the costs lies within the bounds
pub each_within : (p : DesignProblem) (top nodes : ℕ) (members : List ℕ) (rows : List Row) (tree : List Entry)
    (without : List (List ℕ)) → IsLeastConflictShown p top nodes members rows tree without → All (λ w. IsInBox (box_of p) w) without
each_within p top nodes members rows tree without least k d k_in =
    subst (λ (w : List ℕ). IsInBox (box_of p) w) (get_or_default without k [] d k_in) (least.fits k (omega (arith, least.counted))).within
