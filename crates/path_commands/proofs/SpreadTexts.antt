-- The text of `spread`, part by part.
use Rattle.std.proofs.Common.{◌≡◌, ℕ, ◌+◌, ◌<◌, sym, ◌∙◌, ap, List, [], ◌∷◌, ◌++◌, map, length, drop, get_or, append_assoc}
use Rattle.std.specs.Prelude.{codes, Option}
use Rattle.std.proofs.lemmas.List.{at_drop_more}
use Rattle.design_problem.specs.declared.answer.CapTree.{CapTree}
use Rattle.design_problem.specs.declared.answer.Costs.{Costs}
use Rattle.design_problem.specs.Text.{costs_lines, tree_lines}
use Rattle.text_lines.specs.Lines.{with_ends}
use Rattle.text_lines.proofs.LineLaws.{with_ends-append}
use Rattle.spread_sets.specs.declared.spread.SetRow.{SetRow}
use Rattle.spread_sets.specs.Answers.{set_row_line}
use Rattle.path_commands.specs.Spreads.{front_lines, set_rows_lines, spread_lines}
use Rattle.printed_parts.proofs.TextParts.{joined}

-- The lines of the rows.

-- with one more
pub rows_more : (rows : List SetRow) (i : ℕ) (d row : SetRow) (old new whole : List ℕ) → i < length rows →
    row ≡ get_or rows i d → new ≡ old ++ with_ends (set_row_line row ∷ []) →
    old ++ with_ends (map set_row_line (drop i rows)) ≡ whole →
    new ++ with_ends (map set_row_line (drop (i + 1) rows)) ≡ whole
rows_more rows i d row old new whole within is pushed so_far =
    let rest = map set_row_line (drop (i + 1) rows) in
    let first = set_row_line (get_or rows i d) ∷ [] in
    ap (λ (bytes : List ℕ). bytes ++ with_ends rest) (pushed ∙ ap (λ (r : SetRow). old ++ with_ends (set_row_line r ∷ [])) is)
    ∙ append_assoc old (with_ends first) (with_ends rest)
    ∙ ap (λ (bytes : List ℕ). old ++ bytes) (sym (with_ends-append first rest)
    ∙ sym (at_drop_more (λ (rs : List SetRow). with_ends (map set_row_line rs)) rows i d within))
    ∙ so_far

-- The whole text.

-- lines behind a text, part by part
pub trees_pushed : (old first second third : List ℕ) (proof open_lines end : List (List ℕ)) →
    first ≡ old ++ with_ends proof → second ≡ first ++ with_ends open_lines → third ≡ second ++ with_ends end →
    third ≡ ((old ++ with_ends proof) ++ with_ends open_lines) ++ with_ends end
trees_pushed old first second third proof open_lines end one two three =
    three ∙ ap (λ (bytes : List ℕ). bytes ++ with_ends end) (two ∙ ap (λ (bytes : List ℕ). bytes ++ with_ends open_lines) one)

-- the head, the costs and the rows
pub front_spelled : (verdict : List ℕ) (costs : Option Costs) (rows : List SetRow) (head second third : List ℕ) →
    head ≡ with_ends (codes "ospfcost spread answer 1" ∷ verdict ∷ []) →
    second ≡ head ++ with_ends (costs_lines costs) → third ≡ second ++ with_ends (set_rows_lines rows) →
    third ≡ with_ends (front_lines verdict costs rows)
front_spelled verdict costs rows head second third one two three =
    let a = codes "ospfcost spread answer 1" ∷ verdict ∷ [] in
    joined (a ++ costs_lines costs) (set_rows_lines rows) second third (joined a (costs_lines costs) head second one two) three

-- the trees and the last line behind them
pub trees_behind : (verdict : List ℕ) (costs : Option Costs) (rows : List SetRow) (proof undecided : Option CapTree)
    (front whole : List ℕ) → front ≡ with_ends (front_lines verdict costs rows) →
    whole ≡ ((front ++ with_ends (tree_lines (codes "proof") proof))
    ++ with_ends (tree_lines (codes "open") undecided)) ++ with_ends (codes "end" ∷ []) →
    whole ≡ with_ends (spread_lines verdict costs rows proof undecided)
trees_behind verdict costs rows proof undecided front whole first last =
    let d = front_lines verdict costs rows in
    let e = d ++ tree_lines (codes "proof") proof in
    let f = e ++ tree_lines (codes "open") undecided in
    last
    ∙ ap (λ (bytes : List ℕ). ((bytes ++ with_ends (tree_lines (codes "proof") proof))
    ++ with_ends (tree_lines (codes "open") undecided)) ++ with_ends (codes "end" ∷ [])) first
    ∙ sym (with_ends-append f (codes "end" ∷ [])
    ∙ ap (λ (bytes : List ℕ). bytes ++ with_ends (codes "end" ∷ [])) (with_ends-append e (tree_lines (codes "open") undecided)
    ∙ ap (λ (bytes : List ℕ). bytes ++ with_ends (tree_lines (codes "open") undecided)) (with_ends-append d (tree_lines (codes "proof") proof))))
