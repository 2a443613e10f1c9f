use Rattle.std.proofs.Common.{◌≡◌, ◌≤◌, ◌∷◌, ◌++◌, ℕ, List, length, map, codes, sym, subst, ap, ◌∙◌}
use Rattle.cost_base.specs.Decimal.{decimal}
use Rattle.design_problem.specs.Text.{row_line}
use Rattle.line_builder.specs.Words.{with_words}
use Rattle.line_builder.proofs.WordLaws.{spaced-with}
use Rattle.evidence_text.proofs.lines.write_row.Goals as goal

-- the first two words of a row's line
begun : (start new : List ℕ) (value request : ℕ) → start ≡ codes "row" → value ≡ request →
    new ≡ start ++ 32 ∷ decimal value → new ≡ codes "row" ++ 32 ∷ decimal request
begun start new value request a b h = h ∙ ap (λ (n : ℕ). start ++ 32 ∷ decimal n) b ∙ ap (λ (l : List ℕ). l ++ 32 ∷ decimal request) a

pub push_numbers-requires : goal.push_numbers-requires
push_numbers-requires c =
    let row = c.args.row.now in
    let first = begun c.start.new.self c.push_number.new.self c.from.result row.request c.start.ensures c.from.ensures c.push_number.ensures in
    let same : row_line row ≡ with_words c.push_number.new.self (map decimal c.as_slice.result.now) =
    spaced-with (codes "row") (decimal row.request ∷ map decimal row.rival)
    ∙ ap (λ (l : List ℕ). with_words l (map decimal row.rival)) (sym first)
    ∙ ap (λ (edges : List ℕ). with_words c.push_number.new.self (map decimal edges)) (sym c.as_slice.ensures)
    in subst (λ (l : List ℕ). length l ≤ 65536) same c.requires

pub returns : goal.returns
returns c =
    let row = c.args.row.now in
    let first = begun c.start.new.self c.push_number.new.self c.from.result row.request c.start.ensures c.from.ensures c.push_number.ensures in
    c.push_numbers.ensures
    ∙ ap (λ (edges : List ℕ). with_words c.push_number.new.self (map decimal edges)) c.as_slice.ensures
    ∙ ap (λ (l : List ℕ). with_words l (map decimal row.rival)) first
    ∙ sym (spaced-with (codes "row") (decimal row.request ∷ map decimal row.rival))
