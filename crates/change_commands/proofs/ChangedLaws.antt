-- The lines that costs change, link by link.
use Rattle.std.proofs.Common.{◌≡◌, ℕ, ◌+◌, ◌<◌, refl, sym, ◌∙◌, ap, List, [], ◌∷◌, ◌++◌, length, map, drop, get_or, append_assoc, Bool, true, false, Option, None, Some}
use Rattle.std.specs.Prelude.{◌==◌, ◌&&◌, not, if◌then◌else◌, slice_index, slice_index_or}
use Rattle.std.proofs.lemmas.List.{at_drop_more, map-append}
use Rattle.area_graph.specs.declared.Price.{Price}
use Rattle.lsdb_build.specs.declared.Linked.{Linked}
use Rattle.lsdb_build.specs.Graphs.{Database}
use Rattle.design_problem.specs.declared.answer.CostLine.{CostLine}
use Rattle.design_problem.specs.declared.problem.VarName.{VarName}
use Rattle.request_reader.specs.Asked.{Asked}
use Rattle.path_requests.specs.declared.ranges.Range.{Range}
use Rattle.path_requests.specs.declared.ranges.Range.TheVariants.{Within, AsItIs}
use Rattle.path_requests.specs.Meaning.{is_free, present_cost, price_of, range_of, variable_of}
use Rattle.printed_rows.specs.PrintedCosts.{named_cost}
use Rattle.change_commands.specs.ChangedLines.{changed_lines, changed_names_from, line_with, changed_cost}

-- the name of a link with its variable
abbrev name_at : Asked → Database → ℕ → Linked → VarName
name_at a d l link = record { router = slice_index_or d.routers link.router []; interface = link.interface; var = variable_of a d l }

-- the names of a link with this range that costs change
abbrev names_by : Asked → Database → List ℕ → ℕ → Linked → Range → List VarName
names_by a d w l link range =
    if is_free range && not (present_cost a link == slice_index w (variable_of a d l)) then name_at a d l link ∷ [] else []

line_is : (a : Asked) (d : Database) (w : List ℕ) (l : ℕ) (link : Linked) (range : Range) →
    line_with d link (changed_cost (price_of a d l link range) (present_cost a link) w) ≡ map (named_cost w) (names_by a d w l link range)
line_is a d w l link (Within low high) = by_test (present_cost a link == slice_index w (variable_of a d l))
  where
    by_test : (same : Bool) →
        line_with d link (if same then None else Some (slice_index w (variable_of a d l)))
        ≡ map (named_cost w) (if true && not same then name_at a d l link ∷ [] else [])
    by_test true = refl
    by_test false = refl
line_is a d w l link AsItIs = refl

-- one link more
pub changed_step : (a : Asked) (d : Database) (w : List ℕ) (i : ℕ) (none link : Linked) (price : Price) (cost : Option ℕ) (olds news : List CostLine) →
    i < length d.links → link ≡ get_or d.links i none → price ≡ price_of a d i link (range_of a d link) →
    cost ≡ changed_cost price (present_cost a link) w → news ≡ olds ++ line_with d link cost →
    olds ++ map (named_cost w) (changed_names_from a d w i (drop i d.links)) ≡ changed_lines a d w →
    news ++ map (named_cost w) (changed_names_from a d w (i + 1) (drop (i + 1) d.links)) ≡ changed_lines a d w
changed_step a d w i none link price cost olds news within is priced costs pushed so_far =
    let rest = changed_names_from a d w (i + 1) (drop (i + 1) d.links) in
    let here = names_by a d w i link (range_of a d link) in
    let line : line_with d link cost ≡ map (named_cost w) here =
    ap (line_with d link) (costs ∙ ap (λ (p : Price). changed_cost p (present_cost a link) w) priced) ∙ line_is a d w i link (range_of a d link) in
    let left : changed_names_from a d w i (drop i d.links) ≡ here ++ rest =
    at_drop_more (changed_names_from a d w i) d.links i none within
    ∙ ap (λ (x : Linked). changed_names_from a d w i (x ∷ drop (i + 1) d.links)) (sym is) in
    ap (λ (ls : List CostLine). ls ++ map (named_cost w) rest) (pushed ∙ ap (λ (ls : List CostLine). olds ++ ls) line)
    ∙ append_assoc olds (map (named_cost w) here) (map (named_cost w) rest)
    ∙ ap (λ (ls : List CostLine). olds ++ ls) (sym (map-append (named_cost w) here rest))
    ∙ ap (λ (names : List VarName). olds ++ map (named_cost w) names) (sym left)
    ∙ so_far
