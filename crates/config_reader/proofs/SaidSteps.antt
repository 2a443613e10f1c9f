-- What a file says with one more line.
use Rattle.std.proofs.Common.{◌≡◌, ℕ, ◌+◌, ◌<◌, List, [], ◌∷◌, ◌++◌, length, get_or, take, Bool, false, ◌&&◌, refl, ap, ◌∙◌, arith, map, Option, Some, None}
use Rattle.std.specs.Prelude.{if◌then◌else◌, codes}
use Rattle.std.specs.List.{filter, filter_map, cons_option}
use Rattle.std.proofs.lemmas.List.{get_or_append_left, take-append-le, take_at, get_or_at}
use Rattle.cost_base.specs.Lists.{numbers_from, last_of}
use Rattle.cost_base.proofs.ListLemmas.{length-push}
use Rattle.text_lines.specs.Lines.{words, kind_of, is_head}
use Rattle.config_reader.specs.Statements.{block_of, begin_with, word_at}
use Rattle.config_reader.specs.Settings.{Said, said, said_at_place, said_by, block_by_head}
use Rattle.config_reader.specs.Configs.{opened_at, name_with_line, name_opened}
use Rattle.config_reader.specs.RouterNames.{is_hostname_head, last_hostname, name_and_line, router_name_said}
use Rattle.config_reader.proofs.LongerLists.{map-numbers_more, filter_map-numbers_more, filter-numbers_same, last_passing-lt}

-- what a line says at a place, behind a head
abbrev pub said_behind : ℕ → Option (List ℕ) → List ℕ → Said
said_behind i head line = said_by (kind_of line) (i + 1) (block_by_head head) (words line)

-- what a line says after the lines of a file
abbrev pub said_after : List (List ℕ) → List ℕ → Said
said_after file line = said_behind (length file) (last_of (filter is_head file)) line

-- a line says the same whatever follows
pub said_at-append : (file more : List (List ℕ)) (i : ℕ) → i < length file → said_at_place (file ++ more) i ≡ said_at_place file i
said_at-append file more i within =
    let line : get_or (file ++ more) i [] ≡ get_or file i [] = get_or_append_left file more [] i within in
    let before : take i (file ++ more) ≡ take i file = take-append-le i file more (omega arith) in
    ap (λ (l : List ℕ). said_behind i (last_of (filter is_head (take i (file ++ more)))) l) line
    ∙ ap (λ (front : List (List ℕ)). said_behind i (last_of (filter is_head front)) (get_or file i [])) before

-- what the last line of a file says
pub last_said : (file : List (List ℕ)) (line : List ℕ) → said_at_place (file ++ line ∷ []) (length file) ≡ said_after file line
last_said file line =
    ap (λ (l : List ℕ). said_behind (length file) (last_of (filter is_head (take (length file) (file ++ line ∷ [])))) l)
    (get_or_at file line [] [] (length file) refl)
    ∙ ap (λ (front : List (List ℕ)). said_behind (length file) (last_of (filter is_head front)) line) (take_at file (line ∷ []) (length file) refl)

-- one more line says one thing more
pub said-push : (file : List (List ℕ)) (line : List ℕ) → said (file ++ line ∷ []) ≡ said file ++ said_after file line ∷ []
said-push file line =
    ap (λ n. map (said_at_place (file ++ line ∷ [])) (numbers_from 0 n)) (length-push file line)
    ∙ map-numbers_more (said_at_place (file ++ line ∷ [])) (said_at_place file) (length file) (λ i within. said_at-append file (line ∷ []) i within)
    ∙ ap (λ (s : Said). said file ++ s ∷ []) (last_said file line)

-- the interface that a line opens at a place
abbrev pub opened_from : ℕ → List ℕ → Option (List ℕ × ℕ)
opened_from i line = if is_head line then name_with_line (i + 1) (name_opened (block_of (words line))) else None

-- one more line opens at most one interface more
pub opened-push : (file : List (List ℕ)) (line : List ℕ) →
    filter_map (opened_at (file ++ line ∷ [])) (numbers_from 0 (length (file ++ line ∷ [])))
    ≡ filter_map (opened_at file) (numbers_from 0 (length file)) ++ cons_option (opened_from (length file) line) []
opened-push file line =
    ap (λ n. filter_map (opened_at (file ++ line ∷ [])) (numbers_from 0 n)) (length-push file line)
    ∙ filter_map-numbers_more (opened_at (file ++ line ∷ [])) (opened_at file) (length file)
    (λ i within. ap (λ (l : List ℕ). opened_from i l) (get_or_append_left file (line ∷ []) [] i within))
    ∙ ap (λ (l : List ℕ). filter_map (opened_at file) (numbers_from 0 (length file))
    ++ cons_option (opened_from (length file) l) []) (get_or_at file line [] [] (length file) refl)

-- whether a line is a `hostname` head
abbrev pub names_router : List ℕ → Bool
names_router line = is_head line && begin_with (codes "hostname" ∷ []) (words line)

-- one more line that is no `hostname` head leaves the router's name
pub router_name-push : (file_name : List ℕ) (file : List (List ℕ)) (line : List ℕ) → names_router line ≡ false →
    router_name_said file_name (file ++ line ∷ []) ≡ router_name_said file_name file
router_name-push file_name file line other = ap (name_and_line file_name (file ++ line ∷ [])) last
    ∙ at (last_hostname file) (λ i e. last_passing-lt (is_hostname_head file) 0 (length file) i e)
  where
    last : last_hostname (file ++ line ∷ []) ≡ last_hostname file
    last =
        ap (λ n. last_of (filter (is_hostname_head (file ++ line ∷ [])) (numbers_from 0 n))) (length-push file line)
        ∙ ap last_of (filter-numbers_same (is_hostname_head (file ++ line ∷ [])) (is_hostname_head file) (length file)
        (λ i within. ap names_router (get_or_append_left file (line ∷ []) [] i within))
        (ap names_router (get_or_at file line [] [] (length file) refl) ∙ other))

    at : (o : Option ℕ) → ((i : ℕ) → o ≡ Some i → i < 0 + length file) → name_and_line file_name (file ++ line ∷ []) o ≡ name_and_line file_name file o
    at None within = refl
    at (Some i) within =
        let known : i < length file = omega (arith, within i refl) in
        ap (λ (l : List ℕ). (word_at (words l) 1, i + 1)) (get_or_append_left file (line ∷ []) [] i known)
