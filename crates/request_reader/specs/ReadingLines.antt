-- What a statement of a request file says by itself.
use Rattle.std.specs.Prelude.{ℕ, List, [], ◌∷◌, ◌==◌, ◌&&◌, nat_le, if◌then◌else◌, Bool, Option, Some, None, Result, Ok, Err, codes, is_none}
use Rattle.cost_base.specs.Lists.{same_bytes}
use Rattle.text_lines.specs.Numbers.{number, number_within, area}
use Rattle.text_lines.specs.WordLists.{all_said}
use Rattle.request_reader.specs.declared.Excluded.{Excluded}
use Rattle.request_reader.specs.declared.Excluded.TheVariants.{Router, Interface}
use Rattle.request_reader.specs.declared.Directive.TheVariants.{FreeAll, Free, Fix, Path, SymmetricAll, Symmetric}
use Rattle.request_reader.specs.declared.fault.RequestFault.{RequestFault}
use Rattle.request_reader.specs.declared.fault.RequestFault.TheVariants.{BadRequestLine, BadBounds}
use Rattle.request_reader.specs.declared.reading.statement.Statement.{Statement}
use Rattle.request_reader.specs.declared.reading.statement.Statement.TheVariants.{Area, DefaultCost, Ask, Refused}
use Rattle.request_reader.specs.declared.reading.statement.Bounds.{Bounds}
use Rattle.request_reader.specs.WrittenRoutes.{Route}
use Rattle.request_reader.specs.Routes.{cut, hop_of, route_of}

-- what a line says that isn't one of those below: it is refused
abbrev pub bad_request_line : Statement
bad_request_line = Refused BadRequestLine

-- an `area` line, by the area that was read
abbrev pub area_line_by : Option ℕ → Statement
area_line_by None = bad_request_line
area_line_by (Some a) = Area a

-- an `area X` line, by the words behind the first
abbrev pub area_line : List (List ℕ) → Statement
area_line (word ∷ []) = area_line_by (area word)
area_line _ = bad_request_line

-- a `default-cost` line, by the number that was read
abbrev pub default_cost_read : Option ℕ → Statement
default_cost_read None = bad_request_line
default_cost_read (Some n) = if n == 0 then bad_request_line else DefaultCost n

-- `default-cost N`, N from 1 to 65535
abbrev pub default_cost_line : List (List ℕ) → Statement
default_cost_line (word ∷ []) = default_cost_read (number word 65535)
default_cost_line _ = bad_request_line

-- a number of at most nine digits
abbrev pub bound : List ℕ → Option ℕ
bound word = number_within 9 999999999 word

-- bounds of costs, where 1 ≤ LO ≤ HI ≤ 65535; where a word is no number the line is refused as a whole
abbrev pub bounds_of : Option ℕ → Option ℕ → Result Bounds RequestFault
bounds_of (Some lo) (Some hi) = if nat_le 1 lo && nat_le lo hi && nat_le hi 65535 then Ok (record { low = lo; high = hi }) else Err BadBounds
bounds_of _ _ = Err BadRequestLine

-- LO and HI: numbers, of which 1 ≤ LO ≤ HI ≤ 65535
abbrev pub bounds_said : List ℕ → List ℕ → Result Bounds RequestFault
bounds_said lo hi = bounds_of (bound lo) (bound hi)

-- a `free all` line, by its bounds
abbrev pub free_all : Result Bounds RequestFault → Statement
free_all (Ok b) = Ask (FreeAll b.low b.high)
free_all (Err fault) = Refused fault

-- a `free` line of one interface, by its bounds
abbrev pub free_one : List ℕ → List ℕ → Result Bounds RequestFault → Statement
free_one router interface (Ok b) = Ask (Free router interface b.low b.high)
free_one router interface (Err fault) = Refused fault

-- a word R has no `:`
abbrev pub is_router_word : List ℕ → Bool
is_router_word word = is_none (cut 58 word)

-- `free all LO HI` or `free R IF LO HI`
abbrev pub free_line : List (List ℕ) → Statement
free_line (all ∷ lo ∷ hi ∷ []) = if same_bytes all (codes "all") then free_all (bounds_said lo hi) else bad_request_line
free_line (router ∷ interface ∷ lo ∷ hi ∷ []) = if is_router_word router then free_one router interface (bounds_said lo hi) else bad_request_line
free_line _ = bad_request_line

-- a `fix R IF` line, by the words behind the first
abbrev pub fix_line : List (List ℕ) → Statement
fix_line (router ∷ interface ∷ []) = if is_router_word router then Ask (Fix router interface) else bad_request_line
fix_line _ = bad_request_line

-- `symmetric all` or `symmetric R IF`
abbrev pub symmetric_line : List (List ℕ) → Statement
symmetric_line (all ∷ []) = if same_bytes all (codes "all") then Ask SymmetricAll else bad_request_line
symmetric_line (router ∷ interface ∷ []) = if is_router_word router then Ask (Symmetric router interface) else bad_request_line
symmetric_line _ = bad_request_line

-- the word is `without`
abbrev pub is_without : List ℕ → Bool
is_without word = same_bytes word (codes "without")

-- the words before the first `without`
abbrev pub to_without : List (List ℕ) → List (List ℕ)
to_without [] = []
to_without (word ∷ words) = if is_without word then [] else word ∷ to_without words

-- the words behind the first `without`, where there is one
abbrev pub behind_without : List (List ℕ) → Option (List (List ℕ))
behind_without [] = None
behind_without (word ∷ words) = if is_without word then Some words else behind_without words

-- an interface as a part to be excluded
abbrev pub part_of_hop : Option (List ℕ × List ℕ) → Option Excluded
part_of_hop None = None
part_of_hop (Some hop) = Some (Interface hop.0 hop.1)

-- a word R or R:IF
abbrev pub part_of : List ℕ → Option Excluded
part_of word = if is_router_word word then Some (Router word) else part_of_hop (hop_of word)

-- the parts that words name
abbrev pub parts_by_words : List (List ℕ) → Option (List Excluded)
parts_by_words words = all_said part_of words

-- what a path excludes: nothing without the word `without`, and at least one part behind it
abbrev pub excluded_parts : Option (List (List ℕ)) → Option (List Excluded)
excluded_parts None = Some []
excluded_parts (Some []) = None
excluded_parts (Some (word ∷ words)) = parts_by_words (word ∷ words)

-- a `path` line, by its route and the parts that it excludes
abbrev pub path_said : Option Route → Option (List Excluded) → Statement
path_said (Some route) (Some parts) = Ask (Path route parts)
path_said _ _ = bad_request_line

-- `path R:IF R:IF .. R` or `path R:IF R:IF .. R without W ..`; the word `without` is looked for from the line's third
-- word on
abbrev pub path_line : List (List ℕ) → Statement
path_line [] = bad_request_line
path_line (word ∷ words) = path_said (route_of (word ∷ to_without words)) (excluded_parts (behind_without words))

-- what a line of a request file says, by its first word and those behind it
abbrev pub request_statement_by : List ℕ → List (List ℕ) → Statement
request_statement_by word words =
    if same_bytes word (codes "path") then path_line words
    else if same_bytes word (codes "free") then free_line words
    else if same_bytes word (codes "fix") then fix_line words
    else if same_bytes word (codes "symmetric") then symmetric_line words
    else if same_bytes word (codes "area") then area_line words
    else if same_bytes word (codes "default-cost") then default_cost_line words
    else bad_request_line

-- what a line of a request file says, by its words
abbrev pub request_statement_of : List (List ℕ) → Statement
request_statement_of [] = bad_request_line
request_statement_of (word ∷ words) = request_statement_by word words
