-- The sets that a file says, and its faults.
use Rattle.std.specs.Prelude.{ℕ, List, [], ◌∷◌, ◌++◌, ◌||◌, ◌&&◌, not, nat_eq, nat_lt, if◌then◌else◌, Bool, false, Option, Some, None, length, codes, IsPermutation}
use Rattle.std.specs.List.{filter_map, list_any, concat, AllZip}
use Rattle.std.specs.List.Sorted.{IsStrictlyIncreasing}
use Rattle.cost_base.specs.Lists.{same_bytes}
use Rattle.text_lines.specs.Lines.{lines}
use Rattle.text_lines.specs.LineFaults.{FaultyLine}
use Rattle.text_lines.specs.Statements.{SaidLine, TextRules, statements, text_fault}
use Rattle.design_problem.specs.declared.problem.Request.{Request}
use Rattle.design_problem.specs.Problems.{DesignProblem, request_at}
use Rattle.set_reader.specs.declared.fault.SetFault.{SetFault}
use Rattle.set_reader.specs.declared.fault.SetFault.TheVariants.{BadSetLine, WrongSet}
use Rattle.set_reader.specs.declared.reading.statement.Statement.{Statement}
use Rattle.set_reader.specs.declared.reading.statement.Statement.TheVariants.{Numbers, Off}
use Rattle.set_reader.specs.SetLines.{numbers_of_set, set_statement_of}

-- the number is one of these
abbrev pub stands_in : ℕ → List ℕ → Bool
stands_in i numbers = list_any (nat_eq i) numbers

-- the two paths lead between the same ends
abbrev pub same_ends : Request → Request → Bool
same_ends a b = nat_eq a.path.start b.path.start && nat_eq a.end b.end

-- a request's path has other ends than the path of the set's first member
abbrev pub has_other_ends : List Request → List ℕ → Request → Bool
has_other_ends requests [] request = false
has_other_ends requests (first ∷ more) request = not (same_ends (request_at requests first) request)

-- a request's path has the edges of a member's
abbrev pub has_edges_of : List Request → Request → ℕ → Bool
has_edges_of requests request member = same_bytes request.path.edges (request_at requests member).path.edges

-- the request excludes edges
abbrev pub excludes_edges : Request → Bool
excludes_edges request = nat_lt 0 (length request.excluded)

-- A number may not stand behind these members of its set and these earlier numbers: it is no path's, or it stands there
-- already; or its path has other ends than the first member's, or the same edges as a member's; or its request
-- excludes an edge.
abbrev pub is_wrong_behind : List Request → List ℕ → List ℕ → ℕ → Bool
is_wrong_behind requests earlier members i =
    not (nat_lt i (length requests))
    || stands_in i earlier
    || stands_in i members
    || has_other_ends requests members (request_at requests i)
    || list_any (has_edges_of requests (request_at requests i)) members
    || excludes_edges (request_at requests i)

-- one of the numbers behind these members may not stand there
abbrev pub is_wrong_from : List Request → List ℕ → List ℕ → List ℕ → Bool
is_wrong_from requests earlier members [] = false
is_wrong_from requests earlier members (i ∷ more) =
    is_wrong_behind requests earlier members i || is_wrong_from requests earlier (members ++ i ∷ []) more

-- the numbers of a `set` line are no set behind the numbers of earlier sets
abbrev pub is_wrong_set : List Request → List ℕ → List ℕ → Bool
is_wrong_set requests earlier numbers = is_wrong_from requests earlier [] numbers

-- the numbers of each `set` line among these statements
abbrev pub sets_told_by : List SaidLine → List (List ℕ)
sets_told_by before = filter_map (λ s. numbers_of_set (set_statement_of s.words)) before

-- fault 72, where a set is wrong
abbrev pub wrong_if : Bool → Option SetFault
wrong_if wrong = if wrong then Some WrongSet else None

-- the fault of a statement behind those that say these sets
abbrev pub set_fault_said : List Request → List (List ℕ) → Statement → Option SetFault
set_fault_said requests sets (Numbers numbers) = wrong_if (is_wrong_set requests (concat sets) numbers)
set_fault_said requests sets Off = Some BadSetLine

-- what a file of sets goes by: its header is `ospfcost spread 1`
abbrev pub set_rules : List Request → TextRules SetFault
set_rules requests = record {
  kind = codes "spread";
  bad_line = BadSetLine;
  fault_of = λ before words. set_fault_said requests (sets_told_by before) (set_statement_of words);
}

-- the fault for which a file of sets is refused
abbrev pub set_fault : DesignProblem → List ℕ → Option (FaultyLine SetFault)
set_fault p bytes = text_fault (set_rules p.requests) bytes

-- the numbers of each `set` line of a file, in the order of the lines
abbrev pub numbers_said : List ℕ → List (List ℕ)
numbers_said bytes = sets_told_by (statements (lines bytes))

-- the numbers of a line, in rising order
pub record IsInOrder (numbers set : List ℕ) : Type 0 where
  pub same : IsPermutation numbers set
  pub rising : IsStrictlyIncreasing set

-- the sets of the `set` lines, in the order of the lines
abbrev pub AreSaid : List ℕ → List (List ℕ) → Type 0
AreSaid bytes sets = AllZip IsInOrder (numbers_said bytes) sets
