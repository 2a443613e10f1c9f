-- What the reader of a file of sets keeps while it takes the statements.
use Rattle.std.specs.Prelude.{◌≡◌, ℕ, ◌≤◌, List, [], ◌∷◌, ◌++◌, ◌||◌, not, nat_lt, Bool, true, Option, Some, None, length, slice_index_or}
use Rattle.std.specs.List.{concat, AllZip}
use Rattle.text_lines.specs.Statements.{SaidLine}
use Rattle.area_graph.specs.Distances.{AreEdgeMarks}
use Rattle.design_problem.specs.declared.problem.Request.{Request}
use Rattle.design_problem.specs.Problems.{DesignProblem, request_at}
use Rattle.set_reader.specs.declared.reading.statement.Statement.{Statement}
use Rattle.set_reader.specs.declared.reading.statement.Statement.TheVariants.{Numbers}
use Rattle.set_reader.specs.SetLines.{numbers_of_set}
use Rattle.set_reader.specs.SpreadSets.{AreSetsOf}
use Rattle.set_reader.specs.Reading.{IsInOrder, excludes_edges, has_other_ends, sets_told_by}

-- what was read so far: the sets, in rising order each
pub record SoFar : Type 0 where
  pub problem : DesignProblem
  pub sets : List (List ℕ)

-- lawful sets, and marks of the requests that stand in them
pub record KeepsSets (p : DesignProblem) (sets : List (List ℕ)) (taken : List Bool) : Type 0 where
  pub count : length taken ≡ length p.requests
  pub marks : AreEdgeMarks (concat sets) taken
  pub lawful : AreSetsOf p sets

-- a `set` line has at least two numbers
abbrev pub HasSeveral : Statement → Type 0
HasSeveral (Numbers numbers) = 2 ≤ length numbers
HasSeveral _ = Unit {0}

-- the sets, and one more where a line gives numbers
abbrev pub AddsSet : Option (List ℕ) → List (List ℕ) → List (List ℕ) → Type 0
AddsSet None sets after = after ≡ sets
AddsSet (Some numbers) sets after = (set : List ℕ) × IsInOrder numbers set × (after ≡ sets ++ set ∷ [])

-- what was read after one statement more, with no fault
pub record TakesStatement (before : SoFar) (said : Statement) (after : SoFar) : Type 0 where
  pub problem : after.problem ≡ before.problem
  pub sets : AddsSet (numbers_of_set said) before.sets after.sets

-- of the same problem, the sets of these statements were read, each in rising order
pub record HasTaken (start now : SoFar) (before : List SaidLine) : Type 0 where
  pub problem : now.problem ≡ start.problem
  pub sets : AllZip IsInOrder (sets_told_by before) now.sets

-- A number may not stand behind these members, whatever their edges: it is no path's, it is marked, its request
-- excludes an edge, or its path has other ends than the first member's.
abbrev pub is_out_of_place : List Request → List Bool → List ℕ → ℕ → Bool
is_out_of_place requests taken members i =
    not (nat_lt i (length requests))
    || (slice_index_or taken i true || excludes_edges (request_at requests i) || has_other_ends requests members (request_at requests i))
