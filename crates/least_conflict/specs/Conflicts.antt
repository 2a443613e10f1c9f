-- Conflicts among requests, and what is found of them.
use Rattle.std.specs.Prelude.{◌≡◌, ◌⊎◌, ℕ, ◌^◌, ◌<◌, List, [], length, slice_index, slice_index_or, All, Contains}
use Rattle.std.specs.List.{remove}
use Rattle.std.specs.List.Sorted.{IsStrictlyIncreasing}
use Rattle.cost_base.specs.Lists.{numbers_from}
use Rattle.design_problem.specs.declared.form.Row.{Row}
use Rattle.design_problem.specs.declared.tree.Entry.{Entry}
use Rattle.design_problem.specs.declared.tree.Entry.TheVariants.{Undone}
use Rattle.design_problem.specs.Problems.{DesignProblem, restricted}
use Rattle.design_problem.specs.Rows.{IsFit, IsRow, LeadsEach, forms_of_rows}
use Rattle.design_problem.specs.Trees.{IsClosed, entry_count}
use Rattle.design_problem.specs.Earnest.{IsFormOfRow}
use Rattle.design_problem.specs.Answers.{whole_box}
use Rattle.design_problem.specs.ProblemLaws.{HasNoFit}
use Rattle.design_problem.specs.SearchTrees.{IsShort}
use Rattle.printed_rows.specs.PrintedTrees.{IsPrintedOver}
use Rattle.printed_rows.specs.Sheets.{IsSheet}
use Rattle.cost_branching.specs.Pools.{Differ}
use Rattle.least_conflict.specs.declared.conflict.Conflict.{Conflict}
use Rattle.least_conflict.specs.declared.conflict.Conflict.TheVariants.{Fit, Least, Undecided}

-- numbers of requests, in rising order
pub record IsRequestSet (p : DesignProblem) (members : List ℕ) : Type 0 where
  pub rising : IsStrictlyIncreasing members
  pub known : All (λ m. m < length p.requests) members

-- the numbers of all requests
abbrev pub all_requests : DesignProblem → List ℕ
all_requests p = numbers_from 0 (length p.requests)

-- the row of a problem of some requests alone, with its request's number in the whole problem
abbrev pub whole_row : List ℕ → Row → Row
whole_row members row = record { request = slice_index members row.request; rival = row.rival }

-- a conflict: no costs are fit for these requests alone
abbrev pub IsConflict : DesignProblem → List ℕ → Type 0
IsConflict p members = HasNoFit (restricted p members)

-- a least conflict: besides each set without one of its members has fit costs
pub record IsLeastConflict (p : DesignProblem) (members : List ℕ) : Type 0 where
  pub set : IsRequestSet p members
  pub conflict : IsConflict p members
  pub least : (k : ℕ) → k < length members → (w : List ℕ) × IsFit (restricted p (remove members k)) w

-- Rows and a tree that are told of a set of requests: a sheet of rows of the whole problem, each of a member. The tree
-- stands over the box at the greatest bound, and is earnest for the restricted problem. Each of its entries fits the
-- text, and a Refute names at most one row more than there are variables.
pub record IsTreeOfRequests (p : DesignProblem) (top nodes : ℕ) (members : List ℕ) (rows : List Row) (tree : List Entry) : Type 0 where
  pub sheet : IsSheet (IsRow p) Differ 0 rows tree
  pub of_members : All (λ row. Contains members row.request) rows
  pub printed : IsPrintedOver (LeadsEach (restricted p members)) (IsFormOfRow (restricted p members)) top nodes (forms_of_rows p rows) (whole_box p) tree
  pub few : length rows < 2 ^ 64
  pub short : All (IsShort (length p.low)) tree

-- a least conflict, with the closed tree that refutes it and, for each of its members, costs that are fit without it
pub record IsLeastConflictShown (p : DesignProblem) (top nodes : ℕ) (members : List ℕ) (rows : List Row) (tree : List Entry) (without : List (List ℕ)) : Type 0
  where
    pub least : IsLeastConflict p members
    pub told : IsTreeOfRequests p top nodes members rows tree
    pub closed : IsClosed tree
    pub counted : length without ≡ length members
    pub fits : (k : ℕ) → k < length members → IsFit (restricted p (remove members k)) (slice_index_or without k [])

-- a conflict without one of its members
pub record IsConflictLessOne (p : DesignProblem) (members : List ℕ) : Type 0 where
  pub larger : List ℕ
  pub set : IsRequestSet p larger
  pub conflict : IsConflict p larger
  pub place : ℕ
  pub known : place < length larger
  pub same : members ≡ remove larger place

-- undecided: the budget was used up at this set, which is all requests, or a conflict without one of its members
pub record IsUndecidedConflict (p : DesignProblem) (top nodes : ℕ) (members : List ℕ) (rows : List Row) (tree : List Entry) : Type 0 where
  pub set : IsRequestSet p members
  pub tried : (members ≡ all_requests p) ⊎ IsConflictLessOne p members
  pub told : IsTreeOfRequests p top nodes members rows tree
  pub undone : Contains tree Undone
  pub used_up : entry_count tree ≡ nodes

-- what is found of a problem's requests
abbrev pub IsConflictFound : DesignProblem → ℕ → ℕ → Conflict → Type 0
IsConflictFound p top nodes (Fit costs) = IsFit p costs
IsConflictFound p top nodes (Least members rows tree without) = IsLeastConflictShown p top nodes members rows tree without
IsConflictFound p top nodes (Undecided members rows tree) = IsUndecidedConflict p top nodes members rows tree
