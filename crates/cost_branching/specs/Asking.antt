-- What one request's answer does to the rows and to the pool of forms, and what the answers of some requests do.
use Rattle.std.specs.Prelude.{◌≡◌, ℕ, ◌<◌, List, [], ◌∷◌, ◌++◌, pos, ◌≤ℤ◌, ◌⊎◌, All, Bool, true, false}
use Rattle.area_graph.specs.declared.Point.{Point}
use Rattle.design_problem.specs.Forms.{Form}
use Rattle.design_problem.specs.Forms.{value_at}
use Rattle.design_problem.specs.declared.form.Row.{Row}
use Rattle.design_problem.specs.Problems.{DesignProblem, request_at, IsProblemOnGraph}
use Rattle.design_problem.specs.Rows.{LeadsEach, form_of_row, forms_of_rows}
use Rattle.rival_separation.specs.Askers.{RequestLeads}
use Rattle.form_search.specs.Sources.{Grows, HasNewForm, IsSourceAnswer}
use Rattle.form_search.specs.declared.source.Asked.{Asked}
use Rattle.form_search.specs.declared.source.Asked.TheVariants.{Nothing, Added}
use Rattle.cost_branching.specs.Pools.{ArePoolRows, IsRowPool}
use Rattle.cost_branching.specs.Rivals.{IsRivalTooCheap, IsTrueRowForm, KnownRows}

-- a request was asked whose path leads, and nothing came
pub record NoRivalRow (point : Point) (request : ℕ) (old : KnownRows) (old_forms : List Form) (new : KnownRows) (new_forms : List Form) : Type 0 where
  pub leads : RequestLeads old.problem.graph point (request_at old.problem.requests request)
  pub rows : new ≡ old
  pub forms : new_forms ≡ old_forms

-- a rival of the request that is too cheap came as a row
pub record OneRivalRow (point : Point) (request : ℕ) (old : KnownRows) (old_forms : List Form) (new : KnownRows) (new_forms : List Form) : Type 0 where
  pub kept : IsProblemOnGraph old.problem
  pub row : Row
  pub request_is : row.request ≡ request
  pub cheap : IsRivalTooCheap old.problem point row.request row.rival
  pub rows : new ≡ record old { rows = old.rows ++ row ∷ [] }
  pub forms : new_forms ≡ old_forms ++ form_of_row old.problem row ∷ []

-- a request was asked: its path leads and nothing came, or a rival that is too cheap came as a row
abbrev pub IsRequestAsked : Point → ℕ → KnownRows → List Form → KnownRows → List Form → Bool → Type 0
IsRequestAsked point request old old_forms new new_forms true = OneRivalRow point request old old_forms new new_forms
IsRequestAsked point request old old_forms new new_forms false = NoRivalRow point request old old_forms new new_forms

-- nothing was added where the paths of the first requests lead, and something where one doesn't
abbrev pub AnswersRequestsBelow : DesignProblem → Point → ℕ → List Form → List Form → Asked → Type 0
AnswersRequestsBelow p point requests old_forms new_forms Nothing = (new_forms ≡ old_forms) ×
    ((k : ℕ) → k < requests → RequestLeads p.graph point (request_at p.requests k))
AnswersRequestsBelow p point requests old_forms new_forms Added = (LeadsEach p point → ⊥) × HasNewForm point old_forms new_forms

-- The first requests were asked: rows and forms are in step, and true forms came. A row is of one of these requests, or
-- its form is at least 0 at the point.
pub record AreRequestsAsked (point : Point) (requests : ℕ) (old : KnownRows) (old_forms : List Form) (new : KnownRows)
    (new_forms : List Form) (asked : Asked) : Type 0 where
  pub problem : new.problem ≡ old.problem
  pub in_step : IsRowPool old.problem (record { rows = new.rows; forms = new_forms })
  pub grows : Grows (IsTrueRowForm old.problem) old_forms new_forms
  pub apart : All (λ row. (row.request < requests) ⊎ (pos 0 ≤ℤ value_at (form_of_row old.problem row) point)) new.rows
  pub answer : AnswersRequestsBelow old.problem point requests old_forms new_forms asked

-- The first requests were asked, where the pool may hold other forms besides those of the rows: it got the forms of the
-- rows that came, and no other.
pub record AreAskedAmong (point : Point) (requests : ℕ) (old : KnownRows) (old_forms : List Form) (new : KnownRows)
    (new_forms : List Form) (asked : Asked) : Type 0 where
  pub own : AreRequestsAsked point requests old (forms_of_rows old.problem old.rows) new (forms_of_rows old.problem new.rows) asked
  pub more : List Form
  pub rows : forms_of_rows old.problem new.rows ≡ forms_of_rows old.problem old.rows ++ more
  pub forms : new_forms ≡ old_forms ++ more
  pub grows : Grows (IsTrueRowForm old.problem) old_forms new_forms

-- All requests were asked, where the pool may hold other forms besides those of the rows: it got the forms of the rows
-- that came, and no other. The rows' own forms tell whether each path leads.
pub record AreAllRequestsAsked (point : Point) (old : KnownRows) (old_forms : List Form) (new : KnownRows) (new_forms : List Form) (asked : Asked) : Type 0
  where
    pub problem : new.problem ≡ old.problem
    pub are_rows : ArePoolRows old.problem new.rows
    pub more : List Form
    pub rows : forms_of_rows old.problem new.rows ≡ forms_of_rows old.problem old.rows ++ more
    pub forms : new_forms ≡ old_forms ++ more
    pub answer : IsSourceAnswer (LeadsEach old.problem) point (forms_of_rows old.problem old.rows) (forms_of_rows old.problem new.rows) asked
