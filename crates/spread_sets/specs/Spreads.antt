-- Sets of wanted paths that share traffic, costs that spread it over them, and the rows of sets.
use Rattle.std.specs.Prelude.{◌≡◌, ℕ, ◌+◌, ◌==◌, List, [], ◌∷◌, pos, ◌-ℤ◌, map, length, slice_index_or, Bool, if◌then◌else◌, filter, All, Contains}
use Rattle.cost_base.specs.Lists.{numbers_from}
use Rattle.area_graph.specs.declared.Point.{Point}
use Rattle.area_graph.specs.Area.{Area}
use Rattle.area_graph.specs.Paths.{Ends}
use Rattle.area_graph.specs.Costs.{at_costs, cost}
use Rattle.design_problem.specs.declared.form.Form.{Form}
use Rattle.design_problem.specs.Problems.{DesignProblem, request_ends, request_at}
use Rattle.design_problem.specs.Boxes.{IsInBox}
use Rattle.design_problem.specs.Rows.{box_of, fixed_cost, form_between, uses}
use Rattle.set_reader.specs.Reading.{stands_in}
use Rattle.set_separation.specs.Outsiders.{CostAtLeast, IsOutsider}
use Rattle.spread_sets.specs.declared.spread.SetRow.{SetRow}
use Rattle.spread_sets.specs.declared.spread.SetRow.TheVariants.{Outsider, Same}

-- the set in which a path stands: one of the sets of lines, or the path by itself
abbrev pub set_of : List (List ℕ) → ℕ → List ℕ
set_of [] path = path ∷ []
set_of (set ∷ sets) path = if stands_in path set then set else set_of sets path

-- the number by which a set is named: that of its first member, which is the least
abbrev pub name_of_set : List ℕ → ℕ
name_of_set set = slice_index_or set 0 0

-- the path is the first member of its set, by which the set is named
abbrev pub is_first : List (List ℕ) → ℕ → Bool
is_first lines path = name_of_set (set_of lines path) == path

-- the sets of a problem, in rising order of their names: those of lines, and each path in no line by itself
abbrev pub all_sets : DesignProblem → List (List ℕ) → List (List ℕ)
all_sets p lines = map (set_of lines) (filter (is_first lines) (numbers_from 0 (length p.requests)))

-- the edges of a path
abbrev pub edges_of : DesignProblem → ℕ → List ℕ
edges_of p path = (request_at p.requests path).path.edges

-- the edges of each member of a set
abbrev pub paths_of : DesignProblem → List ℕ → List (List ℕ)
paths_of p set = map (edges_of p) set

-- the ends between which the members lead, and the excluded edges of their request
abbrev pub ends_in : DesignProblem → List ℕ → Ends
ends_in p set = request_ends (request_at p.requests (name_of_set set))

-- what the first member costs at a point
abbrev pub cost_of_set : DesignProblem → Point → List ℕ → ℕ
cost_of_set p point set = cost p.graph point (edges_of p (name_of_set set))

-- the members of a set cost the same at a point
abbrev pub AreTied : DesignProblem → Point → List ℕ → Type 0
AreTied p point set = All (λ es. cost p.graph point es ≡ cost_of_set p point set) (paths_of p set)

-- the members cost the same, and every other simple path of their request costs at least the scale more
pub record Shares (p : DesignProblem) (point : Point) (set : List ℕ) : Type 0 where
  pub tied : AreTied p point set
  pub dearer : CostAtLeast p.graph point (ends_in p set) (paths_of p set) (cost_of_set p point set + point.scale)

-- each of the sets shares at the point
abbrev pub SharesEach : DesignProblem → List (List ℕ) → Point → Type 0
SharesEach p sets point = All (Shares p point) sets

-- Spread-fit costs: within the bounds, and for each set all members cost the same and every other simple path of their
-- request costs more.
pub record IsSpreadFit (p : DesignProblem) (sets : List (List ℕ)) (w : List ℕ) : Type 0 where
  pub within : IsInBox (box_of p) w
  pub shares : SharesEach p sets (at_costs w)

-- the set of the problem that is named by this number, that of its first member
pub record IsNamed (sets : List (List ℕ)) (name : ℕ) (set : List ℕ) : Type 0 where
  pub listed : Contains sets set
  pub first : name_of_set set ≡ name

-- a row: an outsider of a set, or two members of a set, which are kept at one cost
abbrev pub IsSetRow : DesignProblem → List (List ℕ) → SetRow → Type 0
IsSetRow p sets (Outsider name outsider) = (set : List ℕ) × IsNamed sets name set × IsOutsider p.graph (ends_in p set) (paths_of p set) outsider
IsSetRow p sets (Same name i j) = (set : List ℕ) × IsNamed sets name set × Contains set i × Contains set j

-- cost(second) - cost(first), in n variables
abbrev pub form_of_tie : Area → ℕ → List ℕ → List ℕ → Form
form_of_tie g n first second =
    record {
      constant = pos (fixed_cost g second) -ℤ pos (fixed_cost g first);
      coefficients = map (λ v. pos (uses g second v) -ℤ pos (uses g first v)) (numbers_from 0 n);
    }

-- the form of a row: cost(outsider) - cost(first member) - 1, or cost(J) - cost(I)
abbrev pub form_of_set_row : DesignProblem → SetRow → Form
form_of_set_row p (Outsider name outsider) = form_between p.graph (length p.low) (edges_of p name) outsider
form_of_set_row p (Same name i j) = form_of_tie p.graph (length p.low) (edges_of p i) (edges_of p j)

-- the forms of rows of sets, in their order
abbrev pub forms_of_set_rows : DesignProblem → List SetRow → List Form
forms_of_set_rows p rows = map (form_of_set_row p) rows

-- the form is that of a row of the sets
pub record IsFormOfSetRow (p : DesignProblem) (sets : List (List ℕ)) (form : Form) : Type 0 where
  pub row : SetRow
  pub is_row : IsSetRow p sets row
  pub same : form_of_set_row p row ≡ form

-- the name of a row's set
abbrev pub name_of : SetRow → ℕ
name_of (Outsider name outsider) = name
name_of (Same name i j) = name

-- the rows differ in their sets, in their outsiders' edges, or in their two members
abbrev pub SetRowsDiffer : SetRow → SetRow → Type 0
SetRowsDiffer (Outsider a outsider) (Outsider b other) = a ≡ b → outsider ≡ other → ⊥
SetRowsDiffer (Same a i j) (Same b k l) = a ≡ b → i ≡ k → j ≡ l → ⊥
SetRowsDiffer (Outsider a outsider) (Same b i j) = Unit {0}
SetRowsDiffer (Same a i j) (Outsider b outsider) = Unit {0}
