-- Rows of a problem, fit costs and best costs.
use Rattle.std.specs.Prelude.{◌≢◌, ℕ, ◌≤◌, ◌==◌, max, fold, List, [], Bool, false, pos, ◌-ℤ◌, map, length, slice_get, Option, None, Some, All, sum_by, count_by}
use Rattle.cost_base.specs.Lists.{numbers_from}
use Rattle.area_graph.specs.Area.{Area, edge_at}
use Rattle.area_graph.specs.declared.Price.{Price}
use Rattle.area_graph.specs.declared.Price.TheVariants.{Fixed, Var, Zero}
use Rattle.area_graph.specs.declared.Point.{Point}
use Rattle.area_graph.specs.Paths.{Ends, IsPathOf}
use Rattle.area_graph.specs.Costs.{cost, at_costs, IsOnlyCheapest, LeadsBy}
use Rattle.design_problem.specs.declared.form.Form.{Form}
use Rattle.design_problem.specs.declared.problem.Request.{Request}
use Rattle.design_problem.specs.declared.boxes.CostBox.{CostBox}
use Rattle.design_problem.specs.declared.form.Row.{Row}
use Rattle.design_problem.specs.Problems.{DesignProblem, request_ends}
use Rattle.design_problem.specs.Boxes.{IsInBox, IsPointOf}

-- the price is the one of this variable
abbrev pub is_var : ℕ → Price → Bool
is_var v (Fixed cost) = false
is_var v (Var u) = u == v
is_var v Zero = false

-- a fixed price; 0 for a variable's and for that out of a subnet
abbrev pub fixed_price : Price → ℕ
fixed_price (Fixed cost) = cost
fixed_price (Var v) = 0
fixed_price Zero = 0

-- how often a path pays a variable
abbrev pub uses : Area → List ℕ → ℕ → ℕ
uses g es v = count_by (λ e. is_var v (edge_at g e).price) es

-- the sum of a path's fixed prices
abbrev pub fixed_cost : Area → List ℕ → ℕ
fixed_cost g es = sum_by (λ e. fixed_price (edge_at g e).price) es

-- the edges of a wanted path
abbrev pub path_edges : Option Request → List ℕ
path_edges None = []
path_edges (Some r) = r.path.edges

-- cost(rival) - cost(wanted) - 1, in n variables
abbrev pub form_between : Area → ℕ → List ℕ → List ℕ → Form
form_between g n wanted rival =
    record {
      constant = (pos (fixed_cost g rival) -ℤ pos (fixed_cost g wanted)) -ℤ pos 1;
      coefficients = map (λ v. pos (uses g rival v) -ℤ pos (uses g wanted v)) (numbers_from 0 n);
    }

-- the box of the problem's bounds
abbrev pub box_of : DesignProblem → CostBox
box_of p = record { low = p.low; high = p.high }

-- the costs are fit: within the bounds, and each wanted path is the only cheapest of its request
pub record IsFit (p : DesignProblem) (w : List ℕ) : Type 0 where
  pub within : IsInBox (box_of p) w
  pub only : All (λ r. IsOnlyCheapest p.graph (at_costs w) (request_ends r) r.path.edges) p.requests

-- the largest of the costs, and 0 where there is none
abbrev pub greatest_cost : List ℕ → ℕ
greatest_cost w = fold max 0 w

-- the costs are fit, and no fit costs have a smaller greatest cost
pub record AreBestCosts (p : DesignProblem) (w : List ℕ) : Type 0 where
  pub fit : IsFit p w
  pub least : (other : List ℕ) → IsFit p other → greatest_cost w ≤ greatest_cost other

-- at the point every other simple path of each request costs at least the scale more
abbrev pub LeadsEach : DesignProblem → Point → Type 0
LeadsEach p point = All (λ r. LeadsBy point.scale p.graph point (request_ends r) r.path.edges) p.requests

-- a rival of a wanted path between two ends: another simple path there without the excluded edges
abbrev pub IsRivalBetween : Area → Ends → List ℕ → List ℕ → Type 0
IsRivalBetween g ends wanted es = IsPathOf g ends es × (es ≢ wanted)

-- the edges are a simple path of the request, other than the wanted path
abbrev pub IsRivalOf : Area → Option Request → List ℕ → Type 0
IsRivalOf g None es = ⊥
IsRivalOf g (Some r) es = IsRivalBetween g (request_ends r) r.path.edges es

-- the edges are a simple path of the request
abbrev pub IsRouteOf : Area → Option Request → List ℕ → Type 0
IsRouteOf g None es = ⊥
IsRouteOf g (Some r) es = IsPathOf g (request_ends r) es

-- the row's number is a request's, and its edges are a simple path of that request, be it the wanted path
abbrev pub HasRoute : DesignProblem → Row → Type 0
HasRoute p row = IsRouteOf p.graph (slice_get p.requests row.request) row.rival

-- a row: its edges are a simple path of its request, other than the wanted path
abbrev pub IsRow : DesignProblem → Row → Type 0
IsRow p row = IsRivalOf p.graph (slice_get p.requests row.request) row.rival

-- the form of a row
abbrev pub form_of_row : DesignProblem → Row → Form
form_of_row p row = form_between p.graph (length p.low) (path_edges (slice_get p.requests row.request)) row.rival

-- the forms of rows, in their order
abbrev pub forms_of_rows : DesignProblem → List Row → List Form
forms_of_rows p rows = map (form_of_row p) rows
