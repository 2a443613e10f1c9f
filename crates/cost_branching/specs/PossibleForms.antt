-- The forms that the rows of a problem can have: finitely many, since a simple path has fewer edges than the graph has
-- vertices.
use Rattle.std.specs.Prelude.{ℕ, zero, suc, List, [], ◌∷◌, ◌++◌, map, length}
use Rattle.cost_base.specs.Lists.{numbers_from}
use Rattle.design_problem.specs.Forms.{Form}
use Rattle.design_problem.specs.declared.problem.Request.{Request}
use Rattle.design_problem.specs.Problems.{DesignProblem}
use Rattle.design_problem.specs.Rows.{form_between}

-- each of the lists behind each of the numbers
abbrev pub begun_by : List ℕ → List (List ℕ) → List (List ℕ)
begun_by [] lists = []
begun_by (x ∷ xs) lists = map (λ ys. x ∷ ys) lists ++ begun_by xs lists

-- every list of at most so many members, each one of the numbers
abbrev pub lists_within : List ℕ → ℕ → List (List ℕ)
lists_within xs zero = [] ∷ []
lists_within xs (suc most) = [] ∷ begun_by xs (lists_within xs most)

-- every list of edges that is short enough for a simple path
abbrev pub edge_lists : DesignProblem → List (List ℕ)
edge_lists p = lists_within (numbers_from 0 (length p.graph.edges)) (length p.graph.vertices)

-- the forms of lists of edges as rivals of the requests' paths
abbrev pub forms_of_requests : DesignProblem → List Request → List Form
forms_of_requests p [] = []
forms_of_requests p (r ∷ rs) = map (form_between p.graph (length p.low) r.path.edges) (edge_lists p) ++ forms_of_requests p rs

-- the forms that rows of a problem can have
abbrev pub possible_forms_of_problem : DesignProblem → List Form
possible_forms_of_problem p = forms_of_requests p p.requests
