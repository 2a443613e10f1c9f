-- Several paths of a request that tie. No public clause cites it.
use Rattle.std.specs.Prelude.{◌≡◌, ℕ, List, ◌∷◌, map}
use Rattle.area_graph.specs.declared.Path.{Path}
use Rattle.area_graph.specs.declared.Point.{Point}
use Rattle.area_graph.specs.Area.{Area}
use Rattle.area_graph.specs.Costs.{cost}
use Rattle.area_graph.specs.Paths.{IsPathOf}
use Rattle.design_problem.specs.declared.problem.Request.{Request}
use Rattle.design_problem.specs.Problems.{request_ends}

-- the edges of a path and of others
abbrev pub wanted_of : List ℕ → List Path → List (List ℕ)
wanted_of first others = first ∷ map (λ path. path.edges) others

-- a path of the request that costs what the request's path does
pub record TiesWith (g : Area) (p : Point) (r : Request) (other : Path) : Type 0 where
  pub path : IsPathOf g (request_ends r) other.edges
  pub tied : cost g p other.edges ≡ cost g p r.path.edges
