-- What is left of an area of which edges are excluded.
use Rattle.std.proofs.Common.{ℕ, List, [], ◌∷◌, ◌++◌}
use Rattle.cost_base.proofs.ListLemmas.{lacks_both}
use Rattle.area_graph.specs.Area.{Area}
use Rattle.area_graph.specs.Paths.{Avoids, IsPathOf}
use Rattle.design_problem.specs.declared.problem.Request.{Request}
use Rattle.design_problem.specs.Problems.{request_ends}
use Rattle.path_commands.specs.LiveAudits.{left_without}

avoids_both : (xs ys es : List ℕ) → Avoids xs es → Avoids ys es → Avoids (xs ++ ys) es
avoids_both xs ys [] first second = tt
avoids_both xs ys (e ∷ es) first second = (lacks_both xs ys e first.0 second.0, avoids_both xs ys es first.1 second.1)

-- a path of which no edge is excluded is one of what is left
pub path_left : (g : Area) (exclusion : List ℕ) (r : Request) → IsPathOf g (request_ends r) r.path.edges → Avoids exclusion r.path.edges →
    IsPathOf g (request_ends (left_without exclusion r)) r.path.edges
path_left g exclusion r is avoids = record { simple = is.simple; kept = avoids_both r.excluded exclusion r.path.edges is.kept avoids }
