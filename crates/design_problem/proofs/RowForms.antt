-- The paths of a row, and its form.
use Rattle.std.proofs.Common.{◌≡◌, ℕ, sym, ◌∙◌, ap, subst, get_or, List, length}
use Rattle.std.specs.Prelude.{slice_get, Option, None, Some}
use Rattle.area_graph.specs.Area.{Area}
use Rattle.area_graph.specs.Paths.{IsPathOf}
use Rattle.design_problem.specs.declared.form.Row.{Row}
use Rattle.design_problem.specs.declared.problem.Request.{Request}
use Rattle.design_problem.specs.Problems.{DesignProblem, IsProblem, request_ends}
use Rattle.design_problem.specs.Rows.{HasRoute, IsRivalOf, IsRouteOf, form_between, form_of_row, path_edges}
use Rattle.design_problem.proofs.PathBounds.{request_of_route}

-- a rival is a route
pub route_of_rival : (g : Area) (r : Option Request) (es : List ℕ) → IsRivalOf g r es → IsRouteOf g r es
route_of_rival g None es rival = absurd rival
route_of_rival g (Some r) es rival = rival.0

-- the wanted path and the rival of a row, as edges that code has read
pub record RowPaths (p : DesignProblem) (row : Row) (d : Request) (wanted rival : List ℕ) : Type 0 where
  pub wanted_path : IsPathOf p.graph (request_ends (get_or p.requests row.request d)) wanted
  pub rival_path : IsPathOf p.graph (request_ends (get_or p.requests row.request d)) rival
  pub form : form_between p.graph (length p.low) wanted rival ≡ form_of_row p row

pub row_paths : (p : DesignProblem) (row : Row) (d : Request) (wanted rival : List ℕ) → IsProblem p → HasRoute p row →
    wanted ≡ (get_or p.requests row.request d).path.edges → rival ≡ row.rival → RowPaths p row d wanted rival
row_paths p row d wanted rival kept route is_wanted is_rival =
    let found = request_of_route p.graph p.requests row.request d row.rival route in
    let r = get_or p.requests row.request d in
    let here : wanted ≡ path_edges (slice_get p.requests row.request) = is_wanted ∙ sym (ap path_edges found.is_there) in
    record {
      wanted_path = subst (λ (es : List ℕ). IsPathOf p.graph (request_ends (get_or p.requests row.request d)) es)
          (sym is_wanted) (kept.requests row.request d found.within);
      rival_path = subst (λ (es : List ℕ). IsPathOf p.graph (request_ends (get_or p.requests row.request d)) es) (sym is_rival) found.path;
      form = ap (λ (es : List ℕ). form_between p.graph (length p.low) es rival) here
          ∙ ap (λ (es : List ℕ). form_between p.graph (length p.low) (path_edges (slice_get p.requests row.request))
          es) is_rival;
    }
