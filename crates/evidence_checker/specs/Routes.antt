-- The tests of a row's edges, where its request is known. No public clause cites it.
use Rattle.std.specs.Prelude.{◌≡◌, ℕ, List, [], ◌∷◌}
use Rattle.area_graph.specs.Area.{Area}
use Rattle.area_graph.specs.Paths.{IsPathOf}
use Rattle.design_problem.specs.declared.problem.Request.{Request}
use Rattle.design_problem.specs.Problems.{request_ends}
use Rattle.evidence_checker.specs.declared.fault.CheckFault.TheVariants.{NotAPath, NotARival}
use Rattle.evidence_checker.specs.Numbers.{check_fault_number}
use Rattle.evidence_checker.specs.Refusals.{OnItem}

-- the tests of a row's edges: 40, they are no simple path of the request; 41, they are the wanted path
abbrev pub route_tests : Area → Request → List ℕ → List (ℕ → Type 0)
route_tests g r es = OnItem (check_fault_number NotAPath) (IsPathOf g (request_ends r) es → ⊥) ∷ OnItem (check_fault_number NotARival) (es ≡ r.path.edges) ∷ []
