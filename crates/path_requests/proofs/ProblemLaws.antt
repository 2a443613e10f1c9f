-- Small facts of databases and problems.
use Rattle.std.proofs.Common.{◌≡◌, ℕ, ◌+◌, List, [], ◌∷◌, map}
use Rattle.std.specs.Prelude.{All}
use Rattle.std.proofs.lemmas.List.Elements.{All-nil, All-append, All-map}
use Rattle.area_graph.specs.declared.Price.TheVariants.{Zero}
use Rattle.area_graph.specs.declared.Edge.{Edge}
use Rattle.area_graph.specs.Costs.{IsPriced}
use Rattle.lsdb_build.specs.declared.Linked.{Linked}
use Rattle.lsdb_build.specs.Graphs.{subnet_edges, router_of}
use Rattle.design_problem.specs.Problems.{DesignProblem}
use Rattle.design_problem.proofs.RestrictedProblems.{same_problem}

-- edges out of subnets have no variable
pub subnets_priced : (n : ℕ) (links : List Linked) (vertex : ℕ) (subnets : List (List ℕ)) →
    All (λ edge. IsPriced n edge.price) (subnet_edges links vertex subnets)
subnets_priced n links vertex [] = All-nil (λ (edge : Edge). IsPriced n edge.price)
subnets_priced n links vertex (members ∷ subnets) =
    All-append (λ (edge : Edge). IsPriced n edge.price)
    (map (λ l. record { from = vertex; to = router_of links l; price = Zero }) members)
    (subnet_edges links (vertex + 1) subnets)
    (All-map (λ (edge : Edge). IsPriced n edge.price) (λ (l : ℕ). record { from = vertex; to = router_of links l; price = Zero }) members (λ k d below. tt))
    (subnets_priced n links (vertex + 1) subnets)

-- problems with the same parts are one
pub same_whole_problem : (p q : DesignProblem) → p.graph ≡ q.graph → p.vars ≡ q.vars → p.low ≡ q.low → p.high ≡ q.high → p.requests ≡ q.requests → p ≡ q
same_whole_problem p q = same_problem p.graph q.graph p.vars q.vars p.low q.low p.high q.high p.requests q.requests
