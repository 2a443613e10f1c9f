-- Trees of prefixes of paths of a request, at a point.
use Rattle.std.specs.Prelude.{ℕ, List, length}
use Rattle.area_graph.specs.Costs.{cost}
use Rattle.design_problem.specs.Problems.{request_ends}
use Rattle.spf_ties.specs.Distances.{Findings}
use Rattle.rival_separation.specs.declared.outlook.Outlook.{Outlook}
use Rattle.rival_separation.specs.Outlooks.{lead_in}
use Rattle.set_separation.specs.declared.deviation.CostedTree.{CostedTree}
use Rattle.set_separation.specs.declared.prefix_tree.Step.{Step}
use Rattle.set_separation.specs.Deviations.{ArePlaceCosts, DeviatesFromTree, IsTiedTree}
use Rattle.set_separation.specs.Outsiders.{CostAtLeast, IsCheapestOutsider}
use Rattle.set_separation.specs.PrefixTrees.{IsPrefixTree}

-- the tree is that of the prefixes of some paths of the request
abbrev pub HasPrefixTree : Outlook → List Step → Type 0
HasPrefixTree o steps = (wanted : List (List ℕ)) × IsPrefixTree o.graph.now (request_ends o.request.now) wanted steps

-- the tree is that of the prefixes of given paths, each of which costs what the request's path costs
abbrev pub IsTiedHere : Outlook → List (List ℕ) → List Step → Type 0
IsTiedHere o wanted steps =
    IsTiedTree o.graph.now o.point.now (request_ends o.request.now) (cost o.graph.now o.point.now o.request.now.path.edges)
    wanted steps

-- the tree is that of the prefixes of some paths which cost what the request's path costs
abbrev pub HasTiedTree : Outlook → List Step → Type 0
HasTiedTree o steps = (wanted : List (List ℕ)) × IsTiedHere o wanted steps

-- the costs are those of the prefixes at the tree's places
abbrev pub IsCosted : Outlook → CostedTree → Type 0
IsCosted o costed =
    ArePlaceCosts o.graph.now o.point.now costed.tree.now (length costed.tree.now) costed.costs.now

-- at the vertex of a place the tree may be left by an edge, and with the cheapest way on from there it costs so much
abbrev pub DeviatesHere : Outlook → Findings → CostedTree → ℕ → ℕ → ℕ → Type 0
DeviatesHere o room costed =
    DeviatesFromTree o.graph.now o.point.now (request_ends o.request.now) room costed.tree.now costed.costs.now

-- the cheapest outsider of a request's wanted paths, which costs less than the request's path and the scale
abbrev pub IsCheapestOutsiderHere : Outlook → List (List ℕ) → List ℕ → Type 0
IsCheapestOutsiderHere o wanted es =
    IsCheapestOutsider o.graph.now o.point.now (request_ends o.request.now) wanted (lead_in o) es

-- each outsider of a request's wanted paths costs at least what the request's path and the scale do
abbrev pub AreOutsidersDearHere : Outlook → List (List ℕ) → Type 0
AreOutsidersDearHere o wanted = CostAtLeast o.graph.now o.point.now (request_ends o.request.now) wanted (lead_in o)
