-- The parts that are made of a request file are the parts of its problem.
use Rattle.std.proofs.Common.{◌≡◌, ℕ, ◌+◌, ◌<◌, sym, ◌∙◌, ap, List, [], ◌∷◌, map, Option, Some, None, IfSome}
use Rattle.std.specs.Prelude.{All, unwrap_or, if◌then◌else◌}
use Rattle.std.specs.List.{filter_map}
use Rattle.std.proofs.lemmas.List.Elements.{All-nil, All-cons, All-head, All-tail}
use Rattle.area_graph.specs.declared.Price.{Price}
use Rattle.area_graph.specs.Area.{Area}
use Rattle.lsdb_build.specs.declared.Linked.{Linked}
use Rattle.lsdb_build.specs.Graphs.{Database, IsDatabaseLink, IsLinkPrice, graph_at}
use Rattle.design_problem.specs.declared.problem.VarName.{VarName}
use Rattle.design_problem.specs.declared.problem.Request.{Request}
use Rattle.design_problem.specs.Problems.{DesignProblem}
use Rattle.request_reader.specs.Asked.{Asked, IsAsked}
use Rattle.path_requests.specs.Meaning.{Range, Within, AsItIs, range_of, low_of, high_of, ranges, price_of, prices_from, names_from, problem_of}
use Rattle.wanted_paths.specs.Paths.{request_of}
use Rattle.path_requests.specs.Resolving.{lacks_cost, cost_faults}
use Rattle.wanted_paths.specs.Paths.{outline}
use Rattle.cost_base.proofs.ListLemmas.{append-none}
use Rattle.wanted_paths.proofs.Outline.{as_outline, requests_same}
use Rattle.path_requests.proofs.ProblemLaws.{same_whole_problem}
use Rattle.wanted_paths.specs.declared.fault.ResolutionFault.TheVariants.{NoCost}
use Rattle.path_requests.proofs.WholeProblems.{prices_count}

-- where each fixed link has a cost, each price is one that a link may have
pub prices_link : (a : Asked) (d : Database) (l : ℕ) (links : List Linked) → IsAsked a → All (IsDatabaseLink d) links →
    cost_faults a d l links ≡ [] → All IsLinkPrice (prices_from a d l links)
prices_link a d l [] asked each none = All-nil IsLinkPrice
prices_link a d l (link ∷ links) asked each none =
    let parts = append-none (if lacks_cost a link (range_of a d link) then NoCost l ∷ [] else []) (cost_faults a d (l + 1) links) none in
    All-cons IsLinkPrice (price_of a d l link (range_of a d link)) (prices_from a d (l + 1) links)
    (by_range (range_of a d link) parts.0) (prices_link a d (l + 1) links asked (All-tail (IsDatabaseLink d) link links each) parts.1)
  where
    clash : (NoCost l ∷ []) ≡ [] → ⊥
    clash h = cc

    by_cost : (cost default : Option ℕ) → IfSome cost (λ c. 0 < c) → IfSome default (λ c. 0 < c) →
        (if lacks_cost (record a { default_cost = default }) (record link { cost = cost }) AsItIs then
        NoCost l ∷ [] else []) ≡ [] → 0 < unwrap_or cost (unwrap_or default 0)
    by_cost (Some c) default here other none = here
    by_cost None (Some c) here other none = other
    by_cost None None here other none = absurd (clash none)

    by_range : (range : Range) → (if lacks_cost a link range then NoCost l ∷ [] else []) ≡ [] → IsLinkPrice (price_of a d l link range)
    by_range (Within lo hi) none = tt
    by_range AsItIs none = by_cost link.cost a.default_cost (All-head (IsDatabaseLink d) link links each).cost asked.default none

pub assembled : (a : Asked) (d : Database) (prices : List Price) (graph : Area) (vars : List VarName)
    (low high : List ℕ) (requests : List Request) → prices ≡ prices_from a d 0 d.links → graph ≡ graph_at d prices →
    vars ≡ names_from a d 0 d.links → low ≡ map low_of (ranges a d) → high ≡ map high_of (ranges a d) →
    requests ≡ filter_map (λ item. request_of d (outline d) item.what) a.items →
    ◌≡◌ {A = DesignProblem} (record { graph = graph; vars = vars; low = low; high = high; requests = requests })
    (problem_of a d)
assembled a d prices graph vars low high requests are is names lows highs wanted =
    let g = graph_at d (prices_from a d 0 d.links) in
    same_whole_problem (record { graph = graph; vars = vars; low = low; high = high; requests = requests }) (problem_of a d)
    (is ∙ ap (graph_at d) are) names lows highs
    (wanted ∙ sym (requests_same d g (outline d) a.items (as_outline d (prices_from a d 0 d.links) (prices_count a d 0 d.links))))
