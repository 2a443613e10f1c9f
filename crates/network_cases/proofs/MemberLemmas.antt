-- The tree of several paths that tie.
use Rattle.std.proofs.Common.{◌≡◌, ℕ, suc, ◌+◌, ◌<◌, ◌≤◌, refl, sym, ◌∙◌, ap, subst, get_or, List, [], ◌∷◌, ◌++◌, map, length, take, arith}
use Rattle.std.specs.Prelude.{All, Contains}
use Rattle.std.proofs.lemmas.List.{get_or-map, length-map, map-append, take_all, take_more}
use Rattle.std.proofs.lemmas.List.Elements.{All-cons, All-map}
use Rattle.area_graph.specs.declared.Path.{Path}
use Rattle.area_graph.specs.declared.Point.{Point}
use Rattle.area_graph.specs.Area.{Area}
use Rattle.area_graph.specs.Costs.{cost}
use Rattle.area_graph.specs.Paths.{IsPathOf}
use Rattle.design_problem.specs.declared.problem.Request.{Request}
use Rattle.design_problem.specs.Problems.{request_ends}
use Rattle.set_separation.specs.declared.prefix_tree.Step.{Step}
use Rattle.set_separation.specs.Deviations.{IsTiedTree}
use Rattle.set_separation.specs.PrefixTrees.{IsGrown}
use Rattle.set_separation.proofs.GrownTrees.{grown_first}
use Rattle.network_cases.specs.Members.{TiesWith, wanted_of}

-- the tree of the first path
pub one_grown : (edges : List ℕ) (others : List Path) (old new : List Step) (inserted : List ℕ) → old ≡ [] → inserted ≡ edges →
    ((wanted done : List (List ℕ)) → Contains wanted inserted → IsGrown wanted done old →
    IsGrown wanted (done ++ inserted ∷ []) new) → IsGrown (wanted_of edges others) (edges ∷ []) new
one_grown edges others old new inserted none is insert =
    let wanted = wanted_of edges others in
    let has : Contains wanted inserted = subst (Contains wanted) (sym is) (0, omega arith, refl) in
    subst (λ (es : List ℕ). IsGrown wanted (es ∷ []) new) is
    (insert wanted [] has (subst (λ (steps : List Step). IsGrown wanted [] steps) (sym none) (grown_first wanted inserted has)))

-- an other path is one of all
other_listed : (first : List ℕ) (others : List Path) (k : ℕ) (d : Path) → k < length others → Contains (wanted_of first others) (get_or others k d).edges
other_listed first others k d inside = (
  suc k,
  omega (arith, length-map others (λ (path : Path). path.edges), inside),
  get_or-map (λ (path : Path). path.edges) others k d (get_or others k d).edges inside,
)

-- one path more
pub tree_more : (first : List ℕ) (others : List Path) (k : ℕ) (d : Path) (old new : List Step) (edges : List ℕ) →
    k < length others → edges ≡ (get_or others k d).edges →
    IsGrown (wanted_of first others) (wanted_of first (take k others)) old →
    ((wanted done : List (List ℕ)) → Contains wanted edges → IsGrown wanted done old →
    IsGrown wanted (done ++ edges ∷ []) new) →
    IsGrown (wanted_of first others) (wanted_of first (take (k + 1) others)) new
tree_more first others k d old new edges inside is tree insert =
    let wanted = wanted_of first others in
    let has : Contains wanted edges = subst (Contains wanted) (sym is) (other_listed first others k d inside) in
    let more : map (λ (path : Path). path.edges) (take k others) ++ (get_or others k d).edges ∷ [] ≡ map (λ (path : Path). path.edges) (take (k + 1) others) =
    sym (ap (map (λ (path : Path). path.edges)) (take_more others k d inside)
    ∙ map-append (λ (path : Path). path.edges) (take k others) (get_or others k d ∷ [])) in
    subst (λ (done : List (List ℕ)). IsGrown wanted done new)
    (ap (λ (es : List ℕ). wanted_of first (take k others) ++ es ∷ []) is ∙ ap (λ (rest : List (List ℕ)). first ∷ rest) more)
    (insert wanted (wanted_of first (take k others)) has tree)

pub tree_whole : (first : List ℕ) (others : List Path) (k : ℕ) (tree : List Step) → length others ≤ k →
    IsGrown (wanted_of first others) (wanted_of first (take k others)) tree →
    IsGrown (wanted_of first others) (wanted_of first others) tree
tree_whole first others k tree ended grown =
    subst (λ (paths : List Path). IsGrown (wanted_of first others) (wanted_of first paths) tree)
    (take_all k others ended) grown

-- what the separation needs of the tree
pub tied_tree : (g : Area) (p : Point) (r : Request) (others : List Path) (tree : List Step) →
    IsPathOf g (request_ends r) r.path.edges → All (TiesWith g p r) others →
    IsGrown (wanted_of r.path.edges others) (wanted_of r.path.edges others) tree →
    IsTiedTree g p (request_ends r) (cost g p r.path.edges) (wanted_of r.path.edges others) tree
tied_tree g p r others tree first tie grown = record {
  tree = record {
    grown = grown;
    paths = All-cons (IsPathOf g (request_ends r)) r.path.edges (map (λ (path : Path). path.edges) others) first
        (All-map (IsPathOf g (request_ends r)) (λ (path : Path). path.edges) others (λ k d k_in. (tie k d k_in).path));
  };
  tied = All-cons (λ (w : List ℕ). cost g p w ≡ cost g p r.path.edges) r.path.edges (map (λ (path : Path). path.edges) others) refl
      (All-map (λ (w : List ℕ). cost g p w ≡ cost g p r.path.edges) (λ (path : Path). path.edges) others (λ k d k_in. (tie k d k_in).tied));
}
