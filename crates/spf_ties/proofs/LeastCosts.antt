-- Numbers that walks reach and that no edge lowers are the least costs of simple paths.
use Rattle.std.proofs.Common.{◌≡◌, ℕ, ◌<◌, ◌≤◌, refl, sym, ap, subst, List, length, get_or, map, inl, inr, arith, Some, None, Bool, true, false, cond, min, Option, zero, suc, ◌∷◌, replicate}
use Rattle.std.proofs.lemmas.Bool.{cases_lt, lt-ltb, le-ltb}
use Rattle.std.proofs.lemmas.List.{get_or-map}
use Rattle.area_graph.specs.declared.Point.{Point}
use Rattle.area_graph.specs.Area.{Area, FitsGraph, HasMetrics}
use Rattle.area_graph.specs.Paths.{Ends, IsPathOf}
use Rattle.area_graph.specs.Costs.{cost, FitsPoint}
use Rattle.area_graph.specs.Distances.{far, AreReached, SettledBelow}
use Rattle.area_graph.proofs.Walks.{simple_in_walk, simple_costs-le, potential-le}
use Rattle.area_graph.proofs.Bounds.{cost_below as bounded_cost}
use Rattle.spf_ties.specs.Distances.{IsLeastOfPaths, IsLeastBelow, IsLeastCost, cost_below}
use Rattle.spf_ties.specs.declared.search.Width.{Width}
use Rattle.spf_ties.specs.declared.search.Width.TheVariants.{Narrow, Wide}
use Rattle.spf_ties.specs.Searches.{numbers_in_use}

-- a number is at most the cost of each path to the target
at_most : (g : Area) (p : Point) (excluded : List ℕ) (t limit v : ℕ) (d : List ℕ) → AreReached g p excluded t limit d →
    SettledBelow (length g.edges) g p excluded d → (es : List ℕ) →
    IsPathOf g (record { start = v; end = t; excluded = excluded }) es → get_or d v 0 ≤ cost g p es
at_most g p excluded t limit v d reached settled es path =
    let most = potential-le g p excluded (λ u. get_or d u 0) (λ e known lacks. settled e known lacks) v es t path.simple.joins path.kept in
    omega (arith, most, reached.target)

-- what is found below the lesser of a limit and more than a path can cost is found below the limit
pub record IsNear (p : Point) (limit near : ℕ) : Type 0 where
  pub within : near ≤ limit
  pub whole : near < limit → far p ≤ near

-- the lesser of both
pub lesser_is_near : (p : Point) (limit near : ℕ) → near ≡ min limit (far p) → IsNear p limit near
lesser_is_near p limit near is = record { within = omega (arith, is); whole = λ less. omega (arith, is, less) }

-- either of two lists for the vertices is one
pub length_either : (w : Width) (xs ys : List ℕ) (n : ℕ) → length xs ≡ n → length ys ≡ n → length (numbers_in_use w xs ys) ≡ n
length_either Narrow xs ys n first second = first
length_either Wide xs ys n first second = second

-- a number below the limit is the least cost, and another says that each path costs at least the limit
least_below : (g : Area) (p : Point) (excluded : List ℕ) (t v limit near : ℕ) (d : List ℕ) → FitsGraph g → HasMetrics g →
    FitsPoint g p → IsNear p limit near → t < length g.vertices → length d ≡ length g.vertices → v < length g.vertices →
    AreReached g p excluded t near d → SettledBelow (length g.edges) g p excluded d →
    IsLeastBelow g p (record { start = v; end = t; excluded = excluded }) limit (cost_below near (get_or d v 0))
least_below g p excluded t v limit near d graph metrics fits is_near target count start reached settled = elim (cases_lt (get_or d v 0) near) [
  | inl below ↦ subst (λ b. IsLeastBelow g p ends limit (cond b (Some (get_or d v 0)) None))
      (sym (lt-ltb (get_or d v 0) near below)) (known below, omega (arith, below, is_near.within))
  | inr above ↦ subst (λ b. IsLeastBelow g p ends limit (cond b (Some (get_or d v 0)) None)) (sym (le-ltb (get_or d v 0) near above)) (unknown above)
]
  where
    ends : Ends
    ends = record { start = v; end = t; excluded = excluded }

    known : get_or d v 0 < near → IsLeastOfPaths g p ends (get_or d v 0)
    known below =
        let walk = reached.reached v (omega (arith, start, count)) below in
        let simple = simple_in_walk g p excluded v walk.edges t graph fits walk.joins walk.kept in
        let most = simple_costs-le g p excluded v t walk.edges simple in
        let path : IsPathOf g ends simple.edges =
        record {
          simple = record {
            start = start;
            end = target;
            joins = simple.joins;
            none_twice = simple.none_twice;
          };
          kept = simple.kept;
        } in
        let least = at_most g p excluded t near v d reached settled simple.edges path in
        record {
          path = simple.edges;
          is_path = path;
          costs = omega (arith, least, most, walk.within);
          none_less = λ other is. at_most g p excluded t near v d reached settled other is;
        }

    unknown : near ≤ get_or d v 0 → (es : List ℕ) → IsPathOf g ends es → limit ≤ cost g p es
    unknown more es path =
        let least = at_most g p excluded t near v d reached settled es path in
        let below = bounded_cost g p v es t graph metrics fits path.simple.joins path.simple.none_twice in
        elim (cases_lt near limit) [
          | inl less ↦ let whole = is_near.whole less in absurd (omega (arith, least, below, more, whole))
          | inr not_less ↦ omega (arith, least, more, not_less)
        ]

-- the distances of a list of numbers, place by place
pub least_at : (g : Area) (p : Point) (excluded : List ℕ) (t v limit near : ℕ) (d : List ℕ) → FitsGraph g → HasMetrics g →
    FitsPoint g p → IsNear p limit near → t < length g.vertices → length d ≡ length g.vertices → v < length g.vertices →
    AreReached g p excluded t near d → SettledBelow (length g.edges) g p excluded d →
    IsLeastBelow g p (record { start = v; end = t; excluded = excluded }) limit (get_or (map (cost_below near) d) v None)
least_at g p excluded t v limit near d graph metrics fits is_near target count start reached settled =
    subst (IsLeastBelow g p (record { start = v; end = t; excluded = excluded }) limit) (sym
    (get_or-map (cost_below near) d v 0 None (omega (arith, start, count))))
    (least_below g p excluded t v limit near d graph metrics fits is_near target count start reached settled)

-- what is found below more than a path can cost is found at all
pub least_of_all : (g : Area) (p : Point) (ends : Ends) (x : Option ℕ) → FitsGraph g → HasMetrics g → FitsPoint g p →
    IsLeastBelow g p ends (far p) x → IsLeastCost g p ends x
least_of_all g p ends (Some least) graph metrics fits below = below.0
least_of_all g p ends None graph metrics fits below = λ path is.
    let most = bounded_cost g p ends.start path ends.end graph metrics fits is.simple.joins is.simple.none_twice in
    let more = below path is in
    omega (arith, most, more)

-- before any call no number is below `far`
pub none_known : (n : ℕ) → map (cost_below 0) (replicate n 0) ≡ replicate n None
none_known zero = refl
none_known (suc n) = ap (λ xs. None ∷ xs) (none_known n)
