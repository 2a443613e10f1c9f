-- Deviations from a path, and the way along tight edges.
use Rattle.std.proofs.Common.{◌≡◌, ◌≢◌, ℕ, zero, suc, ◌+◌, ◌*◌, ◌^◌, ◌<◌, ◌≤◌, refl, sym, ◌∙◌, ap, subst, List, [], ◌∷◌, ◌++◌, All, length, get_or, take, Option, Some, None, true, false, inl, inr, arith, append-nil, append_assoc, length-append}
use Rattle.std.proofs.Math.Seq.{take-append_seam}
use Rattle.std.proofs.lemmas.Bool.{cases_lt, eqb-true}
use Rattle.std.proofs.lemmas.List.Sums.{sum_by-cons, sum_by-append}
use Rattle.cost_base.specs.Lists.{Lacks, NoneTwice}
use Rattle.area_graph.specs.declared.Point.{Point}
use Rattle.area_graph.specs.Area.{Area, edge_at, edges_out, no_edge, FitsGraph, FitsEdge, HasMetrics}
use Rattle.area_graph.specs.Paths.{Ends, IsPathOf, Joins, Avoids, visited}
use Rattle.area_graph.specs.Costs.{cost, price_at, FitsPoint, LeadsBy}
use Rattle.area_graph.proofs.Walks.{simple_in_walk}
use Rattle.area_graph.proofs.Deviations.{Deviates, deviation_joins, deviation_differs, least_deviation_simple, rival_deviates}
use Rattle.area_graph.proofs.ListedEdges.{out_all}
use Rattle.area_graph.proofs.Bounds.{cost_below, price-le}
use Rattle.spf_ties.specs.Distances.{AreTight, Findings, IsLeastOfPaths, IsLeastBelow, adds_up, distance_at, is_tight}
use Rattle.design_problem.proofs.PathBounds.{simple-short}
use Rattle.rival_separation.specs.Rivals.{Completes, HasWay, IsCheapestRival, IsFollowedByLeast, HasDistancesBelow, ends_from, with_edge}
use Rattle.rival_separation.specs.Deviations.{DeviatesFromPath}
use Rattle.std.proofs.lemmas.Option.{same_Some}

-- the element at which two lists are joined
get_seam : (xs : List ℕ) (y : ℕ) (ys : List ℕ) → get_or (xs ++ y ∷ ys) (length xs) 0 ≡ y
get_seam [] y ys = refl
get_seam (x ∷ xs) y ys = get_seam xs y ys

length_seam : (xs : List ℕ) (y : ℕ) (ys : List ℕ) → length xs < length (xs ++ y ∷ ys)
length_seam [] y ys = omega arith
length_seam (x ∷ xs) y ys = let more = length_seam xs y ys in omega arith

-- what is least where some path costs so much
pub record SomeLeast (g : Area) (p : Point) (ends : Ends) (d : Option ℕ) (most : ℕ) : Type 0 where
  pub least : ℕ
  pub is : d ≡ Some least
  pub within : least ≤ most

pub some_least : (g : Area) (p : Point) (ends : Ends) (limit : ℕ) (d : Option ℕ) → IsLeastBelow g p ends limit d →
    (es : List ℕ) → IsPathOf g ends es → cost g p es < limit → SomeLeast g p ends d (cost g p es)
some_least g p ends limit (Some x) least es path near = record { least = x; is = refl; within = least.0.none_less es path }
some_least g p ends limit None least es path near = (let far = least es path in absurd (omega arith))

least_at : (g : Area) (p : Point) (ends : Ends) (limit : ℕ) (d : Option ℕ) (x : ℕ) → IsLeastBelow g p ends limit d →
    d ≡ Some x → IsLeastOfPaths g p ends x × (x < limit)
least_at g p ends limit d x least is = let at_some : IsLeastBelow g p ends limit (Some x) =
    subst (λ (o : Option ℕ). IsLeastBelow g p ends limit o) is least in at_some

pub is_least : (g : Area) (p : Point) (ends : Ends) (limit : ℕ) (d : Option ℕ) (x : ℕ) → IsLeastBelow g p ends limit d → d ≡ Some x → IsLeastOfPaths g p ends x
is_least g p ends limit d x least is = (least_at g p ends limit d x least is).0

-- a least cost is below 2^26 times the scale
pub least_below : (g : Area) (p : Point) (ends : Ends) (limit : ℕ) (d : Option ℕ) (x : ℕ) → FitsGraph g → HasMetrics g →
    FitsPoint g p → IsLeastBelow g p ends limit d → d ≡ Some x → x < 2 ^ 26 * p.scale
least_below g p ends limit d x graph metrics fits least is =
    let some = is_least g p ends limit d x least is in
    let below = cost_below g p ends.start some.path ends.end graph metrics fits some.is_path.simple.joins some.is_path.simple.none_twice in
    let costs = some.costs in
    omega arith

-- what an edge costs with the least cost from its end on is below 2^27 times the scale
pub onward_below : (g : Area) (p : Point) (ends : Ends) (limit : ℕ) (room : Findings) (e price rest : ℕ) → FitsGraph g →
    HasMetrics g → FitsPoint g p → HasDistancesBelow g p ends limit room → e < length g.edges →
    price ≡ price_at p (edge_at g e).price → distance_at room (edge_at g e).to ≡ Some rest →
    price + rest < 2 ^ 27 * p.scale
onward_below g p ends limit room e price rest graph metrics fits found known price_is distance =
    let most = price-le g p (edge_at g e).price fits (metrics e no_edge known) (fits.priced e no_edge known) in
    let edge : FitsEdge g (edge_at g e) = graph.edges e no_edge known in
    let below = least_below g p (ends_from ends (edge_at g e).to) limit (distance_at room (edge_at g e).to) rest graph
    metrics fits (found.least (edge_at g e).to edge.to) distance in
    let scale = fits.scale in
    omega arith

-- the deviation by which a walk leaves the path
record Deviated (g : Area) (p : Point) (excluded : List ℕ) (room : Findings) (path : List ℕ) (most : ℕ) : Type 0 where
  place : ℕ
  edge : ℕ
  total : ℕ
  deviation : DeviatesFromPath g p excluded room path place edge total
  within : total ≤ most

deviated : (g : Area) (p : Point) (ends : Ends) (limit : ℕ) (room : Findings) → FitsGraph g →
    HasDistancesBelow g p ends limit room → ends.end < length g.vertices → (u : ℕ) (before path walk : List ℕ) →
    Joins g u path ends.end → Deviates g ends.excluded ends.end u path walk → cost g p walk < limit →
    Deviated g p ends.excluded room (before ++ path) (cost g p before + cost g p walk)
deviated g p ends limit room graph found end u before [] walk joins deviates near = absurd deviates
deviated g p ends limit room graph found end u before (n ∷ path) [] joins deviates near = absurd deviates
deviated g p ends limit room graph found end u before (n ∷ path) (e ∷ rest) joins deviates near =
    elim deviates [
      | inl leaves ↦
          let edge : FitsEdge g (edge_at g e) = graph.edges e no_edge leaves.1.known in
          let longer = sum_by-cons (λ i. price_at p (edge_at g i).price) e rest in
          let some = some_least g p (record { start = (edge_at g e).to; end = ends.end; excluded = ends.excluded }) limit
          (distance_at room (edge_at g e).to) (found.least (edge_at g e).to edge.to) rest
          (record {
            simple = record {
              start = edge.to;
              end = end;
              joins = leaves.1.joins;
              none_twice = leaves.1.none_twice;
            };
            kept = leaves.1.kept;
          }) (omega arith) in
          record {
            place = length before;
            edge = e;
            total = cost g p before + (price_at p (edge_at g e).price + some.least);
            deviation = record {
              rest = price_at p (edge_at g e).price + some.least;
              within = length_seam before n path;
              known = leaves.1.known;
              from = leaves.1.from_u ∙ sym joins.1 ∙ ap (λ (i : ℕ). (edge_at g i).from) (sym (get_seam before n path));
              other = λ same. leaves.0 (same ∙ get_seam before n path);
              onward = record { rest = some.least; left = leaves.1.there; distance = some.is; sums = refl };
              sums = ap (λ (es : List ℕ). cost g p es + (price_at p (edge_at g e).price + some.least)) (sym (take-append_seam before (n ∷ path)));
            };
            within = let most = some.within in omega arith;
          }
      | inr along ↦
          let longer = sum_by-cons (λ i. price_at p (edge_at g i).price) e rest in
          let later = deviated g p ends limit room graph found end (edge_at g n).to (before ++ n ∷ []) path rest joins.2 along.1 (omega arith) in
          let split = sum_by-append (λ i. price_at p (edge_at g i).price) before (n ∷ []) in
          let one = sum_by-cons (λ i. price_at p (edge_at g i).price) n [] in
          let same = ap (λ (i : ℕ). price_at p (edge_at g i).price) along.0 in
          record {
            place = later.place;
            edge = later.edge;
            total = later.total;
            deviation = subst (λ (es : List ℕ). DeviatesFromPath g p ends.excluded room es later.place later.edge later.total)
                (append_assoc before (n ∷ []) path) later.deviation;
            within = let most = later.within in omega arith;
          }
    ]

-- a walk that leaves the path by a deviation is one that deviates
deviates_at : (g : Area) (excluded : List ℕ) (t u : ℕ) (path : List ℕ) (place e : ℕ) (rest : List ℕ) → Joins g u path t →
    place < length path → e < length g.edges → (edge_at g e).from ≡ (edge_at g (get_or path place 0)).from →
    e ≢ get_or path place 0 → Lacks excluded e → Joins g (edge_at g e).to rest t →
    NoneTwice (visited g (edge_at g e).to rest) → Avoids excluded rest →
    Deviates g excluded t u path (take place path ++ e ∷ rest)
deviates_at g excluded t u [] place e rest joins within known from other left rest_joins once kept = absurd (omega arith)
deviates_at g excluded t u (n ∷ path) zero e rest joins within known from other left rest_joins once kept =
    inl (other, record { known = known; from_u = from ∙ joins.1; there = left; joins = rest_joins; none_twice = once; kept = kept })
deviates_at g excluded t u (n ∷ path) (suc place) e rest joins within known from other left rest_joins once kept =
    inr (refl, deviates_at g excluded t (edge_at g n).to path place e rest joins.2 (omega arith) known from other left rest_joins once kept)

-- no walk that leaves the path costs less than every deviation, where that is within the limit
deviation_above : (g : Area) (p : Point) (ends : Ends) (limit : ℕ) (room : Findings) (wanted : List ℕ) (most : ℕ) →
    FitsGraph g → HasDistancesBelow g p ends limit room → IsPathOf g ends wanted → most ≤ limit →
    ((place e total : ℕ) → DeviatesFromPath g p ends.excluded room wanted place e total → most ≤ total) → (other : List ℕ) →
    Deviates g ends.excluded ends.end ends.start wanted other → most ≤ cost g p other
deviation_above g p ends limit room wanted most graph found path far above other deviates =
    elim (cases_lt (cost g p other) limit) [
      | inl near ↦
          let taken = deviated g p ends limit room graph found path.simple.end ends.start [] wanted other path.simple.joins deviates near in
          let least = above taken.place taken.edge taken.total taken.deviation in
          let within = taken.within in
          omega arith
      | inr beyond ↦ omega arith
    ]

-- so no rival does
rival_above : (g : Area) (p : Point) (ends : Ends) (limit : ℕ) (room : Findings) (wanted : List ℕ) (most : ℕ) →
    FitsGraph g → HasDistancesBelow g p ends limit room → IsPathOf g ends wanted → most ≤ limit →
    ((place e total : ℕ) → DeviatesFromPath g p ends.excluded room wanted place e total → most ≤ total) → (other : List ℕ) →
    IsPathOf g ends other → other ≢ wanted → most ≤ cost g p other
rival_above g p ends limit room wanted most graph found path far above other is_path differs =
    deviation_above g p ends limit room wanted most graph found path far above other
    (rival_deviates g ends.excluded ends.end ends.start wanted other path.simple.joins path.simple.none_twice
    is_path.simple.joins is_path.simple.none_twice is_path.kept differs)

-- where every deviation costs at least the path and the scale, the path leads by the scale
pub leads_by : (g : Area) (p : Point) (ends : Ends) (limit : ℕ) (room : Findings) (wanted : List ℕ) → FitsGraph g →
    HasDistancesBelow g p ends limit room → IsPathOf g ends wanted → cost g p wanted + p.scale ≤ limit →
    ((place e total : ℕ) → DeviatesFromPath g p ends.excluded room wanted place e total → cost g p wanted + p.scale ≤ total) →
    LeadsBy p.scale g p ends wanted
leads_by g p ends limit room wanted graph found path far above =
    λ other is_path differs. rival_above g p ends limit room wanted (cost g p wanted + p.scale) graph found path far
    above other is_path differs

-- the best deviation, where it is cheap, makes with any path of least cost a cheapest rival
pub cheapest_by : (g : Area) (p : Point) (ends : Ends) (limit : ℕ) (room : Findings) (wanted : List ℕ)
    (place e total : ℕ) → FitsGraph g → FitsPoint g p → HasDistancesBelow g p ends limit room → IsPathOf g ends wanted →
    (deviation : DeviatesFromPath g p ends.excluded room wanted place e total) →
    ((k i other : ℕ) → DeviatesFromPath g p ends.excluded room wanted k i other → total ≤ other) → total < cost g p wanted + p.scale →
    cost g p wanted + p.scale ≤ limit → (rest : List ℕ) → IsPathOf g (ends_from ends (edge_at g e).to) rest →
    cost g p rest ≡ deviation.onward.rest → IsCheapestRival g p ends wanted (take place wanted ++ e ∷ rest)
cheapest_by g p ends limit room wanted place e total graph fits found path deviation best cheap far rest is_path costs =
    let walk : List ℕ = take place wanted ++ e ∷ rest in
    let deviates = deviates_at g ends.excluded ends.end ends.start wanted place e rest path.simple.joins deviation.within
    deviation.known deviation.from deviation.other deviation.onward.left is_path.simple.joins is_path.simple.none_twice is_path.kept in
    let split = sum_by-append (λ i. price_at p (edge_at g i).price) (take place wanted) (e ∷ rest) in
    let longer = sum_by-cons (λ i. price_at p (edge_at g i).price) e rest in
    let sums = deviation.sums in
    let onward = deviation.onward.sums in
    let whole : cost g p (take place wanted ++ e ∷ rest) ≡ total = omega arith in
    let within : total ≤ limit = omega arith in
    let least : (other : List ℕ) → Deviates g ends.excluded ends.end ends.start wanted other → cost g p (take place wanted ++ e ∷ rest) ≤ cost g p other =
    λ other off. (let above = deviation_above g p ends limit room wanted total graph found path within best other off in omega (arith, whole)) in
    let once = least_deviation_simple g p ends.excluded ends.end ends.start wanted (take place wanted ++ e ∷ rest) graph
    fits path.simple.joins path.simple.none_twice path.kept deviates (omega (arith, whole, cheap)) least in
    let joins = deviation_joins g ends.excluded ends.end ends.start wanted (take place wanted ++ e ∷ rest) path.simple.joins path.kept deviates in
    record {
      rival = (
        record { simple = record { start = path.simple.start; end = path.simple.end; joins = joins.0; none_twice = once }; kept = joins.1 },
        deviation_differs g ends.excluded ends.end ends.start wanted (take place wanted ++ e ∷ rest) deviates,
      );
      cheap = omega (arith, whole, cheap);
      none_less = λ other rival. (let above =
          rival_above g p ends limit room wanted total graph found path within best other rival.0 rival.1 in
          omega (arith, whole));
    }

-- so there is a way on from the deviation's edge, behind the front of the path and that edge
pub way_from : (g : Area) (p : Point) (ends : Ends) (limit : ℕ) (room : Findings) (wanted front : List ℕ)
    (place e total : ℕ) → FitsGraph g → FitsPoint g p → HasDistancesBelow g p ends limit room → IsPathOf g ends wanted →
    (deviation : DeviatesFromPath g p ends.excluded room wanted place e total) →
    ((k i other : ℕ) → DeviatesFromPath g p ends.excluded room wanted k i other → total ≤ other) → total < cost g p wanted + p.scale →
    cost g p wanted + p.scale ≤ limit → front ≡ take place wanted ++ e ∷ [] →
    HasWay g p ends (record room { path = front }) (edge_at g e).to
way_from g p ends limit room wanted front place e total graph fits found path deviation best cheap far is_front = record {
  known = edge.to;
  least = deviation.onward.rest;
  distance = deviation.onward.distance;
  short = λ rest is_path costs.
      let whole = cheapest_by g p ends limit room wanted place e total graph fits found path deviation best cheap far rest is_path costs in
      let short = simple-short g ends.start (take place wanted ++ e ∷ rest) ends.end graph whole.rival.0.simple in
      let count = length-append (take place wanted) (e ∷ rest) in
      let front_count = ap length is_front ∙ length-append (take place wanted) (e ∷ []) in
      omega arith;
}
  where
    edge : FitsEdge g (edge_at g e)
    edge = graph.edges e no_edge deviation.known

-- with the way that was followed the front is a cheapest rival
pub followed_cheapest : (g : Area) (p : Point) (ends : Ends) (limit : ℕ) (room : Findings) (wanted front walk : List ℕ)
    (place e total : ℕ) → FitsGraph g → FitsPoint g p → HasDistancesBelow g p ends limit room → IsPathOf g ends wanted →
    DeviatesFromPath g p ends.excluded room wanted place e total →
    ((k i other : ℕ) → DeviatesFromPath g p ends.excluded room wanted k i other → total ≤ other) → total < cost g p wanted + p.scale →
    cost g p wanted + p.scale ≤ limit → front ≡ take place wanted ++ e ∷ [] →
    IsFollowedByLeast g p ends (record room { path = front }) (edge_at g e).to walk → IsCheapestRival g p ends wanted walk
followed_cheapest g p ends limit room wanted front walk place e total graph fits found path deviation best cheap far is_front followed =
    let costs = same_Some (cost g p followed.rest) deviation.onward.rest (sym followed.costs ∙ deviation.onward.distance) in
    let whole = cheapest_by g p ends limit room wanted place e total graph fits found path deviation best cheap far followed.rest followed.path costs in
    let same = followed.same ∙ ap (λ (es : List ℕ). es ++ followed.rest) is_front ∙ append_assoc (take place wanted) (e ∷ []) followed.rest in
    subst (λ (es : List ℕ). IsCheapestRival g p ends wanted es) (sym same) whole

-- a cheap deviation that is the best shows that the path doesn't lead by the scale
pub leads_not : (g : Area) (p : Point) (ends : Ends) (limit : ℕ) (room : Findings) (wanted : List ℕ)
    (place e total : ℕ) → FitsGraph g → FitsPoint g p → HasDistancesBelow g p ends limit room → IsPathOf g ends wanted →
    (deviation : DeviatesFromPath g p ends.excluded room wanted place e total) →
    ((k i other : ℕ) → DeviatesFromPath g p ends.excluded room wanted k i other → total ≤ other) → total < cost g p wanted + p.scale →
    cost g p wanted + p.scale ≤ limit → LeadsBy p.scale g p ends wanted → ⊥
leads_not g p ends limit room wanted place e total graph fits found path deviation best cheap far leads =
    let edge : FitsEdge g (edge_at g e) = graph.edges e no_edge deviation.known in
    let least = is_least g p (ends_from ends (edge_at g e).to) limit (distance_at room (edge_at g e).to) deviation.onward.rest
    (found.least (edge_at g e).to edge.to) deviation.onward.distance in
    let whole = cheapest_by g p ends limit room wanted place e total graph fits found path deviation best cheap far least.path least.is_path least.costs in
    let above = leads (take place wanted ++ e ∷ least.path) whole.rival.0 whole.rival.1 in
    let below = whole.cheap in
    omega arith

-- distances to the end of a request serve another one with the same end, that excludes the same edges
pub found_as : (g : Area) (p : Point) (ends others : Ends) (limit : ℕ) (room : Findings) → HasDistancesBelow g p ends limit room →
    ends.end ≡ others.end → ends.excluded ≡ others.excluded → HasDistancesBelow g p others limit room
found_as g p ends others limit room found same_end same_excluded =
    let same : (record { start = others.start; end = ends.end; excluded = ends.excluded }) ≡ others =
    λ i. record { start = others.start; end = same_end i; excluded = same_excluded i } in
    subst (λ (x : Ends). HasDistancesBelow g p x limit room) same (record {
      room_for = found.room_for;
      marks = found.marks;
      least = found.least;
      tight =
          found.tight;
    })

-- numbers that add up
record Sums (from to : Option ℕ) (price : ℕ) : Type 0 where
  x : ℕ
  y : ℕ
  from_is : from ≡ Some x
  to_is : to ≡ Some y
  adds : x ≡ price + y

sums_of : (from to : Option ℕ) (price : ℕ) → adds_up from price to ≡ true → Sums from to price
sums_of None to price h = absurd (clash h)
  where
    clash : false ≡ true → ⊥
    clash h = cc
sums_of (Some x) None price h = absurd (clash h)
  where
    clash : false ≡ true → ⊥
    clash h = cc
sums_of (Some x) (Some y) price h = record { x = x; y = y; from_is = refl; to_is = refl; adds = eqb-true x (price + y) h }

-- a tight edge and a path of least cost from its end are a path
pub along_tight : (g : Area) (p : Point) (ends : Ends) (limit : ℕ) (room : Findings) (v f x y : ℕ) (rest : List ℕ) →
    FitsGraph g → FitsPoint g p → HasDistancesBelow g p ends limit room → v < length g.vertices → f < length g.edges →
    (edge_at g f).from ≡ v → Lacks ends.excluded f → distance_at room v ≡ Some x → x ≡ price_at p (edge_at g f).price + y →
    IsPathOf g (record { start = (edge_at g f).to; end = ends.end; excluded = ends.excluded }) rest → cost g p rest ≡ y →
    IsPathOf g (record { start = v; end = ends.end; excluded = ends.excluded }) (f ∷ rest)
along_tight g p ends limit room v f x y rest graph fits found inside known from left distance adds path costs =
    let joins : Joins g v (f ∷ rest) ends.end = (known, from, path.simple.joins) in
    let kept : Avoids ends.excluded (f ∷ rest) = (left, path.kept) in
    let simple = simple_in_walk g p ends.excluded v (f ∷ rest) ends.end graph fits joins kept in
    let least = is_least g p (record { start = v; end = ends.end; excluded = ends.excluded }) limit (distance_at room v) x (found.least v inside) distance in
    let longer = sum_by-cons (λ i. price_at p (edge_at g i).price) f rest in
    record {
      simple = record {
        start = inside;
        end = path.simple.end;
        joins = joins;
        none_twice = elim simple.same_or_less [
          | inl same ↦ subst (λ (es : List ℕ). NoneTwice (visited g v es)) same simple.none_twice
          | inr less ↦
              let none_less = least.none_less simple.edges
              (record {
                simple = record {
                  start = inside;
                  end = path.simple.end;
                  joins = simple.joins;
                  none_twice = simple.none_twice;
                };
                kept = simple.kept;
              }) in
              let scale = fits.scale in
              absurd (omega arith)
        ];
      };
      kept = kept;
    }

-- what a way that is followed comes to
abbrev pub IsWay : Area → Point → Ends → Findings → ℕ → List ℕ → Type 0
IsWay g p ends room v walk = IsFollowedByLeast g p ends room v walk × (length walk < length g.vertices)

-- where there is a way, the room's path is completed to it by any path of least cost
pub way_completes : (g : Area) (p : Point) (ends : Ends) (room : Findings) (v : ℕ) → HasWay g p ends room v →
    Completes g p ends room (IsWay g p ends room v) room.path v
way_completes g p ends room v way = record {
  known = way.known;
  least = way.least;
  distance = way.distance;
  whole = λ rest path costs. (
    record { rest = rest; path = path; costs = way.distance ∙ ap (λ n. Some n) (sym costs); same = refl },
    let short = way.short rest path costs in let count = length-append room.path rest in omega arith,
  );
}

-- one more tight edge
pub completes_more : (g : Area) (p : Point) (ends : Ends) (limit : ℕ) (room : Findings) (Holds : List ℕ → Type 0)
    (walk : List ℕ) (v f : ℕ) → FitsGraph g → FitsPoint g p → HasDistancesBelow g p ends limit room →
    Completes g p ends room Holds walk v → f < length g.edges → (edge_at g f).from ≡ v → is_tight g p room f ≡ true →
    Lacks ends.excluded f → Completes g p ends room Holds (walk ++ f ∷ []) (edge_at g f).to
completes_more g p ends limit room Holds walk v f graph fits found so_far known from tight left =
    let edge : FitsEdge g (edge_at g f) = graph.edges f no_edge known in
    let sums = sums_of (distance_at room (edge_at g f).from) (distance_at room (edge_at g f).to) (price_at p (edge_at g f).price) tight in
    let here : so_far.least ≡ sums.x = same_Some so_far.least sums.x (sym so_far.distance ∙ ap (distance_at room) (sym from) ∙ sums.from_is) in
    let adds = sums.adds in
    record {
      known = edge.to;
      least = sums.y;
      distance = sums.to_is;
      whole = λ rest path costs. (
          let longer_path = along_tight g p ends limit room v f so_far.least sums.y rest graph fits found so_far.known
          known from left so_far.distance (here ∙ adds) path costs in
          let longer = sum_by-cons (λ i. price_at p (edge_at g i).price) f rest in
          subst Holds (sym (append_assoc walk (f ∷ []) rest))
          (so_far.whole (f ∷ rest) longer_path (omega (arith, here, adds, costs, longer))));
    }

-- at the end the walk is whole
pub completed : (g : Area) (p : Point) (ends : Ends) (limit : ℕ) (room : Findings) (Holds : List ℕ → Type 0)
    (walk : List ℕ) (v : ℕ) → HasDistancesBelow g p ends limit room → Completes g p ends room Holds walk v →
    v ≡ ends.end → Holds walk
completed g p ends limit room Holds walk v found so_far arrived =
    let path : IsPathOf g (ends_from ends v) [] = record {
      simple = record { start = so_far.known; end = subst (λ (i : ℕ). i < length g.vertices) arrived so_far.known; joins = arrived; none_twice = (tt, tt) };
      kept = tt;
    } in
    let least = is_least g p (ends_from ends v) limit (distance_at room v) so_far.least (found.least v so_far.known) so_far.distance in
    let none_less = least.none_less [] path in
    subst Holds (append-nil walk) (so_far.whole [] path (omega arith))

-- short of the end some tight edge is left
pub some_next : (g : Area) (p : Point) (ends : Ends) (limit : ℕ) (room : Findings) (Holds : List ℕ → Type 0)
    (walk : List ℕ) (v : ℕ) → HasDistancesBelow g p ends limit room → Completes g p ends room Holds walk v → v ≢ ends.end →
    All (λ e. is_tight g p room e ≡ true → get_or room.marks e true ≡ false → ⊥) (edges_out g v) → ⊥
some_next g p ends limit room Holds walk v found so_far short none = by_path least.path refl
  where
    least : IsLeastOfPaths g p (ends_from ends v) so_far.least
    least = is_least g p (ends_from ends v) limit (distance_at room v) so_far.least (found.least v so_far.known) so_far.distance

    below : so_far.least < limit
    below = (least_at g p (ends_from ends v) limit (distance_at room v) so_far.least (found.least v so_far.known) so_far.distance).1

    by_path : (es : List ℕ) → es ≡ least.path → ⊥
    by_path [] same = short (subst (λ (es : List ℕ). Joins g v es ends.end) (sym same) least.is_path.simple.joins)
    by_path (e ∷ es) same =
        let path : IsPathOf g (ends_from ends v) (e ∷ es) = subst (λ (xs : List ℕ). IsPathOf g (ends_from ends v) xs) (sym same) least.is_path in
        let costs : so_far.least ≡ cost g p (e ∷ es) = sym least.costs ∙ ap (cost g p) (sym same) in
        let tight = (found.tight v (e ∷ es) path (omega (arith, below, costs))).0 (so_far.distance ∙ ap (λ n. Some n) costs) in
        let inside : e < length room.marks = (let known = path.simple.joins.0 in let count = found.room_for.edges in omega arith) in
        out_all (λ e. is_tight g p room e ≡ true → get_or room.marks e true ≡ false → ⊥) g v none e path.simple.joins.0
        path.simple.joins.1 tight.0 ((found.marks e inside).1 path.kept.0)

-- where each whole walk has fewer edges than the graph has vertices, so has the walk so far
pub short_walk : (g : Area) (p : Point) (ends : Ends) (limit : ℕ) (room : Findings) (Holds : List ℕ → Type 0)
    (walk : List ℕ) (v : ℕ) → HasDistancesBelow g p ends limit room → Completes g p ends room Holds walk v →
    ((es : List ℕ) → Holds es → length es < length g.vertices) → length walk < length g.vertices
short_walk g p ends limit room Holds walk v found so_far each =
    let least = is_least g p (ends_from ends v) limit (distance_at room v) so_far.least (found.least v so_far.known) so_far.distance in
    let short = each (walk ++ least.path) (so_far.whole least.path least.is_path least.costs) in
    let count = length-append walk least.path in
    omega arith

-- tightness doesn't hang on the path that a room keeps
tight_kept : (g : Area) (p : Point) (room : Findings) (kept es : List ℕ) → AreTight g p room es → AreTight g p (record room { path = kept }) es
tight_kept g p room kept [] tight = tt
tight_kept g p room kept (e ∷ es) tight = (tight.0, tight_kept g p room kept es tight.1)

kept_tight : (g : Area) (p : Point) (room : Findings) (kept es : List ℕ) → AreTight g p (record room { path = kept }) es → AreTight g p room es
kept_tight g p room kept [] tight = tt
kept_tight g p room kept (e ∷ es) tight = (tight.0, kept_tight g p room kept es tight.1)

-- what a room found stays found with any path kept
pub found_kept : (g : Area) (p : Point) (ends : Ends) (limit : ℕ) (room : Findings) (kept : List ℕ) (new : Findings) →
    new ≡ record room { path = kept } → HasDistancesBelow g p ends limit room → HasDistancesBelow g p ends limit new
found_kept g p ends limit room kept new same found = subst (HasDistancesBelow g p ends limit) (sym same) (record {
  room_for = record { vertices = found.room_for.vertices; edges = found.room_for.edges };
  marks = found.marks;
  least = found.least;
  tight = λ v es path near. (
    λ least. tight_kept g p room kept es ((found.tight v es path near).0 least),
    λ tight. (found.tight v es path near).1 (kept_tight g p room kept es tight),
  );
})

-- a room of which the path alone changes, and then changes again
pub other_path : (old now new : Findings) (path : List ℕ) → now ≡ record old { path = now.path } →
    new ≡ record now { path = path } → new ≡ record old { path = new.path }
other_path old now new path first second =
    second ∙ ap (λ (r : Findings). let other : Findings = record r { path = path } in other) first
    ∙ ap (λ (es : List ℕ). let other : Findings = record old { path = es } in other) (sym (ap (λ (r : Findings). r.path) second))

pub completes_kept : (g : Area) (p : Point) (ends : Ends) (room : Findings) (Holds : List ℕ → Type 0)
    (walk kept : List ℕ) (v : ℕ) → Completes g p ends room Holds walk v →
    Completes g p ends (record room { path = kept }) Holds walk v
completes_kept g p ends room Holds walk kept v so_far = record { known = so_far.known; least = so_far.least; distance = so_far.distance; whole = so_far.whole }

-- where there is a way behind an edge, the room's path has fewer edges than the graph has vertices
pub way_short : (g : Area) (p : Point) (ends : Ends) (limit : ℕ) (room : Findings) (e : ℕ) → FitsGraph g →
    HasDistancesBelow g p ends limit room → e < length g.edges → HasWay g p ends (with_edge room e) (edge_at g e).to →
    length room.path < length room.costs
way_short g p ends limit room e graph found known way =
    let edge : FitsEdge g (edge_at g e) = graph.edges e no_edge known in
    let some = is_least g p (ends_from ends (edge_at g e).to) limit (distance_at room (edge_at g e).to) way.least
    (found.least (edge_at g e).to edge.to) way.distance in
    let short = way.short some.path some.is_path some.costs in
    let longer = length-append room.path (e ∷ []) in
    let count = found.room_for.vertices in
    omega arith

-- the first n elements are at most n
pub take_short : (n : ℕ) (xs : List ℕ) → length (take n xs) ≤ n
take_short zero [] = omega arith
take_short zero (x ∷ xs) = omega arith
take_short (suc n) [] = omega arith
take_short (suc n) (x ∷ xs) = let rest = take_short n xs in omega arith
