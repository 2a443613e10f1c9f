-- What an asker of sets keeps while it looks at one set after another.
use Rattle.std.proofs.Common.{◌≡◌, ℕ, ◌+◌, ◌<◌, ◌≤◌, sym, subst, inl, inr, List, [], length, get_or, arith, Bool, ◌∙◌, Option, None}
use Rattle.std.specs.Prelude.{All, Contains, MatchBool}
use Rattle.std.proofs.lemmas.Bool.{cases_lt}
use Rattle.std.proofs.lemmas.List.{get_or-map, get_or_default, length-map}
use Rattle.std.proofs.lemmas.List.Elements.{All-map}
use Rattle.area_graph.specs.declared.Point.{Point}
use Rattle.area_graph.specs.Area.{Area}
use Rattle.area_graph.specs.Costs.{cost}
use Rattle.design_problem.specs.declared.problem.Request.{Request}
use Rattle.design_problem.specs.Problems.{DesignProblem, IsProblem, request_ends}
use Rattle.rival_separation.specs.declared.outlook.Outlook.{Outlook}
use Rattle.rival_separation.proofs.AskerLemmas.{order_reaches}
use Rattle.set_separation.specs.Deviations.{IsTiedTree}
use Rattle.set_separation.specs.Outsiders.{CostAtLeast, IsCheapestOutsider}
use Rattle.set_separation.specs.SeenTrees.{AreOutsidersDearHere, IsCheapestOutsiderHere, IsTiedHere}
use Rattle.spread_sets.specs.declared.member_sets.MemberSet.{MemberSet}
use Rattle.spread_sets.specs.MemberSets.{HasTree, sets_in}
use Rattle.spread_sets.specs.SetAskers.{AreOutsidersIfAny, IsAskerOfSets, IsOutsiderIfAny, SetAsking, first_request, member_set_at, no_member_set}
use Rattle.spread_sets.specs.Sources.{AreOutsidersDear, IsOutsiderTooCheap, set_at}
use Rattle.spread_sets.specs.Spreads.{AreTied, Shares, SharesEach, paths_of}
use Rattle.spread_sets.proofs.Separations.{tied_tree, told}

-- the members of the set of a number
pub members_at : (sets : List MemberSet) (k : ℕ) → k < length sets → (member_set_at sets k).members ≡ set_at (sets_in sets) k
members_at sets k k_in = sym (get_or-map (λ (s : MemberSet). s.members) sets k no_member_set [] k_in)

-- where the members of each set tie, those of each set with its tree do
pub each_tied : (p : DesignProblem) (point : Point) (sets : List MemberSet) → All (AreTied p point) (sets_in sets) →
    All (λ set. AreTied p point set.members) sets
each_tied p point sets tied k d k_in =
    subst (AreTied p point) (get_or-map (λ (s : MemberSet). s.members) sets k d [] k_in)
    (tied k [] (omega (arith, length-map sets (λ (s : MemberSet). s.members))))

-- each set shares where that of each number in the order does
pub order_shares : (p : DesignProblem) (point : Point) (sets : List MemberSet) (order : List ℕ) (place : ℕ) →
    ((k : ℕ) → k < length sets → Contains order k) → length order ≤ place →
    ((i : ℕ) → i < place → Shares p point (member_set_at sets (get_or order i 0)).members) → SharesEach p (sets_in sets) point
order_shares p point sets order place each past shares =
    All-map (Shares p point) (λ (s : MemberSet). s.members) sets
    (λ k d k_in. subst (λ (s : MemberSet). Shares p point s.members) (get_or_default sets k no_member_set d k_in)
    (order_reaches order (length sets) place each past (λ i. Shares p point (member_set_at sets i).members) shares k k_in))

-- one number of the order more, whose set shares
pub more_shares : (p : DesignProblem) (point : Point) (sets : List MemberSet) (order : List ℕ) (place : ℕ) →
    ((i : ℕ) → i < place → Shares p point (member_set_at sets (get_or order i 0)).members) →
    Shares p point (member_set_at sets (get_or order place 0)).members →
    (i : ℕ) → i < place + 1 → Shares p point (member_set_at sets (get_or order i 0)).members
more_shares p point sets order place before shares i i_in = elim (cases_lt i place) [
  | inl earlier ↦ before i earlier
  | inr last ↦ subst (λ (j : ℕ). Shares p point (member_set_at sets (get_or order j 0)).members) (let e : place ≡ i = omega arith in e) shares
]

-- and not each does where one doesn't
pub one_shares_not : (p : DesignProblem) (point : Point) (sets : List MemberSet) (k : ℕ) → k < length sets →
    (Shares p point (member_set_at sets k).members → ⊥) → SharesEach p (sets_in sets) point → ⊥
one_shares_not p point sets k k_in not each =
    not (subst (Shares p point) (sym (members_at sets k k_in)) (each k [] (omega (arith, length-map sets (λ (s : MemberSet). s.members)))))

-- an asker of whose room the path alone changed
pub asker_kept : (p : DesignProblem) (sets : List MemberSet) (old new : SetAsking) →
    new ≡ record old { room = record old.room { path = new.room.path } } → IsAskerOfSets p sets old → IsAskerOfSets p sets new
asker_kept p sets old new same is = subst (IsAskerOfSets p sets) (sym same)
    (record { room = record { vertices = is.room.vertices; edges = is.room.edges }; trees = is.trees; known = is.known; each = is.each })

-- The request of a set's first member, under the names by which code has read it.

-- the graph, the request and the point that code has read are those of a set
pub record IsSeenAs (p : DesignProblem) (here : Point) (set : List ℕ) (o : Outlook) : Type 0 where
  pub graph : o.graph.now ≡ p.graph
  pub request : o.request.now ≡ first_request p set
  pub point : o.point.now ≡ here

-- what holds of what was read holds of the set
seen_as : (p : DesignProblem) (point : Point) (set : List ℕ) (o : Outlook) (P : Area → Request → Point → Type 0) →
    IsSeenAs p point set o → P o.graph.now o.request.now o.point.now → P p.graph (first_request p set) point
seen_as p point set o P is holds =
    subst (P p.graph (first_request p set)) is.point
    (subst (λ (r : Request). P p.graph r o.point.now) is.request (subst (λ (g : Area). P g o.request.now o.point.now) is.graph holds))

-- what holds of the set holds of what was read
as_seen : (p : DesignProblem) (point : Point) (set : List ℕ) (o : Outlook) (P : Area → Request → Point → Type 0) →
    IsSeenAs p point set o → P p.graph (first_request p set) point → P o.graph.now o.request.now o.point.now
as_seen p point set o P is holds =
    subst (λ (g : Area). P g o.request.now o.point.now) (sym is.graph)
    (subst (λ (r : Request). P p.graph r o.point.now) (sym is.request) (subst (P p.graph (first_request p set)) (sym is.point) holds))

-- the tree of the members' paths
pub tree_seen : (p : DesignProblem) (point : Point) (s : MemberSet) (o : Outlook) → IsProblem p → HasTree p s →
    AreTied p point s.members → IsSeenAs p point s.members o → IsTiedHere o (paths_of p s.members) s.tree
tree_seen p point s o kept has tied is =
    as_seen p point s.members o
    (λ g r q. IsTiedTree g q (request_ends r) (cost g q r.path.edges) (paths_of p s.members) s.tree) is (tied_tree p point s kept has tied)

-- whether each outsider costs at least the scale more
pub lead_seen : (p : DesignProblem) (point : Point) (set : List ℕ) (leads : Bool) (o : Outlook) → IsSeenAs p point set o →
    MatchBool leads (AreOutsidersDearHere o (paths_of p set)) (AreOutsidersDearHere o (paths_of p set) → ⊥) →
    MatchBool leads (AreOutsidersDear p point set) (AreOutsidersDear p point set → ⊥)
lead_seen p point set leads o is tells =
    seen_as p point set o
    (λ g r q. MatchBool leads (CostAtLeast g q (request_ends r) (paths_of p set) (cost g q r.path.edges + q.scale))
    (CostAtLeast g q (request_ends r) (paths_of p set) (cost g q r.path.edges + q.scale) → ⊥)) is tells

-- the outsider that was found, or that there is none
pub found_seen : (p : DesignProblem) (point : Point) (set es : List ℕ) (found : Bool) (o : Outlook) → IsSeenAs p point set o →
    MatchBool found (IsCheapestOutsiderHere o (paths_of p set) es) (AreOutsidersDearHere o (paths_of p set)) →
    MatchBool found (IsOutsiderTooCheap p point set es) (AreOutsidersDear p point set)
found_seen p point set es found o is tells =
    told p point set es found
    (seen_as p point set o
    (λ g r q. MatchBool found (IsCheapestOutsider g q (request_ends r) (paths_of p set) (cost g q r.path.edges + q.scale) es)
    (CostAtLeast g q (request_ends r) (paths_of p set) (cost g q r.path.edges + q.scale))) is tells)

-- what is told of each set with its tree is told of each set
pub told_of_sets : (p : DesignProblem) (point : Point) (sets : List MemberSet) (outsiders : List (Option (List ℕ))) →
    length outsiders ≡ length sets →
    ((k : ℕ) → k < length sets → IsOutsiderIfAny p point (member_set_at sets k).members (get_or outsiders k None)) →
    AreOutsidersIfAny p point (sets_in sets) outsiders
told_of_sets p point sets outsiders count told =
    let many = length-map sets (λ (s : MemberSet). s.members) in
    record {
      count = count ∙ sym many;
      each = λ k k_in.
          let within : k < length sets = omega (arith, k_in, many) in
          subst (λ (set : List ℕ). IsOutsiderIfAny p point set (get_or outsiders k None)) (members_at sets k within) (told k within);
    }
