-- What an asker keeps while it looks at one request after another.
use Rattle.std.proofs.Common.{◌≡◌, ℕ, ◌≢◌, ◌+◌, ◌<◌, ◌≤◌, sym, ◌∙◌, subst, inl, inr, List, [], ◌∷◌, ◌++◌, All, length, get_or, set, arith}
use Rattle.std.specs.Prelude.{Contains}
use Rattle.std.proofs.lemmas.Bool.{cases_eq, cases_lt}
use Rattle.std.proofs.lemmas.List.{get_or-set_other, get_or-set_same, get_or_default}
use Rattle.std.proofs.lemmas.List.Elements.{All-push, Contains-append_left, Contains-push}
use Rattle.area_graph.specs.declared.Point.{Point}
use Rattle.area_graph.specs.Area.{Area}
use Rattle.design_problem.specs.declared.problem.Request.{Request}
use Rattle.design_problem.specs.Problems.{no_request, request_at, request_ends}
use Rattle.spf_ties.specs.Distances.{Findings}
use Rattle.rival_separation.specs.Askers.{Asking, IsAskerFor, IsShared, RequestLeads}
use Rattle.rival_separation.specs.declared.shared.Shared.{Shared}
use Rattle.rival_separation.proofs.RivalLemmas.{found_kept}

-- the numbers below n, and n
pub one_more : (n count : ℕ) (order new : List ℕ) → All (λ k. k < count) order → ((k : ℕ) → k < n → Contains order k) →
    n < count → new ≡ order ++ n ∷ [] → All (λ k. k < count) new × ((k : ℕ) → k < n + 1 → Contains new k)
one_more n count order new known each more same = (
  subst (λ (xs : List ℕ). All (λ k. k < count) xs) (sym same) (All-push (λ k. k < count) order n known more),
  λ k k_in. subst (λ (xs : List ℕ). Contains xs k) (sym same) (elim (cases_lt k n) [
    | inl before ↦ Contains-append_left order (n ∷ []) k (each k before)
    | inr last ↦ subst (λ (i : ℕ). Contains (order ++ n ∷ []) i) (let same : n ≡ k = omega arith in same) (Contains-push order n)
  ]),
)

-- what holds of each number in the order holds of each request's number
pub order_reaches : (order : List ℕ) (count place : ℕ) → ((k : ℕ) → k < count → Contains order k) →
    length order ≤ place → (P : ℕ → Type 0) → ((i : ℕ) → i < place → P (get_or order i 0)) → (k : ℕ) → k < count → P k
order_reaches order count place each past P holds k k_in =
    let has = each k k_in in
    let near = has.1 in
    subst P (get_or_default order has.0 0 k has.1 ∙ has.2) (holds has.0 (omega arith))

-- with another one at one place, what holds there and elsewhere holds at each place
pub told_there : {X : Type 0} (Holds : ℕ → X → Type 0) (xs : List X) (place : ℕ) (x none : X) → place < length xs →
    Holds place x → (k : ℕ) → (k ≢ place → Holds k (get_or xs k none)) → Holds k (get_or (set xs place x) k none)
told_there Holds xs place x none within here k elsewhere = elim (cases_eq k place) [
  | inl same ↦ subst (λ (i : ℕ). Holds i (get_or (set xs place x) i none)) (sym same)
      (subst (Holds place) (sym (get_or-set_same xs place x none within)) here)
  | inr other ↦ subst (Holds k) (sym (get_or-set_other xs place k x none other)) (elsewhere other)
]

-- an asker of whose room the path alone changed
pub asker_kept : (g : Area) (requests : List Request) (old new : Asking) →
    new ≡ record old { room = record old.room { path = new.room.path } } → IsAskerFor g requests old → IsAskerFor g requests new
asker_kept g requests old new same is = subst (IsAskerFor g requests) (sym same)
    (record { room = record { vertices = is.room.vertices; edges = is.room.edges }; known = is.known; each = is.each })

-- a room of which the path alone changed still has the distances
pub shared_kept : (g : Area) (p : Point) (old new : Findings) (shared : Shared) →
    new ≡ record old { path = new.path } → IsShared g p old shared → IsShared g p new shared
shared_kept g p old new shared same is = found_kept g p (request_ends shared.request.now) shared.limit old new.path new same is

-- so each path leads where that of each number in the order does
pub order_leads : (g : Area) (p : Point) (requests : List Request) (order : List ℕ) (place : ℕ) →
    ((k : ℕ) → k < length requests → Contains order k) → length order ≤ place →
    ((i : ℕ) → i < place → RequestLeads g p (request_at requests (get_or order i 0))) → All (RequestLeads g p) requests
order_leads g p requests order place each past leads k d k_in =
    subst (RequestLeads g p) (get_or_default requests k no_request d k_in)
    (order_reaches order (length requests) place each past (λ i. RequestLeads g p (request_at requests i)) leads k k_in)
