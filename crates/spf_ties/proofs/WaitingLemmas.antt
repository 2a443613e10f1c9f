-- The greatest of reversed entries is the nearest.
use Rattle.std.proofs.Common.{◌≡◌, ℕ, ◌≤◌, List, [], ◌∷◌, All, map, false, arith}
use Rattle.std.specs.declared.cmp.Reverse.{Reverse}
use Rattle.std.specs.declared.cmp.Ordering.{Ordering}
use Rattle.std.specs.BinaryHeap.{IsUpperBound}
use Rattle.std.specs.Ordering.{is_lt, nat_cmp, ordering_then}
use Rattle.std.proofs.lemmas.Bool.Decides.{nat_tests}
use Rattle.std.proofs.lemmas.List.Elements.{All-nil, All-cons}
use Rattle.spf_ties.specs.declared.heap.WaitingVertex.{WaitingVertex}

-- how a heap of reversed entries compares them
abbrev pub reversed : Reverse WaitingVertex → Reverse WaitingVertex → Ordering
reversed x y = ordering_then (nat_cmp y.0.distance x.0.distance) (nat_cmp y.0.vertex x.0.vertex)

not_nearer : (x y : ℕ) (o : Ordering) → is_lt (ordering_then (nat_cmp y x) o) ≡ false → x ≤ y
not_nearer x y o h = grind (arith, nat_tests)

-- none is nearer than the one that is above all
pub nearest : (x : Reverse WaitingVertex) (xs : List (Reverse WaitingVertex)) → IsUpperBound reversed x xs →
    All (λ other. x.0.distance ≤ other.distance) (map (λ r. r.0) xs)
nearest x [] above = All-nil (λ (other : WaitingVertex). x.0.distance ≤ other.distance)
nearest x (y ∷ ys) above =
    All-cons (λ (other : WaitingVertex). x.0.distance ≤ other.distance) y.0 (map (λ r. r.0) ys)
    (not_nearer x.0.distance y.0.distance (nat_cmp y.0.vertex x.0.vertex) above.0) (nearest x ys above.1)
