-- Edges that are pushed one LSA after the other.
use Rattle.std.proofs.Common.{◌≡◌, ℕ, ◌+◌, ◌<◌, Bool, true, false, cond, List, [], ◌∷◌, ◌++◌, length, drop, get_or, filter, refl, sym, ap, ◌∙◌, arith}
use Rattle.std.proofs.lemmas.List.{at_drop_more}
use Rattle.lsa_bytes.specs.declared.Lsa.{Lsa}
use Rattle.lsa_bytes.specs.declared.vertices.Kind.{Kind}
use Rattle.lsa_bytes.specs.AreaGraphs.{edges_from, edges_in_order}
use Rattle.lsa_bytes.specs.Vertices.{is_kind}

-- the edges out of the vertices of a kind from one place on
pub edges_step : (all : List Lsa) (kind : Kind) (vertex i : ℕ) (lsas : List Lsa) (lsa : Lsa) → i < length lsas → lsa ≡ get_or lsas i lsa
    → edges_in_order all vertex (filter (is_kind kind) (drop i lsas))
    ≡ cond (is_kind kind lsa) (edges_from all vertex lsa lsa.body) []
    ++ edges_in_order all (vertex + cond (is_kind kind lsa) 1 0) (filter (is_kind kind) (drop (i + 1) lsas))
edges_step all kind vertex i lsas lsa within is =
    at_drop_more (λ (ls : List Lsa). edges_in_order all vertex (filter (is_kind kind) ls)) lsas i lsa within
    ∙ ap (λ (l : Lsa). edges_in_order all vertex (filter (is_kind kind) (l ∷ drop (i + 1) lsas))) (sym is)
    ∙ by_kind (is_kind kind lsa)
  where
    by_kind : (b : Bool) → edges_in_order all vertex (cond b (lsa ∷ filter (is_kind kind) (drop (i + 1) lsas)) (filter (is_kind kind) (drop (i + 1) lsas)))
        ≡ cond b (edges_from all vertex lsa lsa.body) [] ++ edges_in_order all (vertex + cond b 1 0) (filter (is_kind kind) (drop (i + 1) lsas))
    by_kind true = refl
    by_kind false = let same : vertex ≡ vertex + 0 = omega arith in ap (λ (v : ℕ). edges_in_order all v (filter (is_kind kind) (drop (i + 1) lsas))) same
