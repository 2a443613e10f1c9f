-- Paths cut at a place: what they visit, and that their edges are known.
use Rattle.std.proofs.Common.{◌≡◌, ℕ, ◌+◌, ◌<◌, ap, sym, subst, ◌∙◌, List, [], ◌∷◌, ◌++◌, All, length, get_or, take, drop, map, add-one}
use Rattle.std.proofs.lemmas.List.Elements.{All-cons, All-nil}
use Rattle.std.proofs.lemmas.List.{take_more, map-append, take-append-drop}
use Rattle.std.proofs.Math.Seq.{drop-cons}
use Rattle.cost_base.specs.Lists.{Lacks, NoneTwice}
use Rattle.cost_base.proofs.ListLemmas.{none_twice_push, none_twice_seam}
use Rattle.area_graph.specs.Area.{Area, edge_at}
use Rattle.area_graph.specs.Paths.{Joins, visited}

-- edges that join are edges of the graph
pub joined_known : (g : Area) (s : ℕ) (es : List ℕ) (t : ℕ) → Joins g s es t → All (λ e. e < length g.edges) es
joined_known g s [] t joins = All-nil (λ e. e < length g.edges)
joined_known g s (e ∷ es) t joins = All-cons (λ i. i < length g.edges) e es joins.0 (joined_known g (edge_at g e).to es t joins.2)

-- the first vertices of a path are those of its first edges
pub visited_more : (g : Area) (s : ℕ) (es : List ℕ) (i d : ℕ) → i < length es →
    visited g s (take (i + 1) es) ≡ visited g s (take i es) ++ (edge_at g (get_or es i d)).to ∷ []
visited_more g s es i d within =
    ap (λ xs. s ∷ map (λ e. (edge_at g e).to) xs) (take_more es i d within)
    ∙ ap (λ xs. s ∷ xs) (map-append (λ e. (edge_at g e).to) (take i es) (get_or es i d ∷ []))

pub visited_seam : (g : Area) (s : ℕ) (es : List ℕ) (n : ℕ) → visited g s (take n es) ++ map (λ e. (edge_at g e).to) (drop n es) ≡ visited g s es
visited_seam g s es n = ap (λ xs. s ∷ xs) (sym (map-append (λ e. (edge_at g e).to) (take n es) (drop n es))
    ∙ ap (map (λ e. (edge_at g e).to)) (take-append-drop n es))

-- a step to a vertex that is new
pub step_on : (g : Area) (s : ℕ) (es : List ℕ) (i d : ℕ) → i < length es → NoneTwice (visited g s (take i es)) →
    Lacks (visited g s (take i es)) (edge_at g (get_or es i d)).to → NoneTwice (visited g s (take (i + 1) es))
step_on g s es i d within once lacks =
    subst NoneTwice (sym (visited_more g s es i d within))
    (none_twice_push (visited g s (take i es)) (edge_at g (get_or es i d)).to once lacks)

-- no step of a path with no vertex twice leads back
pub no_step_back : (g : Area) (s : ℕ) (es : List ℕ) (i d : ℕ) → i < length es → NoneTwice (visited g s es) →
    Lacks (visited g s (take i es)) (edge_at g (get_or es i d)).to
no_step_back g s es i d within once =
    none_twice_seam (visited g s (take i es)) (edge_at g (get_or es i d)).to (map (λ e. (edge_at g e).to) (drop (i + 1) es)) (subst NoneTwice (sym cut) once)
  where
    cut : visited g s (take i es) ++ (edge_at g (get_or es i d)).to ∷ map (λ e. (edge_at g e).to) (drop (i + 1) es) ≡ visited g s es
    cut = ap (λ xs. visited g s (take i es) ++ map (λ e. (edge_at g e).to) xs)
        (ap (λ n. get_or es i d ∷ drop n es) (add-one i) ∙ sym (drop-cons es i d within)) ∙ visited_seam g s es i
