-- The edges that are listed at a vertex.
use Rattle.std.proofs.Common.{◌≡◌, ℕ, ◌+◌, ◌<◌, All, ap, sym, ◌∙◌, List, [], ◌∷◌, ◌++◌, true, false, length, get_or, set, filter, cond, eqb, eq-eqb, arith, get_or-set_other, get_or-set_same, append-nil, zero-add}
use Rattle.std.proofs.lemmas.Bool.{eqb-true, ne_eqb}
use Rattle.std.proofs.lemmas.List.Elements.{filter-append}
use native.Mathlib.Decide.{ℕ_discrete}
use Rattle.cost_base.specs.Lists.{numbers_from}
use Rattle.cost_base.proofs.ListLemmas.{numbers_from-push, all_kept, kept_all}
use Rattle.area_graph.specs.Area.{Area, edge_at, edges_out}
use Rattle.area_graph.specs.declared.adjacency.Side.{Side}
use Rattle.area_graph.specs.Adjacency.{edge_end_on, listed_below}

-- one edge more is listed at the vertex of its end alone
pub listed_more : (n : ℕ) (side : Side) (g : Area) (v : ℕ) →
    listed_below (n + 1) side g v ≡ listed_below n side g v ++ cond (eqb (edge_end_on side (edge_at g n)) v) (n ∷ []) []
listed_more n side g v =
    ap (filter (λ e. eqb (edge_end_on side (edge_at g e)) v)) (numbers_from-push 0 n
    ∙ ap (λ m. numbers_from 0 n ++ m ∷ []) (zero-add n))
    ∙ filter-append (λ e. eqb (edge_end_on side (edge_at g e)) v) (numbers_from 0 n) (n ∷ [])

-- after the next edge was put into the list of its end, the lists are those of one edge more
pub lists_more : (lists : List (List ℕ)) (n : ℕ) (side : Side) (g : Area) →
    ((v : ℕ) → v < length g.vertices → get_or lists v [] ≡ listed_below n side g v) → length lists ≡ length g.vertices →
    (w : ℕ) → w ≡ edge_end_on side (edge_at g n) → w < length lists → (pushed : List ℕ) →
    pushed ≡ get_or lists w [] ++ n ∷ [] → (v : ℕ) → v < length g.vertices →
    get_or (set lists w pushed) v [] ≡ listed_below (n + 1) side g v
lists_more lists n side g before same_count w is_end within pushed is_pushed v below =
    elim (ℕ_discrete v w) [
      | yes same ↦
          let here : eqb (edge_end_on side (edge_at g n)) v ≡ true = eq-eqb (edge_end_on side (edge_at g n)) v (sym is_end ∙ sym same) in
          ap (λ (i : ℕ). get_or (set lists w pushed) i []) same ∙ get_or-set_same lists w pushed [] within ∙ is_pushed
          ∙ ap (λ (i : ℕ). get_or lists i [] ++ n ∷ []) (sym same) ∙ ap (λ xs. xs ++ n ∷ []) (before v below)
          ∙ sym (listed_more n side g v ∙ ap (λ t. listed_below n side g v ++ cond t (n ∷ []) []) here)
      | no other ↦
          let apart : eqb (edge_end_on side (edge_at g n)) v ≡ false = ne_eqb (edge_end_on side (edge_at g n)) v (λ same. other (sym (is_end ∙ same))) in
          get_or-set_other lists w v pushed [] other ∙ before v below
          ∙ sym (listed_more n side g v ∙ ap (λ t. listed_below n side g v ++ cond t (n ∷ []) []) apart ∙ append-nil (listed_below n side g v))
    ]

-- the edges out of a vertex are edges of the graph
pub out_known : (g : Area) (v : ℕ) → All (λ e. e < length g.edges) (edges_out g v)
out_known g v = all_kept (λ e. e < length g.edges) (λ e. eqb (edge_at g e).from v) 0 (length g.edges) (λ e above below yes. omega arith)

-- the edges out of a vertex are those that begin there
pub all_out : (P : ℕ → Type 0) (g : Area) (v : ℕ) → ((e : ℕ) → e < length g.edges → (edge_at g e).from ≡ v → P e) → All P (edges_out g v)
all_out P g v each = all_kept P (λ e. eqb (edge_at g e).from v) 0 (length g.edges)
    (λ e above below yes. each e (omega arith) (eqb-true (edge_at g e).from v yes))

pub out_all : (P : ℕ → Type 0) (g : Area) (v : ℕ) → All P (edges_out g v) → (e : ℕ) → e < length g.edges → (edge_at g e).from ≡ v → P e
out_all P g v all e known from =
    kept_all P (λ e. eqb (edge_at g e).from v) 0 (length g.edges) all e (omega arith) (omega arith)
    (eq-eqb (edge_at g e).from v from)
