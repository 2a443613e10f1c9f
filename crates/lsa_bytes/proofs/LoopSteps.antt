-- A loop that appends what each item gives, one item further.
use Rattle.std.proofs.Common.{◌≡◌, ◌∙◌, ℕ, ◌+◌, ◌<◌, ◌++◌, ◌≤◌, Bool, true, false, cond, nat_eq, ap, sym, List, [], ◌∷◌, length, get_or, drop, append-nil, append_assoc, refl, filter, subst, arith}
use Rattle.std.specs.Prelude.{Option, flat_map}
use Rattle.std.proofs.lemmas.List.{at_drop_more, get_or_default}
use Rattle.area_graph.specs.declared.Edge.{Edge}
use Rattle.area_graph.specs.declared.Price.TheVariants.{Fixed}
use Rattle.lsa_bytes.specs.declared.LsaLink.{LsaLink}
use Rattle.lsa_bytes.specs.declared.Lsa.{Lsa}
use Rattle.lsa_bytes.specs.declared.vertices.Kind.{Kind}
use Rattle.lsa_bytes.specs.AreaGraphs.{edge_if_found, edges_from, edges_in_order, far_end, link_edge}
use Rattle.lsa_bytes.specs.Vertices.{ids_of_type, is_kind}
use Rattle.lsa_bytes.proofs.MemberLaws.{ids_step}
use Rattle.lsa_bytes.proofs.EdgeSteps.{edges_step}

-- what was to come is what an item gives and the rest
added : {A : Type 0} → (before made now whole rest all : List A) → whole ≡ made ++ rest → now ≡ before ++ made →
    before ++ whole ≡ all → now ++ rest ≡ all
added {A} before made now whole rest all step is_now so_far =
    ap (λ (ys : List A). ys ++ rest) is_now ∙ append_assoc {A = A} before made rest
    ∙ ap (λ (ys : List A). before ++ ys) (sym step) ∙ so_far

-- what a function gives of one item more
pub more_given : {X A : Type 0} → (f : X → List A) (xs : List X) (i : ℕ) (d : X) (before made now all : List A) → i < length xs →
    made ≡ f (get_or xs i d) → now ≡ before ++ made → before ++ flat_map f (drop i xs) ≡ all → now ++ flat_map f (drop (i + 1) xs) ≡ all
more_given {X} {A} f xs i d before made now all within makes is_now so_far =
    let rest = flat_map f (drop (i + 1) xs) in
    added before made now (flat_map f (drop i xs)) rest all
    (at_drop_more (flat_map f) xs i d within ∙ ap (λ (ys : List A). ys ++ rest) (sym makes)) is_now so_far

-- the edge of one link more
pub link_more : (all : List Lsa) (vertex router i : ℕ) (links : List LsaLink) (d : LsaLink) (to : Option ℕ) (before now whole : List Edge) → i < length links →
    to ≡ far_end all router (get_or links i d) → now ≡ before ++ edge_if_found vertex (Fixed (get_or links i d).metric) to →
    before ++ flat_map (link_edge all vertex router) (drop i links) ≡ whole → now ++ flat_map (link_edge all vertex router) (drop (i + 1) links) ≡ whole
link_more all vertex router i links d to before now whole within leads is_now so_far =
    let price = Fixed (get_or links i d).metric in
    more_given (link_edge all vertex router) links i d before (edge_if_found vertex price to) now whole within
    (ap (λ (end : Option ℕ). edge_if_found vertex price end) leads) is_now so_far

-- the ID of one link more, where it is of the type
pub id_more : (kind i : ℕ) (links : List LsaLink) (d : LsaLink) (before now all : List ℕ) → i < length links →
    now ≡ cond (nat_eq (get_or links i d).kind kind) (before ++ (get_or links i d).id ∷ []) before →
    before ++ ids_of_type kind (drop i links) ≡ all → now ++ ids_of_type kind (drop (i + 1) links) ≡ all
id_more kind i links d before now all within is_now so_far =
    let link = get_or links i d in
    added before (cond (nat_eq link.kind kind) (link.id ∷ []) []) now (ids_of_type kind (drop i links)) (ids_of_type kind (drop (i + 1) links)) all
    (ids_step kind i links link within (get_or_default links i d link within)) (is_now ∙ by_test (nat_eq link.kind kind) link.id) so_far
  where
    by_test : (b : Bool) (id : ℕ) → cond b (before ++ id ∷ []) before ≡ before ++ cond b (id ∷ []) []
    by_test true id = refl
    by_test false id = sym (append-nil before)

-- the edges out of the vertex of one LSA more, if it is of the kind
pub edges_more : (all : List Lsa) (kind : Kind) (vertex next i : ℕ) (lsas read : List Lsa) (lsa : Lsa) (before now whole : List Edge) → read ≡ lsas →
    i < length read →
    lsa ≡ get_or read i lsa → next ≡ vertex + cond (is_kind kind lsa) 1 0 →
    now ≡ before ++ cond (is_kind kind lsa) (edges_from all vertex lsa lsa.body) [] →
    before ++ edges_in_order all vertex (filter (is_kind kind) (drop i lsas)) ≡ whole →
    now ++ edges_in_order all next (filter (is_kind kind) (drop (i + 1) lsas)) ≡ whole
edges_more all kind vertex next i lsas read lsa before now whole same within is next_is is_now so_far =
    let here = cond (is_kind kind lsa) (edges_from all vertex lsa lsa.body) [] in
    let left = filter (is_kind kind) (drop (i + 1) lsas) in
    ap (λ (v : ℕ). now ++ edges_in_order all v left) next_is
    ∙ added before here now (edges_in_order all vertex (filter (is_kind kind) (drop i lsas))) (edges_in_order all (vertex + cond (is_kind kind lsa) 1 0) left)
    whole
    (edges_step all kind vertex i lsas lsa (subst (λ (ls : List Lsa). i < length ls) same within) (subst (λ (ls : List Lsa). lsa ≡ get_or ls i lsa) same is))
    is_now so_far

-- the next vertex is near
pub near_more : (b : Bool) (vertex next first i : ℕ) → next ≡ vertex + cond b 1 0 → vertex ≤ first + i → next ≤ first + (i + 1)
near_more true vertex next first i is near = omega (arith, is, near)
near_more false vertex next first i is near = omega (arith, is, near)
