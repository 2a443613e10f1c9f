-- The list of excluded edges has exactly those that a part excludes.
use Rattle.std.proofs.Common.{inl, inr, ◌≡◌, ℕ, zero, suc, ◌+◌, ◌<◌, ◌≤◌, refl, sym, ◌∙◌, ap, List, [], ◌∷◌, length, get_or, arith, Bool, true, false, Option, Some, None}
use Rattle.std.specs.Prelude.{All, filter, option_to_list, slice_get, ◌&&◌, ◌||◌, ◌==◌}
use Rattle.std.specs.List.{list_any}
use Rattle.std.proofs.lemmas.List.Elements.{All-weaker}
use Rattle.std.proofs.lemmas.List.{get_or_default}
use Rattle.std.proofs.lemmas.List.Folds.{list_any-append}
use Rattle.std.proofs.Math.Bool.{or-false}
use Rattle.std.proofs.lemmas.Bool.{cases_Bool, cases_eq, eq-eqb, ne_eqb, false≢true}
use Rattle.cost_base.specs.Lists.{numbers_from}
use Rattle.cost_base.proofs.ListLemmas.{filter-numbers_from-agree, list_any-agree}
use Rattle.cost_base.specs.Marks.{is_marked}
use Rattle.area_graph.specs.Area.{Area, edge_at, edges_out, edges_in}
use Rattle.area_graph.specs.Distances.{AreEdgeMarks}
use Rattle.lsdb_build.specs.declared.Far.{Far}
use Rattle.lsdb_build.specs.declared.Far.TheVariants.{Router as ToRouter, Subnet as ToSubnet}
use Rattle.lsdb_build.specs.declared.Linked.{Linked}
use Rattle.lsdb_build.specs.Graphs.{Database}
use Rattle.request_reader.specs.declared.Excluded.{Excluded}
use Rattle.request_reader.specs.declared.Excluded.TheVariants.{Router, Interface}
use Rattle.wanted_paths.specs.Paths.{link_number, router_number, link_excludes, excludes, excluded_edges}
use Rattle.wanted_paths.specs.Excluded.{excluded_from, excluded_at, excluded_by, excluded_by_all}
use Rattle.wanted_paths.proofs.LookUps.{filter_twice}
use Rattle.wanted_paths.proofs.RouteLaws.{lacks_from, lacks_test}

-- whether an edge stands in a list
abbrev pub has : ℕ → List ℕ → Bool
has e es = list_any (λ x. e == x) es

-- where it stands in the run of numbers, it stands among the kept ones exactly where it passes
pub has_kept : (test : ℕ → Bool) (a n e : ℕ) → a ≤ e → e < a + n → has e (filter test (numbers_from a n)) ≡ test e
has_kept test a zero e from below = absurd (omega arith)
has_kept test a (suc n) e from below =
    elim (cases_eq e a) [
      | inl same ↦ by_first same (test a) refl
      | inr apart ↦
          let rest = has_kept test (a + 1) n e (omega arith) (omega arith) in
          elim (cases_Bool (test a)) [
            | inl passes ↦ rw (passes, ne_eqb e a apart) rest
            | inr fails ↦ rw fails rest
          ]
    ]
  where
    later : (a k n : ℕ) → k < a → has k (filter test (numbers_from a n)) ≡ false
    later a k zero before = refl
    later a k (suc n) before =
        let rest = later (a + 1) k n (omega arith) in
        let apart : (k == a) ≡ false = ne_eqb k a (λ same. absurd (omega arith)) in
        elim (cases_Bool (test a)) [
          | inl passes ↦ rw (passes, apart) rest
          | inr fails ↦ rw fails rest
        ]

    by_first : e ≡ a → (b : Bool) → test a ≡ b → has e (filter test (numbers_from a (suc n))) ≡ test e
    by_first same true passes = rw (passes, eq-eqb e a same, ap test same) (sym passes)
    by_first same false fails = rw (fails, ap test same) (ap (λ k. has k (filter test (numbers_from (a + 1) n))) same
        ∙ later (a + 1) a n (omega arith) ∙ sym fails)

-- what a link excludes, part by part
abbrev link_back_excludes_of : ℕ → Option ℕ → Bool
link_back_excludes_of e None = false
link_back_excludes_of e (Some m) = e == m

abbrev far_excludes_of : Database → Area → ℕ → ℕ → Far → Bool
far_excludes_of d g e router (ToRouter r) = false
far_excludes_of d g e router (ToSubnet s) = (edge_at g e).from == length d.routers + s && (edge_at g e).to == router

-- the edge out of a vertex to a router, among those out of it
has_far : (d : Database) (g : Area) (e router : ℕ) (far : Far) → e < length g.edges → has e (excluded_from d g router far) ≡ far_excludes_of d g e router far
has_far d g e router (ToRouter r) within = refl
has_far d g e router (ToSubnet s) within =
    ap (has e) (filter_twice (λ e. (edge_at g e).from == length d.routers + s) (λ e. (edge_at g e).to == router) (numbers_from 0 (length g.edges)))
    ∙ has_kept (λ e. (edge_at g e).from == length d.routers + s && (edge_at g e).to == router) 0 (length g.edges) e (omega arith) (omega arith)

has_link_back : (e : ℕ) (link_back : Option ℕ) → has e (option_to_list link_back) ≡ link_back_excludes_of e link_back
has_link_back e None = refl
has_link_back e (Some m) = or-false (e == m)

has_link : (d : Database) (g : Area) (l e : ℕ) (o : Option Linked) → e < length g.edges → has e (excluded_at d g l o) ≡ link_excludes d g l o e
has_link d g l e None within = refl
has_link d g l e (Some link) within =
    ap (λ b. e == l || b) (list_any-append (λ x. e == x) (option_to_list link.link_back) (excluded_from d g link.router link.to))
    ∙ by_parts (e == l) (has e (option_to_list link.link_back)) (has e (excluded_from d g link.router link.to))
    ∙ ap (λ b. e == l || b || has e (excluded_from d g link.router link.to)) (has_link_back e link.link_back)
    ∙ ap (λ b. e == l || link_back_excludes_of e link.link_back || b) (has_far d g e link.router link.to within)
    ∙ sym (excludes_is link.link_back link.to)
  where
    by_parts : (a b c : Bool) → (a || (b || c)) ≡ (a || b || c)
    by_parts true b c = refl
    by_parts false b c = refl

    excludes_is : (link_back : Option ℕ) (far : Far) → link_excludes d g l (Some (record link { link_back = link_back; to = far })) e
        ≡ (e == l || link_back_excludes_of e link_back || far_excludes_of d g e link.router far)
    excludes_is None (ToRouter r) = refl
    excludes_is None (ToSubnet s) = refl
    excludes_is (Some m) (ToRouter r) = refl
    excludes_is (Some m) (ToSubnet s) = refl

-- an edge is in the list exactly where the part excludes it
has_part : (d : Database) (g : Area) (e : ℕ) (part : Excluded) → e < length g.edges → has e (excluded_by d g part) ≡ excludes d g e part
has_part d g e (Router name) within =
    let r = router_number d name in
    list_any-append (λ x. e == x) (edges_out g r) (edges_in g r)
    ∙ ap (λ b. b || has e (edges_in g r)) (has_kept (λ e. (edge_at g e).from == r) 0 (length g.edges) e (omega arith) (omega arith))
    ∙ ap (λ b. (edge_at g e).from == r || b) (has_kept (λ e. (edge_at g e).to == r) 0 (length g.edges) e (omega arith) (omega arith))
has_part d g e (Interface router interface) within =
    let l = link_number d router interface in
    has_link d g l e (slice_get d.links l) within

pub has_parts : (d : Database) (g : Area) (e : ℕ) (parts : List Excluded) → e < length g.edges →
    has e (excluded_by_all d g parts) ≡ list_any (excludes d g e) parts
has_parts d g e [] within = refl
has_parts d g e (part ∷ parts) within =
    list_any-append (λ x. e == x) (excluded_by d g part) (excluded_by_all d g parts)
    ∙ ap (λ b. b || has e (excluded_by_all d g parts)) (has_part d g e part within)
    ∙ ap (λ b. excludes d g e part || b) (has_parts d g e parts within)

-- a mark tells whether the edge is excluded
pub mark_is : (d : Database) (g : Area) (parts : List Excluded) (excluded : List ℕ) (marks : List Bool) (e : ℕ) →
    AreEdgeMarks excluded marks → excluded ≡ excluded_by_all d g parts → length marks ≡ length g.edges → e < length g.edges →
    is_marked marks e ≡ list_any (excludes d g e) parts
mark_is d g parts excluded marks e are is count within =
    let here = are e (omega arith) in
    let same = get_or_default marks e false true (omega arith) in
    by_mark (get_or marks e true) (has e excluded) (λ clear. lacks_test excluded e (here.0 clear)) (λ none. here.1 (lacks_from excluded e none)) same
    ∙ ap (has e) is ∙ has_parts d g e parts within
  where
    by_mark : (mark found : Bool) → (mark ≡ false → found ≡ false) → (found ≡ false → mark ≡ false) →
        is_marked marks e ≡ mark → is_marked marks e ≡ found
    by_mark true true to from same = same
    by_mark true false to from same = absurd (false≢true (sym (from refl)))
    by_mark false true to from same = absurd (false≢true (sym (to refl)))
    by_mark false false to from same = same

-- the marked edges are those that the parts exclude
pub marked_are : (d : Database) (g : Area) (parts : List Excluded) (excluded : List ℕ) (marks : List Bool) →
    AreEdgeMarks excluded marks → excluded ≡ excluded_by_all d g parts → length marks ≡ length g.edges →
    filter (is_marked marks) (numbers_from 0 (length marks)) ≡ excluded_edges d g parts
marked_are d g parts excluded marks are is count =
    filter-numbers_from-agree (is_marked marks) (λ e. list_any (excludes d g e) parts) 0 (length marks)
    (λ e above below. mark_is d g parts excluded marks e are is count (omega arith))
    ∙ ap (λ n. filter (λ e. list_any (excludes d g e) parts) (numbers_from 0 n)) count

-- a path has a marked edge exactly where one of its edges is excluded
pub path_marked : (d : Database) (g : Area) (parts : List Excluded) (excluded : List ℕ) (marks : List Bool) (es : List ℕ) →
    AreEdgeMarks excluded marks → excluded ≡ excluded_by_all d g parts → length marks ≡ length g.edges →
    All (λ e. e < length g.edges) es →
    list_any (is_marked marks) es ≡ list_any (λ e. list_any (excludes d g e) parts) es
path_marked d g parts excluded marks es are is count within =
    list_any-agree (is_marked marks) (λ e. list_any (excludes d g e) parts) es
    (All-weaker (λ e. e < length g.edges) (λ e. is_marked marks e ≡ list_any (excludes d g e) parts)
    (λ e below. mark_is d g parts excluded marks e are is count below) es within)
