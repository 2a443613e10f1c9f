-- In the present network no link is free.
use Rattle.std.proofs.Common.{inl, inr, ◌≡◌, ℕ, ◌+◌, ◌≤◌, refl, sym, ap, List, [], ◌∷◌, length, map, arith, Bool, true, false, cond, Option, Some, None}
use Rattle.std.specs.Prelude.{All, filter, count_by, slice_get, unwrap_or, not}
use Rattle.std.specs.List.{filter_map, list_any, cons_option}
use Rattle.std.proofs.lemmas.List.Elements.{All-nil, All-cons, All-head, All-tail}
use Rattle.std.proofs.lemmas.List.Sums.{sum_by-cons}
use Rattle.std.proofs.lemmas.Bool.{cases_Bool, false≢true}
use Rattle.cost_base.specs.Lists.{last_of}
use Rattle.area_graph.specs.declared.Price.{Price}
use Rattle.area_graph.specs.declared.Price.TheVariants.{Fixed}
use Rattle.area_graph.specs.Area.{Area}
use Rattle.lsdb_build.specs.declared.Linked.{Linked}
use Rattle.lsdb_build.specs.Graphs.{Database}
use Rattle.request_reader.specs.declared.Directive.{Directive}
use Rattle.request_reader.specs.declared.Directive.TheVariants.{FreeAll, Free, Fix, Path, SymmetricAll, Symmetric}
use Rattle.request_reader.specs.declared.DirectiveLine.{DirectiveLine}
use Rattle.request_reader.specs.Asked.{Asked, IsAsked, HasGoodBounds, is_path}
use Rattle.path_requests.specs.Meaning.{Range, AsItIs, range_said, range_of, own, owners, present_cost, prices_from, names_from}
use Rattle.wanted_paths.specs.Paths.{request_of}
use Rattle.path_requests.specs.Resolving.{says_freedom, present_asked, ends_differ, ends_differ_at, ties_different, ends_faults}
use Rattle.wanted_paths.specs.LineFaults.{directive_faults, line_faults}
use Rattle.cost_base.proofs.ListLemmas.{append-none}
use Rattle.wanted_paths.proofs.LookUps.{none_passing}

abbrev kept : DirectiveLine → Bool
kept item = not (says_freedom item.what)

said_none : (d : Database) (link : Linked) (directive : Directive) → says_freedom directive ≡ false → range_said d link directive ≡ None
said_none d link (FreeAll lo hi) free = absurd (false≢true (sym free))
said_none d link (Free router interface lo hi) free = absurd (false≢true (sym free))
said_none d link (Fix router interface) free = absurd (false≢true (sym free))
said_none d link (Path route without) free = refl
said_none d link SymmetricAll free = refl
said_none d link (Symmetric router interface) free = refl

none_said : (d : Database) (link : Linked) (items : List DirectiveLine) → filter_map (λ item. range_said d link item.what) (filter kept items) ≡ []
none_said d link [] = refl
none_said d link (item ∷ items) =
    elim (cases_Bool (says_freedom item.what)) [
      | inl says ↦ rw says (none_said d link items)
      | inr silent ↦ rw silent (rw (said_none d link item.what silent) (none_said d link items))
    ]

-- every link is fixed
pub fixed : (a : Asked) (d : Database) (link : Linked) → range_of (present_asked a) d link ≡ AsItIs
fixed a d link = ap (λ (rs : List Range). unwrap_or (last_of rs) AsItIs) (none_said d link a.items)

-- so none has a variable
pub none_owned : (a : Asked) (d : Database) → owners (present_asked a) d ≡ []
none_owned a d = none_passing (own (present_asked a) d) 0 (length d.links) (λ l from below. by_link l (slice_get d.links l) refl)
  where
    by_link : (l : ℕ) (o : Option Linked) → slice_get d.links l ≡ o → own (present_asked a) d l ≡ false
    by_link l None at = rw at refl
    by_link l (Some link) at = rw (at, fixed a d link) refl

pub present_prices_are : (a : Asked) (d : Database) (l : ℕ) (links : List Linked) →
    prices_from (present_asked a) d l links ≡ map (λ link. Fixed (present_cost a link)) links
present_prices_are a d l [] = refl
present_prices_are a d l (link ∷ links) =
    rw (fixed a d link) (ap (λ (ps : List Price). Fixed (present_cost a link) ∷ ps)
    (present_prices_are a d (l + 1) links))

pub none_named : (a : Asked) (d : Database) (l : ℕ) (links : List Linked) → names_from (present_asked a) d l links ≡ []
none_named a d l [] = refl
none_named a d l (link ∷ links) = rw (fixed a d link) (none_named a d (l + 1) links)

request_none : (d : Database) (g : Area) (directive : Directive) → says_freedom directive ≡ true → request_of d g directive ≡ None
request_none d g (FreeAll lo hi) says = refl
request_none d g (Free router interface lo hi) says = refl
request_none d g (Fix router interface) says = refl
request_none d g (Path route without) says = absurd (false≢true says)
request_none d g SymmetricAll says = absurd (false≢true says)
request_none d g (Symmetric router interface) says = absurd (false≢true says)

-- the paths are the same
pub present_paths : (d : Database) (g : Area) (items : List DirectiveLine) →
    filter_map (λ item. request_of d g item.what) items ≡ filter_map (λ item. request_of d g item.what)
    (filter kept items)
present_paths d g [] = refl
present_paths d g (item ∷ items) =
    elim (cases_Bool (says_freedom item.what)) [
      | inl says ↦ rw says (rw (request_none d g item.what says) (present_paths d g items))
      | inr silent ↦ rw silent (ap (cons_option (request_of d g item.what)) (present_paths d g items))
    ]

-- lines without a fault stay so
pub present_lines : (d : Database) (items : List DirectiveLine) → line_faults d items ≡ [] → line_faults d (filter kept items) ≡ []
present_lines d [] none = refl
present_lines d (item ∷ items) none =
    let parts = append-none (directive_faults d item.line item.what) (line_faults d items) none in
    elim (cases_Bool (says_freedom item.what)) [
      | inl says ↦ rw says (present_lines d items parts.1)
      | inr silent ↦ rw silent (rw parts.0 (present_lines d items parts.1))
    ]

same_ends : (a : Asked) (d : Database) (link : Linked) → ends_differ (present_asked a) d link ≡ false
same_ends a d link = by_link_back link.link_back
  where
    by_other : (o : Option Linked) (m : ℕ) → slice_get d.links m ≡ o → ends_differ (present_asked a) d (record link { link_back = Some m }) ≡ false
    by_other None m at = rw at refl
    by_other (Some other) m at = rw (at, fixed a d other, fixed a d (record link { link_back = Some m })) refl

    by_link_back : (o : Option ℕ) → ends_differ (present_asked a) d (record link { link_back = o }) ≡ false
    by_link_back None = refl
    by_link_back (Some m) = by_other (slice_get d.links m) m refl

none_ties : (a : Asked) (d : Database) (directive : Directive) → ties_different (present_asked a) d directive ≡ false
none_ties a d (FreeAll lo hi) = refl
none_ties a d (Free router interface lo hi) = refl
none_ties a d (Fix router interface) = refl
none_ties a d (Path route without) = refl
none_ties a d SymmetricAll = none d.links
  where
    none : (links : List Linked) → list_any (ends_differ (present_asked a) d) links ≡ false
    none [] = refl
    none (link ∷ links) = rw (same_ends a d link) (none links)
none_ties a d (Symmetric router interface) = by_link (slice_get d.links _)
  where
    by_link : (o : Option Linked) → ends_differ_at (present_asked a) d o ≡ false
    by_link None = refl
    by_link (Some link) = same_ends a d link

-- no ends differ
pub present_ends : (a : Asked) (d : Database) (items : List DirectiveLine) → ends_faults (present_asked a) d items ≡ []
present_ends a d [] = refl
present_ends a d (item ∷ items) = rw (none_ties a d item.what) (present_ends a d items)

bounds_kept : (items : List DirectiveLine) → All (λ item. HasGoodBounds item.what) items → All (λ item. HasGoodBounds item.what) (filter kept items)
bounds_kept [] keeps = All-nil (λ (i : DirectiveLine). HasGoodBounds i.what)
bounds_kept (item ∷ items) keeps =
    let rest = bounds_kept items (All-tail (λ (i : DirectiveLine). HasGoodBounds i.what) item items keeps) in
    elim (cases_Bool (says_freedom item.what)) [
      | inl says ↦ rw says rest
      | inr silent ↦ rw silent (All-cons (λ (i : DirectiveLine). HasGoodBounds i.what) item (filter kept items)
          (All-head (λ (i : DirectiveLine). HasGoodBounds i.what) item items keeps) rest)
    ]

count_cons : (item : DirectiveLine) (items : List DirectiveLine) → count_by is_path (item ∷ items) ≡ cond (is_path item) 1 0 + count_by is_path items
count_cons item items = sum_by-cons (λ (i : DirectiveLine). cond (is_path i) 1 0) item items

fewer_kept : (items : List DirectiveLine) → count_by is_path (filter kept items) ≤ count_by is_path items
fewer_kept [] = omega arith
fewer_kept (item ∷ items) =
    let rest = fewer_kept items in
    elim (cases_Bool (says_freedom item.what)) [
      | inl says ↦ rw says (omega (arith, rest, count_cons item items))
      | inr silent ↦ rw silent (omega (arith, rest, count_cons item items, count_cons item (filter kept items)))
    ]

pub present_is_asked : (a : Asked) → IsAsked a → IsAsked (present_asked a)
present_is_asked a asked = record { bounds = bounds_kept a.items asked.bounds; default = asked.default; paths = omega (arith, fewer_kept a.items, asked.paths) }
