-- A link's range, line by line.
use Rattle.std.proofs.Common.{◌≡◌, ℕ, zero, suc, ◌+◌, ◌<◌, refl, sym, ◌∙◌, ap, List, [], ◌∷◌, length, drop, map, get_or, arith, Option, Some, None}
use Rattle.std.specs.Prelude.{unwrap_or}
use Rattle.std.specs.Option.{option_or}
use Rattle.std.specs.List.{filter_map, cons_option}
use Rattle.std.proofs.lemmas.List.{drop_more}
use Rattle.std.proofs.lemmas.Simd.{map-map}
use Rattle.cost_base.specs.Lists.{last_of}
use Rattle.cost_base.proofs.ListLemmas.{last_of-cons, option_or-none}
use Rattle.lsdb_build.specs.declared.Linked.{Linked}
use Rattle.lsdb_build.specs.Graphs.{Database}
use Rattle.request_reader.specs.declared.Directive.{Directive}
use Rattle.request_reader.specs.declared.Directive.TheVariants.{FreeAll, Free, Fix, Path, SymmetricAll, Symmetric}
use Rattle.request_reader.specs.declared.DirectiveLine.{DirectiveLine}
use Rattle.path_requests.specs.Meaning.{Range, Within, AsItIs, range_said, range_by}
use Rattle.path_requests.specs.Chosen.{said_of_all, said_of_one, last_said}

-- the range after some lines, from the one before them on
abbrev pub range_after : Database → Linked → Range → List DirectiveLine → Range
range_after d link range [] = range
range_after d link range (item ∷ items) = range_after d link (unwrap_or (range_said d link item.what) range) items

last_or : {X : Type 0} (x y : X) (xs : List X) → unwrap_or (last_of (x ∷ xs)) y ≡ unwrap_or (last_of xs) x
last_or x y [] = refl
last_or x y (z ∷ xs) = last_or z y xs ∙ sym (last_or z x xs)

pub range_is : (d : Database) (link : Linked) (items : List DirectiveLine) (range : Range) →
    range_after d link range items ≡ unwrap_or (last_of (filter_map (λ item. range_said d link item.what) items)) range
range_is d link [] range = refl
range_is d link (item ∷ items) range = range_is d link items (unwrap_or (range_said d link item.what) range) ∙ by_said (range_said d link item.what)
  where
    rest : List Range
    rest = filter_map (λ item. range_said d link item.what) items

    by_said : (said : Option Range) → unwrap_or (last_of rest) (unwrap_or said range) ≡ unwrap_or (last_of (cons_option said rest)) range
    by_said None = refl
    by_said (Some x) = sym (last_or x range rest)

-- Backwards: what a line says counts where no later one says anything.

last_more : (d : Database) (link : Linked) (item : DirectiveLine) (items : List DirectiveLine) →
    last_said d link (item ∷ items) ≡ option_or (last_said d link items) (range_said d link item.what)
last_more d link item items = by_said (range_said d link item.what)
  where
    rest : List Range
    rest = filter_map (λ item. range_said d link item.what) items

    by_said : (said : Option Range) → last_of (cons_option said rest) ≡ option_or (last_of rest) said
    by_said None = sym (option_or-none (last_of rest))
    by_said (Some x) = last_of-cons x rest

-- a line that doesn't speak of all links speaks of the one that it names
one_said : (d : Database) (link : Linked) (directive : Directive) → said_of_all directive ≡ None → range_said d link directive ≡ said_of_one d link directive
one_said d link (FreeAll lo hi) none = absurd (some_none none)
  where
    some_none : Some (Within lo hi) ≡ None → ⊥
    some_none h = cc
one_said d link (Free router interface lo hi) none = refl
one_said d link (Fix router interface) none = refl
one_said d link (Path route without) none = refl
one_said d link SymmetricAll none = refl
one_said d link (Symmetric router interface) none = refl

all_said : (d : Database) (link : Linked) (directive : Directive) (range : Range) → said_of_all directive ≡ Some range →
    range_said d link directive ≡ Some range
all_said d link (FreeAll lo hi) range is = is
all_said d link (Free router interface lo hi) range is = absurd (cc)
all_said d link (Fix router interface) range is = absurd (cc)
all_said d link (Path route without) range is = absurd (cc)
all_said d link SymmetricAll range is = absurd (cc)
all_said d link (Symmetric router interface) range is = absurd (cc)

-- one line more, going backwards, that doesn't speak of all links
pub decided_more : (d : Database) (items : List DirectiveLine) (i next : ℕ) (other : DirectiveLine) → next ≡ i + 1 → i < length items →
    said_of_all (get_or items i other).what ≡ None →
    map (λ link. option_or (last_said d link (drop next items)) (said_of_one d link (get_or items i other).what))
    d.links ≡ map (λ link. last_said d link (drop i items)) d.links
decided_more d items i next other step within none =
    ap (λ (f : Linked → Option Range). map f d.links) (λ t link. each link t)
  where
    item : DirectiveLine
    item = get_or items i other

    each : (link : Linked) → option_or (last_said d link (drop next items)) (said_of_one d link item.what) ≡ last_said d link (drop i items)
    each link =
        ap (λ n. option_or (last_said d link (drop n items)) (said_of_one d link item.what)) step
        ∙ ap (option_or (last_said d link (drop (i + 1) items))) (sym (one_said d link item.what none))
        ∙ sym (last_more d link item (drop (i + 1) items))
        ∙ ap (last_said d link) (sym (drop_more items i other within))

-- from a line on that speaks of all links, only what comes later counts
from_all : (d : Database) (link : Linked) (items : List DirectiveLine) (i : ℕ) (other : DirectiveLine) (range before : Range) →
    i < length items → said_of_all (get_or items i other).what ≡ Some range →
    range_after d link before items ≡ unwrap_or (last_said d link (drop (i + 1) items)) range
from_all d link [] i other range before within all = absurd (omega (arith, within))
from_all d link (item ∷ items) zero other range before within all =
    ap (λ o. range_after d link (unwrap_or o before) items) (all_said d link item.what range all) ∙ range_is d link items range
from_all d link (item ∷ items) (suc i) other range before within all =
    let next : suc (i + 1) ≡ suc i + 1 = omega arith in
    from_all d link items i other range (unwrap_or (range_said d link item.what) before) (omega (arith, within)) all
    ∙ ap (λ n. unwrap_or (last_said d link (drop n (item ∷ items))) range) next

pub decided_by_all : (d : Database) (items : List DirectiveLine) (i next : ℕ) (other : DirectiveLine) (range : Range) → next ≡ i + 1 →
    i < length items → said_of_all (get_or items i other).what ≡ Some range →
    map (λ said. unwrap_or said range) (map (λ link. last_said d link (drop next items)) d.links)
    ≡ map (λ link. range_by d link items) d.links
decided_by_all d items i next other range step within all =
    map-map (λ said. unwrap_or said range) (λ link. last_said d link (drop next items)) d.links
    ∙ ap (λ (f : Linked → Range). map f d.links) (λ t link. each link t)
  where
    each : (link : Linked) → unwrap_or (last_said d link (drop next items)) range ≡ range_by d link items
    each link =
        ap (λ n. unwrap_or (last_said d link (drop n items)) range) step
        ∙ sym (from_all d link items i other range AsItIs within all) ∙ range_is d link items AsItIs

-- once all lines were asked, the links that have no range are fixed
pub decided_by_none : (d : Database) (items : List DirectiveLine) →
    map (λ said. unwrap_or said AsItIs) (map (λ link. last_said d link items) d.links)
    ≡ map (λ link. range_by d link items) d.links
decided_by_none d items = map-map (λ said. unwrap_or said AsItIs) (λ link. last_said d link items) d.links
