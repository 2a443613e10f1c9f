-- What a line that names a link writes at the link's number.
use Rattle.std.proofs.Common.{◌≡◌, ℕ, ◌+◌, ◌<◌, refl, sym, ◌∙◌, ap, List, [], ◌∷◌, length, set, map, take, get_or, arith, Bool, true, false, Option, Some, None}
use Rattle.std.specs.Prelude.{is_some, if◌then◌else◌, ◌||◌, ◌&&◌}
use Rattle.std.specs.Option.{option_or}
use Rattle.std.specs.List.{list_any}
use Rattle.std.proofs.Math.Bool.{or_assoc, or-false, or-true}
use Rattle.std.proofs.lemmas.List.{length-map, length-set, get_or-map, get_or-set_other, same_lists}
use Rattle.std.proofs.lemmas.Grind.{get_or-set_at}
use Rattle.std.proofs.lemmas.List.Folds.{list_any_more}
use Rattle.std.proofs.lemmas.Option.{slice_get-get_or, slice_get_within, get_or_from_slice_get}
use Rattle.std.proofs.lemmas.Bool.{or_parts, false_from_ne_true}
use native.Mathlib.Decide.{ℕ_discrete}
use Rattle.lsdb_build.specs.declared.Linked.{Linked}
use Rattle.lsdb_build.specs.Graphs.{Database, IsAreaDatabase}
use Rattle.request_reader.specs.declared.Directive.{Directive}
use Rattle.request_reader.specs.declared.Directive.TheVariants.{FreeAll, Free, Fix, Path, SymmetricAll, Symmetric}
use Rattle.request_reader.specs.declared.DirectiveLine.{DirectiveLine}
use Rattle.wanted_paths.specs.Paths.{is_link_named, link_number}
use Rattle.path_requests.specs.Meaning.{says_symmetric}
use Rattle.wanted_paths.specs.Resolution.{knows_link}
use Rattle.path_requests.specs.Chosen.{ties_all, ties_one}
use Rattle.wanted_paths.proofs.LookUps.{link_number_is, no_link}
use Rattle.wanted_paths.proofs.RouteLaws.{IsKnownLink, link_known}

-- functions that agree where no element passes a test make the same list
pub map_agree : {X Y : Type 0} (p : X → Bool) (f g : X → Y) (xs : List X) → list_any p xs ≡ false → ((x : X) → p x ≡ false → f x ≡ g x) → map f xs ≡ map g xs
map_agree p f g [] none same = refl
map_agree {Y} p f g (x ∷ xs) none same =
    let parts = or_parts (p x) (list_any p xs) none in
    ap (λ (y : Y). y ∷ map f xs) (same x parts.0) ∙ ap (λ (ys : List Y). g x ∷ ys) (map_agree p f g xs parts.1 same)

-- another value at that number is another value for the one link that is named
pub set_named : {X : Type 0} (d : Database) (router interface : List ℕ) (f g : Linked → X) (x : X) → IsAreaDatabase d →
    (is : IsKnownLink d router interface) → x ≡ g is.link →
    ((link : Linked) → is_link_named d router interface link ≡ false → f link ≡ g link) →
    set (map f d.links) (link_number d router interface) x ≡ map g d.links
set_named {X} d router interface f g x base is here other =
    same_lists (set (map f d.links) l x) (map g d.links)
    (length-set (map f d.links) l x ∙ length-map d.links f ∙ sym (length-map d.links g))
    (λ k y within. at k y (omega (arith, within, length-set (map f d.links) l x, length-map d.links f)))
  where
    l : ℕ
    l = link_number d router interface

    within_links : l < length d.links
    within_links = slice_get_within d.links l is.link is.there

    at : (k : ℕ) (y : X) → k < length d.links → get_or (set (map f d.links) l x) k y ≡ get_or (map g d.links) k y
    at k y within =
        elim (ℕ_discrete k l) [
          | yes same ↦
              get_or-set_at (map f d.links) l k x y same (omega (arith, length-map d.links f, within_links))
              ∙ here ∙ ap g (sym (get_or_from_slice_get d.links l is.link no_link is.there)) ∙ ap (λ i. g (get_or d.links i no_link)) (sym same)
              ∙ sym (get_or-map g d.links k no_link y within)
          | no apart ↦
              get_or-set_other (map f d.links) l k x y apart ∙ get_or-map f d.links k no_link y within
              ∙ other (get_or d.links k no_link) (false_from_ne_true (is_link_named d router interface (get_or d.links k no_link))
              (λ named. apart (sym (link_number_is d k (get_or d.links k no_link) router interface base (slice_get-get_or d.links k no_link within) named))))
              ∙ sym (get_or-map g d.links k no_link y within)
        ]

or_none : {X : Type 0} (o : Option X) → o ≡ option_or o None
or_none None = refl
or_none (Some x) = refl

-- a range for the link that is named, where it has none
pub decided_named : {X : Type 0} (d : Database) (router interface : List ℕ) (f : Linked → Option X) (range : X)
    (y : Option X) → IsAreaDatabase d → knows_link d router interface ≡ true →
    set (map f d.links) (link_number d router interface)
    (option_or (get_or (map f d.links) (link_number d router interface) y) (Some range))
    ≡ map (λ link. option_or (f link) (if is_link_named d router interface link then Some range else None)) d.links
decided_named {X} d router interface f range y base known =
    let is = link_known d router interface known in
    let l = link_number d router interface in
    let stands = get_or-map f d.links l no_link y (slice_get_within d.links l is.link is.there)
    ∙ ap f (get_or_from_slice_get d.links l is.link no_link is.there) in
    set_named d router interface f
    (λ link. option_or (f link) (if is_link_named d router interface link then Some range else None))
    (option_or (get_or (map f d.links) l y) (Some range)) base is
    (ap (λ (o : Option X). option_or o (Some range)) stands ∙ ap (λ b. option_or (f is.link) (if b then Some range else None)) (sym is.named))
    (λ link unnamed. or_none (f link) ∙ ap (λ b. option_or (f link) (if b then Some range else None)) (sym unnamed))

-- an interface that is unknown decides nothing
pub decided_unknown : {X : Type 0} (d : Database) (router interface : List ℕ) (f : Linked → Option X) (range : X) →
    knows_link d router interface ≡ false →
    map f d.links ≡ map (λ link.
    option_or (f link) (if is_link_named d router interface link then Some range else None)) d.links
decided_unknown d router interface f range unknown =
    map_agree (is_link_named d router interface) f (λ link. option_or (f link) (if is_link_named d router interface link then Some range else None)) d.links
    unknown
    (λ link unnamed. or_none (f link) ∙ ap (λ b. option_or (f link) (if b then Some range else None)) (sym unnamed))

pub number_within : (d : Database) (router interface : List ℕ) → IsAreaDatabase d → knows_link d router interface ≡ true →
    link_number d router interface < length d.links
number_within d router interface base known =
    let is = link_known d router interface known in
    slice_get_within d.links (link_number d router interface) is.link is.there

-- the place that was found is one of what is kept for the links
pub place_within : {X : Type 0} (d : Database) (router interface : List ℕ) (f : Linked → X) (items : List X) (place : ℕ) → IsAreaDatabase d →
    knows_link d router interface ≡ true → place ≡ link_number d router interface → items ≡ map f d.links → place < length items
place_within d router interface f items place base known place_is are =
    omega (arith, place_is, number_within d router interface base known, ap length are, length-map d.links f)

-- a mark for the link that is named
pub marked_named : (d : Database) (router interface : List ℕ) (f : Linked → Bool) → IsAreaDatabase d →
    knows_link d router interface ≡ true → set (map f d.links) (link_number d router interface) true
    ≡ map (λ link. f link || is_link_named d router interface link) d.links
marked_named d router interface f base known =
    let is = link_known d router interface known in
    set_named d router interface f (λ link. f link || is_link_named d router interface link) true base is
    (sym (or-true (f is.link)) ∙ ap (λ b. f is.link || b) (sym is.named))
    (λ link unnamed. sym (or-false (f link)) ∙ ap (λ b. f link || b) (sym unnamed))

-- an interface that is unknown is no link's
pub marked_unknown : (d : Database) (router interface : List ℕ) (f : Linked → Bool) →
    knows_link d router interface ≡ false →
    map f d.links ≡ map (λ link. f link || is_link_named d router interface link) d.links
marked_unknown d router interface f unknown =
    map_agree (is_link_named d router interface) f (λ link. f link || is_link_named d router interface link) d.links unknown
    (λ link unnamed. sym (or-false (f link)) ∙ ap (λ b. f link || b) (sym unnamed))

-- Lines that make links symmetric.

tied_apart : (d : Database) (link : Linked) (directive : Directive) →
    says_symmetric d link directive ≡ ((ties_all directive && is_some link.link_back) || ties_one d link directive)
tied_apart d link SymmetricAll = sym (or-false (is_some link.link_back))
tied_apart d link (Symmetric router interface) = refl
tied_apart d link (FreeAll lo hi) = refl
tied_apart d link (Free router interface lo hi) = refl
tied_apart d link (Fix router interface) = refl
tied_apart d link (Path route without) = refl

regroup : (a b m x y : Bool) → (((a && m) || x) || ((b && m) || y)) ≡ (((a || b) && m) || (x || y))
regroup true true true x y = refl
regroup true false true x y = refl
regroup false true true true y = refl
regroup false true true false y = refl
regroup false false true x y = refl
regroup true true false x y = refl
regroup true false false x y = refl
regroup false true false x y = refl
regroup false false false x y = refl

-- all lines that make all links symmetric, and then those that name one
pub any_apart : (d : Database) (link : Linked) (items : List DirectiveLine) →
    list_any (λ item. says_symmetric d link item.what) items
    ≡ ((list_any (λ item. ties_all item.what) items && is_some link.link_back)
    || list_any (λ item. ties_one d link item.what) items)
any_apart d link [] = refl
any_apart d link (item ∷ items) =
    ap (λ b. b || list_any (λ item. says_symmetric d link item.what) items) (tied_apart d link item.what)
    ∙ ap (λ b. ((ties_all item.what && is_some link.link_back) || ties_one d link item.what) || b) (any_apart d link items)
    ∙ regroup (ties_all item.what) (list_any (λ item. ties_all item.what) items) (is_some link.link_back)
    (ties_one d link item.what) (list_any (λ item. ties_one d link item.what) items)

pub all_apart : (d : Database) (items : List DirectiveLine) →
    map (λ link. (list_any (λ item. ties_all item.what) items && is_some link.link_back)
    || list_any (λ item. ties_one d link item.what) items) d.links
    ≡ map (λ link. list_any (λ item. says_symmetric d link item.what) items) d.links
all_apart d items = ap (λ (f : Linked → Bool). map f d.links) (λ t link. sym (any_apart d link items) t)

-- before the first line, after one more, and after the last
pub tied_none : (d : Database) (f : Linked → Bool) → map f d.links ≡ map (λ link. f link || false) d.links
tied_none d f = ap (λ (g : Linked → Bool). map g d.links) (λ t link. sym (or-false (f link)) t)

pub tied_more : (d : Database) (items : List DirectiveLine) (i : ℕ) (item : DirectiveLine) (f : Linked → Bool) → i < length items →
    item ≡ get_or items i item →
    map (λ link. (f link || list_any (λ other. ties_one d link other.what) (take i items)) || ties_one d link item.what)
    d.links ≡ map (λ link. f link || list_any (λ other. ties_one d link other.what) (take (i + 1) items)) d.links
tied_more d items i item f within is = ap (λ (g : Linked → Bool). map g d.links) (λ t link. each link t)
  where
    each : (link : Linked) → ((f link || list_any (λ other. ties_one d link other.what) (take i items))
        || ties_one d link item.what)
        ≡ (f link || list_any (λ other. ties_one d link other.what) (take (i + 1) items))
    each link =
        or_assoc (f link) (list_any (λ other. ties_one d link other.what) (take i items)) (ties_one d link item.what)
        ∙ ap (λ b. f link || b)
        (ap (λ (x : DirectiveLine). list_any (λ other. ties_one d link other.what) (take i items) || ties_one d link x.what) is
        ∙ sym (list_any_more (λ other. ties_one d link other.what) items i item within))
