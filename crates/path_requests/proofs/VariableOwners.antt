-- Where ends don't differ, each free link's variable belongs to a free link.
use Rattle.std.proofs.Common.{inl, inr, ◌≡◌, ℕ, ◌+◌, ◌<◌, ◌≤◌, refl, sym, ◌∙◌, ap, subst, List, [], ◌∷◌, length, arith, true, false, Option, Some, None}
use Rattle.std.specs.Prelude.{slice_get, count_by, not, nat_lt, if◌then◌else◌, ◌&&◌, ◌==◌}
use Rattle.std.specs.Option.{option_and_then}
use Rattle.std.specs.List.{list_any}
use Rattle.std.proofs.lemmas.Option.{slice_get_within, get_or_from_slice_get}
use Rattle.std.proofs.lemmas.Bool.{not-true, not-false, and_from, and_parts, and_right, eq-eqb, ltb-true, le-ltb, false≢true, cases_Bool}
use Rattle.cost_base.proofs.ListLemmas.{append-none, none_passes}
use Rattle.lsdb_build.specs.declared.Far.{Far}
use Rattle.lsdb_build.specs.declared.Far.TheVariants.{Router as ToRouter, Subnet as ToSubnet}
use Rattle.lsdb_build.specs.declared.Linked.{Linked}
use Rattle.lsdb_build.specs.Graphs.{Database, IsAreaDatabase, HasLinkBack, IsLinkBackOf}
use Rattle.request_reader.specs.declared.Directive.{Directive}
use Rattle.request_reader.specs.declared.Directive.TheVariants.{FreeAll, Free, Fix, Path, SymmetricAll, Symmetric}
use Rattle.request_reader.specs.declared.DirectiveLine.{DirectiveLine}
use Rattle.request_reader.specs.Asked.{Asked}
use Rattle.path_requests.specs.Meaning.{Range, Within, AsItIs, range_of, is_free, is_free_at, says_symmetric, any_symmetric, is_symmetric, owner_by_link_back, owner_at, owner, own, owners, variable_of}
use Rattle.wanted_paths.specs.LineFaults.{fault_unless}
use Rattle.path_requests.specs.Resolving.{same_range, ends_differ, ends_differ_at, ties_different, ends_faults}
use Rattle.wanted_paths.proofs.Walks.{well_from}
use Rattle.wanted_paths.proofs.LookUps.{link_number_is}
use Rattle.wanted_paths.specs.declared.fault.ResolutionFault.TheVariants.{EndsDiffer}
use Rattle.path_requests.proofs.Numbering.{passing, count_before, fewer_before}

-- the other end of a link
pub record HasOther (d : Database) (l m : ℕ) : Type 0 where
  pub other : Linked
  pub there : slice_get d.links m ≡ Some other
  pub back : other.link_back ≡ Some l

pub other_end : (d : Database) (l m : ℕ) (link : Linked) → IsAreaDatabase d → slice_get d.links l ≡ Some link → link.link_back ≡ Some m → HasOther d l m
other_end d l m link base there link_back = by_far link.to (subst (λ (o : Option ℕ). HasLinkBack d l link link.to o) link_back (base.links_back l link there))
  where
    by_other : (o : Option Linked) → slice_get d.links m ≡ o → IsLinkBackOf l link o → HasOther d l m
    by_other None at h = absurd h
    by_other (Some other) at h = record { other = other; there = at; back = h.0 }

    by_far : (far : Far) → HasLinkBack d l link far (Some m) → HasOther d l m
    by_far (ToRouter r) h = by_other (slice_get d.links m) refl h.1
    by_far (ToSubnet s) h = absurd h

ends_are : (a : Asked) (d : Database) (link other : Linked) (m : ℕ) → link.link_back ≡ Some m →
    slice_get d.links m ≡ Some other → ends_differ a d link ≡ not (same_range (range_of a d link) (range_of a d other))
ends_are a d link other m link_back there = rw (link_back, there) refl

-- a link that a line makes symmetric has ends that don't differ
said_same : (a : Asked) (d : Database) (items : List DirectiveLine) (l : ℕ) (link : Linked) → IsAreaDatabase d →
    slice_get d.links l ≡ Some link → list_any (λ item. says_symmetric d link item.what) items ≡ true →
    ends_faults a d items ≡ [] → ends_differ a d link ≡ false
said_same a d [] l link base there said none = absurd (false≢true said)
said_same a d (item ∷ items) l link base there said none =
    let parts = append-none (fault_unless (not (ties_different a d item.what)) (EndsDiffer item.line)) (ends_faults a d items) none in
    let ties = not-true (ties_different a d item.what) (well_from (not (ties_different a d item.what)) (EndsDiffer item.line) parts.0) in
    elim (cases_Bool (says_symmetric d link item.what)) [
      | inl here ↦ by_directive item.what here ties
      | inr later ↦ said_same a d items l link base there (rw later at said) parts.1
    ]
  where
    by_directive : (directive : Directive) → says_symmetric d link directive ≡ true → ties_different a d directive ≡ false → ends_differ a d link ≡ false
    by_directive SymmetricAll here ties =
        ap (ends_differ a d) (sym (get_or_from_slice_get d.links l link link there))
        ∙ none_passes (ends_differ a d) d.links ties l link (slice_get_within d.links l link there)
    by_directive (Symmetric router interface) here ties =
        let is = link_number_is d l link router interface base there here in
        ap (ends_differ_at a d) (sym (ap (slice_get d.links) is ∙ there)) ∙ ties
    by_directive (FreeAll lo hi) here ties = absurd (false≢true here)
    by_directive (Free router interface lo hi) here ties = absurd (false≢true here)
    by_directive (Fix router interface) here ties = absurd (false≢true here)
    by_directive (Path route without) here ties = absurd (false≢true here)

same_free : (r s : Range) → same_range r s ≡ true → is_free r ≡ is_free s
same_free (Within lo hi) (Within low high) same = refl
same_free (Within lo hi) AsItIs same = absurd (false≢true same)
same_free AsItIs (Within low high) same = absurd (false≢true same)
same_free AsItIs AsItIs same = refl

-- the ends of a symmetric link are both free or both fixed
tied_free : (a : Asked) (d : Database) (l m : ℕ) (link other : Linked) → IsAreaDatabase d → ends_faults a d a.items ≡ [] →
    slice_get d.links l ≡ Some link → slice_get d.links m ≡ Some other → link.link_back ≡ Some m → other.link_back ≡ Some l →
    is_symmetric a d link ≡ true → is_free (range_of a d link) ≡ is_free (range_of a d other)
tied_free a d l m link other base none there at link_back back tied =
    elim (cases_Bool (any_symmetric a d (Some link))) [
      | inl here ↦
          same_free (range_of a d link) (range_of a d other)
          (not-false (same_range (range_of a d link) (range_of a d other)) (sym (ends_are a d link other m link_back at)
          ∙ said_same a d a.items l link base there here none))
      | inr far ↦
          let said : any_symmetric a d (option_and_then (slice_get d.links) link.link_back) ≡ true = rw far at tied in
          let here : any_symmetric a d (Some other) ≡ true = rw (link_back, at) at said in
          sym (same_free (range_of a d other) (range_of a d link)
          (not-false (same_range (range_of a d other) (range_of a d link)) (sym (ends_are a d other link l back there)
          ∙ said_same a d a.items m other base at here none)))
    ]

-- the link that a free link's variable belongs to
pub record HasOwner (a : Asked) (d : Database) (l : ℕ) : Type 0 where
  pub within : owner a d l < length d.links
  pub owns : own a d (owner a d l) ≡ true

pub has_owner : (a : Asked) (d : Database) (l : ℕ) (link : Linked) → IsAreaDatabase d → ends_faults a d a.items ≡ [] →
    slice_get d.links l ≡ Some link → is_free (range_of a d link) ≡ true → HasOwner a d l
has_owner a d l link base none there free = by_link_back link.link_back refl
  where
    free_at : (k : ℕ) (x : Linked) → slice_get d.links k ≡ Some x → is_free (range_of a d x) ≡ true → is_free_at a d k ≡ true
    free_at k x at h = rw at h

    itself : (k : ℕ) (x : Linked) → slice_get d.links k ≡ Some x → is_free (range_of a d x) ≡ true → owner a d k ≡ k → own a d k ≡ true
    itself k x at h same = and_from (is_free_at a d k) (owner a d k == k) (free_at k x at h) (eq-eqb (owner a d k) k same)

    moved : (k : ℕ) → k < length d.links → own a d k ≡ true → owner a d l ≡ k → HasOwner a d l
    moved k below owns same = record { within = omega (arith, same, below); owns = ap (own a d) same ∙ owns }

    owner_is : (k : ℕ) (x : Linked) (m : ℕ) → slice_get d.links k ≡ Some x → x.link_back ≡ Some m →
        owner a d k ≡ (if is_symmetric a d x && nat_lt m k then m else k)
    owner_is k x m at is = ap (owner_at a d k) at ∙ ap (owner_by_link_back (is_symmetric a d x) k) is

    within : l < length d.links
    within = slice_get_within d.links l link there

    by_link_back : (o : Option ℕ) → link.link_back ≡ o → HasOwner a d l
    by_link_back None link_back = let same : owner a d l ≡ l = rw (there, link_back) refl in moved l within (itself l link there free same) same
    by_link_back (Some m) link_back =
        let end = other_end d l m link base there link_back in
        elim (cases_Bool (is_symmetric a d link && nat_lt m l)) [
          | inl first ↦
              let parts = and_parts (is_symmetric a d link) (nat_lt m l) first in
              let before : m < l = ltb-true m l parts.1 in
              let same : owner a d l ≡ m = owner_is l link m there link_back ∙ ap (λ c. if c then m else l) first in
              let other_free = sym (tied_free a d l m link end.other base none there end.there link_back end.back parts.0) ∙ free in
              let later : nat_lt l m ≡ false = le-ltb l m (omega arith) in
              let off : (is_symmetric a d end.other && nat_lt l m) ≡ false = and_right (is_symmetric a d end.other) (nat_lt l m) later in
              let its : owner a d m ≡ m = owner_is m end.other l end.there end.back ∙ ap (λ c. if c then l else m) off in
              moved m (omega (arith, before, within)) (itself m end.other end.there other_free its) same
          | inr alone ↦ let same : owner a d l ≡ l = owner_is l link m there link_back
              ∙ ap (λ c. if c then m else l) alone in moved l within (itself l link there free same) same
        ]

-- a variable's number is how many links have one of their own before its owner
pub variable_is : (a : Asked) (d : Database) (l : ℕ) → owner a d l ≤ length d.links → variable_of a d l ≡ length (passing (own a d) 0 (owner a d l))
variable_is a d l within =
    let start : 0 + owner a d l ≡ owner a d l = omega arith in
    ap (λ o. count_by (λ m. nat_lt m o) (owners a d)) (sym start) ∙ count_before (own a d) 0 (owner a d l) (length d.links) within

pub variable_below : (a : Asked) (d : Database) (l : ℕ) → HasOwner a d l → variable_of a d l < length (owners a d)
variable_below a d l has =
    let start : 0 + owner a d l ≡ owner a d l = omega arith in
    let is = variable_is a d l (omega (arith, has.within)) in
    omega (arith, is, fewer_before (own a d) 0 (owner a d l) (length d.links) has.within (ap (own a d) start ∙ has.owns))
