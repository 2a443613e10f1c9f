-- The first link without a cost, found link by link.
use Rattle.std.proofs.Common.{◌≡◌, ℕ, ◌+◌, ◌<◌, get_or, drop, refl, sym, ◌∙◌, ap, List, [], ◌∷◌, ◌++◌, Bool, Option, Some, None, cond, map}
use Rattle.std.specs.Prelude.{length, slice_get, slice_index_or, Result, Ok, Err, OnOk}
use Rattle.std.proofs.lemmas.List.{at_drop_more}
use Rattle.std.proofs.lemmas.Option.{get_or_from_slice_get}
use Rattle.cost_base.specs.Lists.{first_of}
use Rattle.cost_base.proofs.ListLemmas.{none_first}
use Rattle.lsdb_build.specs.declared.Linked.{Linked}
use Rattle.lsdb_build.specs.Graphs.{Database}
use Rattle.lsdb_build.proofs.Pairs.{at_map}
use Rattle.request_reader.specs.Asked.{Asked}
use Rattle.wanted_paths.specs.declared.fault.ResolutionFault.{ResolutionFault}
use Rattle.wanted_paths.specs.declared.fault.ResolutionFault.TheVariants.{NoCost}
use Rattle.path_requests.specs.Meaning.{Range, Within, AsItIs, range_of}
use Rattle.path_requests.specs.Checked.{HasRanges}
use Rattle.path_requests.specs.Resolving.{lacks_cost, cost_faults}
use Rattle.path_requests.proofs.LinkSteps.{link_there}

-- whether a link lacks a cost depends on the default alone
pub same_lack : (a b : Asked) (link : Linked) (range : Range) → a.default_cost ≡ b.default_cost → lacks_cost b link range ≡ lacks_cost a link range
same_lack a b link (Within lo hi) same = refl
same_lack a b link AsItIs same =
    by_costs link.cost b.default_cost ∙ ap (λ (default : Option ℕ). lacks_cost (record a { default_cost = default }) link AsItIs) (sym same)
  where
    by_costs : (cost default : Option ℕ) → lacks_cost (record b { default_cost = default }) (record link { cost = cost }) AsItIs
        ≡ lacks_cost (record a { default_cost = default }) (record link { cost = cost }) AsItIs
    by_costs None None = refl
    by_costs None (Some c) = refl
    by_costs (Some c) None = refl
    by_costs (Some c) (Some k) = refl

-- the faults from a link on: its own, and those of the links behind it
pub lacking_here : (asked a : Asked) (d : Database) (links : List Linked) (ranges : List Range) (i : ℕ) (link : Linked) (range : Range) (lacks : Bool) →
    i < length links → link ≡ get_or links i link → range ≡ slice_index_or ranges i AsItIs → lacks ≡ lacks_cost asked link range →
    a.default_cost ≡ asked.default_cost → HasRanges a d links ranges →
    cost_faults a d i (drop i links) ≡ cond lacks (NoCost i ∷ []) [] ++ cost_faults a d (i + 1) (drop (i + 1) links)
lacking_here asked a d links ranges i link range lacks within is range_is tested same has =
    at_drop_more (cost_faults a d i) links i link within
    ∙ ap (λ (l : Linked). cost_faults a d i (l ∷ drop (i + 1) links)) (sym is)
    ∙ ap (λ (b : Bool). cond b (NoCost i ∷ []) [] ++ cost_faults a d (i + 1) (drop (i + 1) links)) (sym lacks_is)
  where
    lacks_is : lacks ≡ lacks_cost a link (range_of a d link)
    lacks_is =
        tested ∙ same_lack a asked link range same
        ∙ ap (λ (r : Range). lacks_cost a link r) (range_is ∙ has i link (link_there links i link within is))

-- ranges that are those of all links
pub all_ranges : (a : Asked) (d : Database) (links : List Linked) (ranges : List Range) → links ≡ d.links →
    ranges ≡ map (range_of a d) d.links → HasRanges a d links ranges
all_ranges a d links ranges are given i link at =
    ap (λ (rs : List Range). slice_index_or rs i AsItIs) given
    ∙ get_or_from_slice_get (map (range_of a d) d.links) i (range_of a d link) AsItIs
    (at_map (range_of a d) d.links i link (ap (λ (ls : List Linked). slice_get ls i) (sym are) ∙ at))

-- where no fault is first, there is none
pub none_refused : {E : Type 0} (told : Result (Unit {0}) E) (faults : List ResolutionFault) (fault : Option ResolutionFault) →
    fault ≡ first_of faults → OnOk told (fault ≡ None) → OnOk told (faults ≡ [])
none_refused (Ok u) faults fault is none = none_first faults (sym is ∙ none)
none_refused (Err e) faults fault is none = none
