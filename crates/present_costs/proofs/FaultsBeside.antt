-- The first fault beside present costs, by the first fault of the request file.
use Rattle.std.proofs.Common.{◌≡◌, ℕ, ◌+◌, refl, sym, ◌∙◌, ap, List, [], ◌∷◌, ◌++◌, append_assoc, Bool, true, false, Some, None}
use Rattle.std.specs.Prelude.{if◌then◌else◌, nat_le, not, length}
use Rattle.std.specs.List.{AllByRecursion}
use Rattle.std.proofs.lemmas.Bool.{false≢true}
use Rattle.cost_base.specs.Lists.{first_of}
use Rattle.cost_base.proofs.ListLemmas.{append-none, each_append, none_first}
use Rattle.lsdb_build.specs.declared.Linked.{Linked}
use Rattle.lsdb_build.specs.Graphs.{Database}
use Rattle.request_reader.specs.declared.Excluded.{Excluded}
use Rattle.request_reader.specs.declared.Excluded.TheVariants.{Router, Interface}
use Rattle.request_reader.specs.declared.Directive.{Directive}
use Rattle.request_reader.specs.declared.Directive.TheVariants.{FreeAll, Free, Fix, Path, SymmetricAll, Symmetric}
use Rattle.request_reader.specs.declared.DirectiveLine.{DirectiveLine}
use Rattle.request_reader.specs.WrittenRoutes.{Route}
use Rattle.request_reader.specs.Asked.{Asked}
use Rattle.wanted_paths.specs.declared.fault.ResolutionFault.{ResolutionFault}
use Rattle.wanted_paths.specs.declared.fault.ResolutionFault.TheVariants.{UnknownRouter, UnknownInterface, NotALink, BrokenPath, LoopPath, PathExcluded, EndsDiffer, TooManyVariables, NoCost}
use Rattle.wanted_paths.specs.Paths.{next_name, outline}
use Rattle.wanted_paths.specs.Resolution.{knows_router, knows_link, is_loop_free}
use Rattle.wanted_paths.specs.LineFaults.{fault_unless, router_faults, interface_faults, hop_faults, part_faults, parts_faults, leads_on, broken_faults, is_path_excluded, walk_faults, without_faults, has_link_back, directive_faults, line_faults}
use Rattle.path_requests.specs.declared.ranges.Range.{Range}
use Rattle.path_requests.specs.declared.ranges.Range.TheVariants.{Within, AsItIs}
use Rattle.path_requests.specs.Meaning.{range_of, owners}
use Rattle.path_requests.specs.Resolving.{ties_different, ends_faults, variable_faults, lacks_cost, cost_faults, resolution_faults, resolution_fault, present_asked}
use Rattle.path_requests.proofs.CostlessLinks.{same_lack}
use Rattle.path_requests.proofs.PresentLaws.{fixed}
use Rattle.present_costs.specs.PresentCosts.{faults_beside_present, fault_beside_present}

-- Links without a cost.

-- the fault of link l, where it lacks a cost
abbrev missing_at : ℕ → Bool → List ResolutionFault
missing_at l lacks = if lacks then NoCost l ∷ [] else []

-- where each link has a cost, each fixed one has
fewer_missing : (a : Asked) (d : Database) (l : ℕ) (links : List Linked) → cost_faults (present_asked a) d l links ≡ [] → cost_faults a d l links ≡ []
fewer_missing a d l [] none = refl
fewer_missing a d l (link ∷ links) none =
    let parts = append-none (missing_at l (lacks_cost (present_asked a) link (range_of (present_asked a) d link)))
    (cost_faults (present_asked a) d (l + 1) links) none in
    let fixed_one : missing_at l (lacks_cost (present_asked a) link AsItIs) ≡ [] =
    ap (λ (range : Range). missing_at l (lacks_cost (present_asked a) link range)) (sym (fixed a d link)) ∙ parts.0 in
    rw (by_range (range_of a d link) fixed_one) (fewer_missing a d (l + 1) links parts.1)
  where
    by_range : (range : Range) → missing_at l (lacks_cost (present_asked a) link AsItIs) ≡ [] →
        (if lacks_cost a link range then NoCost l ∷ [] else []) ≡ []
    by_range (Within lo hi) here = refl
    by_range AsItIs here = ap (missing_at l) (same_lack (present_asked a) a link AsItIs refl) ∙ here

-- Which faults are of costs.

abbrev is_of_cost : ResolutionFault → Bool
is_of_cost (NoCost link) = true
is_of_cost (UnknownRouter line) = false
is_of_cost (UnknownInterface line) = false
is_of_cost (NotALink line) = false
is_of_cost (BrokenPath line hop) = false
is_of_cost (LoopPath line) = false
is_of_cost (PathExcluded line) = false
is_of_cost (EndsDiffer line) = false
is_of_cost TooManyVariables = false

is_other : (fault : ResolutionFault) → ((l : ℕ) → fault ≡ NoCost l → ⊥) → is_of_cost fault ≡ false
is_other (NoCost link) other = absurd (other link refl)
is_other (UnknownRouter line) other = refl
is_other (UnknownInterface line) other = refl
is_other (NotALink line) other = refl
is_other (BrokenPath line hop) other = refl
is_other (LoopPath line) other = refl
is_other (PathExcluded line) other = refl
is_other (EndsDiffer line) other = refl
is_other TooManyVariables other = refl

abbrev AreOthers : List ResolutionFault → Type 0
AreOthers faults = AllByRecursion (λ fault. is_of_cost fault ≡ false) faults

abbrev AreOfCosts : List ResolutionFault → Type 0
AreOfCosts faults = AllByRecursion (λ fault. is_of_cost fault ≡ true) faults

both_others : (xs ys : List ResolutionFault) → AreOthers xs → AreOthers ys → AreOthers (xs ++ ys)
both_others xs ys first rest = each_append (λ fault. is_of_cost fault ≡ false) xs ys first rest

unless_other : (well : Bool) (fault : ResolutionFault) → is_of_cost fault ≡ false → AreOthers (fault_unless well fault)
unless_other true fault other = tt
unless_other false fault other = (other, tt)

router_others : (d : Database) (line : ℕ) (router : List ℕ) → AreOthers (router_faults d line router)
router_others d line router = unless_other (knows_router d router) (UnknownRouter line) refl

interface_others : (d : Database) (line : ℕ) (router interface : List ℕ) → AreOthers (interface_faults d line router interface)
interface_others d line router interface =
    both_others (router_faults d line router) (fault_unless (knows_link d router interface) (UnknownInterface line))
    (router_others d line router) (unless_other (knows_link d router interface) (UnknownInterface line) refl)

hop_others : (d : Database) (line : ℕ) (hops : List (List ℕ × List ℕ)) (last : List ℕ) → AreOthers (hop_faults d line hops last)
hop_others d line [] last = router_others d line last
hop_others d line (hop ∷ hops) last =
    both_others (interface_faults d line hop.0 hop.1) (hop_faults d line hops last) (interface_others d line hop.0 hop.1) (hop_others d line hops last)

parts_others : (d : Database) (line : ℕ) (parts : List Excluded) → AreOthers (parts_faults d line parts)
parts_others d line [] = tt
parts_others d line (part ∷ parts) = both_others (part_faults d line part) (parts_faults d line parts) (by_part part) (parts_others d line parts)
  where
    by_part : (p : Excluded) → AreOthers (part_faults d line p)
    by_part (Router router) = router_others d line router
    by_part (Interface router interface) = interface_others d line router interface

broken_others : (d : Database) (line number : ℕ) (hops : List (List ℕ × List ℕ)) (last : List ℕ) → AreOthers (broken_faults d line number hops last)
broken_others d line number [] last = tt
broken_others d line number (hop ∷ hops) last =
    both_others (if leads_on d hop (next_name hops last) then [] else BrokenPath line number ∷ []) (broken_faults d line (number + 1) hops last)
    (unless_other (leads_on d hop (next_name hops last)) (BrokenPath line number) refl) (broken_others d line (number + 1) hops last)

path_others : (d : Database) (line : ℕ) (route : Route) (parts : List Excluded) → AreOthers (walk_faults d line route ++ without_faults d line route parts)
path_others d line route parts =
    let words = hop_faults d line route.hops route.last in
    let joins = broken_faults d line 1 route.hops route.last in
    let free = is_loop_free d (outline d) route in
    let kept = not (is_path_excluded d route parts) in
    both_others (walk_faults d line route) (without_faults d line route parts)
    (both_others (words ++ joins) (fault_unless free (LoopPath line))
    (both_others words joins (hop_others d line route.hops route.last) (broken_others d line 1 route.hops route.last))
    (unless_other free (LoopPath line) refl))
    (both_others (parts_faults d line parts) (fault_unless kept (PathExcluded line)) (parts_others d line parts) (unless_other kept (PathExcluded line) refl))

directive_others : (d : Database) (line : ℕ) (directive : Directive) → AreOthers (directive_faults d line directive)
directive_others d line (FreeAll lo hi) = tt
directive_others d line (Free router interface lo hi) = interface_others d line router interface
directive_others d line (Fix router interface) = interface_others d line router interface
directive_others d line (Path route parts) = path_others d line route parts
directive_others d line SymmetricAll = tt
directive_others d line (Symmetric router interface) =
    let linked = has_link_back _ in
    both_others (interface_faults d line router interface) (fault_unless linked (NotALink line))
    (interface_others d line router interface) (unless_other linked (NotALink line) refl)

line_others : (d : Database) (items : List DirectiveLine) → AreOthers (line_faults d items)
line_others d [] = tt
line_others d (item ∷ items) =
    both_others (directive_faults d item.line item.what) (line_faults d items) (directive_others d item.line item.what) (line_others d items)

ends_others : (a : Asked) (d : Database) (items : List DirectiveLine) → AreOthers (ends_faults a d items)
ends_others a d [] = tt
ends_others a d (item ∷ items) =
    let well = not (ties_different a d item.what) in
    both_others (fault_unless well (EndsDiffer item.line)) (ends_faults a d items) (unless_other well (EndsDiffer item.line) refl) (ends_others a d items)

-- the faults before those of costs
abbrev faults_before : Asked → Database → List ResolutionFault
faults_before a d = line_faults d a.items ++ ends_faults a d a.items ++ variable_faults a d

before_others : (a : Asked) (d : Database) → AreOthers (faults_before a d)
before_others a d =
    both_others (line_faults d a.items ++ ends_faults a d a.items) (variable_faults a d)
    (both_others (line_faults d a.items) (ends_faults a d a.items) (line_others d a.items) (ends_others a d a.items))
    (unless_other (nat_le (length (owners a d)) 1000) TooManyVariables refl)

cost_ones : (a : Asked) (d : Database) (l : ℕ) (links : List Linked) → AreOfCosts (cost_faults a d l links)
cost_ones a d l [] = tt
cost_ones a d l (link ∷ links) = by_test (lacks_cost a link (range_of a d link)) (cost_ones a d (l + 1) links)
  where
    by_test : (b : Bool) → AreOfCosts (cost_faults a d (l + 1) links) → AreOfCosts ((if b then NoCost l ∷ [] else []) ++ cost_faults a d (l + 1) links)
    by_test true rest = (refl, rest)
    by_test false rest = rest

-- The first fault.

-- the faults of costs come last, of the request file and beside present costs
resolution_is : (a : Asked) (d : Database) → resolution_faults a d ≡ faults_before a d ++ cost_faults a d 0 d.links
resolution_is a d =
    let lines = line_faults d a.items in
    let ends = ends_faults a d a.items in
    let count = variable_faults a d in
    sym (append_assoc lines (ends ++ count) (cost_faults a d 0 d.links))
    ∙ ap (λ xs. xs ++ cost_faults a d 0 d.links) (sym (append_assoc lines ends count))

-- the first of two lists of faults
first_other : (xs ys zs : List ResolutionFault) (fault : ResolutionFault) → AreOfCosts ys → is_of_cost fault ≡ false →
    first_of (xs ++ ys) ≡ Some fault → first_of (xs ++ zs) ≡ Some fault
first_other [] [] zs fault costs other is = absurd (cc)
first_other [] (y ∷ ys) zs fault costs other is =
    let same : y ≡ fault = cc in
    absurd (false≢true (sym other ∙ ap is_of_cost (sym same) ∙ costs.0))
first_other (x ∷ xs) ys zs fault costs other is = is

none_before : (xs ys : List ResolutionFault) (fault : ResolutionFault) → AreOthers xs → is_of_cost fault ≡ true →
    first_of (xs ++ ys) ≡ Some fault → xs ≡ []
none_before [] ys fault others cost is = refl
none_before (x ∷ xs) ys fault others cost is =
    let same : x ≡ fault = cc in
    absurd (false≢true (sym others.0 ∙ ap is_of_cost same ∙ cost))

-- where the request file has no fault, it is that of the present network
pub beside_resolved : (a : Asked) (d : Database) → resolution_fault a d ≡ None →
    fault_beside_present a d ≡ first_of (cost_faults (present_asked a) d 0 d.links)
beside_resolved a d none =
    let all : faults_before a d ++ cost_faults a d 0 d.links ≡ [] = sym (resolution_is a d) ∙ none_first (resolution_faults a d) none in
    let parts = append-none (faults_before a d) (cost_faults a d 0 d.links) all in
    ap (λ xs. first_of (xs ++ cost_faults (present_asked a) d 0 d.links)) parts.0

-- and where there is none beside present costs, the request file has none
pub beside_then_resolved : (a : Asked) (d : Database) → fault_beside_present a d ≡ None → resolution_fault a d ≡ None
beside_then_resolved a d none =
    let parts = append-none (faults_before a d) (cost_faults (present_asked a) d 0 d.links) (none_first (faults_beside_present a d) none) in
    let costs = fewer_missing a d 0 d.links parts.1 in
    ap first_of (resolution_is a d
    ∙ ap (λ (xs : List ResolutionFault). xs ++ cost_faults a d 0 d.links) parts.0 ∙ costs)

-- a fault of no cost is the first beside present costs
pub beside_other : (a : Asked) (d : Database) (fault : ResolutionFault) → resolution_fault a d ≡ Some fault →
    ((l : ℕ) → fault ≡ NoCost l → ⊥) → fault_beside_present a d ≡ Some fault
beside_other a d fault is other =
    first_other (faults_before a d) (cost_faults a d 0 d.links) (cost_faults (present_asked a) d 0 d.links) fault
    (cost_ones a d 0 d.links) (is_other fault other) (ap first_of (sym (resolution_is a d)) ∙ is)

-- where the first fault is of a cost, that of the present network is the first
pub beside_cost : (a : Asked) (d : Database) (l : ℕ) → resolution_fault a d ≡ Some (NoCost l) →
    fault_beside_present a d ≡ first_of (cost_faults (present_asked a) d 0 d.links)
beside_cost a d l is =
    let none = none_before (faults_before a d) (cost_faults a d 0 d.links) (NoCost l) (before_others a d) refl
    (ap first_of (sym (resolution_is a d)) ∙ is) in
    ap (λ xs. first_of (xs ++ cost_faults (present_asked a) d 0 d.links)) none

-- and there is one
pub cost_is_missing : (a : Asked) (d : Database) (l : ℕ) → resolution_fault a d ≡ Some (NoCost l) →
    first_of (cost_faults (present_asked a) d 0 d.links) ≡ None → ⊥
cost_is_missing a d l is none =
    let before = none_before (faults_before a d) (cost_faults a d 0 d.links) (NoCost l) (before_others a d) refl
    (ap first_of (sym (resolution_is a d)) ∙ is) in
    let all = fewer_missing a d 0 d.links (none_first (cost_faults (present_asked a) d 0 d.links) none) in
    clash (sym (ap first_of (sym (resolution_is a d)) ∙ is) ∙ ap (λ xs. first_of (xs ++ cost_faults a d 0 d.links)) before ∙ ap first_of all)
  where
    clash : Some (NoCost l) ≡ None → ⊥
    clash h = cc
