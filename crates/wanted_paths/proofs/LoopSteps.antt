-- A loop over a list, one item further: what is left of the faults, and what is made.
use Rattle.std.proofs.Common.{◌≡◌, ◌∙◌, ℕ, ◌+◌, ◌-◌, ◌<◌, ◌≤◌, ◌++◌, ap, sym, refl, subst, Bool, true, false, List, [], ◌∷◌, length, get_or, drop, take, map, append_assoc}
use Rattle.std.proofs.lemmas.List.{append-nil, at_drop_more, at_drop_all, map-append, take_more, take_rest}
use Rattle.std.specs.Prelude.{Option, Some, None, option_to_list, slice_get, if◌then◌else◌}
use Rattle.std.specs.List.{filter_map, cons_option}
use Rattle.cost_base.specs.Lists.{first_of}
use Rattle.cost_base.specs.declared.refusal.Refusal.{Refusal}
use Rattle.area_graph.specs.Area.{Area}
use Rattle.lsdb_build.specs.Graphs.{Database}
use Rattle.design_problem.specs.declared.problem.Request.{Request}
use Rattle.request_reader.specs.declared.DirectiveLine.{DirectiveLine}
use Rattle.wanted_paths.specs.Paths.{request_of, outline, next_name, hop_edges, link_number, router_number, route_edges}
use Rattle.wanted_paths.specs.LineFaults.{interface_faults, directive_faults, line_faults, leads_on, broken_faults, TellsResolution}
use Rattle.wanted_paths.specs.declared.fault.ResolutionFault.{ResolutionFault}
use Rattle.wanted_paths.specs.declared.fault.ResolutionFault.TheVariants.{BrokenPath}

-- what is left begins with the next item
pub next_left : {X Y : Type 0} → (F : List X → Y) (xs : List X) (i : ℕ) (x : X) → i < length xs → x ≡ get_or xs i x → F (drop i xs) ≡ F (x ∷ drop (i + 1) xs)
next_left {X} {Y} F xs i x within is = at_drop_more F xs i x within ∙ ap (λ (y : X). F (y ∷ drop (i + 1) xs)) (sym is)

-- behind an item without a fault the faults that are left are all
pub no_fault : {X A : Type 0} → (F : List X → List A) (xs : List X) (i : ℕ) (x : X) (here all rest : List A) → i < length xs → x ≡ get_or xs i x →
    F (x ∷ drop (i + 1) xs) ≡ here ++ rest → here ≡ [] → F (drop i xs) ≡ all → rest ≡ all
no_fault {X} {A} F xs i x here all rest within is step none left =
    sym (ap (λ (ys : List A). ys ++ rest) none) ∙ sym step ∙ sym (next_left F xs i x within is) ∙ left

-- what the next item makes is added
pub added : {X A : Type 0} → (F : List X → List A) (xs : List X) (i : ℕ) (x : X) (before made now all rest : List A) → i < length xs → x ≡ get_or xs i x →
    F (x ∷ drop (i + 1) xs) ≡ made ++ rest → now ≡ before ++ made → before ++ F (drop i xs) ≡ all → now ++ rest ≡ all
added {X} {A} F xs i x before made now all rest within is step is_now so_far =
    ap (λ (ys : List A). ys ++ rest) is_now ∙ append_assoc {A = A} before made rest
    ∙ ap (λ (ys : List A). before ++ ys) (sym (next_left F xs i x within is ∙ step)) ∙ so_far

-- a line without a fault, in a resolver of that database
pub line_fine : (d r : Database) (items : List DirectiveLine) (i : ℕ) (item : DirectiveLine) → r ≡ d → i < length items → item ≡ get_or items i item →
    directive_faults r item.line item.what ≡ [] → line_faults d (drop i items) ≡ line_faults d items → line_faults d (drop (i + 1) items) ≡ line_faults d items
line_fine d r items i item same within is none left =
    no_fault (line_faults d) items i item (directive_faults d item.line item.what) (line_faults d items) (line_faults d (drop (i + 1) items)) within is refl
    (sym (ap (λ (b : Database). directive_faults b item.line item.what) same) ∙ none) left

kept_first : {A : Type 0} → (o : Option A) (xs : List A) → cons_option o xs ≡ option_to_list o ++ xs
kept_first None xs = refl
kept_first (Some x) xs = refl

-- the request of a line is added, if there is one
pub request_added : (d r : Database) (items : List DirectiveLine) (i : ℕ) (item : DirectiveLine) (before now : List Request) → r ≡ d → i < length items →
    item ≡ get_or items i item →
    now ≡ before ++ option_to_list (request_of r (outline r) item.what) →
    before ++ filter_map (λ (line : DirectiveLine). request_of d (outline d) line.what) (drop i items) ≡
    filter_map (λ (line : DirectiveLine). request_of d (outline d) line.what) items →
    now ++ filter_map (λ (line : DirectiveLine). request_of d (outline d) line.what) (drop (i + 1) items) ≡
    filter_map (λ (line : DirectiveLine). request_of d (outline d) line.what) items
request_added d r items i item before now same within is is_now so_far =
    let wants : DirectiveLine → Option Request = λ line. request_of d (outline d) line.what in
    added (filter_map wants) items i item before (option_to_list (wants item)) now (filter_map wants items) (filter_map wants (drop (i + 1) items)) within is
    (kept_first (wants item) (filter_map wants (drop (i + 1) items)))
    (is_now ∙ ap (λ (b : Database). before ++ option_to_list (request_of b (outline b) item.what)) same) so_far

-- what a function makes of one item more
pub one_more : {X A : Type 0} → (f : X → A) (xs : List X) (i : ℕ) (x : X) (before now : List A) (y : A) → i < length xs → before ≡ map f (take i xs) →
    y ≡ f (get_or xs i x) → now ≡ before ++ y ∷ [] → now ≡ map f (take (i + 1) xs)
one_more {X} {A} f xs i x before now y within are is is_now =
    is_now ∙ ap (λ (ys : List A). ys ++ y ∷ []) are ∙ ap (λ (z : A). map f (take i xs) ++ z ∷ []) is ∙ sym (map-append f (take i xs) (get_or xs i x ∷ []))
    ∙ sym (ap (map f) (take_more xs i x within))

-- the edges of a hop are added
pub hop_added : (d : Database) (g : Area) (hops : List (List ℕ × List ℕ)) (i : ℕ) (hop : List ℕ × List ℕ) (last next before now : List ℕ) →
    i < length hops → hop ≡ get_or hops i hop → next ≡ next_name (take (length hops - (i + 1)) (drop (i + 1) hops)) last →
    now ≡ before ++ hop_edges d g (link_number d hop.0 hop.1) (slice_get d.links (link_number d hop.0 hop.1)) (router_number d next) →
    before ++ route_edges d g (drop i hops) last ≡ route_edges d g hops last → now ++ route_edges d g (drop (i + 1) hops) last ≡ route_edges d g hops last
hop_added d g hops i hop last next before now within is on is_now so_far =
    let rest = drop (i + 1) hops in
    let edges : List ℕ → List ℕ = λ name. hop_edges d g (link_number d hop.0 hop.1) (slice_get d.links (link_number d hop.0 hop.1)) (router_number d name) in
    let behind = on ∙ ap (λ (hs : List (List ℕ × List ℕ)). next_name hs last) (take_rest hops (i + 1)) in
    added (λ (hs : List (List ℕ × List ℕ)). route_edges d g hs last) hops i hop before (edges (next_name rest last)) now (route_edges d g hops last)
    (route_edges d g rest last) within is refl (is_now ∙ ap (λ name. before ++ edges name) behind) so_far

-- the faults of the hops that are left, where the next one leads on or doesn't
next_hop : (d : Database) (line : ℕ) (hops : List (List ℕ × List ℕ)) (i : ℕ) (hop : List ℕ × List ℕ) (last next : List ℕ) (leads : Bool) →
    i < length hops → hop ≡ get_or hops i hop → next ≡ next_name (take (length hops - (i + 1)) (drop (i + 1) hops)) last → leads ≡ leads_on d hop next →
    broken_faults d line (i + 1) (drop i hops) last
    ≡ (if leads then [] else BrokenPath line (i + 1) ∷ []) ++ broken_faults d line (i + 1 + 1) (drop (i + 1) hops) last
next_hop d line hops i hop last next leads within is on tests =
    let rest = drop (i + 1) hops in
    let behind = on ∙ ap (λ (hs : List (List ℕ × List ℕ)). next_name hs last) (take_rest hops (i + 1)) in
    next_left (λ (hs : List (List ℕ × List ℕ)). broken_faults d line (i + 1) hs last) hops i hop within is
    ∙ ap (λ (b : Bool). (if b then [] else BrokenPath line (i + 1) ∷ []) ++ broken_faults d line (i + 1 + 1) rest last)
    (sym (tests ∙ ap (leads_on d hop) behind))

pub hop_leads : (d : Database) (line : ℕ) (hops : List (List ℕ × List ℕ)) (i : ℕ) (hop : List ℕ × List ℕ) (last next : List ℕ) (leads : Bool) →
    i < length hops → hop ≡ get_or hops i hop → next ≡ next_name (take (length hops - (i + 1)) (drop (i + 1) hops)) last → leads ≡ leads_on d hop next →
    leads ≡ true →
    broken_faults d line (i + 1) (drop i hops) last ≡ broken_faults d line 1 hops last →
    broken_faults d line (i + 1 + 1) (drop (i + 1) hops) last ≡ broken_faults d line 1 hops last
hop_leads d line hops i hop last next leads within is on tests holds left =
    sym (next_hop d line hops i hop last next leads within is on tests
    ∙ ap (λ (b : Bool). (if b then [] else BrokenPath line (i + 1) ∷ []) ++ broken_faults d line (i + 1 + 1) (drop (i + 1) hops) last) holds) ∙ left

pub hop_broken : (d : Database) (line : ℕ) (hops : List (List ℕ × List ℕ)) (i : ℕ) (hop : List ℕ × List ℕ) (last next : List ℕ) (leads : Bool)
    (stop : Refusal ResolutionFault (Unit {0})) →
    i < length hops → hop ≡ get_or hops i hop → next ≡ next_name (take (length hops - (i + 1)) (drop (i + 1) hops)) last → leads ≡ leads_on d hop next →
    leads ≡ false →
    broken_faults d line (i + 1) (drop i hops) last ≡ broken_faults d line 1 hops last → TellsResolution (Some (BrokenPath line (i + 1))) stop →
    TellsResolution (first_of (broken_faults d line 1 hops last)) stop
hop_broken d line hops i hop last next leads stop within is on tests fails left tells =
    subst (λ (faults : List ResolutionFault). TellsResolution (first_of faults) stop)
    (sym (next_hop d line hops i hop last next leads within is on tests
    ∙ ap (λ (b : Bool). (if b then [] else BrokenPath line (i + 1) ∷ []) ++ broken_faults d line (i + 1 + 1) (drop (i + 1) hops) last) fails) ∙ left) tells

-- the words of a hop are known as they were read
pub hop_known : (d : Database) (line : ℕ) (router interface first second : List ℕ) → first ≡ router → second ≡ interface →
    interface_faults d line first second ≡ [] → interface_faults d line router interface ≡ []
hop_known d line router interface first second one two none =
    sym (ap (λ (name : List ℕ). interface_faults d line name second) one ∙ ap (interface_faults d line router) two) ∙ none

-- where the loop has ended, there was no fault at all
pub none_at_all : {X A : Type 0} → (F : List X → List A) (xs : List X) (i : ℕ) → F [] ≡ [] → length xs ≤ i → F (drop i xs) ≡ F xs → F xs ≡ []
none_at_all {X} {A} F xs i none done left = sym left ∙ at_drop_all F xs i done ∙ none

-- and all is made
pub all_made : {X A : Type 0} → (F : List X → List A) (xs : List X) (i : ℕ) (made : List A) → F [] ≡ [] → length xs ≤ i → made ++ F (drop i xs) ≡ F xs →
    made ≡ F xs
all_made {X} {A} F xs i made none done so_far =
    sym (append-nil made) ∙ ap (λ (ys : List A). made ++ ys) (sym (at_drop_all F xs i done ∙ none)) ∙ so_far

-- two lists were added one after the other
pub two_added : (before between now one two first second : List ℕ) → now ≡ between ++ two → between ≡ before ++ one → one ≡ first → two ≡ second →
    now ≡ before ++ (first ++ second)
two_added before between now one two first second is was one_is two_is =
    is ∙ ap (λ (ys : List ℕ). ys ++ two) was ∙ append_assoc before one two ∙ ap (λ (ys : List ℕ). before ++ (ys ++ two)) one_is
    ∙ ap (λ (ys : List ℕ). before ++ (first ++ ys)) two_is
