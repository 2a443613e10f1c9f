-- A link that is read at a number is the database's link of that number, and what a hop over it comes to.
use Rattle.std.proofs.Common.{◌≡◌, ◌∙◌, ℕ, ◌<◌, ap, sym, Bool, List, length, get_or, Option, Some}
use Rattle.std.specs.Prelude.{slice_get}
use Rattle.std.proofs.lemmas.Option.{slice_get-get_or}
use Rattle.area_graph.specs.Area.{Area}
use Rattle.lsdb_build.specs.declared.Linked.{Linked}
use Rattle.lsdb_build.specs.Graphs.{Database}
use Rattle.wanted_paths.specs.Paths.{link_number, router_number, hop_edges}
use Rattle.wanted_paths.specs.Resolution.{leads_to_router}
use Rattle.wanted_paths.specs.LineFaults.{leads_on}

pub link_read : (d : Database) (links : List Linked) (number : ℕ) (link : Linked) → links ≡ d.links → number < length links → link ≡ get_or links number link →
    slice_get d.links number ≡ Some link
link_read d links number link are within is =
    ap (λ (ls : List Linked). slice_get ls number) (sym are) ∙ slice_get-get_or links number link within ∙ ap Some (sym is)

-- the number of a hop's link, of its words as they were read
pub hop_number : (d : Database) (number : ℕ) (router interface first second : List ℕ) → number ≡ link_number d first second → first ≡ router →
    second ≡ interface →
    number ≡ link_number d router interface
hop_number d number router interface first second is one two =
    is ∙ ap (λ (name : List ℕ). link_number d name second) one ∙ ap (link_number d router) two

-- a hop leads on where its link leads to the router
pub leads_over : (d : Database) (hop : List ℕ × List ℕ) (next : List ℕ) (number router : ℕ) (link : Linked) (leads : Bool) →
    slice_get d.links number ≡ Some link →
    number ≡ link_number d hop.0 hop.1 → router ≡ router_number d next → leads ≡ leads_to_router d router (Some link) → leads ≡ leads_on d hop next
leads_over d hop next number router link leads there is to tests =
    tests ∙ ap (λ (r : ℕ). leads_to_router d r (Some link)) to ∙ ap (leads_to_router d (router_number d next)) (sym there)
    ∙ ap (λ (n : ℕ). leads_to_router d (router_number d next) (slice_get d.links n)) is

-- the edges of a hop are those of its link
pub edges_over : (d : Database) (g : Area) (hop : List ℕ × List ℕ) (next : List ℕ) (number router : ℕ) (link : Linked) (edges : List ℕ) →
    slice_get d.links number ≡ Some link → number ≡ link_number d hop.0 hop.1 → router ≡ router_number d next →
    hop_edges d g number (Some link) router ≡ edges →
    edges ≡ hop_edges d g (link_number d hop.0 hop.1) (slice_get d.links (link_number d hop.0 hop.1)) (router_number d next)
edges_over d g hop next number router link edges there is to are =
    sym are ∙ ap (hop_edges d g number (Some link)) to ∙ ap (λ (o : Option Linked). hop_edges d g number o (router_number d next)) (sym there)
    ∙ ap (λ (n : ℕ). hop_edges d g n (slice_get d.links n) (router_number d next)) is
