-- Where each link has a cost, each present cost is above 0.
use Rattle.std.proofs.Common.{◌≡◌, ◌<◌, subst, List, [], ◌∷◌, map, All}
use Rattle.std.proofs.lemmas.List.Elements.{All-nil, All-cons, All-head, All-tail}
use Rattle.area_graph.specs.declared.Price.{Price}
use Rattle.area_graph.specs.declared.Price.TheVariants.{Fixed}
use Rattle.lsdb_build.specs.declared.Linked.{Linked}
use Rattle.lsdb_build.specs.Graphs.{Database, IsAreaDatabase, IsLinkPrice}
use Rattle.request_reader.specs.Asked.{Asked, IsAsked}
use Rattle.path_requests.specs.Meaning.{present_cost}
use Rattle.path_requests.specs.Resolving.{present_asked, cost_faults}
use Rattle.path_requests.proofs.Assembled.{prices_link}
use Rattle.path_requests.proofs.PresentLaws.{present_prices_are, present_is_asked}

each_above : (a : Asked) (links : List Linked) → All IsLinkPrice (map (λ link. Fixed (present_cost a link)) links) →
    All (λ cost. 0 < cost) (map (present_cost a) links)
each_above a [] all = All-nil (λ cost. 0 < cost)
each_above a (link ∷ links) all =
    All-cons (λ cost. 0 < cost) (present_cost a link) (map (present_cost a) links)
    (All-head IsLinkPrice (Fixed (present_cost a link)) (map (λ x. Fixed (present_cost a x)) links) all)
    (each_above a links (All-tail IsLinkPrice (Fixed (present_cost a link)) (map (λ x. Fixed (present_cost a x)) links) all))

-- each present cost is above 0
pub present_above : (a : Asked) (d : Database) → IsAsked a → IsAreaDatabase d → cost_faults (present_asked a) d 0 d.links ≡ [] →
    All (λ cost. 0 < cost) (map (present_cost a) d.links)
present_above a d asked base none =
    each_above a d.links (subst (λ (ps : List Price). All IsLinkPrice ps) (present_prices_are a d 0 d.links)
    (prices_link (present_asked a) d 0 d.links (present_is_asked a asked) base.each_link none))
