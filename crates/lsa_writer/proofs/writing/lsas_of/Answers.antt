use Rattle.std.proofs.Common.{◌≡◌, ◌∙◌, ◌≤◌, List, ℕ, sym, ap, subst, arith, length, All, map}
use Rattle.std.proofs.lemmas.List.Elements.{All-weaker}
use Rattle.area_graph.specs.declared.Price.TheVariants.{Fixed}
use Rattle.lsdb_build.specs.Graphs.{Database, IsAreaDatabase, graph_at}
use Rattle.lsdb_build.proofs.GraphLaws.{AreMembers, members_fit}
use Rattle.lsa_writer.specs.declared.ends.LinkEnd.{LinkEnd}
use Rattle.lsa_writer.specs.declared.said.OwnedLink.{OwnedLink}
use Rattle.lsa_writer.specs.Ends.{link_ends, designated_ends}
use Rattle.lsa_writer.specs.OneGraph.{SayGraph, IsRangedEnd, IsRangedLink}
use Rattle.lsa_writer.specs.WrittenLsas.{all_links_said}
use Rattle.lsa_writer.proofs.LinkGroups.{AreInOrder}
use Rattle.lsa_writer.proofs.ToldLinks.{said_order, said_length}
use Rattle.lsa_writer.proofs.Written.{said_is, written_is, written_graph}
use Rattle.lsa_writer.proofs.writing.lsas_of.Goals.{After-deref-6}
use Rattle.lsa_writer.proofs.writing.lsas_of.Goals as goal

-- the links and the subnets that the code reads are the database's
links_are : (c : After-deref-6) → c.as_slice-links.result.now ≡ c.args.lsdb.now.links
links_are c = c.as_slice-links.ensures ∙ ap (λ (x : Database). x.links) c.lsdb.view_is

subnets_are : (c : After-deref-6) → c.as_slice-subnets.result.now ≡ c.args.lsdb.now.subnets
subnets_are c = c.as_slice-subnets.ensures ∙ ap (λ (x : Database). x.subnets) c.lsdb.view_is

-- and it keeps what each database keeps
base : (c : After-deref-6) → IsAreaDatabase c.args.lsdb.now
base c = subst (λ (x : Database). IsAreaDatabase x) c.lsdb.view_is c.lsdb.invariant

-- what the routers say of their links
said : (c : After-deref-6) → c.deref-6.result.now ≡ all_links_said c.args.configs.now c.args.lsdb.now c.args.costs.now
said c =
    let configs = c.args.configs.now in
    let d = c.args.lsdb.now in
    said_is configs d c.as_slice-links.result.now c.as_slice-subnets.result.now c.args.costs.now c.in_ok-ends.ends.items
    c.deref-3.result.now c.deref-6.result.now
    (links_are c) (subnets_are c) c.in_ok-ends.ensures
    (c.deref-3.ensures.value ∙ c.in_ok-designated.ensures
    ∙ ap (λ (es : List LinkEnd). designated_ends es c.as_slice-subnets.result.now) c.deref.ensures.value)
    (c.deref-6.ensures.value ∙ c.in_ok-said.ensures)

pub push_router_lsas-requires-clause-in_order : goal.push_router_lsas-requires-clause-in_order
push_router_lsas-requires-clause-in_order c =
    let d = c.args.lsdb.now in
    let configs = c.args.configs.now in
    let at = (goal.at.push_router_lsas-requires-clause-in_order c).After-deref-6 in
    subst AreInOrder (sym (said at)) (said_order configs (designated_ends (link_ends configs d.links) d.subnets) d.links c.args.costs.now (base at).in_order)

pub push_router_lsas-requires-clause-few : goal.push_router_lsas-requires-clause-few
push_router_lsas-requires-clause-few c =
    let d = c.args.lsdb.now in
    let configs = c.args.configs.now in
    let at = (goal.at.push_router_lsas-requires-clause-few c).After-deref-6 in
    let few = (base at).links in
    omega (arith, ap length (said at), said_length configs (designated_ends (link_ends configs d.links) d.subnets) d.links c.args.costs.now, few)

pub push_network_lsas-requires-clause-few_members : goal.push_network_lsas-requires-clause-few_members
push_network_lsas-requires-clause-few_members c =
    let d = c.args.lsdb.now in
    let at = (goal.at.push_network_lsas-requires-clause-few_members c).After-deref-6 in
    let few = (base at).links in
    subst (λ (subnets : List (List ℕ)). All (λ members. length members ≤ 4000) subnets) (sym (subnets_are at))
    (All-weaker (AreMembers (length d.links)) (λ ms. length ms ≤ 4000) (λ ms m. omega (arith, m.few, few)) d.subnets (members_fit d (base at)))

pub returns-clause-written : goal.returns-clause-written
returns-clause-written c =
    let at = (goal.at.returns-clause-written c).After-deref-6 in
    written_is c.args.configs.now c.args.lsdb.now c.as_slice-links.result.now c.as_slice-subnets.result.now
    c.args.costs.now c.deref-7.result.now c.deref-6.result.now c.new-bytes.result.items
    c.push_router_lsas.new.bytes.items c.push_network_lsas.new.bytes.items
    (links_are at) (subnets_are at) (c.deref-7.ensures.value ∙ c.in_ok-ends.ensures) (said at) c.new-bytes.ensures.items
    c.in_ok-push_router_lsas.ensures c.in_ok-push_network_lsas.ensures

pub returns-clause-one_graph : goal.returns-clause-one_graph
returns-clause-one_graph c =
    let d = c.args.lsdb.now in
    let configs = c.args.configs.now in
    let costs = c.args.costs.now in
    let at = (goal.at.returns-clause-one_graph c).After-deref-6 in
    let bytes = written_is configs d c.as_slice-links.result.now c.as_slice-subnets.result.now costs
    c.deref-7.result.now c.deref-6.result.now c.new-bytes.result.items c.push_router_lsas.new.bytes.items
    c.push_network_lsas.new.bytes.items
    (links_are at) (subnets_are at) (c.deref-7.ensures.value ∙ c.in_ok-ends.ensures) (said at) c.new-bytes.ensures.items
    c.in_ok-push_router_lsas.ensures c.in_ok-push_network_lsas.ensures in
    let ends : c.deref-4.result.now ≡ link_ends configs d.links = c.deref-4.ensures.value ∙ c.in_ok-ends.ensures ∙ ap (link_ends configs) (links_are at) in
    subst (λ (bs : List ℕ). SayGraph bs (graph_at d (map Fixed costs))) (sym bytes)
    (written_graph configs d costs c.requires.built c.keeps_configs.ensures.valid c.requires.ids c.requires.one_each
    c.requires.priced c.keeps_configs.ensures.ids
    (subst (λ (es : List LinkEnd). All IsRangedEnd es) ends c.keeps_ends.ensures)
    (subst (λ (xs : List OwnedLink). All IsRangedLink xs) (c.deref-5.ensures.value ∙ sym c.deref-6.ensures.value
    ∙ said at) c.keeps_said.ensures))
