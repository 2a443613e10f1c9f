-- The bytes of LSAs of configurations say the graph of their database.
use Rattle.std.proofs.Common.{◌≡◌, ℕ, ◌<◌, List, [], ◌++◌, length, map, sym, ap, subst, ◌∙◌, None}
use Rattle.std.proofs.lemmas.Grind.{flat_map-append}
use Rattle.std.specs.Prelude.{All}
use Rattle.area_graph.specs.declared.Price.TheVariants.{Fixed}
use Rattle.interface_model.specs.Records.{Router, IsRouter}
use Rattle.lsdb_build.specs.declared.Linked.{Linked}
use Rattle.lsdb_build.specs.Graphs.{Database, graph_at}
use Rattle.lsa_bytes.specs.Ids.{first_id_fault}
use Rattle.lsa_bytes.specs.declared.Lsa.{Lsa}
use Rattle.lsa_bytes.specs.Databases.{HaveNoFault}
use Rattle.lsa_bytes.specs.Files.{Say}
use Rattle.lsa_bytes.specs.Written.{lsa_bytes, bytes_of_all}
use Rattle.lsa_bytes.proofs.RoundTrip.{written_says}
use Rattle.lsa_writer.specs.declared.ends.LinkEnd.{LinkEnd}
use Rattle.lsa_writer.specs.declared.said.OwnedLink.{OwnedLink}
use Rattle.lsa_writer.specs.Ends.{link_ends, designated_ends}
use Rattle.lsa_writer.specs.WrittenLsas.{said_links, router_lsas, network_lsas, all_links_said, written_lsas}
use Rattle.lsa_writer.specs.OneGraph.{IsDatabaseOf, SayGraph, IsRangedEnd, IsRangedLink, IsRangedId}
use Rattle.lsa_writer.proofs.ToldLinks.{told, lsas_are}
use Rattle.lsa_writer.proofs.Graphs.{one_graph}
use Rattle.lsa_writer.proofs.Faultless.{database, writable}
use Rattle.lsa_writer.proofs.Fits.{built_fits, ids_below}

-- what links said is what all links say
pub said_is : (configs : List Router) (d : Database) (links : List Linked) (subnets : List (List ℕ)) (costs : List ℕ)
    (ends chosen : List LinkEnd) (said : List OwnedLink) → links ≡ d.links → subnets ≡ d.subnets →
    ends ≡ link_ends configs links → chosen ≡ designated_ends ends subnets → said ≡ said_links configs chosen links costs →
    said ≡ all_links_said configs d costs
said_is configs d links subnets costs ends chosen said links_are subnets_are ends_are chosen_are said_are =
    said_are
    ∙ ap (λ (cs : List LinkEnd). said_links configs cs links costs)
    (chosen_are ∙ ap (λ (es : List LinkEnd). designated_ends es subnets) ends_are
    ∙ ap (λ (ms : List (List ℕ)). designated_ends (link_ends configs links) ms) subnets_are)
    ∙ ap (λ (ls : List Linked). said_links configs (designated_ends (link_ends configs ls) d.subnets) ls costs) links_are

-- the bytes that were added one after another
pub written_is : (configs : List Router) (d : Database) (links : List Linked) (subnets : List (List ℕ)) (costs : List ℕ)
    (ends : List LinkEnd) (said : List OwnedLink) (zero one two : List ℕ) → links ≡ d.links → subnets ≡ d.subnets →
    ends ≡ link_ends configs links → said ≡ all_links_said configs d costs → zero ≡ [] →
    one ≡ zero ++ bytes_of_all (router_lsas configs said) → two ≡ one ++ bytes_of_all (network_lsas ends subnets) →
    two ≡ bytes_of_all (written_lsas configs d costs)
written_is configs d links subnets costs ends said zero one two links_are subnets_are ends_are said_are none first second =
    let ends_is : ends ≡ link_ends configs d.links = ends_are ∙ ap (link_ends configs) links_are in
    second
    ∙ ap (λ (bytes : List ℕ). bytes ++ bytes_of_all (network_lsas ends subnets))
    (first ∙ ap (λ (bytes : List ℕ). bytes ++ bytes_of_all (router_lsas configs said)) none
    ∙ ap (λ (xs : List OwnedLink). bytes_of_all (router_lsas configs xs)) said_are)
    ∙ ap (λ (es : List LinkEnd). bytes_of_all (router_lsas configs (all_links_said configs d costs)) ++ bytes_of_all (network_lsas es subnets)) ends_is
    ∙ ap (λ (ms : List (List ℕ)). bytes_of_all (router_lsas configs (all_links_said configs d costs))
    ++ bytes_of_all (network_lsas (link_ends configs d.links) ms)) subnets_are
    ∙ sym (flat_map-append lsa_bytes (router_lsas configs (all_links_said configs d costs)) (network_lsas (link_ends configs d.links) d.subnets))

pub written_graph : (configs : List Router) (d : Database) (costs : List ℕ) → IsDatabaseOf configs d → All IsRouter configs →
    first_id_fault [] 0 configs ≡ None → length costs ≡ length d.links → All (λ cost. 0 < cost) costs →
    All (λ config. IsRangedId config.router_id) configs → All IsRangedEnd (link_ends configs d.links) →
    All IsRangedLink (all_links_said configs d costs) →
    SayGraph (bytes_of_all (written_lsas configs d costs)) (graph_at d (map Fixed costs))
written_graph configs d costs built valid known one_each priced ids ranged_ends ranged_links =
    let fit = built_fits configs d built valid known in
    let kept = database configs d costs fit priced in
    let are = lsas_are configs d costs in
    record {
      lsas = told configs d costs;
      said = subst (λ (lsas : List Lsa). Say (bytes_of_all (written_lsas configs d costs)) lsas) are
          (written_says (written_lsas configs d costs)
          (writable configs d costs fit priced ranged_ends ranged_links (ids_below configs ids))
          (subst HaveNoFault (sym are) kept.faultless));
      database = kept;
      graph = one_graph configs d costs fit one_each;
    }
