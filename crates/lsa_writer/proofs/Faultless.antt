-- Written LSAs have no fault, and can be written.
use Rattle.std.proofs.Common.{◌≡◌, ℕ, ◌^◌, ◌<◌, ◌≤◌, refl, sym, ◌∙◌, ap, subst, List, [], length, get_or, arith, true, false, Some, slice_get, zero-add}
use Rattle.std.specs.Prelude.{All, AllPairs, count_by, ◌==◌, ◌||◌}
use Rattle.std.proofs.lemmas.Bool.{ne_eqb, and_right}
use Rattle.std.proofs.lemmas.Option.{same_Some, slice_get-get_or, slice_get_within, get_or_from_slice_get}
use Rattle.std.proofs.lemmas.List.{length-map, length-append}
use Rattle.std.proofs.lemmas.List.Elements.{All-append, All-map, All-filter, All-weaker}
use Rattle.std.proofs.lemmas.List.Folds.{list_any_none}
use Rattle.std.proofs.lemmas.List.Sums.{list_all-from_AllPass, length-filter, count_by-le-length, sum_by-le}
use Rattle.cost_base.specs.Lists.{numbers_from}
use Rattle.interface_model.specs.Records.{Router as Config}
use Rattle.lsdb_build.specs.declared.Far.{Far}
use Rattle.lsdb_build.specs.declared.Far.TheVariants.{Router, Subnet}
use Rattle.lsdb_build.specs.Graphs.{Database}
use Rattle.lsdb_build.proofs.Pairs.{all_at, all_from_at, at_map}
use Rattle.lsdb_build.proofs.GraphLaws.{AreMembers, members_fit, members_below}
use Rattle.lsa_bytes.specs.declared.LsaLink.{LsaLink}
use Rattle.lsa_bytes.specs.declared.Lsa.{Lsa}
use Rattle.lsa_bytes.specs.Grammar.{is_link_type}
use Rattle.lsa_bytes.specs.Databases.{HaveNoFault, IsLsaDatabase, is_router_lsa, is_same, is_zero_link, has_zero_metric, has_link_types, size_of_lsa}
use Rattle.lsa_bytes.specs.Written.{IsWritableLink, IsWritable}
use Rattle.lsa_writer.specs.declared.ends.LinkEnd.{LinkEnd}
use Rattle.lsa_writer.specs.declared.said.OwnedLink.{OwnedLink}
use Rattle.lsa_writer.specs.Ends.{id_of, no_end, end_of, link_ends, end_at, designated, member_ends, designated_ends}
use Rattle.lsa_writer.specs.WrittenLsas.{lsa_link, said_link, links_alone, own_links, own_lsa, routers_in, router_lsas, subnet_lsa, network_lsas, all_links_said, written_lsas}
use Rattle.lsa_writer.specs.OneGraph.{IsRangedEnd, IsRangedLink}
use Rattle.cost_base.proofs.ListLemmas.{length-numbers_from, pairs_append}
use Rattle.lsa_writer.proofs.ListPlaces.{number_there}
use Rattle.lsa_writer.proofs.Elections.{elected}
use Rattle.lsa_writer.proofs.ToldLinks.{AreFit, own, of_subnet, own_all, of_subnets, told, routers_are, own_length, own_at, said_every, said_length, one_subnet}

-- what holds of all links holds of a router's
own_every : (P : LsaLink → Type 0) (router : ℕ) (said : List OwnedLink) → All (λ s. P s.link) said → All P (links_alone (own_links router said))
own_every P router said all =
    All-map P (λ (s : OwnedLink). s.link) (own_links router said) (All-filter (λ (s : OwnedLink). s.router == router) (λ (s : OwnedLink). P s.link) said all)

-- what holds of all ends holds of the members'
member_every : (P : LinkEnd → Type 0) (ends : List LinkEnd) (members : List ℕ) → All P ends →
    All (λ l. l < length ends) members → All P (member_ends ends members)
member_every P ends members all below =
    All-map P (end_at ends) members (All-weaker (λ l. l < length ends) (λ l. P (end_at ends l)) (λ l within. all l no_end within) members below)

kind_fits : (configs : List Config) (ds : List LinkEnd) (from : LinkEnd) (far : Far) (cost : ℕ) → is_link_type (lsa_link configs ds from far cost).kind ≡ true
kind_fits configs ds from (Router r) cost = refl
kind_fits configs ds from (Subnet s) cost = refl

metric_is : (configs : List Config) (ds : List LinkEnd) (from : LinkEnd) (far : Far) (cost : ℕ) → (lsa_link configs ds from far cost).metric ≡ cost
metric_is configs ds from (Router r) cost = refl
metric_is configs ds from (Subnet s) cost = refl

module _ (configs : List Config) (d : Database) (costs : List ℕ) (fit : AreFit configs d) (priced : All (λ cost. 0 < cost) costs) where
  abbrev ends : List LinkEnd
  ends = link_ends configs d.links

  abbrev chosen : List LinkEnd
  chosen = designated_ends ends d.subnets

  abbrev said : List OwnedLink
  said = all_links_said configs d costs

  abbrev lsas : List Lsa
  lsas = told configs d costs

  kinds : All (λ s. is_link_type s.link.kind ≡ true) said
  kinds = said_every configs chosen (λ s. is_link_type s.link.kind ≡ true) d.links costs
      (λ k link cost at cost_at. kind_fits configs chosen (end_of configs link) link.to cost)

  no_zero : All (λ s. is_zero_link s.link ≡ false) said
  no_zero = said_every configs chosen (λ s. is_zero_link s.link ≡ false) d.links costs (λ k link cost at cost_at.
      (let some : 0 < cost = all_at (λ x. 0 < x) costs priced k cost cost_at in
      let metric = metric_is configs chosen (end_of configs link) link.to cost in
      and_right ((said_link configs chosen link cost).link.kind == 1
      || (said_link configs chosen link cost).link.kind == 2)
      ((said_link configs chosen link cost).link.metric == 0)
      (ne_eqb (said_link configs chosen link cost).link.metric 0 (λ none. omega (arith, some, metric, none)))))

  types : All (λ lsa. has_link_types lsa.body ≡ true) lsas
  types =
      All-append (λ lsa. has_link_types lsa.body ≡ true) (own_all configs said) (of_subnets ends d.subnets)
      (All-map (λ lsa. has_link_types lsa.body ≡ true) (own configs said) (numbers_from 0 (length configs)) (λ k z within.
      list_all-from_AllPass (λ link. is_link_type link.kind)
      (links_alone (own_links (get_or (numbers_from 0 (length configs)) k z) said))
      (own_every (λ link. is_link_type link.kind ≡ true) (get_or (numbers_from 0 (length configs)) k z)
      said kinds)))
      (All-map (λ lsa. has_link_types lsa.body ≡ true) (of_subnet ends) d.subnets (λ k z within. refl))

  metrics : All (λ lsa. has_zero_metric lsa.body ≡ false) lsas
  metrics =
      All-append (λ lsa. has_zero_metric lsa.body ≡ false) (own_all configs said) (of_subnets ends d.subnets)
      (All-map (λ lsa. has_zero_metric lsa.body ≡ false) (own configs said) (numbers_from 0 (length configs)) (λ k z within.
      list_any_none is_zero_link (links_alone (own_links (get_or (numbers_from 0 (length configs)) k z) said))
      (own_every (λ link. is_zero_link link ≡ false) (get_or (numbers_from 0 (length configs)) k z) said no_zero)))
      (All-map (λ lsa. has_zero_metric lsa.body ≡ false) (of_subnet ends) d.subnets (λ k z within. refl))

  abbrev Differ : Lsa → Lsa → Type 0
  Differ earlier lsa = is_same lsa earlier ≡ false

  routers_differ : AllPairs Differ (own_all configs said)
  routers_differ = λ i j z below within.
      (let high : j < length configs = omega (arith, within, own_length configs said) in
      let low : i < length configs = omega (arith, below, high) in
      let first = get_or_from_slice_get (own_all configs said) i (own configs said i) z (own_at configs said i low) in
      let second = get_or_from_slice_get (own_all configs said) j (own configs said j) z (own_at configs said j high) in
      subst (λ (x : Lsa). Differ x (get_or (own_all configs said) j z)) (sym first) (subst (λ (y : Lsa). Differ (own configs said i) y) (sym second)
      (ne_eqb (id_of configs i) (id_of configs j) (λ same. (let one = fit.ids i j low high same in omega (arith, below, one))))))

  networks_differ : AllPairs Differ (of_subnets ends d.subnets)
  networks_differ = λ i j z below within.
      (let high : j < length d.subnets = omega (arith, within, length-map d.subnets (of_subnet ends)) in
      let low : i < length d.subnets = omega (arith, below, high) in
      let at_i = slice_get-get_or d.subnets i [] low in
      let at_j = slice_get-get_or d.subnets j [] high in
      let first = get_or_map i low z in
      let second = get_or_map j high z in
      subst (λ (x : Lsa). Differ x (get_or (of_subnets ends d.subnets) j z)) (sym first)
      (subst (λ (y : Lsa). Differ (of_subnet ends (get_or d.subnets i [])) y) (sym second)
      (ne_eqb (designated (member_ends ends (get_or d.subnets i []))).address (designated (member_ends ends (get_or d.subnets j []))).address
      (λ same. (let one = one_subnet configs d j i (get_or d.subnets j []) (get_or d.subnets i []) fit at_j at_i same in omega (arith, below, one))))))
    where
      get_or_map : (k : ℕ) → k < length d.subnets → (z : Lsa) → get_or (of_subnets ends d.subnets) k z ≡ of_subnet ends (get_or d.subnets k [])
      get_or_map k within z = get_or_from_slice_get (of_subnets ends d.subnets) k
          (of_subnet ends (get_or d.subnets k [])) z
          (at_map (of_subnet ends) d.subnets k (get_or d.subnets k []) (slice_get-get_or d.subnets k [] within))

  different : AllPairs Differ lsas
  different =
      pairs_append Differ (own_all configs said) (of_subnets ends d.subnets) routers_differ networks_differ
      (All-map (λ x. All (Differ x) (of_subnets ends d.subnets)) (own configs said) (numbers_from 0 (length configs)) (λ k z within.
      All-map (Differ (own configs said (get_or (numbers_from 0 (length configs)) k z))) (of_subnet ends) d.subnets (λ j w inside. refl)))

  few_routers : count_by is_router_lsa lsas ≤ 1000
  few_routers = omega (arith, length-filter is_router_lsa lsas, ap length (routers_are configs d costs), own_length configs said, fit.count, fit.base.routers)

  no_fault : HaveNoFault lsas
  no_fault = record { types = types; different = different; metrics = metrics; routers = few_routers }

  own_few : (router : ℕ) → length (links_alone (own_links router said)) ≤ 4000
  own_few router =
      omega (
        arith,
        length-map (own_links router said) (λ (s : OwnedLink). s.link),
        length-filter (λ (s : OwnedLink). s.router == router) said,
        count_by-le-length (λ (s : OwnedLink). s.router == router) said,
        said_length configs chosen d.links costs,
        fit.base.links,
      )

  routers_length : (members : List ℕ) → length (routers_in (member_ends ends members)) ≡ length members
  routers_length members = length-map (member_ends ends members) (λ (e : LinkEnd). e.router) ∙ length-map members (end_at ends)

  members_few : (k : ℕ) (members : List ℕ) → slice_get d.subnets k ≡ Some members → length members ≤ 4000
  members_few k members at = (let is =
      all_at (λ ms. length ms ≤ length d.links) d.subnets
      (All-weaker (AreMembers (length d.links)) (λ ms. length ms ≤ length d.links) (λ ms m. m.few) d.subnets
      (members_fit d fit.base)) k members at in omega (arith, is, fit.base.links))

  sizes : All (λ lsa. size_of_lsa lsa ≤ 4001) lsas
  sizes =
      All-append (λ lsa. size_of_lsa lsa ≤ 4001) (own_all configs said) (of_subnets ends d.subnets)
      (All-map (λ lsa. size_of_lsa lsa ≤ 4001) (own configs said) (numbers_from 0 (length configs))
      (λ k z within. omega (arith, own_few (get_or (numbers_from 0 (length configs)) k z))))
      (All-map (λ lsa. size_of_lsa lsa ≤ 4001) (of_subnet ends) d.subnets
      (all_from_at (λ ms. size_of_lsa (of_subnet ends ms) ≤ 4001) d.subnets
      (λ k ms at. omega (arith, members_few k ms at, routers_length ms))))

  pub database : IsLsaDatabase lsas
  database =
      let many : length lsas ≤ 5000 =
      omega (
        arith,
        length-append (own_all configs said) (of_subnets ends d.subnets),
        own_length configs said,
        fit.count,
        fit.base.routers,
        length-map d.subnets (of_subnet ends),
        fit.base.subnets,
      ) in
      record { faultless = no_fault; small = omega (arith, sum_by-le size_of_lsa 4001 lsas sizes, many) }

  -- where the numbers are within their ranges, each LSA can be written
  pub writable : All IsRangedEnd ends → All IsRangedLink said →
      ((router : ℕ) → router < length configs → id_of configs router < 2 ^ 32) →
      All IsWritable (written_lsas configs d costs)
  writable ranged_ends ranged_links ids =
      All-append IsWritable (router_lsas configs said) (network_lsas ends d.subnets)
      (All-map IsWritable (own_lsa configs said) (numbers_from 0 (length configs))
      (all_from_at (λ r. IsWritable (own_lsa configs said r)) (numbers_from 0 (length configs))
      (λ k r at. router_writable r (below k r at))))
      (All-map IsWritable (subnet_lsa ends) d.subnets (all_from_at (λ ms. IsWritable (subnet_lsa ends ms)) d.subnets network_writable))
    where
      below : (k r : ℕ) → slice_get (numbers_from 0 (length configs)) k ≡ Some r → r < length configs
      below k r at =
          let within : k < length configs = omega (arith, slice_get_within (numbers_from 0 (length configs)) k r at, length-numbers_from 0 (length configs)) in
          subst (λ x. x < length configs) (same_Some k r (sym (number_there 0 (length configs) k within ∙ ap Some (zero-add k)) ∙ at)) within

      links_fit : All (λ s. IsWritableLink s.link) said
      links_fit = λ k z within. (let ranged = ranged_links k z within in
          record { id = ranged.id; address = ranged.address; kind = kinds k z within; metric = ranged.metric })

      router_writable : (r : ℕ) → r < length configs → IsWritable (own_lsa configs said r)
      router_writable r known = record { id = ids r known; router = ids r known; body = (own_every IsWritableLink r said links_fit, omega (arith, own_few r)) }

      network_writable : (k : ℕ) (members : List ℕ) → slice_get d.subnets k ≡ Some members → IsWritable (subnet_lsa ends members)
      network_writable k members at =
          let inside = all_at (All (λ l. l < length d.links)) d.subnets (members_below d fit.base) k members at in
          let ranged = member_every IsRangedEnd ends members ranged_ends
          (All-weaker (λ l. l < length d.links) (λ l. l < length ends)
          (λ l h. omega (arith, h, length-map d.links (end_of configs))) members inside) in
          let some = fit.members k members at in
          let won = elected (member_ends ends members) (omega (arith, some, length-map members (end_at ends))) in
          let from = all_at IsRangedEnd (member_ends ends members) ranged won.0 (designated (member_ends ends members)) won.1 in
          record {
            id = from.address;
            router = from.router;
            body = (
              All-map (λ r. r < 2 ^ 32) (λ (e : LinkEnd). e.router) (member_ends ends members)
                  (All-weaker IsRangedEnd (λ e. e.router < 2 ^ 32) (λ e h. h.router) (member_ends ends members) ranged),
              omega (arith, some, routers_length members),
              omega (arith, members_few k members at, routers_length members),
            );
          }
