-- An area at the costs at which it runs, as the LSAs that count say them.
use Rattle.std.specs.Prelude.{ℕ, ◌+◌, List, [], ◌∷◌, ◌++◌, flat_map, map, slice_get, slice_index_or, is_some, Option, None, if◌then◌else◌}
use Rattle.std.specs.Option.{option_or}
use Rattle.interface_model.specs.Records.{Router}
use Rattle.lsdb_build.specs.declared.Linked.{Linked}
use Rattle.lsdb_build.specs.Graphs.{Database}
use Rattle.lsa_bytes.specs.declared.Lsa.{Lsa}
use Rattle.lsa_writer.specs.Ends.{end_of, router_id_in}
use Rattle.live_area.specs.declared.links.LiveLink.{LiveLink}
use Rattle.live_area.specs.LiveLinks.{live_links_of, metric_at}

-- the metric of the link of a linked interface, among these links; none where its configuration has no router ID
abbrev pub metric_among : List Router → List LiveLink → Linked → Option ℕ
metric_among configs live link = if is_some (router_id_in (slice_get configs link.router)) then metric_at (end_of configs link) live else None

-- the metric of the link of a linked interface, among the links of these LSAs
abbrev pub live_metric : List Router → List Lsa → Linked → Option ℕ
live_metric configs lsas link = metric_among configs (flat_map live_links_of lsas) link

-- a linked interface with a metric in place of its cost, if there is one
abbrev pub costed_by : Option ℕ → Linked → Linked
costed_by metric link = record link { cost = option_or metric link.cost }

-- an area with the metric of its link in place of each linked interface's cost, where it has a link
abbrev pub with_live_costs : List Router → List Lsa → Database → Database
with_live_costs configs lsas d = record d { links = map (λ link. costed_by (live_metric configs lsas link) link) d.links }

-- the numbers of the interfaces without a metric, of those from number l on
abbrev pub without_metric : ℕ → List (Option ℕ) → List ℕ
without_metric l [] = []
without_metric l (metric ∷ metrics) = (if is_some metric then [] else l ∷ []) ++ without_metric (l + 1) metrics

-- the numbers of the linked interfaces without a link
abbrev pub missing_links : List Router → List Lsa → List Linked → List ℕ
missing_links configs lsas links = without_metric 0 (map (live_metric configs lsas) links)

-- linked interfaces with the metrics at their places in place of their costs, from place l on
abbrev pub costed_from : List (Option ℕ) → ℕ → List Linked → List Linked
costed_from metrics l [] = []
costed_from metrics l (link ∷ links) = costed_by (slice_index_or metrics l None) link ∷ costed_from metrics (l + 1) links
