-- Links found by the ends of linked interfaces, and routers by their IDs. No public clause cites it.
use Rattle.std.specs.Prelude.{◌≡◌, ℕ, List, [], ◌∷◌, Option, Some, None, if◌then◌else◌}
use Rattle.std.specs.List.{list_any}
use Rattle.std.specs.Ordering.{nat_cmp}
use Rattle.std.specs.BTreeSet.{BTreeSet, contains}
use Rattle.indexmap.specs.IndexMap.{IndexMap, get}
use Rattle.lsa_writer.specs.declared.ends.LinkEnd.{LinkEnd}
use Rattle.live_area.specs.declared.links.LiveLink.{LiveLink}
use Rattle.live_area.specs.declared.metrics.LinkName.{LinkName}
use Rattle.live_area.specs.LiveLinks.{is_end_named, is_link_named_so, same_link}
use Rattle.live_area.specs.Differences.{has_address}

-- the metric of the first link of a name
abbrev pub metric_named : LinkName → List LiveLink → Option ℕ
metric_named name [] = None
metric_named name (link ∷ more) = if is_link_named_so name link then Some link.metric else metric_named name more

-- what is noted of a name behind a link that it names: the first metric
abbrev pub metric_noted : Option (Option ℕ) → ℕ → Option (Option ℕ)
metric_noted None metric = None
metric_noted (Some None) metric = Some (Some metric)
metric_noted (Some (Some first)) metric = Some (Some first)

-- the look-up has the ends' names, and of each the metric of the first link of that name
abbrev pub HasLinkMetrics : {S : Type 0} → IndexMap LinkName (Option ℕ) S → List LinkEnd → List LiveLink → Type 0
HasLinkMetrics by_name ends links = (name : LinkName) →
    get same_link by_name name ≡ (if list_any (is_end_named name) ends then Some (metric_named name links) else None)

-- the look-up has the data of these links
abbrev pub HaveAddresses : BTreeSet ℕ → List LiveLink → Type 0
HaveAddresses seen links = (address : ℕ) → contains nat_cmp seen address ≡ list_any (has_address address) links
