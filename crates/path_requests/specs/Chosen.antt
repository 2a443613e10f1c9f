-- What a line says of all links, or of the one link that it names.
use Rattle.std.specs.Prelude.{List, if◌then◌else◌, Bool, true, false, Option, Some, None}
use Rattle.std.specs.List.{filter_map}
use Rattle.cost_base.specs.Lists.{last_of}
use Rattle.lsdb_build.specs.declared.Linked.{Linked}
use Rattle.lsdb_build.specs.Graphs.{Database}
use Rattle.request_reader.specs.declared.Directive.{Directive}
use Rattle.request_reader.specs.declared.Directive.TheVariants.{FreeAll, Free, Fix, SymmetricAll, Symmetric}
use Rattle.request_reader.specs.declared.DirectiveLine.{DirectiveLine}
use Rattle.request_reader.specs.Asked.{Asked}
use Rattle.path_requests.specs.Meaning.{Range, Within, AsItIs, range_said}
use Rattle.wanted_paths.specs.Paths.{is_link_named}

-- the range that a line gives to each link
abbrev pub said_of_all : Directive → Option Range
said_of_all (FreeAll lo hi) = Some (Within lo hi)
said_of_all _ = None

-- the range that a line gives to a link that it names
abbrev pub said_of_one : Database → Linked → Directive → Option Range
said_of_one d link (Free router interface lo hi) = if is_link_named d router interface link then Some (Within lo hi) else None
said_of_one d link (Fix router interface) = if is_link_named d router interface link then Some AsItIs else None
said_of_one d link _ = None

-- what the last of some lines that says a link's range says
abbrev pub last_said : Database → Linked → List DirectiveLine → Option Range
last_said d link items = last_of (filter_map (λ item. range_said d link item.what) items)

-- a line makes each link symmetric that has a link back
abbrev pub ties_all : Directive → Bool
ties_all SymmetricAll = true
ties_all _ = false

-- a line names the link as symmetric
abbrev pub ties_one : Database → Linked → Directive → Bool
ties_one d link (Symmetric router interface) = is_link_named d router interface link
ties_one d link _ = false

-- what a request file asks for, and the database that it is for
pub record Chosen : Type 0 where
  pub asked : Asked
  pub database : Database
