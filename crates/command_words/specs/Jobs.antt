-- Jobs as contracts see them.
use Rattle.std.specs.Prelude.{ℕ, ◌<◌, ◌≤◌, ◌^◌, List, Option, option_map, string_bytes}
use Rattle.wide_fraction.specs.SearchLimits.{SearchLimits, limits_seen}
use Rattle.command_words.specs.declared.job.Search.{Search}
use Rattle.command_words.specs.declared.job.Job.{Job}
use Rattle.command_words.specs.declared.job.Job.TheVariants as variant
use Rattle.command_words.specs.declared.job.StepUnit.{StepUnit}
use Rattle.command_words.specs.declared.job.CommandName.{CommandName}
use Rattle.text_lines.specs.Arguments.{texts}

-- the bytes of a word
abbrev pub Text : Type 0
Text = List ℕ

-- what a search is asked
pub record SearchRead : Type 0 where
  pub request : Text
  pub limits : SearchLimits
  pub configs : List Text

-- what the words ask for
pub data JobRead : Type 0 where
  Design : (search : SearchRead) → JobRead
  Check : (request : Text) → (answer : Text) → (configs : List Text) → JobRead
  Audit : (request : Text) → (live : Option Text) → (configs : List Text) → JobRead
  Rewrite : (answer : Text) → (config : Text) → JobRead
  Trial : (blocks : ℕ) → (start : ℕ) → JobRead
  Conflict : (search : SearchRead) → JobRead
  Spread : (search : SearchRead) → (sets : Text) → JobRead
  Total : (search : SearchRead) → JobRead
  Change : (search : SearchRead) → JobRead
  Steps : (request : Text) → (answer : Text) → (nodes : ℕ) → (by : StepUnit) → (configs : List Text) → JobRead
  Compare : (live : Text) → (request : Text) → (configs : List Text) → JobRead
  Lsas : (request : Text) → (configs : List Text) → JobRead
  Route : (lsas : Text) → (from : ℕ) → (to : ℕ) → JobRead
  Help : (topic : Option CommandName) → JobRead
  Version : JobRead

-- a search with the bytes of its texts
abbrev pub search_seen : Search → SearchRead
search_seen search = record { request = string_bytes search.request; limits = limits_seen search.limits; configs = texts search.configs.items }

-- a job with the bytes of its texts
abbrev pub seen : Job → JobRead
seen (variant.Design search) = Design (search_seen search)
seen (variant.Check request answer configs) = Check (string_bytes request) (string_bytes answer) (texts configs.items)
seen (variant.Audit request live configs) = Audit (string_bytes request) (option_map string_bytes live) (texts configs.items)
seen (variant.Rewrite answer config) = Rewrite (string_bytes answer) (string_bytes config)
seen (variant.Trial blocks start) = Trial blocks start
seen (variant.Conflict search) = Conflict (search_seen search)
seen (variant.Spread search sets) = Spread (search_seen search) (string_bytes sets)
seen (variant.Total search) = Total (search_seen search)
seen (variant.Change search) = Change (search_seen search)
seen (variant.Steps request answer nodes by configs) =
    Steps (string_bytes request) (string_bytes answer) nodes by (texts configs.items)
seen (variant.Compare live request configs) = Compare (string_bytes live) (string_bytes request) (texts configs.items)
seen (variant.Lsas request configs) = Lsas (string_bytes request) (texts configs.items)
seen (variant.Route lsas from to) = Route (string_bytes lsas) from to
seen (variant.Help topic) = Help topic
seen variant.Version = Version

-- the numbers of a trial and the budget of `steps` are within their ranges
abbrev pub IsInRange : JobRead → Type 0
IsInRange (Trial blocks start) = (1 ≤ blocks) × (blocks ≤ 125) × (start < 2 ^ 31)
IsInRange (Steps request answer nodes by configs) = (1 ≤ nodes) × (nodes ≤ 10000000)
IsInRange _ = Unit {0}
