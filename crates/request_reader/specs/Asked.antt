-- What a request file asks for, as contracts see it.
use Rattle.std.specs.Prelude.{ℕ, ◌<◌, ◌≤◌, List, Bool, true, false, Option, IfSome, All, count_by}
use Rattle.request_reader.specs.declared.Directive.{Directive}
use Rattle.request_reader.specs.declared.Directive.TheVariants.{FreeAll, Free, Path}
use Rattle.request_reader.specs.declared.DirectiveLine.{DirectiveLine}

-- what a request file asks for: the area, a default cost, and its other lines with their numbers
pub record Asked : Type 0 where
  pub area : ℕ
  pub default_cost : Option ℕ
  pub items : List DirectiveLine

-- the bounds of a directive, where it is a `free` line: 1 ≤ LO ≤ HI
abbrev pub HasGoodBounds : Directive → Type 0
HasGoodBounds (FreeAll lo hi) = (1 ≤ lo) × (lo ≤ hi)
HasGoodBounds (Free router interface lo hi) = (1 ≤ lo) × (lo ≤ hi)
HasGoodBounds _ = Unit {0}

-- whether a directive is a wanted path
abbrev pub is_path_directive : Directive → Bool
is_path_directive (Path hops without) = true
is_path_directive _ = false

-- whether a line is a `path` line
abbrev pub is_path : DirectiveLine → Bool
is_path item = is_path_directive item.what

-- what each request file keeps: good bounds, no default cost 0, and at most 10,000 wanted paths
pub record IsAsked (a : Asked) : Type 0 where
  pub bounds : All (λ item. HasGoodBounds item.what) a.items
  pub default : IfSome a.default_cost (λ cost. 0 < cost)
  pub paths : count_by is_path a.items ≤ 10000
