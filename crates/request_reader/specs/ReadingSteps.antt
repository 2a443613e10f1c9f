-- What the reader of a request file keeps while it takes the statements.
use Rattle.std.specs.Prelude.{◌≡◌, ℕ, ◌≤◌, List, [], ◌∷◌, ◌++◌, Option, Some, IfSome, All, count_by, ◌<◌}
use Rattle.request_reader.specs.declared.DirectiveLine.{DirectiveLine}
use Rattle.request_reader.specs.declared.reading.statement.Statement.{Statement}
use Rattle.request_reader.specs.declared.reading.statement.Statement.TheVariants.{Area, DefaultCost, Ask, Refused}
use Rattle.request_reader.specs.Asked.{HasGoodBounds, is_path}
use Rattle.request_reader.specs.Reading.{Told}

-- what is said together with one statement more, in the line of number n, that has no fault
abbrev pub told_with : Told → ℕ → Statement → Told
told_with told n (Area a) = record told { area = Some a }
told_with told n (DefaultCost cost) = record told { default_cost = Some cost }
told_with told n (Ask directive) = record told { items = told.items ++ record { line = n; what = directive } ∷ [] }
told_with told n (Refused fault) = told

-- what a line says keeps the rules of request files
abbrev pub KeepsRules : Statement → Type 0
KeepsRules (Ask directive) = HasGoodBounds directive
KeepsRules (DefaultCost cost) = 0 < cost
KeepsRules _ = Unit {0}

-- items and a default cost keep the rules of request files, and there are so many paths
pub record KeepsTold (default_cost : Option ℕ) (paths : ℕ) (items : List DirectiveLine) : Type 0 where
  pub bounds : All (λ item. HasGoodBounds item.what) items
  pub default : IfSome default_cost (λ cost. 0 < cost)
  pub counted : count_by is_path items ≡ paths
  pub few : paths ≤ 10000
