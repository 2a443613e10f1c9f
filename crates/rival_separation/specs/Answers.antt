-- The answer on a request's rivals.
use Rattle.std.specs.Prelude.{ℕ, List}
use Rattle.area_graph.specs.declared.Point.{Point}
use Rattle.area_graph.specs.Area.{Area}
use Rattle.area_graph.specs.Paths.{Ends}
use Rattle.area_graph.specs.Costs.{LeadsBy}
use Rattle.rival_separation.specs.declared.rival.Rival.{Rival}
use Rattle.rival_separation.specs.declared.rival.Rival.TheVariants.{Free, Cheaper}
use Rattle.rival_separation.specs.Rivals.{IsCheapestRival}

-- every rival costs at least the scale more than the wanted path, or the cheapest rival costs less than that
abbrev pub IsRivalAnswer : Area → Point → Ends → List ℕ → Rival → Type 0
IsRivalAnswer g p ends wanted Free = LeadsBy p.scale g p ends wanted
IsRivalAnswer g p ends wanted (Cheaper es) = IsCheapestRival g p ends wanted es.now
