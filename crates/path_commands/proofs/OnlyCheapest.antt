-- At whole costs a path is the only cheapest where no rival costs less than it and one more.
use Rattle.std.proofs.Common.{◌≡◌, ℕ, refl, List, arith, Bool, true, false, IsTrue}
use Rattle.std.specs.Prelude.{◌↔◌, MatchBool, not}
use Rattle.std.proofs.lemmas.Bool.{false≢true}
use Rattle.area_graph.specs.declared.Point.{Point}
use Rattle.area_graph.specs.Area.{Area}
use Rattle.area_graph.specs.Paths.{Ends, IsPathOf}
use Rattle.area_graph.specs.Costs.{IsOnlyCheapest, LeadsBy}
use Rattle.rival_separation.specs.Rivals.{IsCheapestRival}

pub only_by_rival : (g : Area) (p : Point) (ends : Ends) (wanted rival : List ℕ) (found : Bool) → p.scale ≡ 1 → IsPathOf g ends wanted →
    MatchBool found (IsCheapestRival g p ends wanted rival) (LeadsBy p.scale g p ends wanted) → IsTrue (not found) ↔ IsOnlyCheapest g p ends wanted
only_by_rival g p ends wanted rival true whole path cheapest = (
  λ no. absurd (false≢true no),
  λ only. absurd (
      let less = only.others rival cheapest.rival.0 cheapest.rival.1 in
      let cheap = cheapest.cheap in
      omega arith),
)
only_by_rival g p ends wanted rival false whole path leads =
    (λ none. record { path = path; others = λ other its differs. let more = leads other its differs in omega arith }, λ only. refl)
