-- Points of a box, whole and fractional, and the candidates for a cut there.
use Rattle.std.specs.Prelude.{◌≡◌, ℕ, ◌⊎◌, zero, suc, ◌+◌, ◌*◌, ◌/◌, ◌^◌, ◌<◌, ◌≤◌, ◌%◌, ◌==◌, List, [], ◌∷◌, ◌++◌, slice_index, All, length, if◌then◌else◌}
use Rattle.area_graph.specs.declared.Point.{Point}
use Rattle.design_problem.specs.declared.boxes.CostBox.{CostBox}
use Rattle.design_problem.specs.Boxes.{IsBox}
use Rattle.design_problem.specs.Earnest.{IsLeastPoint}
use Rattle.form_search.specs.Sources.{scaled}
use Rattle.cut_advisors.specs.declared.candidate.Candidate.{Candidate}

-- every value of the point is a whole number
abbrev pub IsIntegralPoint : Point → Type 0
IsIntegralPoint point = All (λ x. x % point.scale ≡ 0) point.values

-- a box of costs from 1 on in n variables
pub record IsCostsBox (n : ℕ) (box : CostBox) : Type 0 where
  pub is_box : IsBox n box
  pub lows : All (λ low. 1 ≤ low) box.low
  pub highs : All (λ high. high ≤ 65535) box.high
  pub few : n < 2 ^ 32

-- the least accepted point of a box, of a scale below 2^100
pub record IsLeastOf (accepted : Point → Type 0) (box : CostBox) (point : Point) : Type 0 where
  pub least : IsLeastPoint accepted box point
  pub small : point.scale < 2 ^ 100

-- costs that a point gives: its values over the scale, where these are whole; where one isn't, the values themselves
abbrev pub AreCostsOf : Point → List ℕ → Type 0
AreCostsOf point w = (scaled w point.scale ≡ point) ⊎ ((IsIntegralPoint point → ⊥) × (w ≡ point.values))

-- the costs are those that the point gives which is asked for in the box
pub record AreCostsThere (IsHere : CostBox → Point → Type 0) (box : CostBox) (w : List ℕ) : Type 0 where
  pub point : Point
  pub here : IsHere box point
  pub costs : AreCostsOf point w

-- the candidate's variable is fractional at the point, between its floor and the next whole number, and its range is
-- the box's
pub record IsFractional (box : CostBox) (point : Point) (candidate : Candidate) : Type 0 where
  pub known : candidate.var < length point.values
  pub above : candidate.floor * point.scale < slice_index point.values candidate.var
  pub below : slice_index point.values candidate.var < (candidate.floor + 1) * point.scale
  pub low : candidate.low ≡ slice_index box.low candidate.var
  pub high : candidate.high ≡ slice_index box.high candidate.var

-- a variable as a candidate: its value rounded down, and its range
abbrev pub candidate_at : CostBox → Point → ℕ → Candidate
candidate_at box point var = record {
  var = var;
  floor = slice_index point.values var / point.scale;
  low = slice_index box.low var;
  high = slice_index box.high var;
}

-- the candidate of a variable, if its value isn't whole
abbrev pub candidate_of : CostBox → Point → ℕ → List Candidate
candidate_of box point var = if slice_index point.values var % point.scale == 0 then [] else candidate_at box point var ∷ []

-- the candidates among the first n variables
abbrev pub candidates_below : CostBox → Point → ℕ → List Candidate
candidates_below box point zero = []
candidates_below box point (suc n) = candidates_below box point n ++ candidate_of box point n

-- the candidates of a point: all variables whose values aren't whole there, in rising order
abbrev pub candidates_at : CostBox → Point → List Candidate
candidates_at box point = candidates_below box point (length point.values)
