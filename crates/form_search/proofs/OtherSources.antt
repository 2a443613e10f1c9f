-- What comes next at a box, with another source that accepts the same points.
use Rattle.std.proofs.Common.{ℕ, List}
use Rattle.area_graph.specs.declared.Point.{Point}
use Rattle.area_graph.specs.Costs.{at_costs}
use Rattle.design_problem.specs.Forms.{Form}
use Rattle.design_problem.specs.declared.boxes.CostBox.{CostBox}
use Rattle.design_problem.specs.declared.tree.Entry.{Entry}
use Rattle.design_problem.specs.declared.tree.Entry.TheVariants.{Tighten, Split, Halve, Refute, Undone}
use Rattle.design_problem.specs.Earnest.{EarnestAt, IsLeastPoint, OpenPlace}
use Rattle.form_search.specs.declared.desk.Next.{Next}
use Rattle.form_search.specs.declared.desk.Next.TheVariants.{Forms, Costs, Entry as ByEntry}
use Rattle.form_search.specs.Sources.{SameFor}
use Rattle.form_search.specs.Points.{AreCostsThere}
use Rattle.form_search.specs.NextEntries.{IsNextStep}

pub least_same : (accepted other : Point → Type 0) (box : CostBox) (point : Point) → SameFor accepted other → IsLeastPoint accepted box point →
    IsLeastPoint other box point
least_same accepted other box point same least = record {
  inside = least.inside;
  accepted = (same point).0 least.accepted;
  least = λ q q_in q_is before. least.least q q_in ((same q).1 q_is) before;
}

pub swapped : (accepted other : Point → Type 0) → SameFor accepted other → SameFor other accepted
swapped accepted other same = λ x. ((same x).1, (same x).0)

earnest_same : (accepted other : Point → Type 0) (top : ℕ) (forms : List Form) (place : OpenPlace) (entry : Entry) →
    SameFor accepted other → EarnestAt accepted top forms place entry → EarnestAt other top forms place entry
earnest_same accepted other top forms place (Tighten var side value row) same earnest = earnest
earnest_same accepted other top forms place (Split var value) same earnest = record {
  point = earnest.point;
  least = least_same accepted other place.box earnest.point same earnest.least;
  above = earnest.above;
  below = earnest.below;
}
earnest_same accepted other top forms place (Halve var value wide) same earnest = earnest
earnest_same accepted other top forms place (Refute parts) same earnest = earnest
earnest_same accepted other top forms place Undone same earnest = earnest

-- costs of the least accepted point are so by a source that accepts the same points
pub costs_there_same : (accepted other : Point → Type 0) (box : CostBox) (w : List ℕ) → SameFor accepted other →
    AreCostsThere (IsLeastPoint accepted) box w → AreCostsThere (IsLeastPoint other) box w
costs_there_same accepted other box w same there = record {
  point = there.point;
  here = least_same accepted other box there.point same there.here;
  costs = there.costs;
}

-- what comes next by a source that accepts the same points
pub next_same : (accepted other : Point → Type 0) (top : ℕ) (old new : List Form) (place : OpenPlace) (next : Next) →
    SameFor accepted other → IsNextStep other top old new place next → IsNextStep accepted top old new place next
next_same accepted other top old new place Forms same is = is
next_same accepted other top old new place (Costs w) same is = (
  is.0,
  (same (at_costs w)).1 is.1,
  costs_there_same other accepted place.box w (swapped accepted other same) is.2,
)
next_same accepted other top old new place (ByEntry entry) same is = record {
  sound = is.sound;
  earnest = earnest_same other accepted top new place entry (swapped accepted other same) is.earnest;
  short = is.short;
  closed = is.closed;
}
