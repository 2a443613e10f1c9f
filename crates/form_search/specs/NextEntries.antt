-- What comes next at an open place, and what is kept from box to box. No public clause cites it.
use Rattle.std.specs.Prelude.{◌≡◌, ℕ, ◌^◌, ◌≤◌, List, ◌++◌, length, nat_abs, false, All, Contains, ◌==◌, if◌then◌else◌}
use Rattle.std.specs.declared.ops.ControlFlow.{ControlFlow}
use Rattle.std.specs.declared.ops.ControlFlow.TheVariants.{Break, Continue}
use Rattle.area_graph.specs.declared.Point.{Point}
use Rattle.area_graph.specs.Costs.{at_costs}
use Rattle.design_problem.specs.Forms.{Form}
use Rattle.design_problem.specs.declared.boxes.CostBox.{CostBox}
use Rattle.design_problem.specs.declared.tree.Entry.{Entry}
use Rattle.design_problem.specs.declared.tree.Entry.TheVariants.{Tighten, Split, Halve, Refute, Undone}
use Rattle.design_problem.specs.declared.tree.Side.{Side}
use Rattle.design_problem.specs.Boxes.{IsInBox, Refutes}
use Rattle.design_problem.specs.Trees.{SoundAt, TightensAt, is_undone}
use Rattle.design_problem.specs.Earnest.{EarnestAt, IsLeastPoint, OpenPlace}
use Rattle.design_problem.specs.OpenPlaces.{Growing, grown, undones}
use Rattle.form_search.specs.declared.found.Found.{Found}
use Rattle.form_search.specs.declared.found.Found.TheVariants.{Costs as FoundCosts, Undecided}
use Rattle.form_search.specs.declared.desk.Next.{Next}
use Rattle.form_search.specs.declared.desk.Next.TheVariants.{Forms, Costs, Entry as ByEntry}
use Rattle.form_search.specs.declared.desk.Desk.{Desk}
use Rattle.form_search.specs.declared.watch.Watch.{Watch}
use Rattle.cut_advisors.specs.declared.candidate.Candidate.{Candidate}
use Rattle.design_problem.specs.SearchTrees.{IsShort}
use Rattle.form_search.specs.Points.{AreCostsThere, IsFractional}

-- an entry that may come next at the place, over the pool's forms
pub record IsNextEntry (accepted : Point → Type 0) (top : ℕ) (forms : List Form) (place : OpenPlace) (entry : Entry) : Type 0 where
  pub sound : SoundAt forms place.box entry
  pub earnest : EarnestAt accepted top forms place entry
  pub short : IsShort (length place.box.low) entry
  pub closed : is_undone entry ≡ false

-- a form in n variables, with coefficients of at most 2^26
pub record IsFormIn (n : ℕ) (form : Form) : Type 0 where
  pub count : length form.coefficients ≡ n
  pub sizes : All (λ c. nat_abs c ≤ 2 ^ 26) form.coefficients

-- forms in n variables, with coefficients of at most 2^26
abbrev pub AreFormsOf : ℕ → List Form → Type 0
AreFormsOf n forms = All (IsFormIn n) forms

-- the entry by one form: it may come next whatever the points that are accepted
abbrev pub IsNextRow : List Form → OpenPlace → Entry → Type 0
IsNextRow forms place (Tighten var side value row) = TightensAt forms place.box side var value row
    × EarnestAt (λ point. ⊥) 0 forms place (Tighten var side value row)
IsNextRow forms place (Split var value) = ⊥
IsNextRow forms place (Halve var value wide) = ⊥
IsNextRow forms place (Refute parts) = Refutes forms parts place.box × IsShort (length place.box.low) (Refute parts)
IsNextRow forms place Undone = ⊥

-- the Split at a candidate that is fractional at the point
pub record IsSplitAt (box : CostBox) (point : Point) (entry : Entry) : Type 0 where
  pub candidate : Candidate
  pub same : entry ≡ Split candidate.var candidate.floor
  pub fractional : IsFractional box point candidate

-- the pool has a form that it hadn't
pub record HasNew (old new : List Form) : Type 0 where
  pub form : Form
  pub is_new : Contains new form
  pub not_old : Contains old form → ⊥

-- what may come next at an open place: new forms, accepted costs that its box's least accepted point gives, or an entry
abbrev pub IsNextStep : (Point → Type 0) → ℕ → List Form → List Form → OpenPlace → Next → Type 0
IsNextStep accepted top old new place Forms = HasNew old new
IsNextStep accepted top old new place (Costs w) = IsInBox place.box w × accepted (at_costs w) × AreCostsThere (IsLeastPoint accepted) place.box w
IsNextStep accepted top old new place (ByEntry entry) = IsNextEntry accepted top new place entry

-- no Split comes next
abbrev pub IsUnsplit : Next → Type 0
IsUnsplit Forms = Unit {0}
IsUnsplit (Costs w) = Unit {0}
IsUnsplit (ByEntry (Tighten var side value row)) = Unit {0}
IsUnsplit (ByEntry (Split var value)) = ⊥
IsUnsplit (ByEntry (Halve var value wide)) = Unit {0}
IsUnsplit (ByEntry (Refute parts)) = Unit {0}
IsUnsplit (ByEntry Undone) = Unit {0}

-- what may come next at a box of one point, at whatever size of numbers and whatever was tightened: no Split
pub record IsNextOfPoint (accepted : Point → Type 0) (old new : List Form) (box : CostBox) (next : Next) : Type 0 where
  pub step : (top : ℕ) (since : List (ℕ × Side)) → IsNextStep accepted top old new (record { box = box; since = since }) next
  pub unsplit : IsUnsplit next

-- a watch has, for each of n variables, the forms that have it and the range that it had when ranges were compared last
pub record IsWatch (n : ℕ) (watch : Watch) : Type 0 where
  pub lists : length watch.forms_of.items ≡ n
  pub low : length watch.low.items ≡ n
  pub high : length watch.high.items ≡ n

-- what is kept from box to box, in n variables, with the size of the numbers that a step may need
pub record IsDesk (top n : ℕ) (desk : Desk) : Type 0 where
  pub same_top : desk.top ≡ top
  pub watch : IsWatch n desk.watch
  pub point : length desk.point.values ≡ n

-- an entry that comes next is sound over some forms
abbrev pub IsSoundNext : CostBox → Next → Type 0
IsSoundNext box Forms = Unit {0}
IsSoundNext box (Costs w) = Unit {0}
IsSoundNext box (ByEntry entry) = (forms : List Form) × SoundAt forms box entry

-- what a tree comes to by what comes next: the search goes on with the tree, maybe by one entry longer; it ends with
-- costs; or, where the tree has as many entries as it may have, it ends with an Undone at each open place
abbrev pub after_round : ℕ → Growing → Next → ControlFlow Found Growing
after_round nodes tree Forms = Continue tree
after_round nodes tree (Costs w) = Break (FoundCosts w)
after_round nodes tree (ByEntry entry) =
    if length tree.entries == nodes then Break (Undecided (tree.entries ++ undones (length tree.places))) else Continue (grown tree entry)
