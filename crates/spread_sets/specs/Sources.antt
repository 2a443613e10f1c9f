-- The source of a search for spread-fit costs: the sets of a problem, the rows that are known, and the forms that are
-- true.
use Rattle.std.specs.Prelude.{◌≡◌, ℕ, ◌+◌, ◌<◌, List, [], ◌∷◌, ◌++◌, map, length, drop, slice_index_or, All, AllPairs}
use Rattle.area_graph.specs.declared.Point.{Point}
use Rattle.area_graph.specs.Costs.{cost}
use Rattle.design_problem.specs.declared.boxes.CostBox.{CostBox}
use Rattle.design_problem.specs.Forms.{Form}
use Rattle.design_problem.specs.declared.problem.Request.{Request}
use Rattle.design_problem.specs.Problems.{DesignProblem, IsProblemOnGraph}
use Rattle.design_problem.specs.Rows.{form_between}
use Rattle.form_search.specs.Finds.{IsSearchResult}
use Rattle.form_search.specs.declared.found.Found.{Found}
use Rattle.cost_branching.specs.PossibleForms.{edge_lists}
use Rattle.set_separation.specs.Outsiders.{CostAtLeast, IsOutsider}
use Rattle.spread_sets.specs.declared.spread.SetRow.{SetRow}
use Rattle.spread_sets.specs.declared.spread.SetRow.TheVariants.{Same}
use Rattle.spread_sets.specs.declared.finding.Sought.{Sought}
use Rattle.spread_sets.specs.Spreads.{IsFormOfSetRow, IsSetRow, SetRowsDiffer, SharesEach, cost_of_set, ends_in, name_of_set, form_of_tie, forms_of_set_rows, paths_of}
use Rattle.spread_sets.specs.MemberSets.{AreDistinctSets, AreMemberSets}

-- a problem, its sets, and the rows that are known of them
pub record KnownSets : Type 0 where
  pub problem : DesignProblem
  pub sets : List (List ℕ)
  pub rows : List SetRow

-- the set at a place
abbrev pub set_at : List (List ℕ) → ℕ → List ℕ
set_at sets place = slice_index_or sets place []

-- a true form: that of a row of the sets
pub record IsTrueOfSets (p : DesignProblem) (sets : List (List ℕ)) (form : Form) : Type 0 where
  pub kept : IsProblemOnGraph p
  pub are : AreMemberSets p sets
  pub of_row : IsFormOfSetRow p sets form

-- every other simple path of the members' request costs at least the scale more
abbrev pub AreOutsidersDear : DesignProblem → Point → List ℕ → Type 0
AreOutsidersDear p point set = CostAtLeast p.graph point (ends_in p set) (paths_of p set) (cost_of_set p point set + point.scale)

-- an outsider of a set that costs less at a point than its first member and the scale
pub record IsOutsiderTooCheap (p : DesignProblem) (point : Point) (set : List ℕ) (edges : List ℕ) : Type 0 where
  pub outsider : IsOutsider p.graph (ends_in p set) (paths_of p set) edges
  pub cheap : cost p.graph point edges < cost_of_set p point set + point.scale

-- the rows that keep two members at one cost
abbrev pub both_ways : ℕ → ℕ → ℕ → List SetRow
both_ways name i j = Same name i j ∷ Same name j i ∷ []

-- the rows that keep each two neighbours of some members at one cost
abbrev pub ties_of : ℕ → List ℕ → List SetRow
ties_of name [] = []
ties_of name (i ∷ []) = []
ties_of name (i ∷ j ∷ more) = both_ways name i j ++ ties_of name (j ∷ more)

-- the rows that keep all members of a set at one cost: those of each two neighbours, both ways
abbrev pub ties_in : List ℕ → List SetRow
ties_in set = ties_of (name_of_set set) set

-- the rows with which a search begins: those of each set, in order
abbrev pub tie_rows : List (List ℕ) → List SetRow
tie_rows [] = []
tie_rows (set ∷ sets) = ties_in set ++ tie_rows sets

-- The rows are the sets', none twice where the sets are distinct; those with which the search began come first, and the
-- pool's forms are theirs, in order.
pub record IsPoolOfSets (s : KnownSets) (pool : List Form) : Type 0 where
  pub true_rows : All (IsSetRow s.problem s.sets) s.rows
  pub more : List SetRow
  pub begun : s.rows ≡ tie_rows s.sets ++ more
  pub once : AreDistinctSets s.sets → AllPairs SetRowsDiffer s.rows
  pub forms : pool ≡ forms_of_set_rows s.problem s.rows

-- the forms of the requests' paths with every list of edges that is short enough for a simple path
abbrev pub forms_of_pairs : DesignProblem → (List ℕ → List ℕ → Form) → List Request → List Form
forms_of_pairs p form [] = []
forms_of_pairs p form (r ∷ rs) = map (form r.path.edges) (edge_lists p) ++ forms_of_pairs p form rs

-- the forms that rows of sets can have
abbrev pub possible_forms_of : DesignProblem → List Form
possible_forms_of p = forms_of_pairs p (form_between p.graph (length p.low)) p.requests ++ forms_of_pairs p (form_of_tie p.graph (length p.low)) p.requests

-- what a search over a box found, by the forms of rows of the sets
pub record IsSpreadSought (p : DesignProblem) (sets : List (List ℕ)) (top nodes : ℕ) (box : CostBox) (sought : Sought) : Type 0 where
  pub true_rows : All (IsSetRow p sets) sought.rows.items
  pub once : AreDistinctSets sets → AllPairs SetRowsDiffer sought.rows.items
  pub found : IsSearchResult (SharesEach p sets) top nodes (forms_of_set_rows p sought.rows.items) box sought.found

-- what a search over a box found, by the forms of the rows that are known then
pub record IsFoundInStep (p : DesignProblem) (sets : List (List ℕ)) (top nodes : ℕ) (box : CostBox) (source : KnownSets) (found : Found) : Type 0 where
  pub forms : List Form
  pub lists : IsPoolOfSets source forms
  pub result : IsSearchResult (SharesEach p sets) top nodes forms box found

-- The rows of the set at a place were put up to those of its members before a number: with the rows of the members from
-- that one on they are all the rows of the set.
pub record AreTiesPut (place number : ℕ) (old : KnownSets) (old_forms : List Form) (new : KnownSets) (new_forms : List Form) : Type 0 where
  pub before : ℕ
  pub next : number ≡ before + 1
  pub problem : new.problem ≡ old.problem
  pub sets : new.sets ≡ old.sets
  pub rows : new.rows ++ ties_of (name_of_set (set_at old.sets place)) (drop before (set_at old.sets place)) ≡ old.rows ++ ties_in (set_at old.sets place)
  pub forms : new_forms ++ forms_of_set_rows old.problem
      (ties_of (name_of_set (set_at old.sets place)) (drop before (set_at old.sets place))) ≡ old_forms
      ++ forms_of_set_rows old.problem (ties_in (set_at old.sets place))
