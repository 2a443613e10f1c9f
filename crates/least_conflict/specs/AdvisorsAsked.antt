-- How the searches that decide sets of requests call the advisors: which sets are decided, in order, and what is found
-- by them.
use Rattle.std.specs.Prelude.{◌≡◌, ℕ, ◌<◌, ◌≤◌, ◌==◌, List, [], ◌∷◌, ◌++◌, map, length, slice_index, Bool, true, false}
use Rattle.std.specs.List.{list_any, remove}
use Rattle.design_problem.specs.declared.form.Row.{Row}
use Rattle.design_problem.specs.declared.tree.Entry.{Entry}
use Rattle.design_problem.specs.Problems.{DesignProblem, restricted}
use Rattle.design_problem.specs.Answers.{greatest_bound}
use Rattle.cut_advisors.specs.declared.advisor.Advisor.{Ghosts}
use Rattle.cut_advisors.specs.declared.candidate.Candidate.{Candidate}
use Rattle.form_search.specs.declared.found.Found.{Found}
use Rattle.form_search.specs.declared.found.Found.TheVariants.{Costs, Refuted, Undecided}
use Rattle.printed_rows.specs.NewNumbers.{IsTreePrinted}
use Rattle.form_search.specs.AdvisorsAsked.{by_rules}
use Rattle.cost_branching.specs.Pools.{Pooled}
use Rattle.cost_branching.specs.AdvisorsAsked.{AreAskedInTurn, IsAskedAt}
use Rattle.least_conflict.specs.declared.conflict.Conflict.{Conflict}
use Rattle.least_conflict.specs.declared.conflict.Conflict.TheVariants as conflict
use Rattle.least_conflict.specs.Conflicts.{IsRequestSet, all_requests, whole_row}

-- a set of requests, and what a search found of the problem of these requests alone, by the rows of a pool
pub record SetDecision : Type 0 where
  pub set : List ℕ
  pub pool : Pooled
  pub found : Found

-- a search that decided the greatest bound of the problem of a set's requests alone called the advisors
abbrev pub IsAskedOfRequests : {A : Type 0} → (A → A → Type 0) → (A → List ℕ) → (A → List ℕ → List Candidate → ℕ) →
    (A → List ℕ → List Candidate → List ℕ) → (A → List ℕ → Entry → List ℕ) → DesignProblem → ℕ → ℕ → SetDecision → List A → List A → Type 0
IsAskedOfRequests IsItself state would left after p top nodes d old new =
    IsRequestSet p d.set × IsAskedAt IsItself state would left after (restricted p d.set) top nodes (greatest_bound p) d.pool d.found old new

-- What is printed of a tree that a search of the set found: the rows that the tree names, with the whole problem's
-- numbers of requests, and the tree with the new numbers of these rows.
abbrev pub IsPrintedOfRequests : List ℕ → Pooled → List Entry → List Row → List Entry → Type 0
IsPrintedOfRequests set pool tree rows printed = IsTreePrinted (map (whole_row set) pool.rows) tree rows printed

-- what is found where a search of the set used up the budget: this set, and what is printed of its tree
abbrev pub IsUndecidedOfRequests : List ℕ → Pooled → List Entry → Conflict → Type 0
IsUndecidedOfRequests set pool tree c =
    (rows : List Row) × (printed : List Entry) × IsPrintedOfRequests set pool tree rows printed × (c ≡ conflict.Undecided set rows printed)

-- what is found where a search refuted the set, and for each member there are fit costs without it: a least conflict
abbrev pub IsLeastConflictOf : List ℕ → Pooled → List Entry → List (List ℕ) → Conflict → Type 0
IsLeastConflictOf set pool tree without c =
    (rows : List Row) × (printed : List Entry) × IsPrintedOfRequests set pool tree rows printed × (c ≡ conflict.Least set rows printed without)

-- whether one of the rows is of the set's member at this place
abbrev pub is_member_used : List Row → List ℕ → ℕ → Bool
is_member_used rows set place = list_any (λ row. row.request == slice_index set place) rows

-- How a conflict is made smaller: by the set, the rows of the tree that refuted it, and the costs that were found
-- without each of its first members. The next member stays out without a search where no row is of it. Else the set
-- without it is searched: where costs are found, it stays; where the others are refuted, it stays out, and the rows are
-- those of that tree. At last the set is searched once more, for its own tree. A search that used up the budget is the
-- last.
pub data AreSetsInOrder : List ℕ → List Row → List (List ℕ) → List SetDecision → Conflict → Type 0 where
  unused : (set : List ℕ) → (rows : List Row) → (without : List (List ℕ)) → (ds : List SetDecision) → (c : Conflict) →
      length without < length set → is_member_used rows set (length without) ≡ false →
      AreSetsInOrder (remove set (length without)) rows without ds c → AreSetsInOrder set rows without ds c
  needed : (set : List ℕ) → (rows : List Row) → (without : List (List ℕ)) → (pool : Pooled) → (w : List ℕ) → (ds : List SetDecision) → (c : Conflict) →
      length without < length set → is_member_used rows set (length without) ≡ true →
      AreSetsInOrder set rows (without ++ w ∷ []) ds c →
      AreSetsInOrder set rows without (record { set = remove set (length without); pool = pool; found = Costs w } ∷ ds) c
  left_out : (set : List ℕ) → (rows : List Row) → (without : List (List ℕ)) → (pool : Pooled) → (tree : List Entry) →
      (new_rows : List Row) → (printed : List Entry) → (ds : List SetDecision) → (c : Conflict) →
      length without < length set → is_member_used rows set (length without) ≡ true →
      IsPrintedOfRequests (remove set (length without)) pool tree new_rows printed →
      AreSetsInOrder (remove set (length without)) new_rows without ds c →
      AreSetsInOrder set rows without (record { set = remove set (length without); pool = pool; found = Refuted tree } ∷ ds) c
  undecided : (set : List ℕ) → (rows : List Row) → (without : List (List ℕ)) → (pool : Pooled) → (tree : List Entry) → (c : Conflict) →
      length without < length set → is_member_used rows set (length without) ≡ true →
      IsUndecidedOfRequests (remove set (length without)) pool tree c →
      AreSetsInOrder set rows without (record { set = remove set (length without); pool = pool; found = Undecided tree } ∷ []) c
  shown : (set : List ℕ) → (rows : List Row) → (without : List (List ℕ)) → (pool : Pooled) → (tree : List Entry) → (c : Conflict) →
      length set ≤ length without → IsLeastConflictOf set pool tree without c →
      AreSetsInOrder set rows without (record { set = set; pool = pool; found = Refuted tree } ∷ []) c
  unshown : (set : List ℕ) → (rows : List Row) → (without : List (List ℕ)) → (pool : Pooled) → (tree : List Entry) → (c : Conflict) →
      length set ≤ length without → IsUndecidedOfRequests set pool tree c →
      AreSetsInOrder set rows without (record { set = set; pool = pool; found = Undecided tree } ∷ []) c

-- The searches behind that of all requests, by what it found: where it found costs or used up the budget, none, and
-- that is the answer; where it refuted them, those by which they are made smaller.
abbrev pub AreSetsBehind : List ℕ → Pooled → Found → List SetDecision → Conflict → Type 0
AreSetsBehind all pool (Costs w) behind c = (behind ≡ []) × (c ≡ conflict.Fit w)
AreSetsBehind all pool (Refuted tree) behind c =
    (rows : List Row) × (printed : List Entry) × IsPrintedOfRequests all pool tree rows printed × AreSetsInOrder all rows [] behind c
AreSetsBehind all pool (Undecided tree) behind c = (behind ≡ []) × IsUndecidedOfRequests all pool tree c

-- the searches, in order, and what is found by them: that of all requests, and where it refuted them, others behind it
abbrev pub AreSettledSets : DesignProblem → List SetDecision → Conflict → Type 0
AreSettledSets p [] c = ⊥
AreSettledSets p (first ∷ behind) c = (first.set ≡ all_requests p) × AreSetsBehind first.set first.pool first.found behind c

-- one search after another called them, by which this was found: that of all requests, and where it refuted them,
-- others of sets of requests
abbrev pub AreAskedFinding : {A V : Type 0} {X : V → Type 0} → ((rules : V) → Ghosts (X rules)) → (A → V) → (A → List ℕ) →
    DesignProblem → ℕ → ℕ → List A → List A → Conflict → Type 0
AreAskedFinding members rules state p top nodes old new c = (decisions : List SetDecision) × AreSettledSets p decisions c
    × AreAskedInTurn (by_rules IsAskedOfRequests members rules state p top nodes) decisions old new
