-- What is decided of one set of requests, and of one after the other. No public clause cites it.
use Rattle.std.specs.Prelude.{◌≡◌, ◌⊎◌, ℕ, ◌+◌, ◌<◌, ◌≤◌, List, [], ◌++◌, length, slice_index_or, All, Contains}
use Rattle.std.specs.List.{remove}
use Rattle.design_problem.specs.declared.form.Row.{Row}
use Rattle.design_problem.specs.declared.tree.Entry.{Entry}
use Rattle.design_problem.specs.declared.tree.Entry.TheVariants.{Undone}
use Rattle.design_problem.specs.Problems.{DesignProblem, restricted}
use Rattle.design_problem.specs.Rows.{IsFit}
use Rattle.design_problem.specs.Trees.{IsClosed, entry_count}
use Rattle.design_problem.specs.Answers.{greatest_bound}
use Rattle.cut_advisors.specs.declared.advisor.Advisor.{Ghosts}
use Rattle.form_search.specs.declared.found.Found.{Found}
use Rattle.form_search.specs.declared.found.Found.TheVariants as finds
use Rattle.form_search.specs.AdvisorsAsked.{by_rules}
use Rattle.cost_branching.specs.AdvisorsAsked.{AreAskedInTurn}
use Rattle.cost_branching.specs.Pools.{IsRowPool, Pooled}
use Rattle.cost_branching.specs.Decisions.{IsTreeAt}
use Rattle.least_conflict.specs.declared.deciding.SetTree.{SetTree}
use Rattle.least_conflict.specs.declared.deciding.Decided.{Decided}
use Rattle.least_conflict.specs.declared.deciding.Decided.TheVariants.{Costs, Refuted, Undecided}
use Rattle.least_conflict.specs.declared.shrinking.Shrunk.{Shrunk}
use Rattle.least_conflict.specs.declared.shrinking.Tried.{Tried}
use Rattle.least_conflict.specs.declared.shrinking.Tried.TheVariants.{On, Undecided as TriedUndecided}
use Rattle.least_conflict.specs.declared.telling.Told.{Told}
use Rattle.least_conflict.specs.declared.conflict.Conflict.{Conflict}
use Rattle.least_conflict.specs.AdvisorsAsked.{AreSetsInOrder, IsAskedOfRequests, IsPrintedOfRequests, IsUndecidedOfRequests, SetDecision}
use Rattle.least_conflict.specs.Conflicts.{IsConflict, IsConflictLessOne, IsRequestSet, IsTreeOfRequests, all_requests}

-- a tree of the set's restricted problem, by the rows of its pool
pub record IsSetTree (p : DesignProblem) (top nodes : ℕ) (t : SetTree) : Type 0 where
  pub set : IsRequestSet p t.members.items
  pub is_pool : IsRowPool (restricted p t.members.items) t.pool
  pub tree : IsTreeAt (restricted p t.members.items) top (greatest_bound p) t.pool t.tree
  pub few : entry_count t.tree ≤ nodes

-- a set of requests with its tree, which is closed
pub record IsRefutedSet (p : DesignProblem) (top nodes : ℕ) (t : SetTree) : Type 0 where
  pub tree : IsSetTree p top nodes t
  pub closed : IsClosed t.tree

-- a set of requests with its tree, which used up the budget: it has an Undone and exactly N entries
pub record IsUndecidedSet (p : DesignProblem) (top nodes : ℕ) (t : SetTree) : Type 0 where
  pub tree : IsSetTree p top nodes t
  pub undone : Contains t.tree Undone
  pub used_up : entry_count t.tree ≡ nodes

-- what is decided of a set: fit costs of its restricted problem, a closed tree, or a tree that used up the budget
abbrev pub IsSetDecided : DesignProblem → ℕ → ℕ → List ℕ → Decided → Type 0
IsSetDecided p top nodes members (Costs w) = IsFit (restricted p members) w
IsSetDecided p top nodes members (Refuted t) = (t.members.items ≡ members) × IsRefutedSet p top nodes t
IsSetDecided p top nodes members (Undecided t) = (t.members.items ≡ members) × IsUndecidedSet p top nodes t

-- what a search found, by what was decided of the set
abbrev pub search_found : Decided → Found
search_found (Costs w) = finds.Costs w
search_found (Refuted t) = finds.Refuted t.tree
search_found (Undecided t) = finds.Undecided t.tree

-- the pool is that of the tree by which a set was decided, where a tree was found
abbrev pub IsPoolOf : Decided → Pooled → Type 0
IsPoolOf (Costs w) pool = Unit {0}
IsPoolOf (Refuted t) pool = pool ≡ t.pool
IsPoolOf (Undecided t) pool = pool ≡ t.pool

-- the search of a restricted problem, which came to this decision, called the advisors, by their rules
abbrev pub IsAskedSearching : {A V : Type 0} {X : V → Type 0} → ((rules : V) → Ghosts (X rules)) → (A → V) → (A → List ℕ) →
    DesignProblem → ℕ → ℕ → SetDecision → List A → List A → Type 0
IsAskedSearching members rules state p top nodes d old new = by_rules IsAskedOfRequests members rules state p top nodes d old new

-- the search that decided a set of requests, by a pool, called the advisors, by their rules
abbrev pub IsAskedDeciding : {A V : Type 0} {X : V → Type 0} → ((rules : V) → Ghosts (X rules)) → (A → V) → (A → List ℕ) →
    DesignProblem → ℕ → ℕ → List ℕ → Decided → List A → List A → Type 0
IsAskedDeciding members rules state p top nodes set decided old new = (pool : Pooled) × IsPoolOf decided pool
    × by_rules IsAskedOfRequests members rules state p top nodes (record { set = set; pool = pool; found = search_found decided }) old new

-- searches in order of a conflict that is made smaller
abbrev pub AreShrinking : Shrunk → List SetDecision → Conflict → Type 0
AreShrinking s ds c = AreSetsInOrder s.members s.rows s.without.items ds c

-- these searches made a smaller conflict of an old one: put before the searches that the smaller one still takes, they
-- are those that the old one took
abbrev pub AreBefore : Shrunk → Shrunk → List SetDecision → Type 0
AreBefore old new ds = (more : List SetDecision) (c : Conflict) → AreShrinking new more c → AreShrinking old (ds ++ more) c

-- the searches called them by which a conflict was made smaller, from this set, these rows and these costs on
abbrev pub AreAskedFrom : {A V : Type 0} {X : V → Type 0} → ((rules : V) → Ghosts (X rules)) → (A → V) → (A → List ℕ) →
    DesignProblem → ℕ → ℕ → List ℕ → List Row → List (List ℕ) → List A → List A → Conflict → Type 0
AreAskedFrom members rules state p top nodes set rows without old new c = (ds : List SetDecision) × AreSetsInOrder set rows without ds c
    × AreAskedInTurn (by_rules IsAskedOfRequests members rules state p top nodes) ds old new

-- the searches called the advisors by which a conflict was made smaller, from the tree that refuted a set on
abbrev pub AreAskedShrinking : {A V : Type 0} {X : V → Type 0} → ((rules : V) → Ghosts (X rules)) → (A → V) → (A → List ℕ) →
    DesignProblem → ℕ → ℕ → SetTree → List A → List A → Conflict → Type 0
AreAskedShrinking members rules state p top nodes t old new c = (rows : List Row) × (printed : List Entry)
    × IsPrintedOfRequests t.members.items t.pool t.tree rows printed
    × AreAskedFrom members rules state p top nodes t.members.items rows [] old new c

-- what the searches that left out a member come to: those of what is left now are behind them, or the budget was used
-- up at a set
abbrev pub IsTriedBy : Shrunk → Tried → List SetDecision → Type 0
IsTriedBy shrunk (On next) ds = AreBefore shrunk next ds
IsTriedBy shrunk (TriedUndecided t) ds = (c : Conflict) → IsUndecidedOfRequests t.members.items t.pool t.tree c → AreShrinking shrunk ds c

-- searches called the advisors while a member was left out
abbrev pub AreAskedTrying : {A V : Type 0} {X : V → Type 0} → ((rules : V) → Ghosts (X rules)) → (A → V) → (A → List ℕ) →
    DesignProblem → ℕ → ℕ → Shrunk → Tried → List A → List A → Type 0
AreAskedTrying members rules state p top nodes shrunk tried old new = (ds : List SetDecision) × IsTriedBy shrunk tried ds
    × AreAskedInTurn (by_rules IsAskedOfRequests members rules state p top nodes) ds old new

-- costs for each of the first requests of a set, which are fit without it
abbrev pub AreFitWithout : DesignProblem → List ℕ → List (List ℕ) → Type 0
AreFitWithout p members without = (k : ℕ) → k < length without → IsFit (restricted p (remove members k)) (slice_index_or without k [])

-- each set with the requests of these rows is a conflict
abbrev pub AreConflictRows : DesignProblem → List Row → Type 0
AreConflictRows p rows = (members : List ℕ) → IsRequestSet p members → All (λ row. Contains members row.request) rows → IsConflict p members

-- a conflict by rows of its members, which is all requests or a conflict without one of its members, and costs for each
-- of its first members that are fit without it
pub record IsShrunk (p : DesignProblem) (s : Shrunk) : Type 0 where
  pub set : IsRequestSet p s.members
  pub conflict : AreConflictRows p s.rows
  pub of_members : All (λ row. Contains s.members row.request) s.rows
  pub tried : (s.members ≡ all_requests p) ⊎ IsConflictLessOne p s.members
  pub few : length s.without.items ≤ length s.members
  pub fits : AreFitWithout p s.members s.without.items

-- The next member was left out: it stays out, or there are costs without it, so fewer members are left to try; or the
-- budget was used up.
abbrev pub IsMemberTried : DesignProblem → ℕ → ℕ → Shrunk → Tried → Type 0
IsMemberTried p top nodes old (On new) =
    IsShrunk p new × (length new.members + length old.without.items < length old.members + length new.without.items)
IsMemberTried p top nodes old (TriedUndecided t) = IsUndecidedSet p top nodes t × IsConflictLessOne p t.members.items

-- what is told of a set's tree: the rows and the tree as they are printed, which is closed or not as it was
pub record IsSetTreeTold (p : DesignProblem) (top nodes : ℕ) (t : SetTree) (told : Told) : Type 0 where
  pub members : told.members ≡ t.members.items
  pub of_set : IsTreeOfRequests p top nodes told.members told.rows told.tree
  pub closed : IsClosed t.tree → IsClosed told.tree
  pub undone : Contains t.tree Undone → Contains told.tree Undone
  pub counted : entry_count told.tree ≡ entry_count t.tree
  pub printed : IsPrintedOfRequests told.members t.pool t.tree told.rows told.tree
