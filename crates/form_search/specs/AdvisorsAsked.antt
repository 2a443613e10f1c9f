-- How a search calls its advisors, and what many searches leave of them.
use Rattle.std.specs.Prelude.{◌≡◌, ℕ, ◌⊎◌, List, [], ◌∷◌, ◌++◌, length, slice_get, Some, Result, Ok, Err, IfOk}
use Rattle.std.specs.List.{AllZip}
use Rattle.std.specs.List.Sorted.{IsPermutation}
use Rattle.std.specs.declared.ops.ControlFlow.{ControlFlow}
use Rattle.std.specs.declared.ops.ControlFlow.TheVariants.{Break, Continue}
use Rattle.cost_base.specs.declared.OutOfMemory.{OutOfMemory}
use Rattle.area_graph.specs.declared.Point.{Point}
use Rattle.design_problem.specs.declared.boxes.CostBox.{CostBox}
use Rattle.design_problem.specs.declared.tree.Entry.{Entry}
use Rattle.design_problem.specs.declared.tree.Entry.TheVariants.{Tighten, Split, Halve, Refute, Undone}
use Rattle.design_problem.specs.Boxes.{IsPointOf}
use Rattle.design_problem.specs.OpenPlaces.{Growing, first_place, fresh, grown, undones}
use Rattle.cut_advisors.specs.declared.advisor.Advisor.{Ghosts}
use Rattle.cut_advisors.specs.declared.candidate.Candidate.{Candidate}
use Rattle.cut_advisors.specs.Choosing.{IsChosen}
use Rattle.form_search.specs.declared.found.Found.{Found}
use Rattle.form_search.specs.declared.found.Found.TheVariants.{Costs, Refuted, Undecided}
use Rattle.form_search.specs.declared.desk.Next.{Next}
use Rattle.form_search.specs.declared.desk.Next.TheVariants.{Forms, Costs as ByCosts, Entry as ByEntry}
use Rattle.form_search.specs.Points.{AreCostsThere, candidates_at}

-- The advisors are asked for a Split of the box: their candidates are the variables that are fractional at a point of
-- it, each once, and the Split is at the candidate that they pick. Which point is asked for, and what a pick does, are
-- given.
pub record AreAskedFor {A : Type 0} (IsHere : CostBox → Point → Type 0) (Picks : List Candidate → ℕ → List A → List A → Type 0)
    (box : CostBox) (var value : ℕ) (old new : List A) : Type 0 where
  pub point : Point
  pub here : IsHere box point
  pub candidates : List Candidate
  pub all : IsPermutation (candidates_at box point) candidates
  pub position : ℕ
  pub picked : Picks candidates position old new
  pub candidate : Candidate
  pub is_candidate : slice_get candidates position ≡ Some candidate
  pub same_var : var ≡ candidate.var
  pub same_value : value ≡ candidate.floor

-- before a Split the advisors are asked for it, and before another entry they are asked for nothing
abbrev pub AreReadyFor : {A : Type 0} → (CostBox → Point → Type 0) → (List Candidate → ℕ → List A → List A → Type 0) → CostBox → Entry → List A → List A →
    Type 0
AreReadyFor IsHere Picks box (Tighten var side value row) old new = new ≡ old
AreReadyFor IsHere Picks box (Split var value) old new = AreAskedFor IsHere Picks box var value old new
AreReadyFor IsHere Picks box (Halve var value wide) old new = new ≡ old
AreReadyFor IsHere Picks box (Refute parts) old new = new ≡ old
AreReadyFor IsHere Picks box Undone old new = new ≡ old

-- The calls along a tree that grows over a box, entry by entry: of each entry the advisors are told once, and before
-- each Split, and no other entry, they are asked for it at the open box.
pub data AreCalledAlong {A : Type 0} (IsHere : CostBox → Point → Type 0) (Picks : List Candidate → ℕ → List A → List A → Type 0)
    (Tells : Entry → List A → List A → Type 0) (box : CostBox) : Growing → List A → List A → Type 0 where
  begun : (old : List A) → AreCalledAlong IsHere Picks Tells box (record { entries = []; places = fresh box ∷ [] }) old old
  longer : (tree : Growing) → (entry : Entry) → (old now asked new : List A) →
      AreCalledAlong IsHere Picks Tells box tree old now → AreReadyFor IsHere Picks (first_place tree.places).box entry now asked →
      Tells entry asked new → AreCalledAlong IsHere Picks Tells box (grown tree entry) old new

-- the calls of a search: those along a tree, and maybe one question more, whose Split isn't added
pub record AreCalledBySearch {A : Type 0} (IsHere : CostBox → Point → Type 0) (Picks : List Candidate → ℕ → List A → List A → Type 0)
    (Tells : Entry → List A → List A → Type 0) (box : CostBox) (tree : Growing) (old new : List A) : Type 0 where
  pub left : List A
  pub along : AreCalledAlong IsHere Picks Tells box tree old left
  pub last : (new ≡ left) ⊎ ((var value : ℕ) × AreAskedFor IsHere Picks (first_place tree.places).box var value left new)

-- the tree that grew is that of what was found: costs are those of the point that is asked for in its open box
abbrev pub IsTreeOf : (CostBox → Point → Type 0) → Growing → Found → Type 0
IsTreeOf IsHere tree (Costs w) = AreCostsThere IsHere (first_place tree.places).box w
IsTreeOf IsHere tree (Refuted entries) = entries ≡ tree.entries
IsTreeOf IsHere tree (Undecided entries) = entries ≡ tree.entries ++ undones (length tree.places)

-- What a pick does to the advisors: the first one that picks in range answers, and stands as its pick leaves it; those
-- before it, which pick out of range, are dropped; the others stay as they are.
abbrev pub IsPick : {A : Type 0} → (A → A → Type 0) → (A → List ℕ) → (A → List ℕ → List Candidate → ℕ) →
    (A → List ℕ → List Candidate → List ℕ) → List Candidate → ℕ → List A → List A → Type 0
IsPick IsItself state would left candidates position old new =
    IsChosen (λ b. would b (state b) candidates) (λ b c. IsItself b c × (state c ≡ left b (state b) candidates)) (length candidates) old position new

-- what the telling of an entry does to the advisors: each is told, and stands as its rules say
abbrev pub AreAllTold : {A : Type 0} → (A → A → Type 0) → (A → List ℕ) → (A → List ℕ → Entry → List ℕ) → Entry → List A → List A → Type 0
AreAllTold IsItself state after entry old new = AllZip (λ b c. IsItself b c × (state c ≡ after b (state b) entry)) old new

-- one search called the advisors: along some tree over some box, at points of its boxes
abbrev pub IsSearched : {A : Type 0} → (A → A → Type 0) → (A → List ℕ) → (A → List ℕ → List Candidate → ℕ) →
    (A → List ℕ → List Candidate → List ℕ) → (A → List ℕ → Entry → List ℕ) → List A → List A → Type 0
IsSearched IsItself state would left after old new = (box : CostBox) × (tree : Growing)
    × AreCalledBySearch IsPointOf (IsPick IsItself state would left) (AreAllTold IsItself state after) box tree old new

-- what is said of advisors by their states and rules, where the rules are those of their kinds; an advisor stays itself
-- where it keeps its kind
abbrev pub by_rules : {A V : Type 0} {X : V → Type 0} {R : Type 1} → ((A → A → Type 0) → (A → List ℕ) → (A → List ℕ → List Candidate → ℕ) →
    (A → List ℕ → List Candidate → List ℕ) → (A → List ℕ → Entry → List ℕ) → R) → ((rules : V) → Ghosts (X rules)) → (A → V) → (A → List ℕ) → R
by_rules said members rules state =
    said (λ b c. rules c ≡ rules b) state (λ b. (members (rules b)).would) (λ b. (members (rules b)).left) (λ b. (members (rules b)).after)

-- what a pick does to the advisors, by the rules of their kinds
abbrev pub IsPickByRules : {A V : Type 0} {X : V → Type 0} → ((rules : V) → Ghosts (X rules)) → (A → V) → (A → List ℕ) →
    List Candidate → ℕ → List A → List A → Type 0
IsPickByRules members rules state = by_rules (λ IsItself at would left after. IsPick IsItself at would left) members rules state

-- what the telling of an entry does to the advisors, by the rules of their kinds
abbrev pub AreToldByRules : {A V : Type 0} {X : V → Type 0} → ((rules : V) → Ghosts (X rules)) → (A → V) → (A → List ℕ) →
    Entry → List A → List A → Type 0
AreToldByRules members rules state = by_rules (λ IsItself at would left after. AreAllTold IsItself at after) members rules state

-- the second list is what some searches, one after another, leave of the first list of advisors
pub data AreAdvisorsLeft {A : Type 0} (Search : List A → List A → Type 0) : List A → List A → Type 0 where
  none : (xs : List A) → AreAdvisorsLeft Search xs xs
  more : (xs ys zs : List A) → AreAdvisorsLeft Search xs ys → Search ys zs → AreAdvisorsLeft Search xs zs

-- The advisors that are left by some searches: the rules of its kind tell what each picks, and how a call leaves it. So
-- one that was dropped picked out of range, and each other one was told all entries and asked for each Split that came
-- to it.
abbrev pub AreCalled : {A V : Type 0} {X : V → Type 0} → ((rules : V) → Ghosts (X rules)) → (A → V) → (A → List ℕ) → List A → List A → Type 0
AreCalled members rules state =
    AreAdvisorsLeft (by_rules IsSearched members rules state)

-- the advisors were called along the tree that a search of the box answers, at the points that it asks for
pub record AreAdvised {A V : Type 0} {X : V → Type 0} (members : (rules : V) → Ghosts (X rules)) (rules : A → V) (state : A → List ℕ)
    (IsHere : CostBox → Point → Type 0) (box : CostBox) (result : Result Found OutOfMemory) (old new : List A) : Type 0 where
  pub tree : Growing
  pub is_tree : IfOk result (IsTreeOf IsHere tree)
  pub calls : AreCalledBySearch IsHere (IsPickByRules members rules state)
      (AreToldByRules members rules state) box tree old new

-- before what comes next the advisors were asked for its Split, and for nothing where another entry comes, or none
abbrev pub IsAskedNext : {A : Type 0} → (CostBox → Point → Type 0) → (List Candidate → ℕ → List A → List A → Type 0) → CostBox →
    Result Next OutOfMemory → List A → List A → Type 0
IsAskedNext IsHere Picks box (Ok Forms) old new = new ≡ old
IsAskedNext IsHere Picks box (Ok (ByCosts w)) old new = new ≡ old
IsAskedNext IsHere Picks box (Ok (ByEntry entry)) old new = AreReadyFor IsHere Picks box entry old new
IsAskedNext IsHere Picks box (Err e) old new = new ≡ old

-- before what comes next the advisors were asked for its Split, if one comes: a pick is by what each would pick, and
-- leaves it as its rules say
abbrev pub AreAskedNext : {A V : Type 0} {X : V → Type 0} → ((rules : V) → Ghosts (X rules)) → (A → V) → (A → List ℕ) →
    (CostBox → Point → Type 0) → CostBox → Result Next OutOfMemory → List A → List A → Type 0
AreAskedNext members rules state IsHere box result old new =
    IsAskedNext IsHere (IsPickByRules members rules state) box result old new

-- a point that may be asked for: of one box the one point
abbrev pub IsAt : CostBox → Point → CostBox → Point → Type 0
IsAt box point b p = (b ≡ box) × (p ≡ point)

-- the advisors were asked for a Split at the point, and for nothing where memory was wanting
abbrev pub AreAskedAt : {A V : Type 0} {X : V → Type 0} → ((rules : V) → Ghosts (X rules)) → (A → V) → (A → List ℕ) →
    CostBox → Point → Result Entry OutOfMemory → List A → List A → Type 0
AreAskedAt members rules state box point (Ok entry) old new =
    AreReadyFor (IsAt box point) (IsPickByRules members rules state) box entry old new
AreAskedAt members rules state box point (Err e) old new = new ≡ old

-- the advisors were told the entry that comes next, if one does
abbrev pub IsToldOf : {A : Type 0} → (Entry → List A → List A → Type 0) → Next → List A → List A → Type 0
IsToldOf Tells Forms old new = new ≡ old
IsToldOf Tells (ByCosts w) old new = new ≡ old
IsToldOf Tells (ByEntry entry) old new = Tells entry old new

-- the advisors were told the entry by which a search goes on; where it ends, only one for which memory was wanting
abbrev pub IsToldNext : {A : Type 0} → (Entry → List A → List A → Type 0) → Next → Result (ControlFlow Found Growing) OutOfMemory → List A → List A → Type 0
IsToldNext Tells next (Ok (Continue tree)) old new = IsToldOf Tells next old new
IsToldNext Tells next (Ok (Break found)) old new = new ≡ old
IsToldNext Tells next (Err e) old new = (new ≡ old) ⊎ IsToldOf Tells next old new

-- the advisors were told the entry by which a search goes on, if one came: each that is told stands as its rules say
abbrev pub AreToldNext : {A V : Type 0} {X : V → Type 0} → ((rules : V) → Ghosts (X rules)) → (A → V) → (A → List ℕ) →
    Next → Result (ControlFlow Found Growing) OutOfMemory → List A → List A → Type 0
AreToldNext members rules state next result old new =
    IsToldNext (AreToldByRules members rules state) next result old new
