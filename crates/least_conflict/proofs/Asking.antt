-- Searches that decide sets of requests are searches; and those by which a conflict is made smaller, in their order.
use Rattle.std.proofs.Common.{◌≡◌, ℕ, ◌<◌, ◌≤◌, true, false, refl, sym, ◌∙◌, ap, subst, List, [], ◌∷◌, ◌++◌, append_assoc, length}
use Rattle.std.specs.Prelude.{IfOk, Result, Ok, Err}
use Rattle.std.specs.List.{remove}
use Rattle.cost_base.specs.declared.OutOfMemory.{OutOfMemory}
use Rattle.design_problem.specs.declared.form.Row.{Row}
use Rattle.design_problem.specs.declared.tree.Entry.{Entry}
use Rattle.design_problem.specs.Problems.{DesignProblem, restricted}
use Rattle.design_problem.specs.Answers.{greatest_bound}
use Rattle.design_problem.specs.Boxes.{capped}
use Rattle.design_problem.specs.Earnest.{IsLeastPoint}
use Rattle.design_problem.specs.OpenPlaces.{Growing}
use Rattle.design_problem.specs.Rows.{LeadsEach, box_of}
use Rattle.cut_advisors.specs.declared.candidate.Candidate.{Candidate}
use Rattle.form_search.specs.declared.found.Found.{Found}
use Rattle.form_search.specs.declared.found.Found.TheVariants as finds
use Rattle.form_search.specs.AdvisorsAsked.{AreAdvisorsLeft, AreAllTold, AreCalledBySearch, IsPick, IsSearched, IsTreeOf}
use Rattle.cost_branching.specs.Pools.{Pooled}
use Rattle.cost_branching.specs.Decisions.{IsDecided}
use Rattle.cost_branching.specs.AdvisorsAsked.{AreAskedInTurn, IsAskedAt}
use Rattle.cost_branching.proofs.Advising.{cap_searched, turns_left, turns_then}
use Rattle.least_conflict.specs.declared.conflict.Conflict.{Conflict}
use Rattle.least_conflict.specs.declared.conflict.Conflict.TheVariants as conflict
use Rattle.least_conflict.specs.declared.deciding.SetTree.{SetTree}
use Rattle.least_conflict.specs.declared.deciding.Decided.{Decided}
use Rattle.least_conflict.specs.declared.deciding.Decided.TheVariants.{Costs, Refuted, Undecided}
use Rattle.least_conflict.specs.declared.shrinking.Shrunk.{Shrunk}
use Rattle.least_conflict.specs.declared.shrinking.Tried.{Tried}
use Rattle.least_conflict.specs.declared.telling.Told.{Told}
use Rattle.least_conflict.specs.AdvisorsAsked.{AreSetsInOrder, IsAskedOfRequests, IsLeastConflictOf, IsPrintedOfRequests, IsUndecidedOfRequests, SetDecision, is_member_used}
use Rattle.least_conflict.specs.AdvisorsAsked.AreSetsInOrder.{unused, needed, left_out, undecided, shown, unshown}
use Rattle.least_conflict.specs.Conflicts.{IsRequestSet}
use Rattle.least_conflict.specs.Deciding.{AreBefore, AreShrinking, IsPoolOf, IsSetTreeTold, IsTriedBy, search_found}

-- How a search of a set calls the advisors.

-- a search that decides the greatest bound of a problem, which is that of a set of requests
pub asked_of : {A : Type 0} (IsItself : A → A → Type 0) (state : A → List ℕ) (would : A → List ℕ → List Candidate → ℕ)
    (left : A → List ℕ → List Candidate → List ℕ) (after : A → List ℕ → Entry → List ℕ) (p q : DesignProblem) (set slice : List ℕ)
    (top nodes cap : ℕ) (pool : Pooled) (found known : Found) (tree : Growing) (old new : List A) → slice ≡ set → q ≡ restricted p slice →
    cap ≡ greatest_bound q → IsRequestSet p set → found ≡ known → IsDecided q top nodes cap pool found →
    IsTreeOf (IsLeastPoint (LeadsEach q)) tree found →
    AreCalledBySearch (IsLeastPoint (LeadsEach q)) (IsPick IsItself state would left) (AreAllTold IsItself state after)
    (capped (box_of q) cap) tree old new →
    IsAskedOfRequests IsItself state would left after p top nodes (record { set = set; pool = pool; found = known }) old new
asked_of IsItself state would left after p q set slice top nodes cap pool found known tree old new same is cap_is are found_is decided is_tree calls =
    let At : DesignProblem → ℕ → Found → Type 0 = λ r k f. IsAskedAt IsItself state would left after r top nodes k pool f old new in
    let here : At q cap found = record { decided = decided; tree = tree; is_tree = is_tree; calls = calls } in
    let at_bound : At q (greatest_bound q) known = subst (λ (f : Found). At q (greatest_bound q) f) found_is (subst (λ (k : ℕ). At q k found) cap_is here) in
    let of_slice : At (restricted p slice) (greatest_bound p) known = subst (λ (r : DesignProblem). At r (greatest_bound r) known) is at_bound in
    (are, subst (λ (ms : List ℕ). At (restricted p ms) (greatest_bound p) known) same of_slice)

-- two facts of a search that ended well, and what follows from both
pub both_ok : (result : Result Found OutOfMemory) (P Q R : Found → Type 0) → ((found : Found) → P found → Q found → R found) →
    IfOk result P → IfOk result Q → IfOk result R
both_ok (Ok found) P Q R step p q = step found p q
both_ok (Err e) P Q R step p q = tt

-- what is decided at a cap that is the greatest bound of a problem, which is that of a set of requests
pub decided_of : (p q : DesignProblem) (set : List ℕ) (top nodes cap : ℕ) (pool : Pooled) (result : Result Found OutOfMemory) →
    q ≡ restricted p set → cap ≡ greatest_bound q → IfOk result (IsDecided q top nodes cap pool) →
    IfOk result (IsDecided (restricted p set) top nodes (greatest_bound p) pool)
decided_of p q set top nodes cap pool result is cap_is decided =
    subst (λ (r : DesignProblem). IfOk result (IsDecided r top nodes (greatest_bound r) pool)) is
    (subst (λ (k : ℕ). IfOk result (IsDecided q top nodes k pool)) cap_is decided)

-- what is decided of a set by another name, and by what is known of it
pub decided_by : (p : DesignProblem) (set slice : List ℕ) (top nodes : ℕ) (pool : Pooled) (found known : Found) → slice ≡ set → found ≡ known →
    IsDecided (restricted p slice) top nodes (greatest_bound p) pool found → IsDecided (restricted p set) top nodes (greatest_bound p) pool known
decided_by p set slice top nodes pool found known same is decided =
    let known_of_slice : IsDecided (restricted p slice) top nodes (greatest_bound p) pool known =
    subst (λ (f : Found). IsDecided (restricted p slice) top nodes (greatest_bound p) pool f) is decided in
    subst (λ (ms : List ℕ). IsDecided (restricted p ms) top nodes (greatest_bound p) pool known) same known_of_slice

-- the search of a set by another name, and by what is known of what it found
pub asked_by : {A : Type 0} (IsItself : A → A → Type 0) (state : A → List ℕ) (would : A → List ℕ → List Candidate → ℕ)
    (left : A → List ℕ → List Candidate → List ℕ) (after : A → List ℕ → Entry → List ℕ) (p : DesignProblem) (set slice : List ℕ)
    (top nodes : ℕ) (pool : Pooled) (found known : Found) (old new : List A) → slice ≡ set → found ≡ known →
    IsAskedOfRequests IsItself state would left after p top nodes (record { set = slice; pool = pool; found = found }) old new →
    IsAskedOfRequests IsItself state would left after p top nodes (record { set = set; pool = pool; found = known }) old new
asked_by IsItself state would left after p set slice top nodes pool found known old new same is asked =
    let Asked : List ℕ → Found → Type 0 = λ ms f. IsAskedOfRequests IsItself state would left after p top nodes (record { set = ms; pool = pool; found = f })
    old new in
    let of_slice : Asked slice known = subst (λ (f : Found). Asked slice f) is asked in
    subst (λ (ms : List ℕ). Asked ms known) same of_slice

-- the search that decided a set: by the pool of its tree, where one was found
abbrev pub decision_of : List ℕ → Pooled → Decided → SetDecision
decision_of set pool (Costs w) = record { set = set; pool = pool; found = finds.Costs w }
decision_of set pool (Refuted t) = record { set = set; pool = t.pool; found = finds.Refuted t.tree }
decision_of set pool (Undecided t) = record { set = set; pool = t.pool; found = finds.Undecided t.tree }

-- what holds of it by a pool holds by that of its tree
own_pool : (Holds : SetDecision → Type 0) (set : List ℕ) (pool : Pooled) (decided : Decided) → IsPoolOf decided pool →
    Holds (record { set = set; pool = pool; found = search_found decided }) → Holds (decision_of set pool decided)
own_pool Holds set pool (Costs w) is holds = holds
own_pool Holds set pool (Refuted t) is holds = subst (λ (q : Pooled). Holds (record { set = set; pool = q; found = finds.Refuted t.tree })) is holds
own_pool Holds set pool (Undecided t) is holds = subst (λ (q : Pooled). Holds (record { set = set; pool = q; found = finds.Undecided t.tree })) is holds

-- how a set was decided, by another name of the set and by what is known of it
pub asked_as : {A : Type 0} (IsItself : A → A → Type 0) (state : A → List ℕ) (would : A → List ℕ → List Candidate → ℕ)
    (left : A → List ℕ → List Candidate → List ℕ) (after : A → List ℕ → Entry → List ℕ) (p : DesignProblem) (top nodes : ℕ) (set same : List ℕ)
    (decided known : Decided) (old new : List A) → set ≡ same → decided ≡ known →
    ((pool : Pooled) × IsPoolOf decided pool
    × IsAskedOfRequests IsItself state would left after p top nodes (record { set = set; pool = pool; found = search_found decided }) old new) →
    (pool : Pooled) × IsAskedOfRequests IsItself state would left after p top nodes (decision_of same pool known) old new
asked_as IsItself state would left after p top nodes set same decided known old new set_is is asked =
    let Asked : List ℕ → Decided → Type 0 = λ s d. (pool : Pooled) × IsPoolOf d pool
    × IsAskedOfRequests IsItself state would left after p top nodes (record { set = s; pool = pool; found = search_found d }) old new in
    let here : Asked same known = subst (λ (s : List ℕ). Asked s known) set_is (subst (λ (d : Decided). Asked set d) is asked) in
    (here.0, own_pool (λ d. IsAskedOfRequests IsItself state would left after p top nodes d old new) same here.0 known here.1 here.2)

-- the searches by which a member was left out, by what is known of it
pub tried_as : {A : Type 0} (IsAskedFor : SetDecision → List A → List A → Type 0) (shrunk : Shrunk) (tried known : Tried) (old new : List A) →
    tried ≡ known → ((ds : List SetDecision) × IsTriedBy shrunk tried ds × AreAskedInTurn IsAskedFor ds old new) →
    (ds : List SetDecision) × IsTriedBy shrunk known ds × AreAskedInTurn IsAskedFor ds old new
tried_as IsAskedFor shrunk tried known old new is asked =
    (asked.0, subst (λ (t : Tried). IsTriedBy shrunk t asked.0) is asked.1, asked.2)

-- the advisors that they leave are those that some searches leave
pub called_of_sets : {A : Type 0} (IsItself : A → A → Type 0) (state : A → List ℕ) (would : A → List ℕ → List Candidate → ℕ)
    (left : A → List ℕ → List Candidate → List ℕ) (after : A → List ℕ → Entry → List ℕ) (p : DesignProblem) (top nodes : ℕ)
    (decisions : List SetDecision) (old new : List A) →
    AreAskedInTurn (IsAskedOfRequests IsItself state would left after p top nodes) decisions old new →
    AreAdvisorsLeft (IsSearched IsItself state would left after) old new
called_of_sets IsItself state would left after p top nodes decisions old new are =
    turns_left (IsAskedOfRequests IsItself state would left after p top nodes) (IsSearched IsItself state would left after) decisions old new
    (λ d xs ys asked. cap_searched IsItself state would left after (restricted p d.set) top nodes (greatest_bound p) d.pool d.found xs ys asked.1) are

-- What is printed of a set's tree.

-- what is told, by another name of the set
pub printed_as : (p : DesignProblem) (top nodes : ℕ) (t : SetTree) (told : Told) (set : List ℕ) → IsSetTreeTold p top nodes t told →
    t.members.items ≡ set → IsPrintedOfRequests set t.pool t.tree told.rows told.tree
printed_as p top nodes t told set is same =
    subst (λ (ms : List ℕ). IsPrintedOfRequests ms t.pool t.tree told.rows told.tree) (is.members ∙ same) is.printed

-- what is told where the budget was used up
pub told_undecided : (p : DesignProblem) (top nodes : ℕ) (t : SetTree) (told : Told) → IsSetTreeTold p top nodes t told →
    IsUndecidedOfRequests t.members.items t.pool t.tree (conflict.Undecided told.members told.rows told.tree)
told_undecided p top nodes t told is = (
  told.rows,
  told.tree,
  printed_as p top nodes t told t.members.items is refl,
  ap (λ (ms : List ℕ). conflict.Undecided ms told.rows told.tree) is.members,
)

-- what is told of a core
pub told_least : (p : DesignProblem) (top nodes : ℕ) (t : SetTree) (told : Told) (without lists : List (List ℕ)) → IsSetTreeTold p top nodes t told →
    lists ≡ without → IsLeastConflictOf t.members.items t.pool t.tree without (conflict.Least told.members told.rows told.tree lists)
told_least p top nodes t told without lists is same = (
  told.rows,
  told.tree,
  printed_as p top nodes t told t.members.items is refl,
  ap (λ (ms : List ℕ). conflict.Least ms told.rows told.tree lists) is.members
      ∙ ap (λ (ws : List (List ℕ)). conflict.Least t.members.items told.rows told.tree ws) same,
)

-- Searches by which a conflict is made smaller.

-- those of a set, rows and costs by other names
in_order_as : (set other : List ℕ) (rows others : List Row) (without lists : List (List ℕ)) (ds : List SetDecision) (c : Conflict) →
    set ≡ other → rows ≡ others → without ≡ lists → AreSetsInOrder set rows without ds c → AreSetsInOrder other others lists ds c
in_order_as set other rows others without lists ds c set_is rows_are lists_are order =
    subst (λ (ms : List ℕ). AreSetsInOrder ms others lists ds c) set_is
    (subst (λ (rs : List Row). AreSetsInOrder set rs lists ds c) rows_are
    (subst (λ (ws : List (List ℕ)). AreSetsInOrder set rows ws ds c) lists_are order))

-- the next member is of no row, and stays out
pub unused_before : (old new : Shrunk) → length old.without.items < length old.members →
    is_member_used old.rows old.members (length old.without.items) ≡ false →
    new.members ≡ remove old.members (length old.without.items) → new.rows ≡ old.rows → new.without.items ≡ old.without.items → AreBefore old new []
unused_before old new within none rest rows_are same = λ more c order.
    unused old.members old.rows old.without.items more c within none
    (in_order_as new.members (remove old.members (length old.without.items)) new.rows old.rows new.without.items old.without.items more c rest rows_are same
    order)

-- costs were found without it, so it stays
pub needed_before : (old new : Shrunk) (pool : Pooled) (w : List ℕ) → length old.without.items < length old.members →
    is_member_used old.rows old.members (length old.without.items) ≡ true →
    new.members ≡ old.members → new.rows ≡ old.rows → new.without.items ≡ old.without.items ++ w ∷ [] →
    AreBefore old new (record { set = remove old.members (length old.without.items); pool = pool; found = finds.Costs w } ∷ [])
needed_before old new pool w within used same_set rows_are pushed = λ more c order.
    needed old.members old.rows old.without.items pool w more c within used
    (in_order_as new.members old.members new.rows old.rows new.without.items (old.without.items ++ w ∷ []) more c same_set rows_are pushed order)

-- the others were refuted, so it stays out
pub refuted_before : (p : DesignProblem) (top nodes : ℕ) (t : SetTree) (told : Told) (old new : Shrunk) → length old.without.items < length old.members →
    is_member_used old.rows old.members (length old.without.items) ≡ true → t.members.items ≡ remove old.members (length old.without.items) →
    IsSetTreeTold p top nodes t told → new.members ≡ told.members → new.rows ≡ told.rows → new.without.items ≡ old.without.items →
    AreBefore old new (record { set = remove old.members (length old.without.items); pool = t.pool; found = finds.Refuted t.tree } ∷ [])
refuted_before p top nodes t told old new within used rest is members_are rows_are same = λ more c order.
    let others = remove old.members (length old.without.items) in
    left_out old.members old.rows old.without.items t.pool t.tree told.rows told.tree more c within used
    (printed_as p top nodes t told others is rest)
    (in_order_as new.members others new.rows told.rows new.without.items old.without.items more c (members_are ∙ is.members ∙ rest) rows_are same order)

-- the budget was used up at the others
pub undecided_there : (old : Shrunk) (t : SetTree) → length old.without.items < length old.members →
    is_member_used old.rows old.members (length old.without.items) ≡ true → t.members.items ≡ remove old.members (length old.without.items) →
    (c : Conflict) → IsUndecidedOfRequests t.members.items t.pool t.tree c →
    AreShrinking old (record { set = remove old.members (length old.without.items); pool = t.pool; found = finds.Undecided t.tree } ∷ []) c
undecided_there old t within used rest c found =
    undecided old.members old.rows old.without.items t.pool t.tree c within used
    (subst (λ (ms : List ℕ). IsUndecidedOfRequests ms t.pool t.tree c) rest found)

-- no member is left to try, and the set was refuted for its own tree
pub shown_there : (s : Shrunk) (t : SetTree) → length s.members ≤ length s.without.items → t.members.items ≡ s.members →
    (c : Conflict) → IsLeastConflictOf t.members.items t.pool t.tree s.without.items c →
    AreShrinking s (record { set = s.members; pool = t.pool; found = finds.Refuted t.tree } ∷ []) c
shown_there s t ended same c found =
    shown s.members s.rows s.without.items t.pool t.tree c ended
    (subst (λ (ms : List ℕ). IsLeastConflictOf ms t.pool t.tree s.without.items c) same found)

-- no member is left to try, and the budget was used up at the set
pub unshown_there : (s : Shrunk) (t : SetTree) → length s.members ≤ length s.without.items → t.members.items ≡ s.members →
    (c : Conflict) → IsUndecidedOfRequests t.members.items t.pool t.tree c →
    AreShrinking s (record { set = s.members; pool = t.pool; found = finds.Undecided t.tree } ∷ []) c
unshown_there s t ended same c found =
    unshown s.members s.rows s.without.items t.pool t.tree c ended
    (subst (λ (ms : List ℕ). IsUndecidedOfRequests ms t.pool t.tree c) same found)

-- those so far, and then those of one member more
pub before_then : (begun old new : Shrunk) (ds es : List SetDecision) → AreBefore begun old ds → AreBefore old new es → AreBefore begun new (ds ++ es)
before_then begun old new ds es first next = λ more c order.
    subst (λ (all : List SetDecision). AreShrinking begun all c) (sym (append_assoc ds es more)) (first (es ++ more) c (next more c order))

-- the searches since a set's tree was told: those so far, and then others
pub asked_since : {A : Type 0} (IsAskedFor : SetDecision → List A → List A → Type 0) (p : DesignProblem) (top nodes : ℕ)
    (t : SetTree) (told : Told) (begun s : Shrunk) (ds : List SetDecision) (old mid new : List A) (c : Conflict) →
    IsSetTreeTold p top nodes t told → begun.members ≡ told.members → begun.rows ≡ told.rows → begun.without.items ≡ [] → AreBefore begun s ds →
    AreAskedInTurn IsAskedFor ds old mid → ((es : List SetDecision) × AreShrinking s es c × AreAskedInTurn IsAskedFor es mid new) →
    (rows : List Row) × (printed : List Entry) × IsPrintedOfRequests t.members.items t.pool t.tree rows printed
    × ((all : List SetDecision) × AreSetsInOrder t.members.items rows [] all c × AreAskedInTurn IsAskedFor all old new)
asked_since IsAskedFor p top nodes t told begun s ds old mid new c is members_are rows_are none before first next =
    let order = in_order_as begun.members t.members.items begun.rows told.rows begun.without.items [] (ds ++ next.0) c
    (members_are ∙ is.members) rows_are none (before next.0 c next.1) in (
      told.rows,
      told.tree,
      printed_as p top nodes t told t.members.items is refl,
      (ds ++ next.0, order, turns_then IsAskedFor ds next.0 old mid new first next.2),
    )
