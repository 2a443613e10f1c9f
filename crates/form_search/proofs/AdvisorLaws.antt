-- What calls do to a list of advisors, along a tree and in one search after another.
use Rattle.std.proofs.Common.{◌≡◌, ℕ, ◌⊎◌, refl, sym, ◌∙◌, subst, inl, inr, List, [], ◌∷◌, ◌++◌, length, Some, Ok, Err, Result, IfOk, Bool, true, false, ◌==◌, if◌then◌else◌, ControlFlow, Continue, Break}
use Rattle.std.specs.Prelude.{slice_get}
use Rattle.std.specs.List.Sorted.{IsPermutation}
use Rattle.cost_base.specs.declared.OutOfMemory.{OutOfMemory}
use Rattle.area_graph.specs.declared.Point.{Point}
use Rattle.design_problem.specs.declared.boxes.CostBox.{CostBox}
use Rattle.design_problem.specs.declared.tree.Entry.{Entry}
use Rattle.design_problem.specs.declared.tree.Entry.TheVariants.{Tighten, Split, Halve, Refute, Undone}
use Rattle.design_problem.specs.declared.tree.WideAt.{WideAt}
use Rattle.design_problem.specs.Forms.{Form}
use Rattle.design_problem.specs.Boxes.{IsPointOf}
use Rattle.design_problem.specs.Trees.{CutsAt}
use Rattle.design_problem.specs.Earnest.{IsLeastPoint, OpenPlace}
use Rattle.design_problem.specs.OpenPlaces.{Growing, first_place, fresh, grown, undones}
use Rattle.cut_advisors.specs.declared.candidate.Candidate.{Candidate}
use Rattle.form_search.specs.declared.found.Found.{Found}
use Rattle.form_search.specs.declared.found.Found.TheVariants.{Costs as FoundCosts, Undecided}
use Rattle.form_search.specs.declared.desk.Next.{Next}
use Rattle.form_search.specs.declared.desk.Next.TheVariants.{Forms, Costs, Entry as ByEntry}
use Rattle.form_search.specs.Points.{AreCostsThere, candidates_at}
use Rattle.form_search.specs.NextEntries.{IsNextRow, IsNextStep, IsUnsplit, after_round}
use Rattle.form_search.specs.AdvisorsAsked.{AreAdvisorsLeft, AreAskedFor, AreCalledAlong, AreAllTold, AreCalledBySearch, AreReadyFor, IsAskedNext, IsAt, IsPick, IsSearched, IsToldNext, IsToldOf, IsTreeOf}
use Rattle.form_search.specs.AdvisorsAsked.AreAdvisorsLeft.{none, more}
use Rattle.form_search.specs.AdvisorsAsked.AreCalledAlong.{begun, longer}

-- without a search each advisor stands as it did
pub left_alike : {A : Type 0} (Search : List A → List A → Type 0) (xs ys : List A) → ys ≡ xs → AreAdvisorsLeft Search xs ys
left_alike Search xs ys same = subst (λ (zs : List _). AreAdvisorsLeft Search xs zs) (sym same) (none xs)

-- one search
pub left_searched : {A : Type 0} (Search : List A → List A → Type 0) (xs ys : List A) → Search xs ys → AreAdvisorsLeft Search xs ys
left_searched Search xs ys searched = more xs xs ys (none xs) searched

-- searches, and then searches
pub left_then : {A : Type 0} (Search : List A → List A → Type 0) (xs ys zs : List A) → AreAdvisorsLeft Search xs ys → AreAdvisorsLeft Search ys zs →
    AreAdvisorsLeft Search xs zs
left_then Search xs ys zs first (none u) = first
left_then Search xs ys zs first (more u v w rest last) = more xs v w (left_then Search xs u v first rest) last

-- the tree without an entry
abbrev pub start : CostBox → Growing
start box = record { entries = []; places = fresh box ∷ [] }

-- along it none is called
pub along_begun : {A : Type 0} (IsHere : CostBox → Point → Type 0) (Picks : List Candidate → ℕ → List A → List A → Type 0)
    (Tells : Entry → List A → List A → Type 0) (box : CostBox) (tree : Growing) (old : List A) → tree ≡ start box →
    AreCalledAlong IsHere Picks Tells box tree old old
along_begun IsHere Picks Tells box tree old is = subst (λ (t : Growing). AreCalledAlong IsHere Picks Tells box t old old) (sym is) (begun old)

pub calls_begun : {A : Type 0} (IsHere : CostBox → Point → Type 0) (Picks : List Candidate → ℕ → List A → List A → Type 0)
    (Tells : Entry → List A → List A → Type 0) (box : CostBox) (old : List A) → AreCalledBySearch IsHere Picks Tells box (start box) old old
calls_begun IsHere Picks Tells box old = record { left = old; along = begun old; last = inl refl }

-- asked at a point that is asked for elsewhere too
pub asked_there : {A : Type 0} (IsHere IsThere : CostBox → Point → Type 0) (Picks : List Candidate → ℕ → List A → List A → Type 0)
    (box : CostBox) (var value : ℕ) (old new : List A) → ((b : CostBox) (point : Point) → IsHere b point → IsThere b point) →
    AreAskedFor IsHere Picks box var value old new → AreAskedFor IsThere Picks box var value old new
asked_there IsHere IsThere Picks box var value old new there asked = record {
  point = asked.point;
  here = there box asked.point asked.here;
  candidates = asked.candidates;
  all = asked.all;
  position = asked.position;
  picked = asked.picked;
  candidate = asked.candidate;
  is_candidate = asked.is_candidate;
  same_var = asked.same_var;
  same_value = asked.same_value;
}

pub ready_there : {A : Type 0} (IsHere IsThere : CostBox → Point → Type 0) (Picks : List Candidate → ℕ → List A → List A → Type 0)
    (box : CostBox) (entry : Entry) (old new : List A) → ((b : CostBox) (point : Point) → IsHere b point → IsThere b point) →
    AreReadyFor IsHere Picks box entry old new → AreReadyFor IsThere Picks box entry old new
ready_there IsHere IsThere Picks box (Tighten var side value row) old new there ready = ready
ready_there IsHere IsThere Picks box (Split var value) old new there ready = asked_there IsHere IsThere Picks box var value old new there ready
ready_there IsHere IsThere Picks box (Halve var value wide) old new there ready = ready
ready_there IsHere IsThere Picks box (Refute parts) old new there ready = ready
ready_there IsHere IsThere Picks box Undone old new there ready = ready

along_there : {A : Type 0} (IsHere IsThere : CostBox → Point → Type 0) (Picks : List Candidate → ℕ → List A → List A → Type 0)
    (Tells : Entry → List A → List A → Type 0) (box : CostBox) (tree : Growing) (old new : List A) →
    ((b : CostBox) (point : Point) → IsHere b point → IsThere b point) →
    AreCalledAlong IsHere Picks Tells box tree old new → AreCalledAlong IsThere Picks Tells box tree old new
along_there IsHere IsThere Picks Tells box tree old new there (begun xs) = begun xs
along_there IsHere IsThere Picks Tells box tree old new there (longer before entry xs ys zs ws along ready told) =
    longer before entry xs ys zs ws (along_there IsHere IsThere Picks Tells box before xs ys there along)
    (ready_there IsHere IsThere Picks (first_place before.places).box entry ys zs there ready) told

-- a search at points of one kind is one at points of a wider kind
pub calls_there : {A : Type 0} (IsHere IsThere : CostBox → Point → Type 0) (Picks : List Candidate → ℕ → List A → List A → Type 0)
    (Tells : Entry → List A → List A → Type 0) (box : CostBox) (tree : Growing) (old new : List A) →
    ((b : CostBox) (point : Point) → IsHere b point → IsThere b point) →
    AreCalledBySearch IsHere Picks Tells box tree old new → AreCalledBySearch IsThere Picks Tells box tree old new
calls_there IsHere IsThere Picks Tells box tree old new there calls = record {
  left = calls.left;
  along = along_there IsHere IsThere Picks Tells box tree old calls.left there calls.along;
  last = elim calls.last [
    | inl same ↦ inl same
    | inr asked ↦ inr (asked.0, asked.1, asked_there IsHere IsThere Picks (first_place tree.places).box asked.0 asked.1 calls.left new there asked.2)
  ];
}

-- the Split at the choice that was picked
pub asked_split : {A : Type 0} (Picks : List Candidate → ℕ → List A → List A → Type 0) (box : CostBox) (point : Point)
    (candidates seen : List Candidate) (position : ℕ) (entry : Entry) (old new : List A) → IsPermutation (candidates_at box point) candidates →
    seen ≡ candidates → Picks seen position old new →
    (candidate : Candidate) × (slice_get candidates position ≡ Some candidate) × (entry ≡ Split candidate.var candidate.floor) →
    AreReadyFor (IsAt box point) Picks box entry old new
asked_split Picks box point candidates seen position entry old new all same picked at =
    subst (λ (e : Entry). AreReadyFor (IsAt box point) Picks box e old new) (sym at.2)
    (record {
      point = point;
      here = (refl, refl);
      candidates = candidates;
      all = all;
      position = position;
      picked = subst (λ (cs : List Candidate). Picks cs position old new) same picked;
      candidate = at.0;
      is_candidate = at.1;
      same_var = refl;
      same_value = refl;
    })

-- no question is asked for an entry by one form, for a halving, or where no Split comes

pub row_ready : {A : Type 0} (IsHere : CostBox → Point → Type 0) (Picks : List Candidate → ℕ → List A → List A → Type 0)
    (forms : List Form) (place : OpenPlace) (box : CostBox) (entry : Entry) (old new : List A) → IsNextRow forms place entry →
    new ≡ old → AreReadyFor IsHere Picks box entry old new
row_ready IsHere Picks forms place box (Tighten var side value row) old new next same = same
row_ready IsHere Picks forms place box (Split var value) old new next same = absurd next
row_ready IsHere Picks forms place box (Halve var value wide) old new next same = absurd next
row_ready IsHere Picks forms place box (Refute parts) old new next same = same
row_ready IsHere Picks forms place box Undone old new next same = absurd next

pub halve_ready : {A : Type 0} (IsHere : CostBox → Point → Type 0) (Picks : List Candidate → ℕ → List A → List A → Type 0)
    (box : CostBox) (entry : Entry) (wide : WideAt) (old new : List A) →
    (var value : ℕ) × (entry ≡ Halve var value wide) × CutsAt box var value → new ≡ old → AreReadyFor IsHere Picks box entry old new
halve_ready IsHere Picks box entry wide old new halved same =
    subst (λ (e : Entry). AreReadyFor IsHere Picks box e old new) (sym halved.2) same

entry_ready : {A : Type 0} (IsHere : CostBox → Point → Type 0) (Picks : List Candidate → ℕ → List A → List A → Type 0)
    (box : CostBox) (entry : Entry) (old new : List A) → IsUnsplit (ByEntry entry) → new ≡ old → AreReadyFor IsHere Picks box entry old new
entry_ready IsHere Picks box (Tighten var side value row) old new unsplit same = same
entry_ready IsHere Picks box (Split var value) old new unsplit same = absurd unsplit
entry_ready IsHere Picks box (Halve var value wide) old new unsplit same = same
entry_ready IsHere Picks box (Refute parts) old new unsplit same = same
entry_ready IsHere Picks box Undone old new unsplit same = same

pub unsplit_ready : {A : Type 0} (IsHere : CostBox → Point → Type 0) (Picks : List Candidate → ℕ → List A → List A → Type 0)
    (box : CostBox) (result : Result Next OutOfMemory) (old new : List A) → IfOk result IsUnsplit → new ≡ old →
    IsAskedNext IsHere Picks box result old new
unsplit_ready IsHere Picks box (Ok Forms) old new unsplit same = same
unsplit_ready IsHere Picks box (Ok (Costs w)) old new unsplit same = same
unsplit_ready IsHere Picks box (Ok (ByEntry entry)) old new unsplit same = entry_ready IsHere Picks box entry old new unsplit same
unsplit_ready IsHere Picks box (Err e) old new unsplit same = same

-- a box by another name
pub asked_in : {A : Type 0} (IsHere : CostBox → Point → Type 0) (Picks : List Candidate → ℕ → List A → List A → Type 0)
    (box other : CostBox) (result : Result Next OutOfMemory) (old new : List A) → box ≡ other →
    IsAskedNext IsHere Picks box result old new → IsAskedNext IsHere Picks other result old new
asked_in IsHere Picks box other result old new same asked = subst (λ (b : CostBox). IsAskedNext IsHere Picks b result old new) same asked

-- what was asked at points of one kind was asked at points of a wider kind
pub asked_next_there : {A : Type 0} (IsHere IsThere : CostBox → Point → Type 0) (Picks : List Candidate → ℕ → List A → List A → Type 0)
    (box : CostBox) (result : Result Next OutOfMemory) (old new : List A) → ((b : CostBox) (point : Point) → IsHere b point → IsThere b point) →
    IsAskedNext IsHere Picks box result old new → IsAskedNext IsThere Picks box result old new
asked_next_there IsHere IsThere Picks box (Ok Forms) old new there asked = asked
asked_next_there IsHere IsThere Picks box (Ok (Costs w)) old new there asked = asked
asked_next_there IsHere IsThere Picks box (Ok (ByEntry entry)) old new there asked = ready_there IsHere IsThere Picks box entry old new there asked
asked_next_there IsHere IsThere Picks box (Err e) old new there asked = asked

pub told_entry : {A : Type 0} (Tells : Entry → List A → List A → Type 0) (next : Next) (entry : Entry) (old new : List A) →
    next ≡ ByEntry entry → Tells entry old new → IsToldOf Tells next old new
told_entry Tells next entry old new is told = subst (λ (n : Next). IsToldOf Tells n old new) (sym is) told

pub told_forms : {A : Type 0} (Tells : Entry → List A → List A → Type 0) (next : Next) (old new : List A) → next ≡ Forms →
    new ≡ old → IsToldOf Tells next old new
told_forms Tells next old new is same = subst (λ (n : Next). IsToldOf Tells n old new) (sym is) same

-- of a search that goes on, and of one that ends

told_goes : {A : Type 0} (Tells : Entry → List A → List A → Type 0) (next : Next) (round : ControlFlow Found Growing) (long : Growing)
    (old new : List A) → round ≡ Continue long → IsToldNext Tells next (Ok round) old new → IsToldOf Tells next old new
told_goes Tells next round long old new is told = subst (λ (t : ControlFlow Found Growing). IsToldNext Tells next (Ok t) old new) is told

told_ends : {A : Type 0} (Tells : Entry → List A → List A → Type 0) (next : Next) (round : ControlFlow Found Growing) (found : Found)
    (old new : List A) → round ≡ Break found → IsToldNext Tells next (Ok round) old new → new ≡ old
told_ends Tells next round found old new is told = subst (λ (t : ControlFlow Found Growing). IsToldNext Tells next (Ok t) old new) is told

abbrev going : Growing → ControlFlow Found Growing
going tree = Continue tree

abbrev ended : Found → ControlFlow Found Growing
ended found = Break found

same_growing : (t u : Growing) → going t ≡ going u → t ≡ u
same_growing t u e = cc

same_found : (a b : Found) → ended a ≡ ended b → a ≡ b
same_found a b e = cc

-- a search goes on along the longer tree

along_entry : {A : Type 0} (IsHere : CostBox → Point → Type 0) (Picks : List Candidate → ℕ → List A → List A → Type 0)
    (Tells : Entry → List A → List A → Type 0) (box : CostBox) (nodes : ℕ) (tree long : Growing) (entry : Entry)
    (old now asked new : List A) (full : Bool) → AreCalledAlong IsHere Picks Tells box tree old now →
    AreReadyFor IsHere Picks (first_place tree.places).box entry now asked → Tells entry asked new →
    going long ≡ (if full then Break (Undecided (tree.entries ++ undones (length tree.places))) else Continue (grown tree entry)) →
    AreCalledAlong IsHere Picks Tells box long old new
along_entry IsHere Picks Tells box nodes tree long entry old now asked new true along ready told goes = absurd (cc)
along_entry IsHere Picks Tells box nodes tree long entry old now asked new false along ready told goes =
    subst (λ (t : Growing). AreCalledAlong IsHere Picks Tells box t old new) (sym (same_growing long (grown tree entry) goes))
    (longer tree entry old now asked new along ready told)

went_on : {A : Type 0} (IsHere : CostBox → Point → Type 0) (Picks : List Candidate → ℕ → List A → List A → Type 0)
    (Tells : Entry → List A → List A → Type 0) (box : CostBox) (nodes : ℕ) (tree long : Growing) (next : Next)
    (old now asked new : List A) → AreCalledAlong IsHere Picks Tells box tree old now →
    IsAskedNext IsHere Picks (first_place tree.places).box (Ok next) now asked → IsToldOf Tells next asked new →
    going long ≡ after_round nodes tree next → AreCalledAlong IsHere Picks Tells box long old new
went_on IsHere Picks Tells box nodes tree long Forms old now asked new along ready told goes =
    subst (λ (t : Growing). AreCalledAlong IsHere Picks Tells box t old new) (sym (same_growing long tree goes))
    (subst (λ (xs : List _). AreCalledAlong IsHere Picks Tells box tree old xs) (sym (told ∙ ready)) along)
went_on IsHere Picks Tells box nodes tree long (Costs w) old now asked new along ready told goes = absurd (cc)
went_on IsHere Picks Tells box nodes tree long (ByEntry entry) old now asked new along ready told goes =
    along_entry IsHere Picks Tells box nodes tree long entry old now asked new (length tree.entries == nodes) along ready told goes

pub along_next : {A : Type 0} (IsHere : CostBox → Point → Type 0) (Picks : List Candidate → ℕ → List A → List A → Type 0)
    (Tells : Entry → List A → List A → Type 0) (box : CostBox) (nodes : ℕ) (tree long : Growing) (next : Next)
    (round : ControlFlow Found Growing) (old now asked new : List A) → AreCalledAlong IsHere Picks Tells box tree old now →
    IsAskedNext IsHere Picks (first_place tree.places).box (Ok next) now asked → IsToldNext Tells next (Ok round) asked new →
    round ≡ Continue long → round ≡ after_round nodes tree next → AreCalledAlong IsHere Picks Tells box long old new
along_next IsHere Picks Tells box nodes tree long next round old now asked new along ready told is outcome =
    went_on IsHere Picks Tells box nodes tree long next old now asked new along ready
    (told_goes Tells next round long asked new is told) (sym is ∙ outcome)

-- it ends, maybe with a question for a Split that isn't added

last_entry : {A : Type 0} (IsHere : CostBox → Point → Type 0) (Picks : List Candidate → ℕ → List A → List A → Type 0) (box : CostBox)
    (entry : Entry) (now new : List A) → AreReadyFor IsHere Picks box entry now new →
    (new ≡ now) ⊎ ((var value : ℕ) × AreAskedFor IsHere Picks box var value now new)
last_entry IsHere Picks box (Tighten var side value row) now new ready = inl ready
last_entry IsHere Picks box (Split var value) now new ready = inr (var, value, ready)
last_entry IsHere Picks box (Halve var value wide) now new ready = inl ready
last_entry IsHere Picks box (Refute parts) now new ready = inl ready
last_entry IsHere Picks box Undone now new ready = inl ready

ended_so : {A : Type 0} (IsHere : CostBox → Point → Type 0) (Picks : List Candidate → ℕ → List A → List A → Type 0)
    (Tells : Entry → List A → List A → Type 0) (box : CostBox) (tree : Growing) (next : Next) (old now asked new : List A) →
    AreCalledAlong IsHere Picks Tells box tree old now →
    IsAskedNext IsHere Picks (first_place tree.places).box (Ok next) now asked → new ≡ asked →
    AreCalledBySearch IsHere Picks Tells box tree old new
ended_so IsHere Picks Tells box tree Forms old now asked new along ready same = record { left = now; along = along; last = inl (same ∙ ready) }
ended_so IsHere Picks Tells box tree (Costs w) old now asked new along ready same = record { left = now; along = along; last = inl (same ∙ ready) }
ended_so IsHere Picks Tells box tree (ByEntry entry) old now asked new along ready same =
    subst (λ (xs : List _). AreCalledBySearch IsHere Picks Tells box tree old xs) (sym same)
    (record { left = now; along = along; last = last_entry IsHere Picks (first_place tree.places).box entry now asked ready })

pub calls_end : {A : Type 0} (IsHere : CostBox → Point → Type 0) (Picks : List Candidate → ℕ → List A → List A → Type 0)
    (Tells : Entry → List A → List A → Type 0) (box : CostBox) (tree : Growing) (next : Next) (round : ControlFlow Found Growing)
    (found : Found) (old now asked new : List A) → AreCalledAlong IsHere Picks Tells box tree old now →
    IsAskedNext IsHere Picks (first_place tree.places).box (Ok next) now asked → IsToldNext Tells next (Ok round) asked new →
    round ≡ Break found → AreCalledBySearch IsHere Picks Tells box tree old new
calls_end IsHere Picks Tells box tree next round found old now asked new along ready told is =
    ended_so IsHere Picks Tells box tree next old now asked new along ready (told_ends Tells next round found asked new is told)

-- some tree along which a search called them
abbrev pub AreSomeCalls : {A : Type 0} → (CostBox → Point → Type 0) → (List Candidate → ℕ → List A → List A → Type 0) →
    (Entry → List A → List A → Type 0) → CostBox → List A → List A → Type 0
AreSomeCalls IsHere Picks Tells box old new = (tree : Growing) × AreCalledBySearch IsHere Picks Tells box tree old new

-- memory was wanting for an entry, of which they may have been told
told_end : {A : Type 0} (IsHere : CostBox → Point → Type 0) (Picks : List Candidate → ℕ → List A → List A → Type 0)
    (Tells : Entry → List A → List A → Type 0) (box : CostBox) (tree : Growing) (next : Next) (old now asked new : List A) →
    AreCalledAlong IsHere Picks Tells box tree old now →
    IsAskedNext IsHere Picks (first_place tree.places).box (Ok next) now asked → IsToldOf Tells next asked new →
    AreSomeCalls IsHere Picks Tells box old new
told_end IsHere Picks Tells box tree Forms old now asked new along ready told = (tree, record { left = now; along = along; last = inl (told ∙ ready) })
told_end IsHere Picks Tells box tree (Costs w) old now asked new along ready told = (tree, record { left = now; along = along; last = inl (told ∙ ready) })
told_end IsHere Picks Tells box tree (ByEntry entry) old now asked new along ready told =
    (grown tree entry, record { left = new; along = longer tree entry old now asked new along ready told; last = inl refl })

pub wanting_end : {A : Type 0} (IsHere : CostBox → Point → Type 0) (Picks : List Candidate → ℕ → List A → List A → Type 0)
    (Tells : Entry → List A → List A → Type 0) (box : CostBox) (tree : Growing) (next : Next) (old now asked new : List A) →
    AreCalledAlong IsHere Picks Tells box tree old now →
    IsAskedNext IsHere Picks (first_place tree.places).box (Ok next) now asked →
    (new ≡ asked) ⊎ IsToldOf Tells next asked new → AreSomeCalls IsHere Picks Tells box old new
wanting_end IsHere Picks Tells box tree next old now asked new along ready (inl same) =
    (tree, ended_so IsHere Picks Tells box tree next old now asked new along ready same)
wanting_end IsHere Picks Tells box tree next old now asked new along ready (inr told) =
    told_end IsHere Picks Tells box tree next old now asked new along ready told

-- what was found is of the tree that grew

found_full : (IsHere : CostBox → Point → Type 0) (nodes : ℕ) (tree : Growing) (entry : Entry) (found : Found) (full : Bool) →
    ended found ≡ (if full then Break (Undecided (tree.entries ++ undones (length tree.places))) else Continue (grown tree entry)) →
    IsTreeOf IsHere tree found
found_full IsHere nodes tree entry found true ends = subst (IsTreeOf IsHere tree) (sym (same_found found
    (Undecided (tree.entries ++ undones (length tree.places))) ends)) refl
found_full IsHere nodes tree entry found false ends = absurd (cc)

-- where costs come next, they are those of the point that is asked for in the box
abbrev pub IsThereIfCosts : (CostBox → Point → Type 0) → CostBox → Next → Type 0
IsThereIfCosts IsHere box Forms = Unit {0}
IsThereIfCosts IsHere box (Costs w) = AreCostsThere IsHere box w
IsThereIfCosts IsHere box (ByEntry entry) = Unit {0}

pub there_if_costs : (accepted : Point → Type 0) (top : ℕ) (old new : List Form) (place : OpenPlace) (next : Next) →
    IsNextStep accepted top old new place next → IsThereIfCosts (IsLeastPoint accepted) place.box next
there_if_costs accepted top old new place Forms is = tt
there_if_costs accepted top old new place (Costs w) is = is.2
there_if_costs accepted top old new place (ByEntry entry) is = tt

pub tree_found : (IsHere : CostBox → Point → Type 0) (nodes : ℕ) (tree : Growing) (next : Next) (found : Found) →
    IsThereIfCosts IsHere (first_place tree.places).box next → ended found ≡ after_round nodes tree next → IsTreeOf IsHere tree found
tree_found IsHere nodes tree Forms found there ends = absurd (cc)
tree_found IsHere nodes tree (Costs w) found there ends = subst (IsTreeOf IsHere tree) (sym (same_found found (FoundCosts w) ends)) there
tree_found IsHere nodes tree (ByEntry entry) found there ends = found_full IsHere nodes tree entry found (length tree.entries == nodes) ends

-- a search is one of those that lead on
pub left_advised : {A : Type 0} (IsItself : A → A → Type 0) (state : A → List ℕ) (would : A → List ℕ → List Candidate → ℕ)
    (left : A → List ℕ → List Candidate → List ℕ) (after : A → List ℕ → Entry → List ℕ) (IsHere : CostBox → Point → Type 0)
    (box : CostBox) (tree : Growing) (old new : List A) →
    AreCalledBySearch IsHere (IsPick IsItself state would left) (AreAllTold IsItself state after) box tree old new →
    ((b : CostBox) (point : Point) → IsHere b point → IsPointOf b point) →
    AreAdvisorsLeft (IsSearched IsItself state would left after) old new
left_advised IsItself state would left after IsHere box tree old new calls inside =
    left_searched (IsSearched IsItself state would left after) old new
    (box, tree, calls_there IsHere IsPointOf (IsPick IsItself state would left) (AreAllTold IsItself state after) box tree old new inside calls)
