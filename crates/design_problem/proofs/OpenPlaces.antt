-- A branching tree while it grows, entry by entry, and how it ends.
use Rattle.std.proofs.Common.{◌≡◌, ℕ, zero, suc, refl, sym, subst, List, [], ◌∷◌, ◌++◌, map, length, arith}
use Rattle.std.specs.Prelude.{false}
use Rattle.std.specs.List.{AllByRecursion}
use Rattle.cost_base.proofs.ListLemmas.{each_append}
use Rattle.area_graph.specs.declared.Point.{Point}
use Rattle.design_problem.specs.declared.form.Form.{Form}
use Rattle.design_problem.specs.declared.boxes.CostBox.{CostBox}
use Rattle.design_problem.specs.declared.tree.Entry.{Entry}
use Rattle.design_problem.specs.declared.tree.Entry.TheVariants.{Tighten, Split, Halve, Refute, Undone}
use Rattle.design_problem.specs.Trees.{Sound, SoundAt, IsSoundTree, IsClosed, entry_count, is_undone, subboxes}
use Rattle.design_problem.specs.Earnest.{OpenPlace, Earnest, EarnestAt, IsEarnestTree, subplaces}
use Rattle.design_problem.specs.OpenPlaces.{LeavesPlacesOpen, UndoneLast, undones}

-- one more entry is one step
pub opens_more : (accepts : Point → Type 0) (top : ℕ) (forms : List Form) (places : List OpenPlace) (entries : List Entry)
    (place : OpenPlace) (rest : List OpenPlace) (entry : Entry) → LeavesPlacesOpen accepts top forms places entries (place ∷ rest) →
    SoundAt forms place.box entry → EarnestAt accepts top forms place entry →
    LeavesPlacesOpen accepts top forms places (entries ++ entry ∷ []) (subplaces place entry ++ rest)
opens_more accepts top forms places [] place rest entry opens sound earnest =
    subst (λ (ps : List OpenPlace). LeavesPlacesOpen accepts top forms ps (entry ∷ []) (subplaces place entry ++ rest)) (sym opens) (sound, earnest, refl)
opens_more accepts top forms [] (e ∷ entries) place rest entry opens sound earnest = absurd opens
opens_more accepts top forms (p ∷ places) (e ∷ entries) place rest entry opens sound earnest =
    (opens.0, opens.1, opens_more accepts top forms (subplaces p e ++ places) entries place rest entry opens.2 sound earnest)

-- with no open place left the entries are an earnest tree over each place
pub opens_ends : (accepts : Point → Type 0) (top : ℕ) (forms : List Form) (places : List OpenPlace) (entries : List Entry) →
    LeavesPlacesOpen accepts top forms places entries [] → Earnest accepts top forms places entries
opens_ends accepts top forms places [] opens = subst (λ (ps : List OpenPlace). Earnest accepts top forms ps []) (sym opens) tt
opens_ends accepts top forms [] (e ∷ entries) opens = absurd opens
opens_ends accepts top forms (p ∷ places) (e ∷ entries) opens =
    (opens.0, opens.1, opens_ends accepts top forms (subplaces p e ++ places) entries opens.2)

earnest_undones : (accepts : Point → Type 0) (top : ℕ) (forms : List Form) (places : List OpenPlace) →
    Earnest accepts top forms places (undones (length places))
earnest_undones accepts top forms [] = tt
earnest_undones accepts top forms (p ∷ places) = (tt, tt, earnest_undones accepts top forms places)

-- an Undone for each open place ends it
pub opens_undone : (accepts : Point → Type 0) (top : ℕ) (forms : List Form) (places : List OpenPlace) (entries : List Entry)
    (left : List OpenPlace) → LeavesPlacesOpen accepts top forms places entries left →
    Earnest accepts top forms places (entries ++ undones (length left))
opens_undone accepts top forms places [] left opens =
    subst (λ (ps : List OpenPlace). Earnest accepts top forms ps (undones (length left))) (sym opens) (earnest_undones accepts top forms left)
opens_undone accepts top forms [] (e ∷ entries) left opens = absurd opens
opens_undone accepts top forms (p ∷ places) (e ∷ entries) left opens =
    (opens.0, opens.1, opens_undone accepts top forms (subplaces p e ++ places) entries left opens.2)

abbrev pub boxes_of : List OpenPlace → List CostBox
boxes_of places = map (λ place. place.box) places

-- what is earnest is sound
pub earnest_sound : (accepts : Point → Type 0) (top : ℕ) (forms : List Form) (places : List OpenPlace)
    (entries : List Entry) → Earnest accepts top forms places entries → Sound forms (boxes_of places) entries
earnest_sound accepts top forms [] [] earnest = tt
earnest_sound accepts top forms (p ∷ places) [] earnest = absurd earnest
earnest_sound accepts top forms [] (e ∷ entries) earnest = absurd earnest
earnest_sound accepts top forms (p ∷ places) (Tighten var side value row ∷ entries) earnest =
    (earnest.0, earnest_sound accepts top forms (subplaces p (Tighten var side value row) ++ places) entries earnest.2)
earnest_sound accepts top forms (p ∷ places) (Split var value ∷ entries) earnest =
    (earnest.0, earnest_sound accepts top forms (subplaces p (Split var value) ++ places) entries earnest.2)
earnest_sound accepts top forms (p ∷ places) (Halve var value wide ∷ entries) earnest =
    (earnest.0, earnest_sound accepts top forms (subplaces p (Halve var value wide) ++ places) entries earnest.2)
earnest_sound accepts top forms (p ∷ places) (Refute parts ∷ entries) earnest =
    (earnest.0, earnest_sound accepts top forms places entries earnest.2)
earnest_sound accepts top forms (p ∷ places) (Undone ∷ entries) earnest =
    (earnest.0, earnest_sound accepts top forms places entries earnest.2)

pub earnest_tree_sound : (accepts : Point → Type 0) (top : ℕ) (forms : List Form) (box : CostBox) (tree : List Entry) →
    IsEarnestTree accepts top forms box tree → IsSoundTree forms box tree
earnest_tree_sound accepts top forms box tree earnest = earnest_sound accepts top forms (record { box = box; since = [] } ∷ []) tree earnest

-- the boxes that are open behind an entry
pub same_boxes : (place : OpenPlace) (entry : Entry) (places : List OpenPlace) →
    boxes_of (subplaces place entry ++ places) ≡ subboxes place.box entry ++ boxes_of places
same_boxes place (Tighten var side value row) places = refl
same_boxes place (Split var value) places = refl
same_boxes place (Halve var value wide) places = refl
same_boxes place (Refute parts) places = refl
same_boxes place Undone places = refl

-- what each sound entry hands from its box to its subtrees' boxes holds of the open ones
pub opens_all : (accepts : Point → Type 0) (top : ℕ) (forms : List Form) (Keeps : CostBox → Type 0) →
    ((box : CostBox) (entry : Entry) → Keeps box → SoundAt forms box entry → AllByRecursion Keeps (subboxes box entry)) →
    (places : List OpenPlace) (entries : List Entry) (left : List OpenPlace) → AllByRecursion Keeps (boxes_of places) →
    LeavesPlacesOpen accepts top forms places entries left → AllByRecursion Keeps (boxes_of left)
opens_all accepts top forms Keeps hands places [] left all opens = subst (λ (ps : List OpenPlace). AllByRecursion Keeps (boxes_of ps)) opens all
opens_all accepts top forms Keeps hands [] (e ∷ entries) left all opens = absurd opens
opens_all accepts top forms Keeps hands (p ∷ places) (e ∷ entries) left all opens =
    opens_all accepts top forms Keeps hands (subplaces p e ++ places) entries left
    (subst (AllByRecursion Keeps) (sym (same_boxes p e places)) (each_append Keeps (subboxes p.box e) (boxes_of places) (hands p.box e all.0 opens.0) all.1))
    opens.2

-- entries without an Undone are counted by their number
pub closed_count : (entries : List Entry) → IsClosed entries → entry_count entries ≡ length entries
closed_count [] closed = refl
closed_count (e ∷ entries) closed = rw closed.0 (omega (arith, closed_count entries closed.1))

undones_count : (n : ℕ) → entry_count (undones n) ≡ 0
undones_count zero = refl
undones_count (suc n) = let rest = undones_count n in omega arith

-- Undones at the end don't count
pub undone_count : (entries : List Entry) (n : ℕ) → IsClosed entries → entry_count (entries ++ undones n) ≡ length entries
undone_count [] n closed = undones_count n
undone_count (e ∷ entries) n closed = rw closed.0 (omega (arith, undone_count entries n closed.1))

-- one more entry that isn't an Undone
pub closed_more : (entries : List Entry) (entry : Entry) → IsClosed entries → is_undone entry ≡ false → IsClosed (entries ++ entry ∷ [])
closed_more [] entry closed here = (here, tt)
closed_more (e ∷ entries) entry closed here = (closed.0, closed_more entries entry closed.1 here)

pub undone_last : (entries : List Entry) (n : ℕ) → IsClosed entries → UndoneLast (entries ++ undones n)
undone_last entries n closed = record { done = entries; closed = closed; undone = n; same = refl }

-- an earnest tree leaves no place open
pub earnest_opens : (accepts : Point → Type 0) (top : ℕ) (forms : List Form) (places : List OpenPlace)
    (entries : List Entry) → Earnest accepts top forms places entries → LeavesPlacesOpen accepts top forms places entries []
earnest_opens accepts top forms [] [] earnest = refl
earnest_opens accepts top forms (p ∷ places) [] earnest = absurd earnest
earnest_opens accepts top forms [] (e ∷ entries) earnest = absurd earnest
earnest_opens accepts top forms (p ∷ places) (e ∷ entries) earnest =
    (earnest.0, earnest.1, earnest_opens accepts top forms (subplaces p e ++ places) entries earnest.2)
