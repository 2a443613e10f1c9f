-- The tree of a search while it grows, and what it shows at its end.
use Rattle.std.proofs.Common.{◌≡◌, ◌≢◌, ℕ, zero, suc, ◌+◌, ◌-◌, ◌*◌, ◌<◌, ◌≤◌, refl, sym, ◌∙◌, ap, subst, List, [], ◌∷◌, ◌++◌, length, arith, Bool, true, false, ◌==◌, if◌then◌else◌, ControlFlow, Break, Continue}
use Rattle.std.proofs.lemmas.Bool.{eq-eqb, eqb-false, eqb-true}
use Rattle.std.proofs.lemmas.List.{append-nil, get_or_default, length-append}
use Rattle.std.specs.Prelude.{All, Contains, slice_index}
use Rattle.std.proofs.lemmas.List.Elements.{Contains-append_right, All-push}
use Rattle.area_graph.specs.declared.Point.{Point}
use Rattle.design_problem.specs.Forms.{Form}
use Rattle.design_problem.specs.declared.boxes.CostBox.{CostBox}
use Rattle.design_problem.specs.declared.tree.Entry.{Entry}
use Rattle.design_problem.specs.declared.tree.Entry.TheVariants.{Undone}
use Rattle.design_problem.specs.Boxes.{IsBox, IsInBox}
use Rattle.design_problem.specs.Trees.{IsClosed, IsSingleTree, entry_count}
use Rattle.design_problem.specs.Earnest.{IsEarnestTree, OpenPlace}
use Rattle.design_problem.specs.OpenPlaces.{Growing, LeavesPlacesOpen, first_place, fresh, grown, places_after, undones}
use Rattle.design_problem.proofs.OpenPlaces.{closed_count, closed_more, earnest_tree_sound, opens_ends, opens_more, opens_undone, undone_count, undone_last}
use Rattle.design_problem.proofs.BoxParts.{IsBoxIn, in_part, open_boxes_in}
use Rattle.design_problem.proofs.Renumbering.{opens_kept}
use Rattle.design_problem.proofs.TreeShapes.{sound_whole}
use Rattle.form_search.specs.Sources.{Grows, SameFor}
use Rattle.form_search.specs.Points.{IsCostsBox}
use Rattle.design_problem.specs.SearchTrees.{IsSearchTree, IsShort}
use Rattle.form_search.specs.declared.found.Found.{Found}
use Rattle.form_search.specs.declared.found.Found.TheVariants.{Undecided}
use Rattle.form_search.specs.declared.desk.Next.{Next}
use Rattle.form_search.specs.declared.desk.Next.TheVariants.{Forms, Costs, Entry as ByEntry}
use Rattle.form_search.specs.Finds.{IsSearchResult}
use Rattle.form_search.specs.NextEntries.{IsNextStep, IsNextEntry, after_round}
use Rattle.form_search.proofs.MissingForms.{missing, missing_few}
use Rattle.form_search.proofs.Relaxing.{new_falls}
use Rattle.form_search.proofs.OtherSources.{next_same}

-- a tree over a box that grew by entries that might come next, at most so many
pub record IsGrowing (accepted : Point → Type 0) (top nodes : ℕ) (forms : List Form) (box : CostBox) (tree : Growing) : Type 0 where
  pub opens : LeavesPlacesOpen accepted top forms (fresh box ∷ []) tree.entries tree.places
  pub closed : IsClosed tree.entries
  pub short : All (IsShort (length box.low)) tree.entries
  pub few : length tree.entries ≤ nodes

pub growing_start : (accepted : Point → Type 0) (top nodes : ℕ) (forms : List Form) (box : CostBox) →
    IsGrowing accepted top nodes forms box (record { entries = []; places = fresh box ∷ [] })
growing_start accepted top nodes forms box = record { opens = refl; closed = tt; short = λ k d k_in. absurd (omega arith); few = omega arith }

-- more forms in the pool
pub growing_kept : (IsTrue : Form → Type 0) (accepted : Point → Type 0) (top nodes : ℕ) (old new : List Form)
    (box : CostBox) (tree : Growing) → Grows IsTrue old new → IsGrowing accepted top nodes old box tree →
    IsGrowing accepted top nodes new box tree
growing_kept IsTrue accepted top nodes old new box tree grows growing = record {
  opens = subst (λ (fs : List Form). LeavesPlacesOpen accepted top fs (fresh box ∷ []) tree.entries tree.places) (sym grows.same)
      (opens_kept accepted top old grows.more (fresh box ∷ []) tree.entries tree.places growing.opens);
  closed = growing.closed;
  short = growing.short;
  few = growing.few;
}

-- the first open box
pub first_in : (accepted : Point → Type 0) (top n : ℕ) (forms : List Form) (box : CostBox) (entries : List Entry)
    (places : List OpenPlace) → IsBox n box → 0 < length places → LeavesPlacesOpen accepted top forms (fresh box ∷ []) entries places →
    IsBoxIn n box (first_place places).box
first_in accepted top n forms box entries [] kept some opens = absurd (omega arith)
first_in accepted top n forms box entries (place ∷ places) kept some opens = (open_boxes_in accepted top n forms box entries (place ∷ places) kept opens).0

-- is a box of costs
pub first_costs : (n : ℕ) (box part : CostBox) → IsCostsBox n box → IsBoxIn n box part → IsCostsBox n part
first_costs n box part kept within = record {
  is_box = within.is_box;
  lows = λ k d k_in. subst (λ (x : ℕ). 1 ≤ x) (get_or_default part.low k 0 d k_in)
      (lower (slice_index box.low k) (slice_index part.low k)
      (kept.lows k 0 (omega (arith, kept.is_box.low_count, within.is_box.low_count))) (within.is_part.low k k_in));
  highs = λ k d k_in. subst (λ (x : ℕ). x ≤ 65535) (get_or_default part.high k 0 d k_in)
      (upper (slice_index box.high k) (slice_index part.high k)
      (kept.highs k 0 (omega (arith, kept.is_box.high_count, within.is_box.high_count)))
      (within.is_part.high k k_in));
  few = kept.few;
}
  where
    lower : (a b : ℕ) → 1 ≤ a → a ≤ b → 1 ≤ b
    lower a b some less = omega arith

    upper : (a b : ℕ) → a ≤ 65535 → b ≤ a → b ≤ 65535
    upper a b few less = omega arith

-- one more entry
pub growing_more : (accepted : Point → Type 0) (top nodes : ℕ) (forms : List Form) (box : CostBox) (tree : Growing)
    (entry : Entry) → IsBox (length box.low) box → IsGrowing accepted top nodes forms box tree →
    0 < length tree.places → length tree.entries ≢ nodes →
    IsNextEntry accepted top forms (first_place tree.places) entry →
    IsGrowing accepted top nodes forms box (grown tree entry)
growing_more accepted top nodes forms box tree entry kept growing some left next = record {
  opens = at_first tree.places some growing.opens next;
  closed = closed_more tree.entries entry growing.closed next.closed;
  short =
      All-push (IsShort (length box.low)) tree.entries entry growing.short
      (subst (λ (n : ℕ). IsShort n entry)
      (first_in accepted top (length box.low) forms box tree.entries tree.places kept some
      growing.opens).is_box.low_count next.short);
  few = let longer = length-append tree.entries (entry ∷ []) in let few = growing.few in omega arith;
}
  where
    at_first : (places : List OpenPlace) → 0 < length places →
        LeavesPlacesOpen accepted top forms (fresh box ∷ []) tree.entries places →
        IsNextEntry accepted top forms (first_place places) entry →
        LeavesPlacesOpen accepted top forms (fresh box ∷ []) (tree.entries ++ entry ∷ []) (places_after places entry)
    at_first [] some_place opens is_next = absurd (omega arith)
    at_first (place ∷ places) some_place opens is_next =
        opens_more accepted top forms (fresh box ∷ []) tree.entries place places entry opens is_next.sound
        is_next.earnest

-- costs of the first open box are costs of the box
pub first_found : (accepted : Point → Type 0) (top nodes : ℕ) (forms : List Form) (box : CostBox) (tree : Growing)
    (w : List ℕ) → IsBox (length box.low) box → IsGrowing accepted top nodes forms box tree → 0 < length tree.places →
    IsInBox (first_place tree.places).box w → IsInBox box w
first_found accepted top nodes forms box tree w kept growing some inside =
    in_part box (first_place tree.places).box w
    (first_in accepted top (length box.low) forms box tree.entries tree.places kept some
    growing.opens).is_part inside

none_left : (places : List OpenPlace) → (0 < length places → ⊥) → places ≡ []
none_left [] none = refl
none_left (place ∷ places) none = absurd (none (omega arith))

-- a tree with no open place
pub growing_ends : (accepted : Point → Type 0) (top nodes : ℕ) (forms : List Form) (box : CostBox) (tree : Growing) →
    IsGrowing accepted top nodes forms box tree → (0 < length tree.places → ⊥) →
    IsSearchTree accepted top forms box tree.entries × IsClosed tree.entries × (entry_count tree.entries ≤ nodes)
growing_ends accepted top nodes forms box tree growing none = (
  record {
    earnest = opens_ends accepted top forms (fresh box ∷ []) tree.entries
        (subst (λ (ps : List OpenPlace). LeavesPlacesOpen accepted top forms (fresh box ∷ []) tree.entries ps)
        (none_left tree.places none) growing.opens);
    last = record { done = tree.entries; closed = growing.closed; undone = 0; same = sym (append-nil tree.entries) };
    short = growing.short;
  },
  growing.closed,
  (let count = closed_count tree.entries growing.closed in let few = growing.few in omega arith),
)

all_undone : (P : Entry → Type 0) (entries : List Entry) (n : ℕ) → All P entries → P Undone → All P (entries ++ undones n)
all_undone P [] zero all one k d k_in = absurd (omega arith)
all_undone P [] (suc n) all one zero d k_in = one
all_undone P [] (suc n) all one (suc k) d k_in = all_undone P [] n (λ i f i_in. absurd (omega arith)) one k d (omega arith)
all_undone P (e ∷ entries) n all one zero d k_in = all 0 d (omega arith)
all_undone P (e ∷ entries) n all one (suc k) d k_in = all_undone P entries n (λ i f i_in. all (suc i) f (omega arith)) one k d (omega arith)

-- a tree whose open places are undone, where the budget is used up
pub growing_undone : (accepted : Point → Type 0) (top nodes : ℕ) (forms : List Form) (box : CostBox) (tree : Growing) →
    IsGrowing accepted top nodes forms box tree → 0 < length tree.places → length tree.entries ≡ nodes →
    IsSearchTree accepted top forms box (tree.entries ++ undones (length tree.places))
    × Contains (tree.entries ++ undones (length tree.places)) Undone
    × (entry_count (tree.entries ++ undones (length tree.places)) ≡ nodes)
growing_undone accepted top nodes forms box tree growing some full = (
  record {
    earnest = opens_undone accepted top forms (fresh box ∷ []) tree.entries tree.places growing.opens;
    last = undone_last tree.entries (length tree.places) growing.closed;
    short = all_undone (IsShort (length box.low)) tree.entries (length tree.places) growing.short (tt, tt);
  },
  Contains-append_right tree.entries (undones (length tree.places)) Undone (has_one (length tree.places) some),
  undone_count tree.entries (length tree.places) growing.closed ∙ full,
)
  where
    has_one : (n : ℕ) → 0 < n → Contains (undones n) Undone
    has_one zero none = absurd (omega arith)
    has_one (suc n) is = (0, omega arith, refl)

-- the entries are one whole tree
pub earnest_whole : (accepted : Point → Type 0) (top : ℕ) (forms : List Form) (box : CostBox) (tree : List Entry) →
    IsEarnestTree accepted top forms box tree → IsSingleTree tree
earnest_whole accepted top forms box tree earnest = sound_whole forms box tree (earnest_tree_sound accepted top forms box tree earnest)

-- a tree whose open places are undone is one whole tree
pub undone_whole : (accepted : Point → Type 0) (top nodes : ℕ) (forms : List Form) (box : CostBox) (tree : Growing) →
    IsGrowing accepted top nodes forms box tree → IsSingleTree (tree.entries ++ undones (length tree.places))
undone_whole accepted top nodes forms box tree growing =
    earnest_whole accepted top forms box (tree.entries ++ undones (length tree.places))
    (opens_undone accepted top forms (fresh box ∷ []) tree.entries tree.places growing.opens)

-- so is one with no open place
pub ended_whole : (accepted : Point → Type 0) (top nodes : ℕ) (forms : List Form) (box : CostBox) (tree : Growing) →
    IsGrowing accepted top nodes forms box tree → (0 < length tree.places → ⊥) → IsSingleTree tree.entries
ended_whole accepted top nodes forms box tree growing none =
    earnest_whole accepted top forms box tree.entries (growing_ends accepted top nodes forms box tree growing none).0.earnest

-- the tree goes on growing, or shows what was found
abbrev pub IsAfterRound : (Point → Type 0) → ℕ → ℕ → List Form → CostBox → ControlFlow Found Growing → Type 0
IsAfterRound accepted top nodes forms box (Continue tree) = IsGrowing accepted top nodes forms box tree
IsAfterRound accepted top nodes forms box (Break found) = IsSearchResult accepted top nodes forms box found

-- by what may come next
round_growing : (IsTrue : Form → Type 0) (accepted : Point → Type 0) (top nodes : ℕ) (old new : List Form)
    (box : CostBox) (tree : Growing) (next : Next) → IsBox (length box.low) box → Grows IsTrue old new →
    IsGrowing accepted top nodes old box tree → 0 < length tree.places →
    IsNextStep accepted top old new (first_place tree.places) next →
    IsAfterRound accepted top nodes new box (after_round nodes tree next)
round_growing IsTrue accepted top nodes old new box tree Forms kept grows growing some is =
    growing_kept IsTrue accepted top nodes old new box tree grows growing
round_growing IsTrue accepted top nodes old new box tree (Costs w) kept grows growing some is =
    (first_found accepted top nodes old box tree w kept growing some is.0, is.1)
round_growing IsTrue accepted top nodes old new box tree (ByEntry entry) kept grows growing some is = by (length tree.entries == nodes) refl
  where
    after : IsGrowing accepted top nodes new box tree
    after = growing_kept IsTrue accepted top nodes old new box tree grows growing

    by : (full : Bool) → (length tree.entries == nodes) ≡ full →
        IsAfterRound accepted top nodes new box
        (if full then Break (Undecided (tree.entries ++ undones (length tree.places))) else Continue (grown tree entry))
    by true full = growing_undone accepted top nodes new box tree after some (eqb-true (length tree.entries) nodes full)
    by false left = growing_more accepted top nodes new box tree entry kept after some (eqb-false (length tree.entries) nodes left) is

-- so does what a round comes to, where the next thing comes by a source that accepts the same points
pub round_shown : (IsTrue : Form → Type 0) (accepted other : Point → Type 0) (top nodes n : ℕ) (old new : List Form)
    (box : CostBox) (tree : Growing) (next : Next) (round shown : ControlFlow Found Growing) → IsBox n box →
    SameFor accepted other → Grows IsTrue old new → IsGrowing accepted top nodes old box tree → 0 < length tree.places →
    IsNextStep other top old new (first_place tree.places) next → round ≡ after_round nodes tree next → round ≡ shown →
    IsAfterRound accepted top nodes new box shown
round_shown IsTrue accepted other top nodes n old new box tree next round shown kept same grows growing some is outcome said =
    let is_box : IsBox (length box.low) box = subst (λ (m : ℕ). IsBox m box) (sym kept.low_count) kept in
    subst (IsAfterRound accepted top nodes new box) (sym outcome ∙ said)
    (round_growing IsTrue accepted top nodes old new box tree next is_box grows growing some
    (next_same accepted other top old new (first_place tree.places) next same is))

-- the tree has as many entries as it may have
pub after_round_full : (nodes : ℕ) (tree : Growing) (entry : Entry) (next : Next) (whole : List Entry) →
    next ≡ ByEntry entry → length tree.entries ≡ nodes → whole ≡ tree.entries ++ undones (length tree.places) →
    Break (Undecided whole) ≡ after_round nodes tree next
after_round_full nodes tree entry next whole is full same =
    subst (λ (n : Next). Break (Undecided whole) ≡ after_round nodes tree n) (sym is)
    (subst (λ (b : Bool). Break (Undecided whole)
    ≡ (if b then Break (Undecided (tree.entries ++ undones (length tree.places))) else Continue (grown tree entry)))
    (sym (eq-eqb (length tree.entries) nodes full))
    (ap (λ (es : List Entry). Break (Undecided es)) same))

-- how much is left of a search: the entries that the tree may still get, and the forms that the pool may
abbrev pub left_of : ℕ → List Form → List Form → Growing → ℕ
left_of nodes possible_forms forms tree = (nodes - length tree.entries) * (length possible_forms + 1) + missing possible_forms forms

one_less : (nodes entries longer few less more : ℕ) → longer ≡ entries + 1 → entries < nodes → less ≤ few →
    (nodes - longer) * (few + 1) + less < (nodes - entries) * (few + 1) + more
one_less nodes entries longer few less more one some at_most =
    let one_fewer : (nodes - longer) + 1 ≡ nodes - entries = omega arith in
    subst (λ (left : ℕ). (nodes - longer) * (few + 1) + less < left * (few + 1) + more) one_fewer (falls (nodes - longer))
  where
    falls : (left : ℕ) → left * (few + 1) + less < (left + 1) * (few + 1) + more
    falls left = omega arith

same_tree : (t u : Growing) → (let x : ControlFlow Found Growing = Continue u in x) ≡ Continue t → t ≡ u
same_tree t u e = cc

-- each round leaves less
after_round_falls : (IsTrue : Form → Type 0) (accepted : Point → Type 0) (top nodes : ℕ) (possible_forms old new : List Form)
    (place : OpenPlace) (tree longer : Growing) (next : Next) → ((form : Form) → IsTrue form → Contains possible_forms form) →
    Grows IsTrue old new → length tree.entries ≤ nodes → IsNextStep accepted top old new place next →
    Continue longer ≡ after_round nodes tree next → left_of nodes possible_forms new longer < left_of nodes possible_forms old tree
after_round_falls IsTrue accepted top nodes possible_forms old new place tree longer Forms listed grows few is goes =
    subst (λ (t : Growing). left_of nodes possible_forms new t < left_of nodes possible_forms old tree) (same_tree tree longer goes)
    (let less = new_falls IsTrue possible_forms old new listed grows is in omega arith)
after_round_falls IsTrue accepted top nodes possible_forms old new place tree longer (Costs w) listed grows few is goes = absurd (cc)
after_round_falls IsTrue accepted top nodes possible_forms old new place tree longer (ByEntry entry) listed grows few is goes =
    by (length tree.entries == nodes) refl goes
  where
    by : (full : Bool) → (length tree.entries == nodes) ≡ full →
        Continue longer ≡ (if full then Break (Undecided (tree.entries ++ undones (length tree.places))) else
        Continue (grown tree entry)) → left_of nodes possible_forms new longer < left_of nodes possible_forms old tree
    by true full goes_on = absurd (cc)
    by false left goes_on =
        subst (λ (t : Growing). left_of nodes possible_forms new t < left_of nodes possible_forms old tree) (same_tree (grown tree entry) longer goes_on)
        (one_less nodes (length tree.entries) (length (tree.entries ++ entry ∷ [])) (length possible_forms)
        (missing possible_forms new) (missing possible_forms old) (length-append tree.entries (entry ∷ [])) (let other =
        eqb-false (length tree.entries) nodes left in omega arith) (missing_few possible_forms new))

pub round_falls : (IsTrue : Form → Type 0) (accepted : Point → Type 0) (top nodes : ℕ)
    (possible_forms listed old new : List Form) (place : OpenPlace) (tree longer : Growing) (next : Next)
    (round : ControlFlow Found Growing) → ((form : Form) → IsTrue form → Contains listed form) → listed ≡ possible_forms →
    Grows IsTrue old new → length tree.entries ≤ nodes → IsNextStep accepted top old new place next →
    round ≡ after_round nodes tree next → round ≡ Continue longer →
    left_of nodes possible_forms new longer < left_of nodes possible_forms old tree
round_falls IsTrue accepted top nodes possible_forms listed old new place tree longer next round stands same grows few is outcome said =
    after_round_falls IsTrue accepted top nodes possible_forms old new place tree longer next
    (λ form is_true. subst (λ (forms : List Form). Contains forms form) same (stands form is_true))
    grows few is (sym said ∙ outcome)
