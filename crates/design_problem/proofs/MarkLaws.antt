-- Marks of what was tightened, and the places of a tree that is built.
use Rattle.std.proofs.Common.{◌≡◌, ℕ, zero, suc, ◌+◌, ◌<◌, ◌≤◌, refl, sym, ◌∙◌, ap, subst, List, [], ◌∷◌, ◌++◌, map, length, length-set, reverse, arith}
use Rattle.std.specs.Prelude.{Bool, true, false, MatchBool, All, Contains, slice_index, slice_index_or, slice_set}
use Rattle.std.proofs.lemmas.List.{length-append, reverse-append}
use Rattle.std.proofs.lemmas.List.Elements.{All-cons, All-tail}
use Rattle.std.proofs.lemmas.Grind.{get_or-set_at}
use Rattle.std.proofs.Common.{get_or-set_other}
use native.Mathlib.Decide.{ℕ_discrete}
use Rattle.cost_base.proofs.ListLemmas.{contains_later}
use Rattle.design_problem.specs.declared.tree.Side.{Side}
use Rattle.design_problem.specs.declared.tree.Side.TheVariants.{Low, High}
use Rattle.design_problem.specs.declared.tree.Entry.{Entry}
use Rattle.design_problem.specs.declared.tree.Entry.TheVariants.{Tighten, Split, Halve, Refute, Undone}
use Rattle.design_problem.specs.declared.marks.Marks.{Marks}
use Rattle.design_problem.specs.Earnest.{OpenPlace, subplaces}
use Rattle.design_problem.specs.declared.boxes.CostBox.{CostBox}
use Rattle.design_problem.specs.Boxes.{with_high, with_low}
use Rattle.design_problem.specs.Trees.{subboxes, tightened}
use Rattle.design_problem.specs.OpenPlaces.{Growing, first_place, fresh, grown, places_after}
use Rattle.design_problem.specs.Stack.{OpenBoxes}
use Rattle.design_problem.specs.Builders.{AreSideMarks, KeepsBuilder, KeepsMarks, last_run, opened, places_of, run_of}

-- a Tighten more
pub run_more : (entries : List Entry) (var value row : ℕ) (side : Side) → run_of (entries ++ Tighten var side value row ∷ []) ≡ (var, side) ∷ run_of entries
run_more entries var value row side = ap last_run (reverse-append entries (Tighten var side value row ∷ []))

-- another entry
pub run_ends : (entries : List Entry) (entry : Entry) → ((more : List Entry) → last_run (entry ∷ more) ≡ []) → run_of (entries ++ entry ∷ []) ≡ []
run_ends entries entry ends = ap last_run (reverse-append entries (entry ∷ [])) ∙ ends (reverse entries)

contains_head : (run : List (ℕ × Side)) (q : ℕ × Side) → Contains (q ∷ run) q
contains_head run q = (0, omega arith, refl)

contains_other : (run : List (ℕ × Side)) (p q : ℕ × Side) → (p ≡ q → ⊥) → Contains (p ∷ run) q → Contains run q
contains_other run p q other has = go has.0 has.1 has.2
  where
    go : (k : ℕ) → k < length (p ∷ run) → slice_index_or (p ∷ run) k q ≡ q → Contains run q
    go zero k_in same = absurd (other same)
    go (suc k) k_in same = (k, omega arith, same)

-- marks of one side, where the variable is marked
set_marks : (side : Side) (begun : ℕ) (run : List (ℕ × Side)) (marks : List ℕ) (var count : ℕ) → begun < count →
    AreSideMarks side begun run marks → AreSideMarks side begun ((var, side) ∷ run) (slice_set marks var count)
set_marks side begun run marks var count above are v v_in =
    let known : v < length marks = omega (arith, length-set marks var count) in
    elim (ℕ_discrete v var) [
      | yes same ↦
          let here : slice_index (slice_set marks var count) v ≡ count =
          get_or-set_at marks var v count 0 same (subst (λ (n : ℕ). n < length marks) same known) in
          (λ less. subst (λ (u : ℕ). Contains ((var, side) ∷ run) (u, side)) (sym same) (contains_head run (var, side)), λ has. rw here above)
      | no other ↦
          let here : slice_index (slice_set marks var count) v ≡ slice_index marks v = get_or-set_other marks var v count 0 other in (
            λ less. contains_later {X = ℕ × Side} (var, side) run (v, side) ((are v known).0 (rw here at less)),
            λ has. rw here ((are v known).1 (contains_other run (var, side) (v, side) (λ e. other (sym (ap (λ (p : ℕ × Side). p.0) e))) has)),
          )
    ]

-- marks of the other side
kept_marks : (side other : Side) (begun : ℕ) (run : List (ℕ × Side)) (marks : List ℕ) (var : ℕ) → (other ≡ side → ⊥) →
    AreSideMarks side begun run marks → AreSideMarks side begun ((var, other) ∷ run) marks
kept_marks side other begun run marks var apart are v v_in = (
  λ less. contains_later {X = ℕ × Side} (var, other) run (v, side) ((are v v_in).0 less),
  λ has. (are v v_in).1 (contains_other run (var, other) (v, side) (λ e. apart (ap (λ (p : ℕ × Side). p.1) e)) has),
)

small_more : (marks : List ℕ) (entries : List Entry) (entry : Entry) → All (λ mark. mark ≤ length entries) marks →
    All (λ mark. mark ≤ length (entries ++ entry ∷ [])) marks
small_more marks entries entry small k d k_in = let here = small k d k_in in omega (arith, length-append entries (entry ∷ []))

small_set : (marks : List ℕ) (var count most : ℕ) → count ≤ most → All (λ mark. mark ≤ most) marks → All (λ mark. mark ≤ most) (slice_set marks var count)
small_set marks var count most few small k d k_in =
    let known : k < length marks = omega (arith, length-set marks var count) in
    elim (ℕ_discrete k var) [
      | yes same ↦ rw (get_or-set_at marks var k count d same (subst (λ (n : ℕ). n < length marks) same known)) few
      | no other ↦ rw (get_or-set_other marks var k count d other) (small k d known)
    ]

low_high : Low ≡ High → ⊥
low_high e = cc

high_low : High ≡ Low → ⊥
high_low e = cc

pub marked_low : (n : ℕ) (entries : List Entry) (var value row count : ℕ) (old new : Marks) → new.begun ≡ old.begun →
    new.low.items ≡ slice_set old.low.items var count → new.high.items ≡ old.high.items → KeepsMarks n entries old →
    count ≡ length entries + 1 → KeepsMarks n (entries ++ Tighten var Low value row ∷ []) new
marked_low n entries var value row count old new begun lows highs marked counted =
    let e = Tighten var Low value row in
    let run = run_more entries var value row Low in
    let long = length-append entries (e ∷ []) in
    record {
      low_count = ap length lows ∙ length-set old.low.items var count ∙ marked.low_count;
      high_count = ap length highs ∙ marked.high_count;
      low_small = subst (λ (ms : List ℕ). All (λ mark. mark ≤ length (entries ++ e ∷ [])) ms) (sym lows)
          (small_set old.low.items var count (length (entries ++ e ∷ [])) (omega arith)
          (small_more old.low.items entries e marked.low_small));
      high_small = subst (λ (ms : List ℕ). All (λ mark. mark ≤ length (entries ++ e ∷ [])) ms) (sym highs)
          (small_more old.high.items entries e marked.high_small);
      begun = let b = marked.begun in omega (arith, begun, long, ap length run);
      low_marks =
          subst (λ (rs : List (ℕ × Side)). AreSideMarks Low new.begun rs new.low.items) (sym run)
          (subst (λ (ms : List ℕ). AreSideMarks Low new.begun ((var, Low) ∷ run_of entries) ms) (sym lows)
          (subst (λ (b : ℕ). AreSideMarks Low b ((var, Low) ∷ run_of entries) (slice_set old.low.items var count)) (sym begun)
          (set_marks Low old.begun (run_of entries) old.low.items var count (omega (arith, marked.begun)) marked.low_marks)));
      high_marks =
          subst (λ (rs : List (ℕ × Side)). AreSideMarks High new.begun rs new.high.items) (sym run)
          (subst (λ (ms : List ℕ). AreSideMarks High new.begun ((var, Low) ∷ run_of entries) ms) (sym highs)
          (subst (λ (b : ℕ). AreSideMarks High b ((var, Low) ∷ run_of entries) old.high.items) (sym begun)
          (kept_marks High Low old.begun (run_of entries) old.high.items var low_high marked.high_marks)));
    }

pub marked_high : (n : ℕ) (entries : List Entry) (var value row count : ℕ) (old new : Marks) → new.begun ≡ old.begun →
    new.low.items ≡ old.low.items → new.high.items ≡ slice_set old.high.items var count → KeepsMarks n entries old →
    count ≡ length entries + 1 → KeepsMarks n (entries ++ Tighten var High value row ∷ []) new
marked_high n entries var value row count old new begun lows highs marked counted =
    let e = Tighten var High value row in
    let run = run_more entries var value row High in
    let long = length-append entries (e ∷ []) in
    record {
      low_count = ap length lows ∙ marked.low_count;
      high_count = ap length highs ∙ length-set old.high.items var count ∙ marked.high_count;
      low_small = subst (λ (ms : List ℕ). All (λ mark. mark ≤ length (entries ++ e ∷ [])) ms) (sym lows) (small_more old.low.items entries e marked.low_small);
      high_small = subst (λ (ms : List ℕ). All (λ mark. mark ≤ length (entries ++ e ∷ [])) ms) (sym highs)
          (small_set old.high.items var count (length (entries ++ e ∷ [])) (omega arith)
          (small_more old.high.items entries e marked.high_small));
      begun = let b = marked.begun in omega (arith, begun, long, ap length run);
      low_marks =
          subst (λ (rs : List (ℕ × Side)). AreSideMarks Low new.begun rs new.low.items) (sym run)
          (subst (λ (ms : List ℕ). AreSideMarks Low new.begun ((var, High) ∷ run_of entries) ms) (sym lows)
          (subst (λ (b : ℕ). AreSideMarks Low b ((var, High) ∷ run_of entries) old.low.items) (sym begun)
          (kept_marks Low High old.begun (run_of entries) old.low.items var high_low marked.low_marks)));
      high_marks =
          subst (λ (rs : List (ℕ × Side)). AreSideMarks High new.begun rs new.high.items) (sym run)
          (subst (λ (ms : List ℕ). AreSideMarks High new.begun ((var, High) ∷ run_of entries) ms) (sym highs)
          (subst (λ (b : ℕ). AreSideMarks High b ((var, High) ∷ run_of entries) (slice_set old.high.items var count)) (sym begun)
          (set_marks High old.begun (run_of entries) old.high.items var count (omega (arith, marked.begun)) marked.high_marks)));
    }

-- the first place, where one is open
pub place_of_open : (b : Bool) (boxes : OpenBoxes) (entries : List Entry) → 0 < length (places_of b boxes entries) →
    first_place (places_of b boxes entries) ≡ record { box = boxes.present; since = run_of entries }
place_of_open false boxes entries some = absurd (omega arith)
place_of_open true boxes entries some = refl

-- the places of some open boxes, the first with what was tightened there
abbrev pub place_list : List (ℕ × Side) → List CostBox → List OpenPlace
place_list since [] = []
place_list since (box ∷ boxes) = record { box = box; since = since } ∷ map fresh boxes

fresh_list : (boxes : List CostBox) → place_list [] boxes ≡ map fresh boxes
fresh_list [] = refl
fresh_list (box ∷ boxes) = refl

-- the places after an entry
listed_places : (box : CostBox) (behind_it : List CostBox) (entries : List Entry) (entry : Entry) →
    place_list (run_of (entries ++ entry ∷ [])) (subboxes box entry ++ behind_it)
    ≡ subplaces (record { box = box; since = run_of entries }) entry ++ map fresh behind_it
listed_places box behind_it entries (Tighten var side value row) =
    ap (λ (run : List (ℕ × Side)). place_list run (tightened box side var value ∷ behind_it))
    (run_more entries var value row side)
listed_places box behind_it entries (Split var value) =
    ap (λ (run : List (ℕ × Side)). place_list run (with_high box var value ∷ with_low box var (value + 1) ∷ behind_it))
    (run_ends entries (Split var value) (λ more. refl))
listed_places box behind_it entries (Halve var value wide) =
    ap (λ (run : List (ℕ × Side)). place_list run (with_high box var value ∷ with_low box var (value + 1) ∷ behind_it))
    (run_ends entries (Halve var value wide) (λ more. refl))
listed_places box behind_it entries (Refute parts) =
    ap (λ (run : List (ℕ × Side)). place_list run behind_it) (run_ends entries (Refute parts) (λ more. refl))
    ∙ fresh_list behind_it
listed_places box behind_it entries Undone =
    ap (λ (run : List (ℕ × Side)). place_list run behind_it) (run_ends entries Undone (λ more. refl))
    ∙ fresh_list behind_it

next_places : (more : Bool) (new : OpenBoxes) (entries : List Entry) (next : List CostBox) →
    MatchBool more (next ≡ new.present ∷ new.behind) (next ≡ []) →
    places_of more new entries ≡ place_list (run_of entries) next
next_places true new entries next same = ap (place_list (run_of entries)) (sym same)
next_places false new entries next same = ap (place_list (run_of entries)) (sym same)

-- a tree that is built has grown by an entry, where the boxes went on by it
pub view_grown : (open_now : Bool) (boxes : OpenBoxes) (entries : List Entry) (entry : Entry) (more : Bool)
    (new : OpenBoxes) (news : List Entry) (old : Growing) →
    (let tree : Growing = record { entries = entries; places = places_of open_now boxes entries } in tree) ≡ old →
    0 < length old.places → MatchBool more (subboxes boxes.present entry ++ boxes.behind ≡ new.present ∷ new.behind)
    (subboxes boxes.present entry ++ boxes.behind ≡ []) → news ≡ entries ++ entry ∷ [] →
    (let tree : Growing = record { entries = news; places = places_of more new news } in tree) ≡ grown old entry
view_grown open_now boxes entries entry more new news old is_old some went longer =
    subst (λ (tree : Growing). (let made : Growing = record { entries = news; places = places_of more new news } in made) ≡ grown tree entry) is_old
    (subst (λ (es : List Entry). (let made : Growing = record { entries = es; places = places_of more new es } in made)
    ≡ grown (record { entries = entries; places = places_of open_now boxes entries }) entry) (sym longer)
    (λ i. record { entries = entries ++ entry ∷ []; places = here open_now (subst (λ (tree : Growing). 0 < length tree.places) (sym is_old) some) i }))
  where
    here : (b : Bool) → 0 < length (places_of b boxes entries) → places_of more new (entries ++ entry ∷ []) ≡ places_after (places_of b boxes entries) entry
    here false nothing = absurd (omega arith)
    here true nothing =
        next_places more new (entries ++ entry ∷ []) (subboxes boxes.present entry ++ boxes.behind) went
        ∙ listed_places boxes.present boxes.behind entries entry

-- where a place is open, the present box is of as many variables as the marks are
pub low_count : (b : Bool) (boxes : OpenBoxes) (entries : List Entry) (marks : Marks) →
    0 < length (places_of b boxes entries) → KeepsBuilder entries b boxes marks →
    length marks.low.items ≡ length boxes.present.low
low_count false boxes entries marks some built = absurd (omega arith)
low_count true boxes entries marks some built = sym (built.counts 0 boxes.present (omega arith))

pub high_count : (b : Bool) (boxes : OpenBoxes) (entries : List Entry) (marks : Marks) →
    0 < length (places_of b boxes entries) → KeepsBuilder entries b boxes marks →
    length marks.high.items ≡ length boxes.present.low
high_count b boxes entries marks some built = built.marked.high_count ∙ low_count b boxes entries marks some built

-- boxes of so many variables give such boxes
counted_parts : (n : ℕ) (box : CostBox) (boxes : List CostBox) (entry : Entry) →
    All (λ b. length b.low ≡ n) (box ∷ boxes) → All (λ b. length b.low ≡ n) (subboxes box entry ++ boxes)
counted_parts n box boxes entry counts = go entry (counts 0 box (omega arith)) (All-tail (λ (b : CostBox). length b.low ≡ n) box boxes counts)
  where
    go : (e : Entry) → length box.low ≡ n → All (λ b. length b.low ≡ n) boxes → All (λ b. length b.low ≡ n) (subboxes box e ++ boxes)
    go (Tighten var Low value row) here rest =
        All-cons (λ (b : CostBox). length b.low ≡ n) (tightened box Low var value) boxes (length-set box.low var value
        ∙ here) rest
    go (Tighten var High value row) here rest = All-cons (λ (b : CostBox). length b.low ≡ n) (tightened box High var value) boxes here rest
    go (Split var value) here rest =
        All-cons (λ (b : CostBox). length b.low ≡ n) (with_high box var value) (with_low box var (value + 1) ∷ boxes) here
        (All-cons (λ (b : CostBox). length b.low ≡ n) (with_low box var (value + 1)) boxes (length-set box.low var (value + 1) ∙ here) rest)
    go (Halve var value wide) here rest =
        All-cons (λ (b : CostBox). length b.low ≡ n) (with_high box var value) (with_low box var (value + 1) ∷ boxes) here
        (All-cons (λ (b : CostBox). length b.low ≡ n) (with_low box var (value + 1)) boxes (length-set box.low var (value + 1) ∙ here) rest)
    go (Refute parts) here rest = rest
    go Undone here rest = rest

-- the boxes that are open then
opened_next : (more : Bool) (new : OpenBoxes) (next : List CostBox) → MatchBool more (next ≡ new.present ∷ new.behind) (next ≡ []) → opened more new ≡ next
opened_next true new next same = sym same
opened_next false new next same = sym same

-- what is kept when the boxes and the marks went on by an entry
pub built_more : (entries news : List Entry) (entry : Entry) (b more : Bool) (boxes new : OpenBoxes)
    (old marks : Marks) → news ≡ entries ++ entry ∷ [] → 0 < length (places_of b boxes entries) →
    MatchBool more (subboxes boxes.present entry ++ boxes.behind ≡ new.present ∷ new.behind)
    (subboxes boxes.present entry ++ boxes.behind ≡ []) →
    KeepsMarks (length old.low.items) (entries ++ entry ∷ []) marks → KeepsBuilder entries b boxes old →
    KeepsBuilder news more new marks
built_more entries news entry false more boxes new old marks longer some went marked built = absurd (omega arith)
built_more entries news entry true more boxes new old marks longer some went marked built = record {
  counts =
      subst (λ (n : ℕ). All (λ box. length box.low ≡ n) (opened more new)) (sym marked.low_count)
      (subst (λ (bs : List CostBox). All (λ box. length box.low ≡ length old.low.items) bs)
      (sym (opened_next more new (subboxes boxes.present entry ++ boxes.behind) went))
      (counted_parts (length old.low.items) boxes.present boxes.behind entry built.counts));
  marked = subst (λ (es : List Entry). KeepsMarks (length marks.low.items) es marks) (sym longer)
      (subst (λ (n : ℕ). KeepsMarks n (entries ++ entry ∷ []) marks) (sym marked.low_count) marked);
}
