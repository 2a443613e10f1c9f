-- Trees once the form of the total has been moved behind those of the rows.
use Rattle.std.proofs.Common.{◌≡◌, ℕ, zero, suc, ◌+◌, ◌-◌, ◌^◌, ◌<◌, ◌≤◌, refl, sym, ◌∙◌, ap, subst, List, [], ◌∷◌, ◌++◌, map, length, length-append, take, drop, arith, inl, inr}
use Rattle.std.specs.Prelude.{◌⊎◌, Contains, slice_index_or}
use Rattle.std.proofs.Math.ListN.{get_or-append}
use Rattle.std.proofs.Math.Seq.{get_or-append_seam}
use Rattle.std.proofs.lemmas.Bool.{cases_lt}
use Rattle.std.proofs.lemmas.List.{length-map, map-append, get_or-map}
use Rattle.std.proofs.lemmas.List.Elements.{All-map}
use Rattle.cost_base.proofs.ListLemmas.{none_mapped}
use Rattle.area_graph.specs.declared.Point.{Point}
use Rattle.design_problem.specs.declared.boxes.CostBox.{CostBox}
use Rattle.design_problem.specs.declared.tree.Entry.{Entry}
use Rattle.design_problem.specs.declared.tree.Entry.TheVariants.{Tighten, Split, Halve, Refute, Undone}
use Rattle.design_problem.specs.Forms.{Form, form_at, no_form}
use Rattle.design_problem.specs.Trees.{IsClosed, SoundAt, AreSeveralTrees, entry_count, is_undone, subtree_count}
use Rattle.design_problem.specs.Earnest.{OpenPlace, Earnest, EarnestAt, subplaces}
use Rattle.design_problem.specs.OpenPlaces.{UndoneLast, undones}
use Rattle.design_problem.specs.Renumbering.{IsRenumbering, renumbered, renumbered_member, renumbered_multiplier}
use Rattle.design_problem.proofs.Renumbering.{renumbered_tree}
use Rattle.design_problem.specs.SearchTrees.{IsSearchTree, IsShort}
use Rattle.printed_rows.specs.NamedRows.{NamesBelow}
use Rattle.printed_rows.specs.NewNumbers.{KeepsOrder, number_given}
use Rattle.printed_rows.proofs.NamedLaws.{entry_agrees}
use Rattle.printed_rows.proofs.NumberLaws.{number_at, numbers_counted}
use Rattle.least_total.specs.Moving.{AreMovedNumbers, moved_entry, moved_number, put_last, with_last}
use Rattle.least_total.proofs.MovedParts.{all_last, length_last, number_before, number_behind, number_own, refutes_last}

-- Entries with the parts of the moved form last.

sound_last : (forms : List Form) (place : ℕ) (box : CostBox) (entry : Entry) → SoundAt forms box entry → SoundAt forms box (with_last place entry)
sound_last forms place box (Tighten var side value row) sound = sound
sound_last forms place box (Split var value) sound = sound
sound_last forms place box (Halve var value wide) sound = sound
sound_last forms place box (Refute parts) sound = refutes_last forms place parts box sound
sound_last forms place box Undone sound = tt

earnest_last : (accepts : Point → Type 0) (top : ℕ) (forms : List Form) (place : ℕ) (here : OpenPlace) (entry : Entry) →
    EarnestAt accepts top forms here entry → EarnestAt accepts top forms here (with_last place entry)
earnest_last accepts top forms place here (Tighten var side value row) earnest = earnest
earnest_last accepts top forms place here (Split var value) earnest = earnest
earnest_last accepts top forms place here (Halve var value wide) earnest = earnest
earnest_last accepts top forms place here (Refute parts) earnest = tt
earnest_last accepts top forms place here Undone earnest = tt

same_places : (place : ℕ) (here : OpenPlace) (entry : Entry) → subplaces here (with_last place entry) ≡ subplaces here entry
same_places place here (Tighten var side value row) = refl
same_places place here (Split var value) = refl
same_places place here (Halve var value wide) = refl
same_places place here (Refute parts) = refl
same_places place here Undone = refl

tree_last : (accepts : Point → Type 0) (top : ℕ) (forms : List Form) (place : ℕ) (places : List OpenPlace)
    (entries : List Entry) → Earnest accepts top forms places entries →
    Earnest accepts top forms places (map (with_last place) entries)
tree_last accepts top forms place [] [] earnest = tt
tree_last accepts top forms place (p ∷ places) [] earnest = absurd earnest
tree_last accepts top forms place [] (e ∷ entries) earnest = absurd earnest
tree_last accepts top forms place (p ∷ places) (e ∷ entries) earnest = (
  sound_last forms place p.box e earnest.0,
  earnest_last accepts top forms place p e earnest.1,
  subst (λ (ps : List OpenPlace). Earnest accepts top forms (ps ++ places) (map (with_last place) entries)) (sym (same_places place p e))
      (tree_last accepts top forms place (subplaces p e ++ places) entries earnest.2),
)

-- The forms, once that at the place has been moved.

-- a form before the place, the one at it, and one behind
get_before : (fs : List Form) (f : Form) (place row : ℕ) → place ≤ length fs → row < place → form_at (take place fs ++ f ∷ drop place fs) row ≡ form_at fs row
get_before fs f zero row within before = absurd (omega arith)
get_before [] f (suc place) row within before = absurd (omega arith)
get_before (g ∷ fs) f (suc place) zero within before = refl
get_before (g ∷ fs) f (suc place) (suc row) within before = get_before fs f place row (omega arith) (omega arith)

get_own : (fs : List Form) (f : Form) (place : ℕ) → place ≤ length fs → form_at (take place fs ++ f ∷ drop place fs) place ≡ f
get_own fs f zero within = refl
get_own [] f (suc place) within = absurd (omega arith)
get_own (g ∷ fs) f (suc place) within = get_own fs f place (omega arith)

get_behind : (fs : List Form) (f : Form) (place row : ℕ) → place ≤ length fs → place ≤ row →
    form_at (take place fs ++ f ∷ drop place fs) (suc row) ≡ form_at fs row
get_behind fs f zero row within behind = refl
get_behind [] f (suc place) row within behind = absurd (omega arith)
get_behind (g ∷ fs) f (suc place) zero within behind = absurd (omega arith)
get_behind (g ∷ fs) f (suc place) (suc row) within behind = get_behind fs f place row (omega arith) (omega arith)

pub with_count : (fs : List Form) (f : Form) (place : ℕ) → place ≤ length fs → length (take place fs ++ f ∷ drop place fs) ≡ length fs + 1
with_count fs f zero within = omega arith
with_count [] f (suc place) within = absurd (omega arith)
with_count (g ∷ fs) f (suc place) within = let rest = with_count fs f place (omega arith) in omega arith

move_kept : (fs : List Form) (f : Form) (place row : ℕ) → place ≤ length fs → row < length fs + 1 →
    (moved_number place (length fs) row < length fs + 1)
    × (form_at (fs ++ f ∷ []) (moved_number place (length fs) row) ≡ form_at (take place fs ++ f ∷ drop place fs) row)
move_kept fs f place row within known = elim (cases_lt row place) [
  | inl before ↦
      let number = number_before place (length fs) row before in (
        omega (arith, number),
        ap (form_at (fs ++ f ∷ [])) number ∙ get_or-append fs (f ∷ []) no_form row (omega arith)
            ∙ sym (get_before fs f place row within before),
      )
  | inr from ↦ by_from (cases_lt place row) from
]
  where
    at_behind : (r : ℕ) → row ≡ suc r → place ≤ r → (moved_number place (length fs) row < length fs + 1)
        × (form_at (fs ++ f ∷ []) (moved_number place (length fs) row)
        ≡ form_at (take place fs ++ f ∷ drop place fs) row)
    at_behind r same behind =
        let number : moved_number place (length fs) row ≡ r = number_behind place (length fs) row (omega arith) ∙ omega arith in (
          omega (arith, number),
          ap (form_at (fs ++ f ∷ [])) number ∙ get_or-append fs (f ∷ []) no_form r (omega arith)
              ∙ sym (get_behind fs f place r within behind)
              ∙ ap (form_at (take place fs ++ f ∷ drop place fs)) (sym same),
        )

    by_from : (place < row) ⊎ (row ≤ place) → place ≤ row → (moved_number place (length fs) row < length fs + 1)
        × (form_at (fs ++ f ∷ []) (moved_number place (length fs) row)
        ≡ form_at (take place fs ++ f ∷ drop place fs) row)
    by_from (inl behind) from = at_behind (row - 1) (omega arith) (omega arith)
    by_from (inr not_behind) from =
        let same : row ≡ place = omega arith in
        let number = number_own place (length fs) row same in (
          omega (arith, number),
          ap (form_at (fs ++ f ∷ [])) number ∙ get_or-append_seam fs f [] no_form ∙ sym (get_own fs f place within)
              ∙ ap (form_at (take place fs ++ f ∷ drop place fs)) (sym same),
        )

keeps_moved : (fs : List Form) (f : Form) (place : ℕ) → place ≤ length fs →
    IsRenumbering (moved_number place (length fs)) (take place fs ++ f ∷ drop place fs) (fs ++ f ∷ [])
keeps_moved fs f place within = record {
  known = λ row row_in. let here = (move_kept fs f place row within (omega (arith, with_count fs f place within))).0 in
      omega (arith, length-append fs (f ∷ []));
  same = λ row row_in. (move_kept fs f place row within (omega (arith, with_count fs f place within))).1;
}

moved_twice : (place others : ℕ) (entries : List Entry) →
    map (renumbered (moved_number place others)) (map (with_last place) entries) ≡ map (moved_entry place others) entries
moved_twice place others [] = refl
moved_twice place others (e ∷ entries) = ap (λ (es : List Entry). moved_entry place others e ∷ es) (moved_twice place others entries)

-- The list of the new numbers.

pub moved_counted : (place others : ℕ) (numbers : List ℕ) → AreMovedNumbers place others numbers → length numbers ≡ others + 1
moved_counted place others = numbers_counted (moved_number place others) (others + 1)

-- an entry that is no Refute: a move changes but its numbers
abbrev pub IsOther : Entry → Type 0
IsOther (Tighten var side value row) = Unit {0}
IsOther (Split var value) = Unit {0}
IsOther (Halve var value wide) = Unit {0}
IsOther (Refute parts) = ⊥
IsOther Undone = Unit {0}

pub order_other : (numbers : List ℕ) (entry : Entry) → IsOther entry → KeepsOrder (number_given numbers) entry
order_other numbers (Tighten var side value row) is = tt
order_other numbers (Split var value) is = tt
order_other numbers (Halve var value wide) is = tt
order_other numbers (Refute parts) is = absurd is
order_other numbers Undone is = tt

same_parts : (place : ℕ) (entry : Entry) → IsOther entry → with_last place entry ≡ entry
same_parts place (Tighten var side value row) is = refl
same_parts place (Split var value) is = refl
same_parts place (Halve var value wide) is = refl
same_parts place (Refute parts) is = absurd is
same_parts place Undone is = refl

-- with the numbers of the list it is moved
pub moved_other : (place others : ℕ) (numbers : List ℕ) (entry : Entry) → AreMovedNumbers place others numbers →
    NamesBelow (others + 1) entry → IsOther entry → renumbered (number_given numbers) entry ≡ moved_entry place others entry
moved_other place others numbers entry are below is =
    entry_agrees (number_given numbers) (moved_number place others) (λ row. row < others + 1) entry
    (λ row within. number_at (moved_number place others) (others + 1) numbers row are within) below
    ∙ ap (renumbered (moved_number place others)) (sym (same_parts place entry is))

-- What an entry keeps.

same_undone : (place others : ℕ) (entry : Entry) → is_undone (moved_entry place others entry) ≡ is_undone entry
same_undone place others (Tighten var side value row) = refl
same_undone place others (Split var value) = refl
same_undone place others (Halve var value wide) = refl
same_undone place others (Refute parts) = refl
same_undone place others Undone = refl

pub moved_count : (place others : ℕ) (tree : List Entry) → entry_count (map (moved_entry place others) tree) ≡ entry_count tree
moved_count place others [] = refl
moved_count place others (e ∷ tree) = cc (same_undone place others e, moved_count place others tree)

pub moved_closed : (place others : ℕ) (tree : List Entry) → IsClosed tree → IsClosed (map (moved_entry place others) tree)
moved_closed place others [] closed = tt
moved_closed place others (e ∷ tree) closed = (same_undone place others e ∙ closed.0, moved_closed place others tree closed.1)

pub moved_undone : (place others : ℕ) (tree : List Entry) → Contains tree Undone → Contains (map (moved_entry place others) tree) Undone
moved_undone place others tree has = (
  has.0,
  omega (arith, length-map tree (moved_entry place others), has.1),
  get_or-map (moved_entry place others) tree has.0 Undone Undone has.1 ∙ ap (moved_entry place others) has.2,
)

undones_moved : (place others n : ℕ) → map (moved_entry place others) (undones n) ≡ undones n
undones_moved place others zero = refl
undones_moved place others (suc n) = ap (λ (es : List Entry). Undone ∷ es) (undones_moved place others n)

moved_last : (place others : ℕ) (tree : List Entry) → UndoneLast tree → UndoneLast (map (moved_entry place others) tree)
moved_last place others tree last = record {
  done = map (moved_entry place others) last.done;
  closed = moved_closed place others last.done last.closed;
  undone = last.undone;
  same =
      ap (map (moved_entry place others)) last.same
      ∙ map-append (moved_entry place others) last.done (undones last.undone)
      ∙ ap (λ (es : List Entry). map (moved_entry place others) last.done ++ es) (undones_moved place others last.undone);
}

none_last : (place : ℕ) (parts : List (ℕ × ℕ)) → put_last place parts ≡ [] → parts ≡ []
none_last place [] none = refl
none_last place (part ∷ parts) none = absurd (omega (arith, ap length none, length_last place (part ∷ parts)))

moved_short : (place others n : ℕ) (entry : Entry) → IsShort n entry → IsShort n (moved_entry place others entry)
moved_short place others n (Tighten var side value row) short = short
moved_short place others n (Split var value) short = short
moved_short place others n (Halve var value wide) short =
    ((short.0.0, short.0.1, λ none. short.0.2 (none_mapped (renumbered_member (moved_number place others)) wide.basis none)), tt)
moved_short place others n (Refute parts) short =
    let new : ℕ × ℕ → ℕ × ℕ = renumbered_multiplier (moved_number place others) in (
      (
        λ none. short.0.0 (none_last place parts (none_mapped new (put_last place parts) none)),
        All-map (λ (part : ℕ × ℕ). part.1 < 10 ^ 31) new (put_last place parts) (all_last (λ (part : ℕ × ℕ). part.1 < 10 ^ 31) place parts short.0.1),
      ),
      omega (arith, length-map (put_last place parts) new, length_last place parts, short.1),
    )
moved_short place others n Undone short = short

-- a search's tree over the forms with one at a place is one over these forms with that one behind them
pub moved_tree : (accepts : Point → Type 0) (top : ℕ) (fs : List Form) (f : Form) (place : ℕ) (box : CostBox)
    (tree : List Entry) → place ≤ length fs → IsSearchTree accepts top (take place fs ++ f ∷ drop place fs) box tree →
    IsSearchTree accepts top (fs ++ f ∷ []) box (map (moved_entry place (length fs)) tree)
moved_tree accepts top fs f place box tree within holds =
    let old = take place fs ++ f ∷ drop place fs in
    let places : List OpenPlace = record { box = box; since = [] } ∷ [] in
    record {
      earnest =
          subst (λ (es : List Entry). Earnest accepts top (fs ++ f ∷ []) places es) (moved_twice place (length fs) tree)
          (renumbered_tree (moved_number place (length fs)) old (fs ++ f ∷ []) accepts top places
          (map (with_last place) tree) (keeps_moved fs f place within)
          (tree_last accepts top old place places tree holds.earnest));
      last = moved_last place (length fs) tree holds.last;
      short = All-map (IsShort (length box.low)) (moved_entry place (length fs)) tree
          (λ k d k_in. moved_short place (length fs) (length box.low) (slice_index_or tree k d) (holds.short k d k_in));
    }

same_subtrees : (place others : ℕ) (entry : Entry) → subtree_count (moved_entry place others entry) ≡ subtree_count entry
same_subtrees place others (Tighten var side value row) = refl
same_subtrees place others (Split var value) = refl
same_subtrees place others (Halve var value wide) = refl
same_subtrees place others (Refute parts) = refl
same_subtrees place others Undone = refl

-- whole trees stay whole
pub moved_whole : (place others n : ℕ) (entries : List Entry) → AreSeveralTrees n entries → AreSeveralTrees n (map (moved_entry place others) entries)
moved_whole place others zero [] whole = tt
moved_whole place others (suc n) [] whole = absurd whole
moved_whole place others zero (e ∷ entries) whole = absurd whole
moved_whole place others (suc n) (e ∷ entries) whole =
    subst (λ (k : ℕ). AreSeveralTrees (k + n) (map (moved_entry place others) entries)) (sym (same_subtrees place others e))
    (moved_whole place others (subtree_count e + n) entries whole)
