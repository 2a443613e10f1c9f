-- A tree over the rows that are printed: it is earnest with the rows that are left out, and sound without them.
use Rattle.std.proofs.Common.{◌≡◌, ℕ, zero, suc, ◌^◌, ◌<◌, refl, sym, ◌∙◌, ap, subst, List, [], ◌∷◌, ◌++◌, map, length, arith}
use Rattle.std.specs.Prelude.{pos, ◌+ℤ◌, ◌*ℤ◌, ◌<ℤ◌, All, Contains, slice_index_or}
use Rattle.std.proofs.lemmas.List.{length-map, map-append, get_or-map, get_or_append_left}
use Rattle.std.proofs.lemmas.List.Elements.{All-nil, All-cons, All-head, All-tail, All-map}
use Rattle.cost_base.proofs.ListLemmas.{none_mapped}
use Rattle.area_graph.specs.declared.Point.{Point}
use Rattle.design_problem.specs.declared.form.Form.{Form}
use Rattle.design_problem.specs.declared.boxes.CostBox.{CostBox}
use Rattle.design_problem.specs.declared.tree.Member.{Member}
use Rattle.design_problem.specs.declared.tree.Member.TheVariants.{Low as ByLow, High as ByHigh, Row as ByRow}
use Rattle.design_problem.specs.declared.tree.Entry.{Entry}
use Rattle.design_problem.specs.declared.tree.Entry.TheVariants.{Tighten, Split, Halve, Refute, Undone}
use Rattle.design_problem.specs.Forms.{added, form_at, no_form, weighted}
use Rattle.design_problem.specs.Basis.{IsFormOf}
use Rattle.design_problem.specs.Boxes.{greatest}
use Rattle.design_problem.specs.Trees.{Sound, SoundAt, IsClosed, entry_count, is_undone, removed, subboxes}
use Rattle.design_problem.specs.Earnest.{OpenPlace, Earnest, EarnestAt, IsEarnestTree, subplaces}
use Rattle.design_problem.specs.OpenPlaces.{UndoneLast, undones}
use Rattle.design_problem.specs.Renumbering.{renumbered, renumbered_member, renumbered_multiplier}
use Rattle.design_problem.proofs.Renumbering.{renumbered_tree}
use Rattle.design_problem.specs.SearchTrees.{IsShort}
use Rattle.printed_rows.specs.NamedRows.{MemberBelow, NamesBelow}
use Rattle.printed_rows.specs.NewNumbers.{KeepsRowsByNumber}
use Rattle.printed_rows.proofs.KeptRows.{keeps_forms}

weighted_first : (forms more : List Form) (parts : List (ℕ × ℕ)) → All (λ part. part.0 < length forms) parts →
    weighted (forms ++ more) parts ≡ weighted forms parts
weighted_first forms more [] names = refl
weighted_first forms more (part ∷ parts) names =
    let rest = weighted_first forms more parts (λ k d k_in. names (suc k) d (omega (arith, k_in))) in
    let here = get_or_append_left forms more no_form part.0 (names 0 part (omega arith)) in
    let P : Form → Form → Form = λ f r. record {
      constant = (pos part.1 *ℤ f.constant) +ℤ r.constant;
      coefficients = added (map (λ c. pos part.1 *ℤ c) f.coefficients) r.coefficients;
    } in
    ap (λ (f : Form). P f (weighted (forms ++ more) parts)) here ∙ ap (P (form_at forms part.0)) rest

-- an entry that names none but the first forms is sound over these
sound_first : (forms more : List Form) (box : CostBox) (entry : Entry) → NamesBelow (length forms) entry →
    SoundAt (forms ++ more) box entry → SoundAt forms box entry
sound_first forms more box (Tighten var side value row) names sound = record {
  var_known = sound.var_known;
  smaller = sound.smaller;
  row_known = names;
  refuted = subst (λ (f : Form). greatest f (removed box side var value) <ℤ pos 0) (get_or_append_left forms more no_form row names) sound.refuted;
}
sound_first forms more box (Split var value) names sound = sound
sound_first forms more box (Halve var value wide) names sound = sound
sound_first forms more box (Refute parts) names sound = record {
  rows = names;
  positive = sound.positive;
  sum = sound.sum;
  negative = subst (λ (f : Form). greatest f box <ℤ pos 0) (weighted_first forms more parts names) sound.negative;
}
sound_first forms more box Undone names sound = tt

pub sound_over_first : (forms more : List Form) (boxes : List CostBox) (entries : List Entry) →
    All (NamesBelow (length forms)) entries → Sound (forms ++ more) boxes entries → Sound forms boxes entries
sound_over_first forms more [] [] names sound = tt
sound_over_first forms more (box ∷ boxes) [] names sound = absurd sound
sound_over_first forms more [] (e ∷ entries) names sound = absurd sound
sound_over_first forms more (box ∷ boxes) (e ∷ entries) names sound = (
  sound_first forms more box e (All-head (NamesBelow (length forms)) e entries names) sound.0,
  sound_over_first forms more (subboxes box e ++ boxes) entries (All-tail (NamesBelow (length forms)) e entries names) sound.1,
)

-- the tree over the rows that are kept, with all rows behind them
pub tree_over_both : {R : Type 0} (accepts : Point → Type 0) (top : ℕ) (form : R → Form) (box : CostBox) (number : ℕ →
    ℕ) (old kept more : List R) (tree new_tree : List Entry) → KeepsRowsByNumber number old (kept ++ more) →
    new_tree ≡ map (renumbered number) tree → IsEarnestTree accepts top (map form old) box tree →
    IsEarnestTree accepts top (map form kept ++ map form more) box new_tree
tree_over_both accepts top form box number old kept more tree new_tree keeps same earnest =
    subst (λ (es : List Entry). IsEarnestTree accepts top (map form kept ++ map form more) box es) (sym same)
    (subst (λ (fs : List Form). IsEarnestTree accepts top fs box (map (renumbered number) tree)) (map-append form kept more)
    (renumbered_tree number (map form old) (map form (kept ++ more)) accepts top (record { box = box; since = [] } ∷ [])
    tree (keeps_forms form number old (kept ++ more) keeps) earnest))

same_undone : (number : ℕ → ℕ) (entry : Entry) → is_undone (renumbered number entry) ≡ is_undone entry
same_undone number (Tighten var side value row) = refl
same_undone number (Split var value) = refl
same_undone number (Halve var value wide) = refl
same_undone number (Refute parts) = refl
same_undone number Undone = refl

-- as many entries
pub count_kept : (number : ℕ → ℕ) (tree : List Entry) → entry_count (map (renumbered number) tree) ≡ entry_count tree
count_kept number [] = refl
count_kept number (e ∷ tree) = cc (same_undone number e, count_kept number tree)

-- no Undone comes in
pub closed_kept : (number : ℕ → ℕ) (tree : List Entry) → IsClosed tree → IsClosed (map (renumbered number) tree)
closed_kept number [] closed = tt
closed_kept number (e ∷ tree) closed = (same_undone number e ∙ closed.0, closed_kept number tree closed.1)

-- and none is lost
pub undone_kept : (number : ℕ → ℕ) (tree : List Entry) → Contains tree Undone → Contains (map (renumbered number) tree) Undone
undone_kept number tree has = (
  has.0,
  omega (arith, length-map tree (renumbered number), has.1),
  get_or-map (renumbered number) tree has.0 Undone Undone has.1 ∙ ap (renumbered number) has.2,
)

undones_kept : (number : ℕ → ℕ) (n : ℕ) → map (renumbered number) (undones n) ≡ undones n
undones_kept number zero = refl
undones_kept number (suc n) = ap (λ (es : List Entry). Undone ∷ es) (undones_kept number n)

pub last_kept : (number : ℕ → ℕ) (tree : List Entry) → UndoneLast tree → UndoneLast (map (renumbered number) tree)
last_kept number tree last = record {
  done = map (renumbered number) last.done;
  closed = closed_kept number last.done last.closed;
  undone = last.undone;
  same =
      ap (map (renumbered number)) last.same
      ∙ map-append (renumbered number) last.done (undones last.undone)
      ∙ ap (λ (es : List Entry). map (renumbered number) last.done ++ es) (undones_kept number last.undone);
}

short_entry : (number : ℕ → ℕ) (n : ℕ) (entry : Entry) → IsShort n entry → IsShort n (renumbered number entry)
short_entry number n (Tighten var side value row) short = short
short_entry number n (Split var value) short = short
short_entry number n (Halve var value wide) short =
    ((short.0.0, short.0.1, λ none. short.0.2 (none_mapped (renumbered_member number) wide.basis none)), tt)
short_entry number n (Refute parts) short = (
  (
    λ none. short.0.0 (none_mapped (renumbered_multiplier number) parts none),
    All-map (λ (part : ℕ × ℕ). part.1 < 10 ^ 31) (renumbered_multiplier number) parts short.0.1,
  ),
  omega (arith, length-map parts (renumbered_multiplier number), short.1),
)
short_entry number n Undone short = short

-- the entries stay short
pub short_kept : (number : ℕ → ℕ) (n : ℕ) (tree : List Entry) → All (IsShort n) tree → All (IsShort n) (map (renumbered number) tree)
short_kept number n tree short = All-map (IsShort n) (renumbered number) tree (λ k d k_in. short_entry number n (slice_index_or tree k d) (short k d k_in))

member_below : (box : CostBox) (forms : List Form) (member : Member) → IsFormOf box forms member → MemberBelow (length forms) member
member_below box forms (ByLow var value) is = tt
member_below box forms (ByHigh var value) is = tt
member_below box forms (ByRow row) is = is

names_at : (accepts : Point → Type 0) (top : ℕ) (forms : List Form) (place : OpenPlace) (entry : Entry) →
    SoundAt forms place.box entry → EarnestAt accepts top forms place entry → NamesBelow (length forms) entry
names_at accepts top forms place (Tighten var side value row) sound earnest = sound.row_known
names_at accepts top forms place (Split var value) sound earnest = tt
names_at accepts top forms place (Halve var value wide) sound earnest =
    λ k d k_in. member_below place.box forms (slice_index_or wide.basis k d) (earnest.table.members k d k_in)
names_at accepts top forms place (Refute parts) sound earnest = sound.rows
names_at accepts top forms place Undone sound earnest = tt

-- an earnest tree names none but the forms that it stands over
pub earnest_names : (accepts : Point → Type 0) (top : ℕ) (forms : List Form) (places : List OpenPlace)
    (entries : List Entry) → Earnest accepts top forms places entries → All (NamesBelow (length forms)) entries
earnest_names accepts top forms [] [] earnest = All-nil (NamesBelow (length forms))
earnest_names accepts top forms (p ∷ places) [] earnest = absurd earnest
earnest_names accepts top forms [] (e ∷ entries) earnest = absurd earnest
earnest_names accepts top forms (p ∷ places) (e ∷ entries) earnest =
    All-cons (NamesBelow (length forms)) e entries (names_at accepts top forms p e earnest.0 earnest.1)
    (earnest_names accepts top forms (subplaces p e ++ places) entries earnest.2)
