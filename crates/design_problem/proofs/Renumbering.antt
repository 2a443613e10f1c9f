-- Trees whose rows have got other numbers are sound and earnest again.
use Rattle.std.proofs.Common.{◌≡◌, ℕ, zero, suc, ◌<◌, ◌≤◌, refl, sym, ◌∙◌, ap, subst, List, [], ◌∷◌, ◌++◌, map, length, arith, take, drop, fold}
use Rattle.std.specs.Prelude.{pos, ◌+ℤ◌, ◌*ℤ◌, ◌<ℤ◌, ◌≤ℤ◌, All, Some, slice_get, slice_index_or, sum_by}
use Rattle.std.proofs.lemmas.List.{length-map, length-append, get_or_append_left}
use Rattle.std.proofs.lemmas.List.Sums.{sum_by-cons}
use Rattle.area_graph.specs.declared.Point.{Point}
use Rattle.cost_base.specs.declared.StepName.{StepName}
use Rattle.whole_numbers.specs.Fractions.{Fraction, plus, whole, sum_of}
use Rattle.design_problem.specs.declared.form.Form.{Form}
use Rattle.design_problem.specs.declared.boxes.CostBox.{CostBox}
use Rattle.design_problem.specs.declared.tree.Side.{Side}
use Rattle.design_problem.specs.declared.tree.Member.{Member}
use Rattle.design_problem.specs.declared.tree.Member.TheVariants.{Low, High, Row}
use Rattle.design_problem.specs.declared.tree.WideAt.{WideAt}
use Rattle.design_problem.specs.declared.tree.Entry.{Entry}
use Rattle.design_problem.specs.declared.tree.Entry.TheVariants.{Tighten, Split, Halve, Refute, Undone}
use Rattle.design_problem.specs.Forms.{added, form_at, no_form, weighted}
use Rattle.design_problem.specs.Boxes.{Refutes, greatest}
use Rattle.design_problem.specs.Basis.{entry, AreEntries, HasEntries, IsFormOf, IsTable, forms_of, low_member, member_form}
use Rattle.cost_base.specs.declared.StepName.TheVariants.{Add, Mul, Lcm, Scale}
use Rattle.design_problem.specs.Steps.{IsPivot, IsTableStep, row_product, row_sum, pivot_quotient, pivot_inverse, pivot_product, pivot_inverse_product, pivot_difference, corner_multiple, corner_scale, multiple, multiplier_product, multiplier_sum, multiplier_scale, IsRefutingForm, IsStepTooWide, column_parts, denominators, lcm_of, made_whole, refuting_multipliers, own_multiplier, start_of_sum, terms, two_to_27}
use Rattle.design_problem.specs.Trees.{SoundAt, TightensAt, removed, Sound, subboxes}
use Rattle.design_problem.specs.Earnest.{OpenPlace, Earnest, EarnestAt, at_bound, subplaces}
use Rattle.design_problem.specs.OpenPlaces.{LeavesPlacesOpen}
use Rattle.design_problem.specs.Renumbering.{IsRenumbering, renumbered, renumbered_member, renumbered_multiplier, renumbered_wide}
use Rattle.design_problem.specs.SearchTrees.{IsSearchTree}
use Rattle.design_problem.proofs.OpenPlaces.{earnest_opens, opens_ends}

renumbered_form : (number : ℕ → ℕ) (old new : List Form) (n : ℕ) (box : CostBox) (member : Member) →
    IsRenumbering number old new → IsFormOf box old member →
    member_form n new (renumbered_member number member) ≡ member_form n old member
renumbered_form number old new n box (Low var bound) keeps is = refl
renumbered_form number old new n box (High var bound) keeps is = refl
renumbered_form number old new n box (Row row) keeps is = keeps.same row is

renumbered_known : (number : ℕ → ℕ) (old new : List Form) (box : CostBox) (member : Member) →
    IsRenumbering number old new → IsFormOf box old member → IsFormOf box new (renumbered_member number member)
renumbered_known number old new box (Low var bound) keeps is = is
renumbered_known number old new box (High var bound) keeps is = is
renumbered_known number old new box (Row row) keeps is = keeps.known row is

renumbered_forms : (number : ℕ → ℕ) (old new : List Form) (box : CostBox) (basis : List Member) →
    IsRenumbering number old new → All (IsFormOf box old) basis → forms_of box new (map (renumbered_member number) basis)
    ≡ forms_of box old basis
renumbered_forms number old new box [] keeps are = refl
renumbered_forms number old new box (member ∷ basis) keeps are =
    cc (
      renumbered_form number old new (length box.low) box member keeps (are 0 member (omega arith)),
      renumbered_forms number old new box basis keeps (λ k d k_in. are (suc k) d (omega (arith, k_in))),
    )

renumbered_all : (number : ℕ → ℕ) (old new : List Form) (box : CostBox) (basis : List Member) →
    IsRenumbering number old new → All (IsFormOf box old) basis →
    All (IsFormOf box new) (map (renumbered_member number) basis)
renumbered_all number old new box [] keeps are k d k_in = absurd (omega arith)
renumbered_all number old new box (member ∷ basis) keeps are zero d k_in = renumbered_known number old new box member keeps (are 0 member (omega arith))
renumbered_all number old new box (member ∷ basis) keeps are (suc k) d k_in =
    renumbered_all number old new box basis keeps (λ i e i_in. are (suc i) e (omega (arith, i_in))) k d (omega arith)

-- the entries of a form stay its entries
renumbered_entries : (number : ℕ → ℕ) (old new : List Form) (box : CostBox) (basis : List Member) (member : Member)
    (es : List Fraction) → IsRenumbering number old new → All (IsFormOf box old) basis → IsFormOf box old member →
    HasEntries box old basis member es →
    HasEntries box new (map (renumbered_member number) basis) (renumbered_member number member) es
renumbered_entries number old new box basis member es keeps are is has =
    subst (λ (fs : List Form). AreEntries fs (member_form (length box.low) new (renumbered_member number member)) es)
    (sym (renumbered_forms number old new box basis keeps are))
    (subst (λ (f : Form). AreEntries (forms_of box old basis) f es) (sym (renumbered_form number old new (length box.low) box member keeps is)) has)

low_entries : (number : ℕ → ℕ) (old new : List Form) (box : CostBox) (basis : List Member) (var : ℕ)
    (es : List Fraction) → IsRenumbering number old new → All (IsFormOf box old) basis → var < length box.low →
    HasEntries box old basis (low_member box var) es →
    HasEntries box new (map (renumbered_member number) basis) (low_member box var) es
low_entries number old new box basis var es keeps are var_in has =
    renumbered_entries number old new box basis (low_member box var) es keeps are (var_in, refl) has

renumbered_table : (number : ℕ → ℕ) (old new : List Form) (box : CostBox) (basis : List Member)
    (lows : List (List Fraction)) → IsRenumbering number old new → IsTable box old basis lows →
    IsTable box new (map (renumbered_member number) basis) lows
renumbered_table number old new box basis lows keeps table =
    let counted = length-map basis (renumbered_member number) in
    record {
      count = counted ∙ table.count;
      members = renumbered_all number old new box basis keeps table.members;
      lows_count = table.lows_count;
      entries = λ var var_in. low_entries number old new box basis var _ keeps table.members var_in (table.entries var var_in);
      lead = λ k k_in. table.lead k (omega (arith, counted));
    }

same_parts : (number : ℕ → ℕ) (basis : List Member) (qs : List Fraction) → column_parts (map (renumbered_member number) basis) qs ≡ column_parts basis qs
same_parts number [] qs = refl
same_parts number (Low var bound ∷ basis) [] = refl
same_parts number (High var bound ∷ basis) [] = refl
same_parts number (Row row ∷ basis) [] = refl
same_parts number (Low var bound ∷ basis) (q ∷ qs) = same_parts number basis qs
same_parts number (High var bound ∷ basis) (q ∷ qs) = same_parts number basis qs
same_parts number (Row row ∷ basis) (q ∷ qs) = cc (same_parts number basis qs)

same_own : (number : ℕ → ℕ) (member : Member) → own_multiplier (renumbered_member number member) ≡ own_multiplier member
same_own number (Low var bound) = refl
same_own number (High var bound) = refl
same_own number (Row row) = refl

same_multipliers : (number : ℕ → ℕ) (basis : List Member) (r : Member) (es : List Fraction) →
    refuting_multipliers (map (renumbered_member number) basis) (renumbered_member number r) es ≡ refuting_multipliers basis r es
same_multipliers number basis r es = cc (same_own number r, same_parts number basis (drop 1 es))

-- a step stays a step
renumbered_step : (number : ℕ → ℕ) (old new : List Form) (box : CostBox) (basis : List Member)
    (lows : List (List Fraction)) (name : StepName) (left right : Fraction) → IsRenumbering number old new →
    All (IsFormOf box old) basis → IsTableStep box old basis lows name left right →
    IsTableStep box new (map (renumbered_member number) basis) lows name left right
renumbered_step number old new box basis lows name left right keeps are step = go name left right step
  where
    counted : length (map (renumbered_member number) basis) ≡ length basis
    counted = length-map basis (renumbered_member number)

    within : (place : ℕ) → place ≤ length basis → place ≤ length (map (renumbered_member number) basis)
    within place small = omega (arith, counted)

    pivots : (es : List Fraction) (j : ℕ) → IsPivot basis es j → IsPivot (map (renumbered_member number) basis) es j
    pivots es j pivot = record { column = (pivot.column.0, omega (arith, counted, pivot.column.1)); below = pivot.below; above = pivot.above }

    refuting : (es : List Fraction) → IsRefutingForm basis es → IsRefutingForm (map (renumbered_member number) basis) es
    refuting es is = record { below = is.below; none_above = λ k from to. is.none_above k from (omega (arith, counted)) }

    has : (member : Member) (es : List Fraction) → IsFormOf box old member → HasEntries box old basis member es →
        HasEntries box new (map (renumbered_member number) basis) (renumbered_member number member) es
    has member es is entries = renumbered_entries number old new box basis member es keeps are is entries

    known : (member : Member) → IsFormOf box old member → IsFormOf box new (renumbered_member number member)
    known member is = renumbered_known number old new box member keeps is

    go : (name : StepName) (left right : Fraction) → IsTableStep box old basis lows name left right →
        IsTableStep box new (map (renumbered_member number) basis) lows name left right
    go name left right (row_product row var place row_in var_in small) =
        let P : Form → Type 0 = λ f. IsTableStep box new (map (renumbered_member number) basis) lows Mul
        (whole (slice_index_or f.coefficients var (pos 0))) (entry (slice_index_or lows var []) place) in
        subst P (keeps.same row row_in) (row_product (number row) var place (keeps.known row row_in) var_in (within place small))
    go name left right (row_sum row place k next row_in small gets) =
        let P : Form → Type 0 = λ f. slice_get (terms f.coefficients lows place) k ≡ Some next →
        IsTableStep box new (map (renumbered_member number) basis) lows Add
        (fold plus (start_of_sum box f place) (take k (terms f.coefficients lows place))) next in
        subst P (keeps.same row row_in) (row_sum (number row) place k next (keeps.known row row_in) (within place small)) gets
    go name left right (pivot_quotient r es j place is entries pivot small) =
        pivot_quotient (renumbered_member number r) es j place (known r is) (has r es is entries) (pivots es j pivot) (within place small)
    go name left right (pivot_inverse r es j is entries pivot) =
        pivot_inverse (renumbered_member number r) es j (known r is) (has r es is entries) (pivots es j pivot)
    go name left right (pivot_product r f es fs j place is entries pivot f_is f_entries small) =
        pivot_product (renumbered_member number r) (renumbered_member number f) es fs j place (known r is)
        (has r es is entries) (pivots es j pivot) (known f f_is) (has f fs f_is f_entries) (within place small)
    go name left right (pivot_inverse_product r f es fs j is entries pivot f_is f_entries) =
        pivot_inverse_product (renumbered_member number r) (renumbered_member number f) es fs j (known r is)
        (has r es is entries) (pivots es j pivot) (known f f_is) (has f fs f_is f_entries)
    go name left right (pivot_difference r f es fs j place is entries pivot f_is f_entries small) =
        pivot_difference (renumbered_member number r) (renumbered_member number f) es fs j place (known r is)
        (has r es is entries) (pivots es j pivot) (known f f_is) (has f fs f_is f_entries) (within place small)
    go name left right (corner_multiple k d gets) = corner_multiple k d gets
    go name left right corner_scale = corner_scale
    go name left right (multiple r es k d is entries is_refuting gets) =
        let P : List Fraction → Type 0 = λ ms. slice_get (denominators ms) k ≡ Some d →
        IsTableStep box new (map (renumbered_member number) basis) lows Lcm
        (whole (pos (lcm_of (take k (denominators ms))))) (whole (pos d)) in
        subst P (same_multipliers number basis r es) (multiple (renumbered_member number r) es k d (known r is) (has r es is entries) (refuting es is_refuting))
        gets
    go name left right (multiplier_product r es k q is entries is_refuting gets) =
        let P : List Fraction → Type 0 = λ ms. slice_get ms k ≡ Some q →
        IsTableStep box new (map (renumbered_member number) basis) lows Mul q (whole (pos (lcm_of (denominators ms)))) in
        subst P (same_multipliers number basis r es)
        (multiplier_product (renumbered_member number r) es k q (known r is) (has r es is entries)
        (refuting es is_refuting)) gets
    go name left right (multiplier_sum r es k next is entries is_refuting gets) =
        let P : List Fraction → Type 0 = λ ms. slice_get (made_whole ms) k ≡ Some next →
        IsTableStep box new (map (renumbered_member number) basis) lows Add (sum_of (take k (made_whole ms))) next in
        subst P (same_multipliers number basis r es)
        (multiplier_sum (renumbered_member number r) es k next (known r is) (has r es is entries)
        (refuting es is_refuting)) gets
    go name left right (multiplier_scale r es is entries is_refuting) =
        let P : List Fraction → Type 0 = λ ms. IsTableStep box new (map (renumbered_member number) basis) lows Scale (sum_of (made_whole ms)) two_to_27 in
        subst P (same_multipliers number basis r es) (multiplier_scale (renumbered_member number r) es (known r is) (has r es is entries)
        (refuting es is_refuting))

-- a step that is too wide stays one
pub renumbered_too_wide : (number : ℕ → ℕ) (old new : List Form) (top : ℕ) (box : CostBox) (wide : WideAt) →
    IsRenumbering number old new → IsStepTooWide top box old wide → IsStepTooWide top box new (renumbered_wide number wide)
renumbered_too_wide number old new top box wide keeps too_wide = record {
  lows = too_wide.lows;
  table = renumbered_table number old new box wide.basis too_wide.lows keeps too_wide.table;
  left = too_wide.left;
  right = too_wide.right;
  left_is = too_wide.left_is;
  right_is = too_wide.right_is;
  step = renumbered_step number old new box wide.basis too_wide.lows wide.step too_wide.left too_wide.right keeps too_wide.table.members too_wide.step;
  passes = too_wide.passes;
}

-- a Tighten stays sound and exact
pub renumbered_tightens : (number : ℕ → ℕ) (old new : List Form) (box : CostBox) (side : Side) (var value row : ℕ) →
    IsRenumbering number old new → TightensAt old box side var value row → TightensAt new box side var value (number row)
renumbered_tightens number old new box side var value row keeps tightens = record {
  var_known = tightens.var_known;
  smaller = tightens.smaller;
  row_known = keeps.known row tightens.row_known;
  refuted = subst (λ (f : Form). greatest f (removed box side var value) <ℤ pos 0) (sym (keeps.same row tightens.row_known)) tightens.refuted;
}

same_weighted : (number : ℕ → ℕ) (old new : List Form) (parts : List (ℕ × ℕ)) → IsRenumbering number old new →
    All (λ part. part.0 < length old) parts → weighted new (map (renumbered_multiplier number) parts) ≡ weighted old parts
same_weighted number old new [] keeps known = refl
same_weighted number old new (part ∷ parts) keeps known =
    let rest = same_weighted number old new parts keeps (λ k d k_in. known (suc k) d (omega (arith, k_in))) in
    let here = keeps.same part.0 (known 0 part (omega arith)) in
    let P : Form → Form → Form = λ f r. record {
      constant = (pos part.1 *ℤ f.constant) +ℤ r.constant;
      coefficients = added (map (λ c. pos part.1 *ℤ c) f.coefficients) r.coefficients;
    } in
    ap (λ (f : Form). P f (weighted new (map (renumbered_multiplier number) parts))) here ∙ ap (P (form_at old part.0)) rest

same_sum : (number : ℕ → ℕ) (parts : List (ℕ × ℕ)) → sum_by (λ part. part.1) (map (renumbered_multiplier number) parts) ≡ sum_by (λ part. part.1) parts
same_sum number [] = refl
same_sum number (part ∷ parts) =
    let rest = same_sum number parts in
    rw (
      sum_by-cons (λ (p : ℕ × ℕ). p.1) (renumbered_multiplier number part) (map (renumbered_multiplier number) parts),
      sum_by-cons (λ (p : ℕ × ℕ). p.1) part parts,
    ) (omega arith)

all_parts : (number : ℕ → ℕ) (P Q : ℕ × ℕ → Type 0) → ((part : ℕ × ℕ) → P part → Q (renumbered_multiplier number part)) →
    (parts : List (ℕ × ℕ)) → All P parts → All Q (map (renumbered_multiplier number) parts)
all_parts number P Q moves [] all k d k_in = absurd (omega arith)
all_parts number P Q moves (part ∷ parts) all zero d k_in = moves part (all 0 part (omega arith))
all_parts number P Q moves (part ∷ parts) all (suc k) d k_in =
    all_parts number P Q moves parts (λ i e i_in. all (suc i) e (omega (arith, i_in))) k d (omega arith)

-- a Refute stays one
pub renumbered_refutes : (number : ℕ → ℕ) (old new : List Form) (parts : List (ℕ × ℕ)) (box : CostBox) →
    IsRenumbering number old new → Refutes old parts box → Refutes new (map (renumbered_multiplier number) parts) box
renumbered_refutes number old new parts box keeps refutes = record {
  rows = all_parts number (λ part. part.0 < length old) (λ part. part.0 < length new) (λ part known. keeps.known part.0 known) parts refutes.rows;
  positive = all_parts number (λ part. 0 < part.1) (λ part. 0 < part.1) (λ part some. some) parts refutes.positive;
  sum = rw (same_sum number parts) refutes.sum;
  negative = subst (λ (f : Form). greatest f box <ℤ pos 0) (sym (same_weighted number old new parts keeps refutes.rows)) refutes.negative;
}

-- a sound entry stays sound
pub renumbered_sound : (number : ℕ → ℕ) (old new : List Form) (box : CostBox) (entry : Entry) →
    IsRenumbering number old new → SoundAt old box entry → SoundAt new box (renumbered number entry)
renumbered_sound number old new box (Tighten var side value row) keeps sound = renumbered_tightens number old new box side var value row keeps sound
renumbered_sound number old new box (Split var value) keeps sound = sound
renumbered_sound number old new box (Halve var value wide) keeps sound = sound
renumbered_sound number old new box (Refute parts) keeps sound = renumbered_refutes number old new parts box keeps sound
renumbered_sound number old new box Undone keeps sound = tt

-- and earnest
pub renumbered_earnest : (number : ℕ → ℕ) (old new : List Form) (accepts : Point → Type 0) (top : ℕ) (place : OpenPlace)
    (entry : Entry) → IsRenumbering number old new → SoundAt old place.box entry → EarnestAt accepts top old place entry →
    EarnestAt accepts top new place (renumbered number entry)
renumbered_earnest number old new accepts top place (Tighten var side value row) keeps sound earnest =
    (subst (λ (f : Form). pos 0 ≤ℤ greatest f (at_bound place.box var value)) (sym (keeps.same row sound.row_known)) earnest.0, earnest.1)
renumbered_earnest number old new accepts top place (Split var value) keeps sound earnest = earnest
renumbered_earnest number old new accepts top place (Halve var value wide) keeps sound earnest =
    renumbered_too_wide number old new top place.box wide keeps earnest
renumbered_earnest number old new accepts top place (Refute parts) keeps sound earnest = tt
renumbered_earnest number old new accepts top place Undone keeps sound earnest = tt

same_places : (number : ℕ → ℕ) (place : OpenPlace) (entry : Entry) → subplaces place (renumbered number entry) ≡ subplaces place entry
same_places number place (Tighten var side value row) = refl
same_places number place (Split var value) = refl
same_places number place (Halve var value wide) = refl
same_places number place (Refute parts) = refl
same_places number place Undone = refl

-- a tree that grows, with its rows' new numbers
pub renumbered_opens : (number : ℕ → ℕ) (old new : List Form) (accepts : Point → Type 0) (top : ℕ) (places : List OpenPlace)
    (entries : List Entry) (left : List OpenPlace) → IsRenumbering number old new → LeavesPlacesOpen accepts top old places entries left →
    LeavesPlacesOpen accepts top new places (map (renumbered number) entries) left
renumbered_opens number old new accepts top places [] left keeps opens = opens
renumbered_opens number old new accepts top [] (e ∷ entries) left keeps opens = absurd opens
renumbered_opens number old new accepts top (p ∷ places) (e ∷ entries) left keeps opens = (
  renumbered_sound number old new p.box e keeps opens.0,
  renumbered_earnest number old new accepts top p e keeps opens.0 opens.1,
  subst (λ (ps : List OpenPlace). LeavesPlacesOpen accepts top new (ps ++ places) (map (renumbered number) entries) left) (sym (same_places number p e))
      (renumbered_opens number old new accepts top (subplaces p e ++ places) entries left keeps opens.2),
)

-- an earnest tree, with its rows' new numbers
pub renumbered_tree : (number : ℕ → ℕ) (old new : List Form) (accepts : Point → Type 0) (top : ℕ) (places : List OpenPlace)
    (entries : List Entry) → IsRenumbering number old new → Earnest accepts top old places entries →
    Earnest accepts top new places (map (renumbered number) entries)
renumbered_tree number old new accepts top [] [] keeps earnest = tt
renumbered_tree number old new accepts top (p ∷ places) [] keeps earnest = absurd earnest
renumbered_tree number old new accepts top [] (e ∷ entries) keeps earnest = absurd earnest
renumbered_tree number old new accepts top (p ∷ places) (e ∷ entries) keeps earnest = (
  renumbered_sound number old new p.box e keeps earnest.0,
  renumbered_earnest number old new accepts top p e keeps earnest.0 earnest.1,
  subst (λ (ps : List OpenPlace). Earnest accepts top new (ps ++ places) (map (renumbered number) entries)) (sym (same_places number p e))
      (renumbered_tree number old new accepts top (subplaces p e ++ places) entries keeps earnest.2),
)

-- where forms are only added, numbers stay
pub forms_kept : (forms more : List Form) → IsRenumbering (λ row. row) forms (forms ++ more)
forms_kept forms more = record {
  known = λ row row_in. omega (arith, length-append forms more);
  same = λ row row_in. get_or_append_left forms more no_form row row_in;
}

same_member : (member : Member) → renumbered_member (λ row. row) member ≡ member
same_member (Low var bound) = refl
same_member (High var bound) = refl
same_member (Row row) = refl

same_members : (basis : List Member) → map (renumbered_member (λ row. row)) basis ≡ basis
same_members [] = refl
same_members (member ∷ basis) = cc (same_member member, same_members basis)

same_part_list : (parts : List (ℕ × ℕ)) → map (renumbered_multiplier (λ row. row)) parts ≡ parts
same_part_list [] = refl
same_part_list (part ∷ parts) = ap (λ (ps : List (ℕ × ℕ)). part ∷ ps) (same_part_list parts)

same_wide : (wide : WideAt) → renumbered_wide (λ row. row) wide ≡ wide
same_wide wide = λ i. record { step = wide.step; left = wide.left; right = wide.right; basis = same_members wide.basis i }

pub same_entry : (entry : Entry) → renumbered (λ row. row) entry ≡ entry
same_entry (Tighten var side value row) = refl
same_entry (Split var value) = refl
same_entry (Halve var value wide) = ap (λ (w : WideAt). Halve var value w) (same_wide wide)
same_entry (Refute parts) = ap Refute (same_part_list parts)
same_entry Undone = refl

pub same_entries : (entries : List Entry) → map (renumbered (λ row. row)) entries ≡ entries
same_entries [] = refl
same_entries (entry ∷ entries) = cc (same_entry entry, same_entries entries)

-- more forms leave a tree that grows as it is
pub opens_kept : (accepts : Point → Type 0) (top : ℕ) (forms more : List Form) (places : List OpenPlace)
    (entries : List Entry) (left : List OpenPlace) → LeavesPlacesOpen accepts top forms places entries left →
    LeavesPlacesOpen accepts top (forms ++ more) places entries left
opens_kept accepts top forms more places entries left opens =
    subst (λ (es : List Entry). LeavesPlacesOpen accepts top (forms ++ more) places es left) (same_entries entries)
    (renumbered_opens (λ row. row) forms (forms ++ more) accepts top places entries left (forms_kept forms more) opens)

-- and a step that is too wide
pub too_wide_kept : (top : ℕ) (box : CostBox) (forms more : List Form) (wide : WideAt) → IsStepTooWide top box forms wide →
    IsStepTooWide top box (forms ++ more) wide
too_wide_kept top box forms more wide too_wide =
    subst (IsStepTooWide top box (forms ++ more)) (same_wide wide)
    (renumbered_too_wide (λ row. row) forms (forms ++ more) top box wide (forms_kept forms more) too_wide)

-- a search's tree too
pub tree_more : (accepts : Point → Type 0) (top : ℕ) (forms more : List Form) (box : CostBox) (tree : List Entry) →
    IsSearchTree accepts top forms box tree → IsSearchTree accepts top (forms ++ more) box tree
tree_more accepts top forms more box tree is =
    let start : List OpenPlace = record { box = box; since = [] } ∷ [] in
    record {
      earnest = opens_ends accepts top (forms ++ more) start tree
          (opens_kept accepts top forms more start tree [] (earnest_opens accepts top forms start tree is.earnest));
      last = is.last;
      short = is.short;
    }

-- and a sound tree
pub sound_more : (forms more : List Form) (boxes : List CostBox) (entries : List Entry) → Sound forms boxes entries → Sound (forms ++ more) boxes entries
sound_more forms more [] [] sound = tt
sound_more forms more (box ∷ boxes) [] sound = absurd sound
sound_more forms more [] (e ∷ entries) sound = absurd sound
sound_more forms more (box ∷ boxes) (e ∷ entries) sound = (
  subst (SoundAt (forms ++ more) box) (same_entry e) (renumbered_sound (λ row. row) forms (forms ++ more) box e (forms_kept forms more) sound.0),
  sound_more forms more (subboxes box e ++ boxes) entries sound.1,
)
