-- The printed tree of a round stands over the forms of the printed rows and that of the total behind them.
use Rattle.std.proofs.Common.{◌≡◌, ℕ, zero, suc, ◌+◌, ◌<◌, ◌≤◌, refl, sym, ◌∙◌, ap, subst, List, [], ◌∷◌, ◌++◌, map, length, length-append, arith, Bool, true, false, if◌then◌else◌, inl, inr}
use Rattle.std.specs.Prelude.{◌⊎◌, All, AllPairs, Contains, Option, None, Some, slice_index_or}
use Rattle.std.proofs.lemmas.List.{length-map}
use Rattle.std.proofs.lemmas.List.Elements.{All-nil, All-cons, All-append, All-head, All-map, All-tail, All-weaker}
use Rattle.std.proofs.lemmas.List.Kept.{AllPairs-cons}
use Rattle.cost_base.proofs.ListLemmas.{pairs_head, pairs_tail}
use Rattle.area_graph.specs.declared.Point.{Point}
use Rattle.design_problem.specs.declared.boxes.CostBox.{CostBox}
use Rattle.design_problem.specs.declared.form.Row.{Row}
use Rattle.design_problem.specs.declared.tree.Entry.{Entry}
use Rattle.design_problem.specs.declared.tree.Entry.TheVariants.{Undone}
use Rattle.design_problem.specs.Problems.{DesignProblem}
use Rattle.design_problem.specs.Forms.{Form, form_at}
use Rattle.design_problem.specs.Boxes.{capped}
use Rattle.design_problem.specs.Rows.{IsRow, box_of, form_of_row, forms_of_rows}
use Rattle.design_problem.specs.Trees.{IsClosed, entry_count}
use Rattle.design_problem.specs.Text.{row_line}
use Rattle.design_problem.specs.Earnest.{Earnest, OpenPlace}
use Rattle.design_problem.specs.Renumbering.{IsRenumbering, renumbered}
use Rattle.design_problem.proofs.Renumbering.{renumbered_tree, same_entries, tree_more, sound_more}
use Rattle.design_problem.specs.SearchTrees.{IsSearchTree}
use Rattle.printed_rows.specs.NamedRows.{NamesBelow, is_row_named}
use Rattle.printed_rows.specs.NewNumbers.{IsTreePrinted, kept_from, kept_rows, new_number}
use Rattle.printed_rows.specs.PrintedTrees.{IsPrintedOver}
use Rattle.printed_rows.specs.Sheets.{IsSheet}
use Rattle.cost_branching.specs.Pools.{Differ}
use Rattle.printed_rows.proofs.AnswerLines.{fit_text}
use Rattle.printed_rows.proofs.CapBoxes.{cost_bounds}
use Rattle.printed_rows.proofs.NamedLaws.{entries_agree, named_weaker}
use Rattle.printed_rows.proofs.RenumberedTrees.{count_kept, earnest_names, undone_kept}
use Rattle.printed_rows.proofs.RowLines.{rows_short}
use Rattle.printed_rows.proofs.SheetLaws.{copy_sheet}
use Rattle.printed_rows.proofs.TreeCopies.{IsCopy, copy_closed, copy_names, copy_printable, copy_printed, printed_copy, search_names}
use Rattle.least_total.specs.declared.printing.PoolForm.{PoolForm}
use Rattle.least_total.specs.declared.printing.PoolForm.TheVariants.{OfRow, OfTotal}
use Rattle.least_total.specs.declared.rounds.TotalTree.{TotalTree}
use Rattle.least_total.specs.Totals.{IsFormWithin, LeadsWithin, form_of_total, forms_within}
use Rattle.least_total.specs.Bounded.{IsPlaceIn, forms_with_total, with_form}
use Rattle.least_total.specs.declared.printing.PrintedTotal.{PrintedTotal}
use Rattle.least_total.specs.Printing.{IsPrintedLast, pool_form, moved_from, rows_in, with_total_last}
use Rattle.printed_rows.specs.FittingTexts.{FitText}
use Rattle.least_total.specs.Results.{CanPrintTotals, IsPrintedWithin, IsTotalSheet}
use Rattle.least_total.specs.Rounds.{IsTreeWithin}
use Rattle.least_total.proofs.MovedTrees.{moved_closed, moved_count, moved_tree, moved_undone, with_count}

-- A search's tree, once the form of the total has been moved.

search_moved : (accepts : Point → Type 0) (top : ℕ) (fs : List Form) (f : Form) (before : Option ℕ) (others : ℕ)
    (box : CostBox) (tree : List Entry) → others ≡ length fs → IsPlaceIn others before →
    IsSearchTree accepts top (with_form before f fs) box tree →
    IsSearchTree accepts top (fs ++ f ∷ []) box (moved_from before others tree)
search_moved accepts top fs f None others box tree count place holds = tree_more accepts top fs (f ∷ []) box tree holds
search_moved accepts top fs f (Some k) others box tree count place holds =
    subst (λ (n : ℕ). IsSearchTree accepts top (fs ++ f ∷ []) box (moved_from (Some k) n tree)) (sym count)
    (moved_tree accepts top fs f k box tree (omega arith) holds)

-- the tree that is printed, over the rows' forms and that of the total
pub moved_within : (p : DesignProblem) (top cap most : ℕ) (t : TotalTree) → IsTreeWithin p top cap most t →
    IsSearchTree (LeadsWithin p most) top (forms_within p most t.rows.items) (capped (box_of p) cap)
    (moved_from t.before (length t.rows.items) t.tree)
moved_within p top cap most t holds =
    search_moved (LeadsWithin p most) top (forms_of_rows p t.rows.items) (form_of_total p most) t.before
    (length t.rows.items) (capped (box_of p) cap) t.tree (sym (length-map t.rows.items (form_of_row p)))
    holds.placed.place holds.tree

-- Forms with that of the total last.

pub forms_last : (p : DesignProblem) (most : ℕ) (rows : List Row) → map (pool_form p most) (with_total_last rows) ≡ forms_within p most rows
forms_last p most [] = refl
forms_last p most (row ∷ rows) = ap (λ (fs : List Form). form_of_row p row ∷ fs) (forms_last p most rows)

pub forms_alone : (p : DesignProblem) (most : ℕ) (rows : List Row) → map (pool_form p most) (map OfRow rows) ≡ forms_of_rows p rows
forms_alone p most [] = refl
forms_alone p most (row ∷ rows) = ap (λ (fs : List Form). form_of_row p row ∷ fs) (forms_alone p most rows)

-- each is a true form
pub forms_true : (p : DesignProblem) (most : ℕ) (rows : List Row) → All (IsRow p) rows →
    All (λ form. IsFormWithin p most (pool_form p most form)) (with_total_last rows)
forms_true p most rows true_rows =
    let Is : PoolForm → Type 0 = λ form. IsFormWithin p most (pool_form p most form) in
    All-append Is (map OfRow rows) (OfTotal ∷ [])
    (All-map Is OfRow rows (λ k d k_in. inl (record { row = slice_index_or rows k d; is_row = true_rows k d k_in; same = refl })))
    (All-cons Is OfTotal [] (inr refl) (All-nil Is))

-- a row of the problem, or the form of the total
abbrev pub IsOfProblem : DesignProblem → PoolForm → Type 0
IsOfProblem p (OfRow row) = IsRow p row
IsOfProblem p OfTotal = Unit {0}

pub forms_of_problem : (p : DesignProblem) (rows : List Row) → All (IsRow p) rows → All (IsOfProblem p) (with_total_last rows)
forms_of_problem p rows true_rows =
    All-append (IsOfProblem p) (map OfRow rows) (OfTotal ∷ [])
    (All-map (IsOfProblem p) OfRow rows true_rows)
    (All-cons (IsOfProblem p) OfTotal [] tt (All-nil (IsOfProblem p)))

pub rows_of_problem : (p : DesignProblem) (forms : List PoolForm) → All (IsOfProblem p) forms → All (IsRow p) (rows_in forms)
rows_of_problem p [] all = All-nil (IsRow p)
rows_of_problem p (OfRow row ∷ forms) all =
    All-cons (IsRow p) row (rows_in forms) (All-head (IsOfProblem p) (OfRow row) forms all)
    (rows_of_problem p forms (All-tail (IsOfProblem p) (OfRow row) forms all))
rows_of_problem p (OfTotal ∷ forms) all = rows_of_problem p forms (All-tail (IsOfProblem p) OfTotal forms all)

-- What is kept: rows, and behind them the form of the total or nothing.

abbrev pub IsRowsLast : List PoolForm → Type 0
IsRowsLast kept = (kept ≡ with_total_last (rows_in kept)) ⊎ (kept ≡ map OfRow (rows_in kept))

row_before : (row : Row) (kept : List PoolForm) → IsRowsLast kept → IsRowsLast (OfRow row ∷ kept)
row_before row kept (inl last) = inl (ap (λ (fs : List PoolForm). OfRow row ∷ fs) last)
row_before row kept (inr alone) = inr (ap (λ (fs : List PoolForm). OfRow row ∷ fs) alone)

pub kept_last : (named : ℕ → Bool) (first : ℕ) (rows : List Row) → IsRowsLast (kept_from named first (with_total_last rows))
kept_last named first [] = by_total (named first)
  where
    by_total : (is : Bool) → IsRowsLast (if is then OfTotal ∷ [] else [])
    by_total true = inl refl
    by_total false = inr refl
kept_last named first (row ∷ rows) = by_row (named first) (kept_last named (suc first) rows)
  where
    by_row : (is : Bool) → IsRowsLast (kept_from named (suc first) (with_total_last rows)) →
        IsRowsLast (if is then OfRow row ∷ kept_from named (suc first) (with_total_last rows) else
        kept_from named (suc first) (with_total_last rows))
    by_row true rest = row_before row (kept_from named (suc first) (with_total_last rows)) rest
    by_row false rest = rest

-- A printed tree, with one form more that it doesn't name.

-- the number of a form once another one stands behind the first so many
abbrev shifted : ℕ → ℕ → ℕ
shifted zero row = suc row
shifted (suc n) zero = zero
shifted (suc n) (suc row) = suc (shifted n row)

shifted_low : (n row : ℕ) → row < n → shifted n row ≡ row
shifted_low zero row below = absurd (omega arith)
shifted_low (suc n) zero below = refl
shifted_low (suc n) (suc row) below = ap suc (shifted_low n row (omega arith))

shifted_known : (fs more : List Form) (f : Form) (row : ℕ) → row < length (fs ++ more) → shifted (length fs) row < length ((fs ++ f ∷ []) ++ more)
shifted_known [] more f row below = omega arith
shifted_known (g ∷ fs) more f zero below = omega arith
shifted_known (g ∷ fs) more f (suc row) below = let rest = shifted_known fs more f row (omega arith) in omega arith

shifted_same : (fs more : List Form) (f : Form) (row : ℕ) → form_at ((fs ++ f ∷ []) ++ more) (shifted (length fs) row) ≡ form_at (fs ++ more) row
shifted_same [] more f row = refl
shifted_same (g ∷ fs) more f zero = refl
shifted_same (g ∷ fs) more f (suc row) = shifted_same fs more f row

shifted_keeps : (fs more : List Form) (f : Form) → IsRenumbering (shifted (length fs)) (fs ++ more) ((fs ++ f ∷ []) ++ more)
shifted_keeps fs more f = record {
  known = λ row below. shifted_known fs more f row below;
  same = λ row below. shifted_same fs more f row;
}

-- a printed tree is one with a form more behind its own
pub over_more : (accepts : Point → Type 0) (IsTrueForm : Form → Type 0) (top nodes : ℕ) (forms : List Form) (f : Form)
    (box : CostBox) (tree : List Entry) → All (NamesBelow (length forms)) tree →
    IsPrintedOver accepts IsTrueForm top nodes forms box tree →
    IsPrintedOver accepts IsTrueForm top nodes (forms ++ f ∷ []) box tree
over_more accepts IsTrueForm top nodes forms f box tree named printed =
    let more = printed.earnest.more in
    let places : List OpenPlace = record { box = box; since = [] } ∷ [] in
    let shift : ℕ → ℕ = shifted (length forms) in
    let same : map (renumbered shift) tree ≡ tree =
    entries_agree shift (λ row. row) (λ row. row < length forms) tree (λ row below. shifted_low (length forms) row below) named ∙ same_entries tree in
    record {
      earnest = record {
        sound = sound_more forms (f ∷ []) (box ∷ []) tree printed.earnest.sound;
        more = more;
        more_true = printed.earnest.more_true;
        earnest =
            subst (λ (es : List Entry). Earnest accepts top ((forms ++ f ∷ []) ++ more) places es) same
            (renumbered_tree shift (forms ++ more) ((forms ++ f ∷ []) ++ more) accepts top places tree (shifted_keeps forms more f) printed.earnest.earnest);
      };
      last = printed.last;
      few = printed.few;
    }

-- what is printed over the kept forms is printed over those of the rows and that of the total
pub printed_last : (p : DesignProblem) (top nodes cap most : ℕ) (kept : List PoolForm) (tree : List Entry) →
    IsRowsLast kept → All (NamesBelow (length kept)) tree →
    IsPrintedOver (LeadsWithin p most) (IsFormWithin p most) top nodes (map (pool_form p most) kept)
    (capped (box_of p) cap) tree →
    IsPrintedOver (LeadsWithin p most) (IsFormWithin p most) top nodes (forms_within p most (rows_in kept)) (capped (box_of p) cap) tree
printed_last p top nodes cap most kept tree (inl last) named printed =
    subst (λ (fs : List Form). IsPrintedOver (LeadsWithin p most) (IsFormWithin p most) top nodes fs (capped (box_of p) cap) tree)
    (ap (map (pool_form p most)) last ∙ forms_last p most (rows_in kept)) printed
printed_last p top nodes cap most kept tree (inr alone) named printed =
    let same : map (pool_form p most) kept ≡ forms_of_rows p (rows_in kept) = ap (map (pool_form p most)) alone ∙ forms_alone p most (rows_in kept) in
    over_more (LeadsWithin p most) (IsFormWithin p most) top nodes (forms_of_rows p (rows_in kept)) (form_of_total p most) (capped (box_of p) cap) tree
    (subst (λ (n : ℕ). All (NamesBelow n) tree) (sym (length-map kept (pool_form p most)) ∙ ap length same) named)
    (subst (λ (fs : List Form). IsPrintedOver (LeadsWithin p most) (IsFormWithin p most) top nodes fs (capped (box_of p) cap) tree) same printed)

-- What a move leaves as it is.

moved_counted : (before : Option ℕ) (others : ℕ) (tree : List Entry) → entry_count (moved_from before others tree) ≡ entry_count tree
moved_counted None others tree = refl
moved_counted (Some k) others tree = moved_count k others tree

moved_from_closed : (before : Option ℕ) (others : ℕ) (tree : List Entry) → IsClosed tree → IsClosed (moved_from before others tree)
moved_from_closed None others tree closed = closed
moved_from_closed (Some k) others tree closed = moved_closed k others tree closed

moved_from_undone : (before : Option ℕ) (others : ℕ) (tree : List Entry) → Contains tree Undone → Contains (moved_from before others tree) Undone
moved_from_undone None others tree undone = undone
moved_from_undone (Some k) others tree undone = moved_undone k others tree undone

-- the tree names none but the forms that it stands over
pub names_last : (p : DesignProblem) (top cap most : ℕ) (t : TotalTree) → IsTreeWithin p top cap most t →
    All (NamesBelow (length (with_total_last t.rows.items))) (moved_from t.before (length t.rows.items) t.tree)
names_last p top cap most t holds =
    let old = moved_from t.before (length t.rows.items) t.tree in
    search_names (LeadsWithin p most) top (pool_form p most) (with_total_last t.rows.items) (capped (box_of p) cap) old
    (subst (λ (fs : List Form). IsSearchTree (LeadsWithin p most) top fs (capped (box_of p) cap) old)
    (sym (forms_last p most t.rows.items)) (moved_within p top cap most t holds))

with_form_count : (before : Option ℕ) (f : Form) (fs : List Form) → IsPlaceIn (length fs) before → length (with_form before f fs) ≤ length fs + 1
with_form_count None f fs place = omega arith
with_form_count (Some k) f fs place = let same = with_count fs f k place in omega arith

-- and so does the search's own
pub names_placed : (p : DesignProblem) (top cap most : ℕ) (t : TotalTree) → IsTreeWithin p top cap most t → All (NamesBelow (length t.rows.items + 1)) t.tree
names_placed p top cap most t holds =
    let fs = forms_of_rows p t.rows.items in
    let count : length fs ≡ length t.rows.items = length-map t.rows.items (form_of_row p) in
    let most_forms = with_form_count t.before (form_of_total p most) fs (subst (λ (n : ℕ). IsPlaceIn n t.before) (sym count) holds.placed.place) in
    let named = earnest_names (LeadsWithin p most) top (forms_with_total p most t.rows.items t.before)
    (record { box = capped (box_of p) cap; since = [] } ∷ []) t.tree holds.tree.earnest in
    All-weaker (NamesBelow (length (forms_with_total p most t.rows.items t.before))) (NamesBelow (length t.rows.items + 1))
    (λ e is. named_weaker (λ row. row < length (forms_with_total p most t.rows.items t.before))
    (λ row. row < length t.rows.items + 1) e (λ row below. omega (arith, most_forms, count)) is) t.tree named

-- The sheet of the rows, with the form of the total behind theirs.

-- rows that differ; the form of the total is none
abbrev AreApart : PoolForm → PoolForm → Type 0
AreApart (OfRow a) (OfRow b) = Differ a b
AreApart (OfRow a) OfTotal = Unit {0}
AreApart OfTotal form = Unit {0}

no_pairs : AllPairs AreApart []
no_pairs i j d before j_in = absurd (omega (arith, j_in))

forms_apart : (rows : List Row) → AllPairs Differ rows → AllPairs AreApart (with_total_last rows)
forms_apart [] once = AllPairs-cons AreApart OfTotal [] (All-nil (AreApart OfTotal)) no_pairs
forms_apart (row ∷ rows) once =
    let Apart : PoolForm → Type 0 = AreApart (OfRow row) in
    let others : All Apart (with_total_last rows) =
    All-append Apart (map OfRow rows) (OfTotal ∷ []) (All-map Apart OfRow rows (pairs_head Differ row rows once))
    (All-cons Apart OfTotal [] tt (All-nil Apart)) in
    AllPairs-cons AreApart (OfRow row) (with_total_last rows) others (forms_apart rows (pairs_tail Differ row rows once))

apart_rows : (row : Row) (forms : List PoolForm) → All (AreApart (OfRow row)) forms → All (Differ row) (rows_in forms)
apart_rows row [] all = All-nil (Differ row)
apart_rows row (OfRow other ∷ forms) all =
    All-cons (Differ row) other (rows_in forms) (All-head (AreApart (OfRow row)) (OfRow other) forms all)
    (apart_rows row forms (All-tail (AreApart (OfRow row)) (OfRow other) forms all))
apart_rows row (OfTotal ∷ forms) all = apart_rows row forms (All-tail (AreApart (OfRow row)) OfTotal forms all)

rows_apart : (forms : List PoolForm) → AllPairs AreApart forms → AllPairs Differ (rows_in forms)
rows_apart [] once = λ i j d before j_in. absurd (omega (arith, j_in))
rows_apart (OfRow row ∷ forms) once =
    AllPairs-cons Differ row (rows_in forms) (apart_rows row forms (pairs_head AreApart (OfRow row) forms once))
    (rows_apart forms (pairs_tail AreApart (OfRow row) forms once))
rows_apart (OfTotal ∷ forms) once = rows_apart forms (pairs_tail AreApart OfTotal forms once)

rows_fewer : (forms : List PoolForm) → length (rows_in forms) ≤ length forms
rows_fewer [] = omega arith
rows_fewer (OfRow row ∷ forms) = let rest = rows_fewer forms in omega arith
rows_fewer (OfTotal ∷ forms) = let rest = rows_fewer forms in omega arith

rows_most : (kept : List PoolForm) → IsRowsLast kept → length kept ≤ length (rows_in kept) + 1
rows_most kept (inl last) =
    let count : length kept ≡ length (with_total_last (rows_in kept)) = ap length last in
    let most : length (with_total_last (rows_in kept)) ≡ length (map OfRow (rows_in kept)) + 1 =
    length-append (map OfRow (rows_in kept)) (OfTotal ∷ []) in
    omega (arith, count, most, length-map (rows_in kept) OfRow)
rows_most kept (inr alone) =
    let count : length kept ≡ length (map OfRow (rows_in kept)) = ap length alone in
    omega (arith, count, length-map (rows_in kept) OfRow)

rows_sheet : (p : DesignProblem) (kept : List PoolForm) (tree : List Entry) → IsRowsLast kept →
    IsSheet (IsOfProblem p) AreApart 0 kept tree → IsTotalSheet p (rows_in kept) tree
rows_sheet p kept tree last sheet =
    let fewer = rows_fewer kept in
    let most = rows_most kept last in
    record {
      true_rows = rows_of_problem p kept sheet.true_rows;
      once = rows_apart kept sheet.once;
      used = λ row within. sheet.used row (omega (arith, fewer, within));
      printed = All-weaker (NamesBelow (length kept + 0)) (NamesBelow (length (rows_in kept) + 1))
          (λ e is. named_weaker (λ row. row < length kept + 0) (λ row. row < length (rows_in kept) + 1) e
          (λ row below. omega (arith, most, below)) is) tree sheet.printed;
    }

-- What is printed of a round's tree.

pub record IsShown (p : DesignProblem) (top nodes cap most : ℕ) (rows : List Row) (tree : List Entry) : Type 0 where
  pub sheet : IsTotalSheet p rows tree
  pub printed : IsPrintedWithin p top nodes cap most rows tree
  pub fits : FitText row_line cap rows tree

-- the tree and the kept forms as a copy of the search's tree
printed_copies : (p : DesignProblem) (top cap most : ℕ) (t : TotalTree) (kept : List PoolForm) (tree : List Entry) →
    IsTreeWithin p top cap most t →
    IsTreePrinted (with_total_last t.rows.items) (moved_from t.before (length t.rows.items) t.tree) kept tree →
    IsCopy (is_row_named (moved_from t.before (length t.rows.items) t.tree)) (with_total_last t.rows.items) kept
    (moved_from t.before (length t.rows.items) t.tree) tree
printed_copies p top cap most t kept tree holds printed =
    printed_copy (with_total_last t.rows.items) kept (moved_from t.before (length t.rows.items) t.tree) tree printed (names_last p top cap most t holds)

total_kept : (named : ℕ → Bool) (rows : List Row) (kept : List PoolForm) → kept ≡ kept_rows named (with_total_last rows) → IsRowsLast kept
total_kept named rows kept same = subst IsRowsLast (sym same) (kept_last named 0 rows)

pub shown_is : (p : DesignProblem) (top nodes cap most : ℕ) (t : TotalTree) (printed : PrintedTotal) →
    CanPrintTotals p nodes cap → IsTreeWithin p top cap most t → entry_count t.tree ≤ nodes → IsPrintedLast t printed →
    IsShown p top nodes cap most printed.rows.items printed.tree
shown_is p top nodes cap most t printed can holds few last =
    let lines = with_total_last t.rows.items in
    let old = moved_from t.before (length t.rows.items) t.tree in
    let named = is_row_named old in
    let box = capped (box_of p) cap in
    let search : IsSearchTree (LeadsWithin p most) top (map (pool_form p most) lines) box old =
    subst (λ (fs : List Form). IsSearchTree (LeadsWithin p most) top fs box old) (sym (forms_last p most t.rows.items)) (moved_within p top cap most t holds) in
    let count : entry_count old ≤ nodes = subst (λ (n : ℕ). n ≤ nodes) (sym (moved_counted t.before (length t.rows.items) t.tree)) few in
    let copy = printed_copies p top cap most t last.kept printed.tree holds last.is_printed in
    let over = copy_printed (LeadsWithin p most) (IsFormWithin p most) top nodes (pool_form p most) box named lines
    last.kept old printed.tree copy (forms_true p most t.rows.items holds.placed.are_rows) search count in
    let names = copy_names named lines last.kept old printed.tree copy in
    let rows_last = total_kept named t.rows.items last.kept copy.kept.same in
    let sheet : IsTotalSheet p (rows_in last.kept) printed.tree =
    rows_sheet p last.kept printed.tree rows_last
    (copy_sheet (IsOfProblem p) AreApart named lines last.kept old printed.tree copy (λ row is. is)
    (forms_of_problem p t.rows.items holds.placed.are_rows) (forms_apart t.rows.items holds.placed.once)) in
    let printable = copy_printable (LeadsWithin p most) top nodes cap (pool_form p most) box named lines last.kept old
    printed.tree copy (cost_bounds p cap can.kept.problem can.from_lows can.small) can.small can.budget
    search count in
    let Shown : List Row → Type 0 = λ rows. IsShown p top nodes cap most rows printed.tree in
    subst Shown (sym last.rows)
    (record {
      sheet = sheet;
      printed = printed_last p top nodes cap most last.kept printed.tree rows_last names over;
      fits = fit_text row_line cap (rows_in last.kept) printed.tree
          (let fewer = rows_fewer last.kept in let small = copy.kept.few in omega arith)
          (rows_short p (rows_in last.kept) can.kept.problem can.kept.graph sheet.true_rows) printable;
    })

pub shown_closed : (p : DesignProblem) (top cap most : ℕ) (t : TotalTree) (printed : PrintedTotal) →
    IsTreeWithin p top cap most t → IsClosed t.tree → IsPrintedLast t printed → IsClosed printed.tree
shown_closed p top cap most t printed holds closed last =
    let old = moved_from t.before (length t.rows.items) t.tree in
    copy_closed (is_row_named old) (with_total_last t.rows.items) last.kept old printed.tree
    (printed_copies p top cap most t last.kept printed.tree holds last.is_printed)
    (moved_from_closed t.before (length t.rows.items) t.tree closed)

pub shown_used_up : (p : DesignProblem) (top nodes cap most : ℕ) (t : TotalTree) (printed : PrintedTotal) →
    IsTreeWithin p top cap most t → Contains t.tree Undone → entry_count t.tree ≡ nodes → IsPrintedLast t printed →
    Contains printed.tree Undone × (entry_count printed.tree ≡ nodes)
shown_used_up p top nodes cap most t printed holds undone used_up last =
    let old = moved_from t.before (length t.rows.items) t.tree in
    let copy = printed_copies p top cap most t last.kept printed.tree holds last.is_printed in
    let number = new_number (is_row_named old) in (
      subst (λ (es : List Entry). Contains es Undone) (sym copy.copied)
          (undone_kept number old (moved_from_undone t.before (length t.rows.items) t.tree undone)),
      ap entry_count copy.copied ∙ count_kept number old ∙ moved_counted t.before (length t.rows.items) t.tree ∙ used_up,
    )
