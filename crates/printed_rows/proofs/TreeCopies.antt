-- A search's tree as it is printed: earnest over true forms, with as many entries, and with lines that fit a text.
use Rattle.std.proofs.Common.{◌≡◌, ℕ, zero, suc, ◌+◌, ◌*◌, ◌≤◌, sym, ◌∙◌, ap, subst, List, [], ◌∷◌, ◌++◌, map, length, arith, Bool}
use Rattle.std.specs.Prelude.{All, Contains, Option, Some}
use Rattle.std.proofs.lemmas.List.{length-map}
use Rattle.std.proofs.lemmas.List.Elements.{All-map, All-weaker}
use Rattle.area_graph.specs.declared.Point.{Point}
use Rattle.design_problem.specs.declared.form.Form.{Form}
use Rattle.design_problem.specs.declared.boxes.CostBox.{CostBox}
use Rattle.design_problem.specs.declared.tree.Entry.{Entry}
use Rattle.design_problem.specs.declared.tree.Entry.TheVariants.{Tighten, Split, Halve, Refute, Undone}
use Rattle.design_problem.specs.declared.answer.CapTree.{CapTree}
use Rattle.design_problem.specs.Trees.{IsClosed, AreSeveralTrees, entry_count}
use Rattle.design_problem.specs.Earnest.{IsEarnestOver, IsEarnestTree}
use Rattle.design_problem.specs.OpenPlaces.{UndoneLast}
use Rattle.design_problem.specs.Renumbering.{renumbered}
use Rattle.design_problem.proofs.OpenPlaces.{earnest_tree_sound}
use Rattle.design_problem.proofs.TreeShapes.{sound_whole}
use Rattle.design_problem.specs.SearchTrees.{IsSearchTree, IsShort}
use Rattle.printed_rows.specs.NamedRows.{IsKnown, NamesBelow, NamesKnown, is_row_named}
use Rattle.printed_rows.specs.NewNumbers.{AreKept, ArePrinted, IsTreePrinted, kept_rows, named_in, new_number, with_new_numbers}
use Rattle.printed_rows.specs.PrintedTrees.{IsPrintedOver, IsUndecidedOver}
use Rattle.printed_rows.proofs.KeptRows.{all_kept, number_known, number_of, number_of_kept, rows_kept}
use Rattle.printed_rows.proofs.NamedLaws.{entries_agree, entry_below, names_known}
use Rattle.printed_rows.proofs.PrintLaws.{first_named, second_named}
use Rattle.printed_rows.proofs.RenumberedTrees.{closed_kept, count_kept, earnest_names, last_kept, short_kept, sound_over_first, tree_over_both, undone_kept}
use Rattle.printed_rows.proofs.TreeLines.{IsCostBounds, IsPrintable, tree_short}

-- a tree over the forms of rows names none but these rows
pub tree_names : {R : Type 0} (accepts : Point → Type 0) (top : ℕ) (form : R → Form) (rows : List R) (box : CostBox)
    (tree : List Entry) → IsEarnestTree accepts top (map form rows) box tree → All (NamesBelow (length rows)) tree
tree_names accepts top form rows box tree earnest =
    subst (λ (n : ℕ). All (NamesBelow n) tree) (length-map rows form)
    (earnest_names accepts top (map form rows) (record { box = box; since = [] } ∷ []) tree earnest)

pub search_names : {R : Type 0} (accepts : Point → Type 0) (top : ℕ) (form : R → Form) (rows : List R) (box : CostBox)
    (tree : List Entry) → IsSearchTree accepts top (map form rows) box tree → All (NamesBelow (length rows)) tree
search_names accepts top form rows box tree search = tree_names accepts top form rows box tree search.earnest

-- the rows that pass a test, and a tree over all rows with the new numbers of these, which are all that it names
pub record IsCopy {R : Type 0} (named : ℕ → Bool) (old rows : List R) (tree new_tree : List Entry) : Type 0 where
  pub kept : AreKept named old rows
  pub copied : new_tree ≡ with_new_numbers named tree
  pub known : All (NamesKnown named (length old)) tree

-- what is printed of one tree
pub printed_copy : {R : Type 0} (old rows : List R) (tree new_tree : List Entry) → IsTreePrinted old tree rows new_tree →
    All (NamesBelow (length old)) tree → IsCopy (is_row_named tree) old rows tree new_tree
printed_copy old rows tree new_tree printed below = record {
  kept = printed.kept;
  copied = printed.tree_is;
  known = names_known (is_row_named tree) (length old) tree (λ row is. is) below;
}

-- and of two
pub proof_copy : {R : Type 0} (old rows : List R) (t u : CapTree) (undecided new_undecided : Option CapTree) →
    ArePrinted old (Some t) undecided rows (Some u) new_undecided → All (NamesBelow (length old)) t.tree →
    IsCopy (named_in (Some t) undecided) old rows t.tree u.tree
proof_copy old rows t u undecided new_undecided printed below = record {
  kept = printed.kept;
  copied = printed.proof_is.1;
  known = names_known (named_in (Some t) undecided) (length old) t.tree (first_named (Some t) undecided) below;
}

pub undecided_copy : {R : Type 0} (old rows : List R) (t u : CapTree) (proof new_proof : Option CapTree) →
    ArePrinted old proof (Some t) rows new_proof (Some u) → All (NamesBelow (length old)) t.tree →
    IsCopy (named_in proof (Some t)) old rows t.tree u.tree
undecided_copy old rows t u proof new_proof printed below = record {
  kept = printed.kept;
  copied = printed.undecided_is.1;
  known = names_known (named_in proof (Some t)) (length old) t.tree (second_named proof (Some t)) below;
}

-- what holds of all rows holds of the printed ones
pub all_printed : {R : Type 0} (P : R → Type 0) (named : ℕ → Bool) (old rows : List R) → AreKept named old rows → All P old → All P rows
all_printed {R} P named old rows kept all = subst (λ (rs : List R). All P rs) (sym kept.same) (all_kept P named old all)

-- the new tree names none but the printed rows
pub copy_names : {R : Type 0} (named : ℕ → Bool) (old rows : List R) (tree new_tree : List Entry) →
    IsCopy named old rows tree new_tree → All (NamesBelow (length rows)) new_tree
copy_names {R} named old rows tree new_tree copy =
    let n = length (kept_rows named old) in
    let f = new_number named in
    subst (λ (rs : List R). All (NamesBelow (length rs)) new_tree) (sym copy.kept.same)
    (subst (λ (es : List Entry). All (NamesBelow n) es) (sym copy.copied)
    (All-map (NamesBelow n) (renumbered f) tree
    (All-weaker (NamesKnown named (length old)) (λ e. NamesBelow n (renumbered f e))
    (λ e is. entry_below f (IsKnown named (length old)) n e
    (λ row known. number_known named old row known.0 known.1) is) tree copy.known)))

-- the new tree as the old one with numbers for all rows
copy_is : {R : Type 0} (named : ℕ → Bool) (old rows : List R) (tree new_tree : List Entry) →
    IsCopy named old rows tree new_tree →
    new_tree ≡ map (renumbered (number_of named (length (kept_rows named old)))) tree
copy_is named old rows tree new_tree copy =
    let n = length (kept_rows named old) in
    copy.copied
    ∙ entries_agree (new_number named) (number_of named n) (IsKnown named (length old)) tree (λ row is. sym (number_of_kept named n row is.1)) copy.known

-- the new tree is earnest over the printed rows with all rows behind them
pub copy_earnest : {R : Type 0} (accepts : Point → Type 0) (top : ℕ) (form : R → Form) (box : CostBox) (named : ℕ →
    Bool) (old rows : List R) (tree new_tree : List Entry) → IsCopy named old rows tree new_tree →
    IsEarnestTree accepts top (map form old) box tree →
    IsEarnestTree accepts top (map form rows ++ map form old) box new_tree
copy_earnest {R} accepts top form box named old rows tree new_tree copy earnest =
    let kept = kept_rows named old in
    subst (λ (rs : List R). IsEarnestTree accepts top (map form rs ++ map form old) box new_tree) (sym copy.kept.same)
    (tree_over_both accepts top form box (number_of named (length kept)) old kept old tree new_tree
    (rows_kept named old) (copy_is named old rows tree new_tree copy) earnest)

-- and over the printed rows alone, where all rows have true forms
pub copy_over : {R : Type 0} (accepts : Point → Type 0) (IsTrueForm : Form → Type 0) (top : ℕ) (form : R → Form)
    (box : CostBox) (named : ℕ → Bool) (old rows : List R) (tree new_tree : List Entry) →
    IsCopy named old rows tree new_tree → All (λ row. IsTrueForm (form row)) old →
    IsEarnestTree accepts top (map form old) box tree →
    IsEarnestOver accepts IsTrueForm top (map form rows) box new_tree
copy_over {R} accepts IsTrueForm top form box named old rows tree new_tree copy true_rows earnest =
    let forms = map form rows in
    let whole : IsEarnestTree accepts top (forms ++ map form old) box new_tree = copy_earnest accepts top form box named old rows tree new_tree copy earnest in
    let known : All (NamesBelow (length forms)) new_tree =
    subst (λ (n : ℕ). All (NamesBelow n) new_tree) (sym (length-map rows form))
    (copy_names named old rows tree new_tree copy) in
    record {
      sound = sound_over_first forms (map form old) (box ∷ []) new_tree known (earnest_tree_sound accepts top (forms ++ map form old) box new_tree whole);
      more = map form old;
      more_true = All-map IsTrueForm form old true_rows;
      earnest = whole;
    }

-- a search's tree as it is printed
pub copy_printed : {R : Type 0} (accepts : Point → Type 0) (IsTrueForm : Form → Type 0) (top nodes : ℕ) (form : R →
    Form) (box : CostBox) (named : ℕ → Bool) (old rows : List R) (tree new_tree : List Entry) →
    IsCopy named old rows tree new_tree → All (λ row. IsTrueForm (form row)) old →
    IsSearchTree accepts top (map form old) box tree → entry_count tree ≤ nodes →
    IsPrintedOver accepts IsTrueForm top nodes (map form rows) box new_tree
copy_printed accepts IsTrueForm top nodes form box named old rows tree new_tree copy true_rows search few = record {
  earnest = copy_over accepts IsTrueForm top form box named old rows tree new_tree copy true_rows search.earnest;
  last = subst UndoneLast (sym copy.copied) (last_kept (new_number named) tree search.last);
  few = let same = count_kept (new_number named) tree in subst (λ (es : List Entry). entry_count es ≤ nodes) (sym copy.copied) (omega arith);
}

-- and a tree that used up the budget
pub copy_used_up : {R : Type 0} (accepts : Point → Type 0) (IsTrueForm : Form → Type 0) (top nodes : ℕ) (form : R → Form)
    (box : CostBox) (named : ℕ → Bool) (old rows : List R) (tree new_tree : List Entry) →
    IsCopy named old rows tree new_tree → All (λ row. IsTrueForm (form row)) old →
    IsSearchTree accepts top (map form old) box tree → Contains tree Undone → entry_count tree ≡ nodes →
    IsUndecidedOver accepts IsTrueForm top nodes (map form rows) box new_tree
copy_used_up accepts IsTrueForm top nodes form box named old rows tree new_tree copy true_rows search undone used_up = record {
  printed = copy_printed accepts IsTrueForm top nodes form box named old rows tree new_tree copy true_rows search (omega (arith, used_up));
  undone = subst (λ (es : List Entry). Contains es Undone) (sym copy.copied) (undone_kept (new_number named) tree undone);
  used_up = ap entry_count copy.copied ∙ count_kept (new_number named) tree ∙ used_up;
}

-- a closed tree stays closed
pub copy_closed : {R : Type 0} (named : ℕ → Bool) (old rows : List R) (tree new_tree : List Entry) →
    IsCopy named old rows tree new_tree → IsClosed tree → IsClosed new_tree
copy_closed named old rows tree new_tree copy closed = subst IsClosed (sym copy.copied) (closed_kept (new_number named) tree closed)

-- the entries stay short
pub copy_short : {R : Type 0} (n : ℕ) (named : ℕ → Bool) (old rows : List R) (tree new_tree : List Entry) →
    IsCopy named old rows tree new_tree → All (IsShort n) tree → All (IsShort n) new_tree
copy_short n named old rows tree new_tree copy short =
    subst (λ (es : List Entry). All (IsShort n) es) (sym copy.copied) (short_kept (new_number named) n tree short)

-- whole trees have at most two entries and Undones for each entry, and one more for each tree
pub whole_length : (n : ℕ) (entries : List Entry) → AreSeveralTrees n entries → length entries ≤ n + 2 * entry_count entries
whole_length zero [] whole = omega arith
whole_length (suc n) [] whole = absurd whole
whole_length zero (e ∷ entries) whole = absurd whole
whole_length (suc n) (Tighten var side value row ∷ entries) whole = let rest = whole_length (1 + n) entries whole in omega arith
whole_length (suc n) (Split var value ∷ entries) whole = let rest = whole_length (2 + n) entries whole in omega arith
whole_length (suc n) (Halve var value wide ∷ entries) whole = let rest = whole_length (2 + n) entries whole in omega arith
whole_length (suc n) (Refute parts ∷ entries) whole = let rest = whole_length (0 + n) entries whole in omega arith
whole_length (suc n) (Undone ∷ entries) whole = let rest = whole_length (0 + n) entries whole in omega arith

-- the new tree can be printed at a cap
pub copy_printable : {R : Type 0} (accepts : Point → Type 0) (top nodes cap : ℕ) (form : R → Form) (box : CostBox)
    (named : ℕ → Bool) (old rows : List R) (tree new_tree : List Entry) → IsCopy named old rows tree new_tree →
    IsCostBounds (length box.low) box → cap ≤ 65535 → nodes ≤ 10000000 →
    IsSearchTree accepts top (map form old) box tree → entry_count tree ≤ nodes →
    IsPrintable (record { cap = cap; tree = new_tree })
copy_printable accepts top nodes cap form box named old rows tree new_tree copy bounds small budget search few =
    let forms = map form rows ++ map form old in
    let earnest : IsEarnestTree accepts top forms box new_tree = copy_earnest accepts top form box named old rows tree new_tree copy search.earnest in
    let short = copy_short (length box.low) named old rows tree new_tree copy search.short in
    let whole = whole_length 1 new_tree (sound_whole forms box new_tree (earnest_tree_sound accepts top forms box new_tree earnest)) in
    let count = ap entry_count copy.copied ∙ count_kept (new_number named) tree in
    record {
      cap = small;
      count = omega (arith, whole, count);
      entries = λ k d k_in. (short k d k_in).0;
      lines = tree_short accepts top (length box.low) (length rows) forms box new_tree bounds copy.kept.few earnest
          short (copy_names named old rows tree new_tree copy);
    }
