-- What is told of a set's tree, with the whole problem's rows.
use Rattle.std.proofs.Common.{◌≡◌, ℕ, refl, sym, ◌∙◌, ap, subst, List, map, length, get_or}
use Rattle.std.specs.Prelude.{All, Contains, slice_index}
use Rattle.std.proofs.lemmas.List.{get_or_default}
use Rattle.std.proofs.lemmas.List.Elements.{All-map}
use Rattle.design_problem.specs.declared.form.Form.{Form}
use Rattle.design_problem.specs.declared.form.Row.{Row}
use Rattle.design_problem.specs.declared.tree.Entry.{Entry}
use Rattle.design_problem.specs.declared.tree.Entry.TheVariants.{Undone}
use Rattle.design_problem.specs.Problems.{DesignProblem, restricted}
use Rattle.design_problem.specs.Rows.{IsRow, LeadsEach, form_of_row}
use Rattle.design_problem.specs.Trees.{entry_count}
use Rattle.design_problem.specs.Earnest.{IsFormOfRow}
use Rattle.design_problem.specs.Answers.{whole_box}
use Rattle.design_problem.specs.SearchTrees.{IsSearchTree}
use Rattle.printed_rows.specs.NamedRows.{NamesBelow, is_row_named}
use Rattle.printed_rows.specs.NewNumbers.{IsTreePrinted, new_number}
use Rattle.printed_rows.proofs.RenumberedTrees.{count_kept, undone_kept}
use Rattle.printed_rows.proofs.TreeCopies.{IsCopy, all_printed, copy_closed, copy_printed, copy_short, printed_copy, search_names}
use Rattle.printed_rows.proofs.SheetLaws.{copy_sheet}
use Rattle.cost_branching.specs.Pools.{Differ}
use Rattle.least_conflict.specs.declared.deciding.SetTree.{SetTree}
use Rattle.least_conflict.specs.declared.telling.Told.{Told}
use Rattle.least_conflict.specs.AdvisorsAsked.{IsPrintedOfRequests}
use Rattle.least_conflict.specs.Conflicts.{IsTreeOfRequests, whole_row}
use Rattle.least_conflict.specs.Deciding.{IsSetTree, IsSetTreeTold}
use Rattle.least_conflict.proofs.Sets.{row_known, whole_differ, whole_form, whole_forms, whole_is_row}

-- the tree over the forms of the whole problem's rows
pub search_tree : (p : DesignProblem) (top nodes : ℕ) (t : SetTree) → IsSetTree p top nodes t →
    IsSearchTree (LeadsEach (restricted p t.members.items)) top
    (map (form_of_row p) (map (whole_row t.members.items) t.pool.rows)) (whole_box p) t.tree
search_tree p top nodes t is =
    let q : DesignProblem = restricted p t.members.items in
    subst (λ (forms : List Form). IsSearchTree (LeadsEach q) top forms (whole_box p) t.tree)
    (sym (whole_forms p t.members.items t.pool.rows is.set.known is.is_pool.rows)) is.tree

-- it names none but these rows
pub tree_names : (p : DesignProblem) (top nodes : ℕ) (t : SetTree) (rows : List Row) → IsSetTree p top nodes t →
    rows ≡ map (whole_row t.members.items) t.pool.rows → All (NamesBelow (length rows)) t.tree
tree_names p top nodes t rows is same =
    subst (λ (rs : List Row). All (NamesBelow (length rs)) t.tree) (sym same)
    (search_names (LeadsEach (restricted p t.members.items)) top (form_of_row p)
    (map (whole_row t.members.items) t.pool.rows) (whole_box p) t.tree (search_tree p top nodes t is))

-- what is told: the printed rows, and the printed tree
tree_of_set : (p : DesignProblem) (top nodes : ℕ) (t : SetTree) (rows : List Row) (tree : List Entry) →
    IsSetTree p top nodes t → IsTreePrinted (map (whole_row t.members.items) t.pool.rows) t.tree rows tree →
    IsTreeOfRequests p top nodes t.members.items rows tree
tree_of_set p top nodes t rows tree is sheet =
    let members = t.members.items in
    let q : DesignProblem = restricted p members in
    let pool = t.pool.rows in
    let named = is_row_named t.tree in
    let whole = map (whole_row members) pool in
    let copy : IsCopy named whole rows t.tree tree = printed_copy whole rows t.tree tree sheet (tree_names p top nodes t whole is refl) in
    let IsMember : Row → Type 0 = λ row. Contains members row.request in
    let HasTrueForm : Row → Type 0 = λ row. IsFormOfRow q (form_of_row p row) in
    let search = search_tree p top nodes t is in
    let true_forms : All HasTrueForm whole =
    All-map HasTrueForm (whole_row members) pool
    (λ k d k_in. record {
      row = get_or pool k d;
      is_row = is.is_pool.rows k d k_in;
      same = sym (whole_form p members (get_or pool k d) is.set.known (is.is_pool.rows k d k_in));
    }) in
    let true_rows : All (IsRow p) whole =
    All-map (IsRow p) (whole_row members) pool
    (λ k d k_in. whole_is_row p members (get_or pool k d) is.set.known (is.is_pool.rows k d k_in)) in
    let of_members : All IsMember whole =
    All-map IsMember (whole_row members) pool
    (λ k d k_in.
    let row = get_or pool k d in
    let within = row_known p members row (is.is_pool.rows k d k_in) in
    (row.request, within, get_or_default members row.request (slice_index members row.request) 0 within)) in
    record {
      sheet = copy_sheet (IsRow p) Differ named whole rows t.tree tree copy (λ row is. is) true_rows
          (whole_differ p members pool is.set is.is_pool.rows is.is_pool.once);
      of_members = all_printed IsMember named whole rows copy.kept of_members;
      printed = copy_printed (LeadsEach q) (IsFormOfRow q) top nodes (form_of_row p) (whole_box p) named whole rows t.tree tree copy true_forms search is.few;
      few = copy.kept.few;
      short = copy_short (length p.low) named whole rows t.tree tree copy search.short;
    }

pub told_of_set : (p : DesignProblem) (top nodes : ℕ) (t : SetTree) (old : List Row) (told : Told) →
    IsSetTree p top nodes t → old ≡ map (whole_row t.members.items) t.pool.rows →
    IsTreePrinted old t.tree told.rows told.tree → told.members ≡ t.members.items → IsSetTreeTold p top nodes t told
told_of_set p top nodes t old told is same printed same_members =
    let whole = map (whole_row t.members.items) t.pool.rows in
    let named = is_row_named t.tree in
    let sheet : IsTreePrinted whole t.tree told.rows told.tree = subst (λ (rs : List Row). IsTreePrinted rs t.tree told.rows told.tree) same printed in
    let copy : IsCopy named whole told.rows t.tree told.tree = printed_copy whole told.rows t.tree told.tree sheet (tree_names p top nodes t whole is refl) in
    record {
      members = same_members;
      of_set = subst (λ (ms : List ℕ). IsTreeOfRequests p top nodes ms told.rows told.tree) (sym same_members)
          (tree_of_set p top nodes t told.rows told.tree is sheet);
      closed = λ closed. copy_closed named whole told.rows t.tree told.tree copy closed;
      undone = λ undone. subst (λ (es : List Entry). Contains es Undone) (sym copy.copied) (undone_kept (new_number named) t.tree undone);
      counted = ap entry_count copy.copied ∙ count_kept (new_number named) t.tree;
      printed = subst (λ (ms : List ℕ). IsPrintedOfRequests ms t.pool t.tree told.rows told.tree) (sym same_members) sheet;
    }
