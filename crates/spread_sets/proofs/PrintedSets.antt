-- The rows and the tree that are printed of a search over sets, and what they show.
use Rattle.std.proofs.Common.{◌≡◌, ◌≢◌, ℕ, zero, suc, ◌^◌, ◌<◌, ◌≤◌, refl, ◌∙◌, subst, get_or, List, [], ◌∷◌, length, min, arith}
use Rattle.std.specs.Prelude.{All, AllPairs, Contains, codes, slice_get, slice_index}
use Rattle.std.proofs.lemmas.List.{get_or-map, length-map}
use Rattle.std.proofs.lemmas.List.Elements.{All-contains, All-cons, All-map, All-nil}
use Rattle.cost_base.specs.Decimal.{decimal}
use Rattle.area_graph.specs.Area.{Area}
use Rattle.area_graph.specs.Paths.{IsPathOf}
use Rattle.design_problem.specs.declared.problem.Request.{Request}
use Rattle.design_problem.specs.declared.form.Row.{Row}
use Rattle.design_problem.specs.declared.tree.Entry.{Entry}
use Rattle.design_problem.specs.declared.tree.Entry.TheVariants.{Undone}
use Rattle.design_problem.specs.Problems.{DesignProblem, IsProblem, request_ends, request_at, IsProblemOnGraph}
use Rattle.design_problem.specs.Boxes.{IsInBox}
use Rattle.design_problem.specs.Rows.{IsRivalOf, IsRouteOf, IsRow, box_of}
use Rattle.design_problem.specs.Trees.{IsClosed, IsSoundTree, entry_count}
use Rattle.design_problem.specs.Answers.{greatest_bound, whole_box}
use Rattle.design_problem.proofs.ProblemTrees.{le_greatest}
use Rattle.design_problem.proofs.TreeLaws.{closed_tree_none}
use Rattle.design_problem.proofs.TreeShapes.{few_entries}
use Rattle.design_problem.specs.SearchTrees.{IsSearchTree}
use Rattle.printed_rows.specs.NamedRows.{NamesBelow, is_row_named}
use Rattle.printed_rows.specs.NewNumbers.{IsTreePrinted}
use Rattle.printed_rows.proofs.AnswerLines.{fit_text}
use Rattle.printed_rows.proofs.CapBoxes.{bounds_box, cost_bounds, low_below_greatest_bound}
use Rattle.printed_rows.proofs.MetForms.{Met, meets_all}
use Rattle.printed_rows.proofs.RowLines.{rows_short}
use Rattle.printed_rows.proofs.SheetLaws.{tree_sheet}
use Rattle.printed_rows.proofs.TreeCopies.{IsCopy, all_printed, copy_closed, copy_printable, copy_printed, copy_used_up, printed_copy, search_names}
use Rattle.printed_rows.proofs.TreeLines.{spaced-le, thing_digits}
use Rattle.set_separation.specs.Outsiders.{IsOutsider}
use Rattle.spread_sets.specs.declared.spread.SetRow.{SetRow}
use Rattle.spread_sets.specs.declared.spread.SetRow.TheVariants.{Outsider, Same}
use Rattle.spread_sets.specs.declared.spread.Spread.TheVariants.{Fit, Impossible, Undecided}
use Rattle.spread_sets.specs.Spreads.{IsFormOfSetRow, IsSetRow, SetRowsDiffer, SharesEach, edges_of, ends_in, name_of_set, form_of_set_row, forms_of_set_rows, paths_of}
use Rattle.printed_rows.specs.FittingTexts.{FitText, IsTextLine}
use Rattle.spread_sets.specs.Answers.{HasNoSpread, IsSheetOfSets, IsUndecidedOfSpreadSets, IsTreeOfSpreadSets, set_row_line}
use Rattle.spread_sets.specs.Laws.{SpreadSufficientIfLarge, SpreadSettlesIfSufficient}
use Rattle.spread_sets.specs.MemberSets.{AreMemberSets, IsMemberSet}
use Rattle.spread_sets.specs.SourceLaws.{first_listed, member_known}
use Rattle.spread_sets.proofs.SpreadLaws.{fit_met}

-- The lines of rows.

-- a simple path of a request, other than its own
pub rival_is : (g : Area) (requests : List Request) (k : ℕ) (es : List ℕ) → k < length requests →
    IsPathOf g (request_ends (request_at requests k)) es → es ≢ (request_at requests k).path.edges →
    IsRivalOf g (slice_get requests k) es
rival_is g [] k es known path other = absurd (omega arith)
rival_is g (r ∷ rs) zero es known path other = (path, other)
rival_is g (r ∷ rs) (suc k) es known path other = rival_is g rs k es (omega arith) path other

pub route_is : (g : Area) (requests : List Request) (k : ℕ) (es : List ℕ) → k < length requests →
    IsPathOf g (request_ends (request_at requests k)) es → IsRouteOf g (slice_get requests k) es
route_is g [] k es known path = absurd (omega arith)
route_is g (r ∷ rs) zero es known path = path
route_is g (r ∷ rs) (suc k) es known path = route_is g rs k es (omega arith) path

-- an outsider differs from the first member's path
first_other : (p : DesignProblem) (set es : List ℕ) → 0 < length set → All (λ w. es ≢ w) (paths_of p set) → es ≢ edges_of p (name_of_set set)
first_other p [] es some other = absurd (omega arith)
first_other p (i ∷ more) es some other = other 0 [] (omega arith)

outsider_row : (p : DesignProblem) (set es : List ℕ) → IsMemberSet p set →
    IsOutsider p.graph (ends_in p set) (paths_of p set) es →
    IsRivalOf p.graph (slice_get p.requests (name_of_set set)) es
outsider_row p set es is outsider =
    rival_is p.graph p.requests (name_of_set set) es (member_known p set (name_of_set set) is (first_listed set is.some))
    outsider.path (first_other p set es is.some outsider.other)

same_short : (name i j : ℕ) → name < 2 ^ 32 → i < 2 ^ 32 → j < 2 ^ 32 → IsTextLine (set_row_line (Same name i j))
same_short name i j first second third =
    let words = spaced-le (codes "same" ∷ decimal name ∷ decimal i ∷ decimal j ∷ []) in
    omega (arith, thing_digits name first, thing_digits i second, thing_digits j third)

set_row_short : (p : DesignProblem) (sets : List (List ℕ)) (row : SetRow) → IsProblemOnGraph p → AreMemberSets p sets → IsSetRow p sets row →
    IsTextLine (set_row_line row)
set_row_short p sets (Outsider name es) kept are is =
    let set_is = All-contains (IsMemberSet p) sets is.0 are is.1.listed in
    let row : Row = record { request = name; rival = es } in
    let is_row : IsRow p row = subst (λ (k : ℕ). IsRivalOf p.graph (slice_get p.requests k) es) is.1.first (outsider_row p is.0 es set_is is.2) in
    rows_short p (row ∷ []) kept.problem kept.graph (All-cons (IsRow p) row [] is_row (All-nil (IsRow p))) 0 row (omega arith)
set_row_short p sets (Same name i j) kept are is =
    let set = is.0 in
    let set_is = All-contains (IsMemberSet p) sets set are is.1.listed in
    let few = kept.problem.request_count in
    let first : name < length p.requests =
    subst (λ (k : ℕ). k < length p.requests) is.1.first
    (member_known p set (name_of_set set) set_is (first_listed set set_is.some)) in
    let second = member_known p set i set_is is.2 in
    let third = member_known p set j set_is is.3 in
    same_short name i j (omega arith) (omega arith) (omega arith)

-- What is printed of a search's tree.

-- what a problem, its sets and a budget keep
pub record CanPrintSets (p : DesignProblem) (sets : List (List ℕ)) (nodes : ℕ) : Type 0 where
  pub kept : IsProblemOnGraph p
  pub are : AreMemberSets p sets
  pub small : greatest_bound p ≤ 65535
  pub budget : nodes ≤ 10000000

pub tree_names : (p : DesignProblem) (sets : List (List ℕ)) (top : ℕ) (rows : List SetRow) (tree : List Entry) →
    IsSearchTree (SharesEach p sets) top (forms_of_set_rows p rows) (whole_box p) tree →
    All (NamesBelow (length rows)) tree
tree_names p sets top rows tree search = search_names (SharesEach p sets) top (form_of_set_row p) rows (whole_box p) tree search

copied : (p : DesignProblem) (sets : List (List ℕ)) (top : ℕ) (old rows : List SetRow) (tree new_tree : List Entry) →
    IsSearchTree (SharesEach p sets) top (forms_of_set_rows p old) (whole_box p) tree →
    IsTreePrinted old tree rows new_tree → IsCopy (is_row_named tree) old rows tree new_tree
copied p sets top old rows tree new_tree search printed = printed_copy old rows tree new_tree printed (tree_names p sets top old tree search)

forms_true : (p : DesignProblem) (sets : List (List ℕ)) (rows : List SetRow) → All (IsSetRow p sets) rows →
    All (λ row. IsFormOfSetRow p sets (form_of_set_row p row)) rows
forms_true p sets rows true_rows k d k_in = record { row = get_or rows k d; is_row = true_rows k d k_in; same = refl }

text_fits : (p : DesignProblem) (sets : List (List ℕ)) (top nodes : ℕ) (old rows : List SetRow)
    (tree new_tree : List Entry) → CanPrintSets p sets nodes → All (IsSetRow p sets) old →
    IsSearchTree (SharesEach p sets) top (forms_of_set_rows p old) (whole_box p) tree → entry_count tree ≤ nodes →
    IsTreePrinted old tree rows new_tree → FitText set_row_line (greatest_bound p) rows new_tree
text_fits p sets top nodes old rows tree new_tree can true_rows search few printed =
    let copy = copied p sets top old rows tree new_tree search printed in
    let bounds = cost_bounds p (greatest_bound p) can.kept.problem (low_below_greatest_bound p can.kept.problem) can.small in
    let are = all_printed (IsSetRow p sets) (is_row_named tree) old rows copy.kept true_rows in
    fit_text set_row_line (greatest_bound p) rows new_tree copy.kept.few
    (λ k d k_in. set_row_short p sets (get_or rows k d) can.kept can.are (are k d k_in))
    (copy_printable (SharesEach p sets) top nodes (greatest_bound p) (form_of_set_row p) (whole_box p)
    (is_row_named tree) old rows tree new_tree copy bounds can.small can.budget search few)

sheet_is : (p : DesignProblem) (sets : List (List ℕ)) (top : ℕ) (old rows : List SetRow) (tree new_tree : List Entry) →
    All (IsSetRow p sets) old → AllPairs SetRowsDiffer old →
    IsSearchTree (SharesEach p sets) top (forms_of_set_rows p old) (whole_box p) tree →
    IsTreePrinted old tree rows new_tree → IsSheetOfSets p sets rows new_tree
sheet_is p sets top old rows tree new_tree true_rows once search printed =
    tree_sheet (IsSetRow p sets) SetRowsDiffer old rows tree new_tree true_rows once (tree_names p sets top old tree search) printed

pub shown_tree : (p : DesignProblem) (sets : List (List ℕ)) (top nodes : ℕ) (old rows : List SetRow)
    (tree new_tree : List Entry) → CanPrintSets p sets nodes → All (IsSetRow p sets) old → AllPairs SetRowsDiffer old →
    IsSearchTree (SharesEach p sets) top (forms_of_set_rows p old) (whole_box p) tree → entry_count tree ≤ nodes →
    IsTreePrinted old tree rows new_tree → IsTreeOfSpreadSets p sets top nodes rows new_tree
shown_tree p sets top nodes old rows tree new_tree can true_rows once search few printed =
    let copy = copied p sets top old rows tree new_tree search printed in
    record {
      sheet = sheet_is p sets top old rows tree new_tree true_rows once search printed;
      printed = copy_printed (SharesEach p sets) (IsFormOfSetRow p sets) top nodes (form_of_set_row p) (whole_box p)
          (is_row_named tree) old rows tree new_tree copy (forms_true p sets old true_rows) search few;
      fits = text_fits p sets top nodes old rows tree new_tree can true_rows search few printed;
    }

pub shown_used_up : (p : DesignProblem) (sets : List (List ℕ)) (top nodes : ℕ) (old rows : List SetRow)
    (tree new_tree : List Entry) → CanPrintSets p sets nodes → All (IsSetRow p sets) old → AllPairs SetRowsDiffer old →
    IsSearchTree (SharesEach p sets) top (forms_of_set_rows p old) (whole_box p) tree → Contains tree Undone →
    entry_count tree ≡ nodes →
    IsTreePrinted old tree rows new_tree → IsUndecidedOfSpreadSets p sets top nodes rows new_tree
shown_used_up p sets top nodes old rows tree new_tree can true_rows once search undone used_up printed =
    let copy = copied p sets top old rows tree new_tree search printed in
    record {
      sheet = sheet_is p sets top old rows tree new_tree true_rows once search printed;
      used_up = copy_used_up (SharesEach p sets) (IsFormOfSetRow p sets) top nodes (form_of_set_row p) (whole_box p)
          (is_row_named tree) old rows tree new_tree copy (forms_true p sets old true_rows) search undone used_up;
      fits = text_fits p sets top nodes old rows tree new_tree can true_rows search (omega (arith, used_up)) printed;
    }

-- What a closed tree shows.

-- costs within the bounds lie in the box at the greatest bound
in_whole : (p : DesignProblem) (w : List ℕ) → IsInBox (box_of p) w → IsInBox (whole_box p) w
in_whole p w inside = record {
  low_count = inside.low_count;
  high_count = length-map p.high (λ h. min h (greatest_bound p)) ∙ inside.high_count;
  above = inside.above;
  below = λ k k_in.
      let within : k < length p.high = omega (arith, inside.high_count) in
      let cut = get_or-map (λ h. min h (greatest_bound p)) p.high k 0 0 within in
      let high = inside.below k k_in in
      let most : slice_index p.high k ≤ greatest_bound p = le_greatest p.high k within in
      omega (arith, cut);
}

pub no_spread : (p : DesignProblem) (sets : List (List ℕ)) (rows : List SetRow) (tree : List Entry) → IsProblem p →
    All (IsSetRow p sets) rows → IsSoundTree (forms_of_set_rows p rows) (whole_box p) tree → IsClosed tree →
    HasNoSpread p sets
no_spread p sets rows tree kept true_rows sound closed w fit =
    closed_tree_none (forms_of_set_rows p rows) (whole_box p) tree sound closed w (in_whole p w fit.within)
    (meets_all (forms_of_set_rows p rows) w
    (All-map (Met w) (form_of_set_row p) rows
    (λ k d k_in. fit_met p sets w kept fit (get_or rows k d) (true_rows k d k_in))))

pub shown_closed : (p : DesignProblem) (sets : List (List ℕ)) (top nodes : ℕ) (old rows : List SetRow)
    (tree new_tree : List Entry) → CanPrintSets p sets nodes → All (IsSetRow p sets) old → AllPairs SetRowsDiffer old →
    IsSearchTree (SharesEach p sets) top (forms_of_set_rows p old) (whole_box p) tree → entry_count tree ≤ nodes →
    IsClosed tree →
    IsTreePrinted old tree rows new_tree → IsTreeOfSpreadSets p sets top nodes rows new_tree × IsClosed new_tree × HasNoSpread p sets
shown_closed p sets top nodes old rows tree new_tree can true_rows once search few closed printed =
    let shown = shown_tree p sets top nodes old rows tree new_tree can true_rows once search few printed in
    let stays = copy_closed (is_row_named tree) old rows tree new_tree (copied p sets top old rows tree new_tree search printed) closed in
    (shown, stays, no_spread p sets rows new_tree can.kept.problem shown.sheet.true_rows shown.printed.earnest.sound stays)

-- Where no tree uses the budget up, the sets are settled.

pub sufficient_settle : SpreadSettlesIfSufficient
sufficient_settle p lines top nodes (Fit w) cannot found = tt
sufficient_settle p lines top nodes (Impossible rows tree) cannot found = tt
sufficient_settle p lines top nodes (Undecided rows tree) cannot found =
    absurd (cannot rows.items tree found.sheet.true_rows found.used_up.printed.earnest found.used_up.undone found.used_up.used_up)

pub large_suffice : SpreadSufficientIfLarge
large_suffice p lines top nodes kept enough rows tree true_rows earnest undone used_up =
    let few = (few_entries (length p.low) (forms_of_set_rows p rows) (whole_box p) tree
    (bounds_box p kept) earnest.sound).undecided undone in
    absurd (omega (arith, few, enough, used_up))
