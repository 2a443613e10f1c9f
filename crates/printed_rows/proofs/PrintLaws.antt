-- The rows and trees that are printed.
use Rattle.std.proofs.Common.{◌≡◌, ℕ, refl, sym, ◌∙◌, ap, subst, List, [], ◌∷◌, map, length, Bool, true, false, ◌||◌}
use Rattle.std.specs.Prelude.{◌<◌, All, Option, None, Some, slice_index_or}
use Rattle.std.proofs.lemmas.List.Elements.{All-head, All-tail}
use Rattle.std.proofs.lemmas.List.Folds.{list_any_at}
use Rattle.cost_base.specs.Lists.{numbers_from}
use Rattle.cost_base.specs.Marks.{AreMarked, is_marked}
use Rattle.cost_base.proofs.MarkLaws.{marks_from_none}
use Rattle.design_problem.specs.declared.answer.CapTree.{CapTree}
use Rattle.design_problem.specs.declared.tree.Entry.{Entry}
use Rattle.design_problem.specs.Renumbering.{renumbered}
use Rattle.printed_rows.specs.NamedRows.{IsKnown, NamesBelow, NamesKnown, TreeNamesBelow, TreeNamesKnown, entries_in, is_row_named, is_row_named_in}
use Rattle.printed_rows.specs.NewNumbers.{AreNewNumbers, HasNumbers, named_in, new_number, number_given, with_new_numbers}
use Rattle.printed_rows.proofs.NamedLaws.{entries_agree, names_known}
use Rattle.printed_rows.proofs.NumberLaws.{number_at, numbers_counted}

-- the marks of a test, where nothing was marked before
marks_are : (test : ℕ → Bool) (none marks : List Bool) → ((row : ℕ) → is_marked none row ≡ false) → AreMarked test none marks → is_marked marks ≡ test
marks_are test none marks empty are = λ i row. marks_from_none test none marks row empty are i

-- and of one test after the other
both_marks_are : (first second : ℕ → Bool) (none middle marks : List Bool) → ((row : ℕ) → is_marked none row ≡ false) →
    AreMarked first none middle → AreMarked second middle marks → is_marked marks ≡ (λ row. first row || second row)
both_marks_are first second none middle marks empty one two =
    λ i row. (two.marked row ∙ ap (λ (x : Bool). x || second row) (one.marked row ∙ ap (λ (x : Bool). x || first row) (empty row))) i

-- the numbers of a list are the new numbers
pub numbers_agree : (test named : ℕ → Bool) (n : ℕ) (numbers : List ℕ) (entries : List Entry) → test ≡ named →
    AreNewNumbers test n numbers → All (NamesKnown test n) entries →
    map (renumbered (number_given numbers)) entries ≡ with_new_numbers named entries
numbers_agree test named n numbers entries same are known =
    entries_agree (number_given numbers) (new_number test) (IsKnown test n) entries (λ row is. number_at (new_number test) n numbers row are is.0) known
    ∙ ap (λ (t : ℕ → Bool). with_new_numbers t entries) same

pub tree_agrees : (test named : ℕ → Bool) (n : ℕ) (numbers : List ℕ) (tree new : Option CapTree) → test ≡ named →
    AreNewNumbers test n numbers → TreeNamesKnown test n tree → HasNumbers (number_given numbers) tree new →
    HasNumbers (new_number named) tree new
tree_agrees test named n numbers None None same are known has = tt
tree_agrees test named n numbers None (Some u) same are known has = absurd has
tree_agrees test named n numbers (Some t) None same are known has = absurd has
tree_agrees test named n numbers (Some t) (Some u) same are known has = (has.0, has.1 ∙ numbers_agree test named n numbers t.tree same are known)

-- the numbers of so many rows, of which those are marked that pass the test
pub record AreNumbered (test : ℕ → Bool) (n : ℕ) (marks : List Bool) (numbers : List ℕ) : Type 0 where
  pub same : is_marked marks ≡ test
  pub counted : length numbers ≡ n
  pub are : AreNewNumbers (is_marked marks) (length numbers) numbers

are_numbered : (test : ℕ → Bool) (n : ℕ) (made marks : List Bool) (all numbers : List ℕ) → is_marked made ≡ test →
    length made ≡ n → marks ≡ made → AreNewNumbers (is_marked marks) (length marks) all → numbers ≡ all →
    AreNumbered test n marks numbers
are_numbered test n made marks all numbers same made_count marks_is are numbers_is =
    let counted : length numbers ≡ length marks = ap length numbers_is ∙ numbers_counted (new_number (is_marked marks)) (length marks) all are in
    record {
      same = ap is_marked marks_is ∙ same;
      counted = counted ∙ ap length marks_is ∙ made_count;
      are = numbers_is ∙ are ∙ ap (λ (k : ℕ). map (new_number (is_marked marks)) (numbers_from 0 k)) (sym counted);
    }

-- where a tree was marked
pub tree_numbered : (tree : List Entry) (n : ℕ) (none made marks : List Bool) (all numbers : List ℕ) →
    ((row : ℕ) → is_marked none row ≡ false) → AreMarked (is_row_named tree) none made → length made ≡ n → marks ≡ made →
    AreNewNumbers (is_marked marks) (length marks) all → numbers ≡ all →
    AreNumbered (is_row_named tree) n marks numbers
tree_numbered tree n none made marks all numbers empty marked =
    are_numbered (is_row_named tree) n made marks all numbers (marks_are (is_row_named tree) none made empty marked)

-- and where two were, one after the other
pub both_numbered : (proof undecided : Option CapTree) (n : ℕ) (none middle made marks : List Bool)
    (all numbers : List ℕ) → ((row : ℕ) → is_marked none row ≡ false) →
    AreMarked (is_row_named (entries_in proof)) none middle → AreMarked (is_row_named (entries_in undecided)) middle made →
    length made ≡ n → marks ≡ made →
    AreNewNumbers (is_marked marks) (length marks) all → numbers ≡ all → AreNumbered (named_in proof undecided) n marks numbers
both_numbered proof undecided n none middle made marks all numbers empty first second =
    are_numbered (named_in proof undecided) n made marks all numbers
    (both_marks_are (is_row_named (entries_in proof)) (is_row_named (entries_in undecided)) none middle made empty
    first second)

-- what a tree names is known to the numbers
pub tree_known : (test : ℕ → Bool) (n : ℕ) (marks : List Bool) (numbers : List ℕ) (tree : List Entry) →
    AreNumbered test n marks numbers → ((row : ℕ) → is_row_named tree row ≡ true → test row ≡ true) →
    All (NamesBelow n) tree → All (NamesKnown (is_marked marks) (length numbers)) tree
tree_known test n marks numbers tree are passes below =
    names_known (is_marked marks) (length numbers) tree (λ row is. ap (λ (t : ℕ → Bool). t row) are.same
    ∙ passes row is) (subst (λ (k : ℕ). All (NamesBelow k) tree) (sym are.counted) below)

pub if_any_known : (test : ℕ → Bool) (n : ℕ) (marks : List Bool) (numbers : List ℕ) (tree : Option CapTree) →
    AreNumbered test n marks numbers → ((row : ℕ) → is_row_named (entries_in tree) row ≡ true → test row ≡ true) →
    TreeNamesBelow n tree → TreeNamesKnown (is_marked marks) (length numbers) tree
if_any_known test n marks numbers None are passes below = tt
if_any_known test n marks numbers (Some t) are passes below = tree_known test n marks numbers t.tree are passes below

-- what one of two trees names is named
pub first_named : (proof undecided : Option CapTree) (row : ℕ) → is_row_named (entries_in proof) row ≡ true → named_in proof undecided row ≡ true
first_named proof undecided row is = ap (λ (x : Bool). x || is_row_named (entries_in undecided) row) is

pub second_named : (proof undecided : Option CapTree) (row : ℕ) → is_row_named (entries_in undecided) row ≡ true → named_in proof undecided row ≡ true
second_named proof undecided row is = ap (λ (x : Bool). is_row_named (entries_in proof) row || x) is ∙ or_true (is_row_named (entries_in proof) row)
  where
    or_true : (b : Bool) → (b || true) ≡ true
    or_true true = refl
    or_true false = refl

-- what one of several trees names is named
pub one_named : (trees : List (List Entry)) (k row : ℕ) (d : List Entry) → k < length trees →
    is_row_named (slice_index_or trees k d) row ≡ true → is_row_named_in trees row ≡ true
one_named trees k row d k_in is = list_any_at (λ (tree : List Entry). is_row_named tree row) trees k d k_in is

-- where the rows of several trees were marked
pub trees_numbered : (trees : List (List Entry)) (n : ℕ) (none made marks : List Bool) (all numbers : List ℕ) →
    ((row : ℕ) → is_marked none row ≡ false) → AreMarked (is_row_named_in trees) none made → length made ≡ n → marks ≡ made →
    AreNewNumbers (is_marked marks) (length marks) all → numbers ≡ all →
    AreNumbered (is_row_named_in trees) n marks numbers
trees_numbered trees n none made marks all numbers empty marked =
    are_numbered (is_row_named_in trees) n made marks all numbers (marks_are (is_row_named_in trees) none made empty marked)

pub trees_known : (n : ℕ) (marks : List Bool) (numbers : List ℕ) (trees : List (List Entry)) →
    AreNumbered (is_row_named_in trees) n marks numbers → All (All (NamesBelow n)) trees →
    All (All (NamesKnown (is_marked marks) (length numbers))) trees
trees_known n marks numbers trees are below k d k_in =
    tree_known (is_row_named_in trees) n marks numbers (slice_index_or trees k d) are (λ row is. one_named trees k row d k_in is) (below k d k_in)

pub trees_agree : (test named : ℕ → Bool) (n : ℕ) (numbers : List ℕ) (trees : List (List Entry)) → test ≡ named →
    AreNewNumbers test n numbers → All (All (NamesKnown test n)) trees →
    map (map (renumbered (number_given numbers))) trees ≡ map (with_new_numbers named) trees
trees_agree test named n numbers [] same are known = refl
trees_agree test named n numbers (tree ∷ trees) same are known =
    let here = numbers_agree test named n numbers tree same are (All-head (All (NamesKnown test n)) tree trees known) in
    let rest = trees_agree test named n numbers trees same are (All-tail (All (NamesKnown test n)) tree trees known) in
    cc (here, rest)
