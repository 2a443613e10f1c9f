-- The rows that a tree names, or one of two trees, and the trees with their new numbers, are a sheet.
use Rattle.std.proofs.Common.{◌≡◌, ℕ, zero, suc, ◌+◌, ◌<◌, refl, sym, ◌∙◌, ap, subst, List, [], ◌∷◌, ◌++◌, map, length, arith, Bool, true, false, ◌||◌, if◌then◌else◌, inl, inr}
use Rattle.std.specs.Prelude.{◌==◌, All, AllPairs, Option, None, Some}
use Rattle.std.specs.List.{list_any}
use Rattle.std.proofs.lemmas.Bool.{cases_Bool, cases_lt, eq-eqb, eqb-true}
use Rattle.std.proofs.lemmas.List.{map-append}
use Rattle.std.proofs.lemmas.List.Elements.{All-nil, All-append}
use Rattle.std.proofs.lemmas.List.Folds.{list_any-append}
use Rattle.std.proofs.lemmas.List.Kept.{AllPairs-cons}
use Rattle.cost_base.proofs.ListLemmas.{pairs_head, pairs_tail}
use Rattle.design_problem.specs.declared.answer.CapTree.{CapTree}
use Rattle.design_problem.specs.declared.tree.Member.{Member}
use Rattle.design_problem.specs.declared.tree.Member.TheVariants.{Low as ByLow, High as ByHigh, Row as ByRow}
use Rattle.design_problem.specs.declared.tree.Entry.{Entry}
use Rattle.design_problem.specs.declared.tree.Entry.TheVariants.{Tighten, Split, Halve, Refute, Undone}
use Rattle.design_problem.specs.Renumbering.{renumbered, renumbered_member, renumbered_multiplier}
use Rattle.printed_rows.specs.NamedRows.{NamesBelow, TreeNamesBelow, entries_in, is_row_named, member_names, names, part_names}
use Rattle.printed_rows.specs.NewNumbers.{ArePrinted, HasNumbers, IsTreePrinted, kept_from, kept_rows, named_in, new_number}
use Rattle.printed_rows.specs.Sheets.{IsSheet}
use Rattle.printed_rows.proofs.KeptRows.{kept_all, length-kept_rows}
use Rattle.printed_rows.proofs.NamedLaws.{names_known}
use Rattle.printed_rows.proofs.NumberLaws.{step_kept, step_left}
use Rattle.printed_rows.proofs.TreeCopies.{IsCopy, all_printed, copy_names, printed_copy}

-- None comes twice.

-- what holds of each two rows holds of each two that are kept
kept_pairs : {R : Type 0} (P : R → R → Type 0) (named : ℕ → Bool) (first : ℕ) (rows : List R) → AllPairs P rows → AllPairs P (kept_from named first rows)
kept_pairs P named first [] pairs = pairs
kept_pairs {R} P named first (row ∷ rows) pairs =
    by_test (named first) (kept_pairs P named (suc first) rows (pairs_tail P row rows pairs))
  where
    by_test : (is : Bool) → AllPairs P (kept_from named (suc first) rows) →
        AllPairs P (if is then row ∷ kept_from named (suc first) rows else kept_from named (suc first) rows)
    by_test true rest =
        AllPairs-cons P row (kept_from named (suc first) rows) (kept_all (P row) named (suc first) rows (pairs_head P row rows pairs)) rest
    by_test false rest = rest

-- Each is named.

-- a place among the rows that are kept is the new number of one of them
pub record HasNumber (named : ℕ → Bool) (count place : ℕ) : Type 0 where
  pub row : ℕ
  pub known : row < count
  pub is : named row ≡ true
  pub number : new_number named row ≡ place

pub number_taken : (named : ℕ → Bool) (count place : ℕ) → place < new_number named count → HasNumber named count place
number_taken named zero place below = absurd (omega (arith, below))
number_taken named (suc count) place below = elim (cases_lt place (new_number named count)) [
  | inl early ↦
      let has = number_taken named count place early in
      record { row = has.row; known = (let known = has.known in omega arith); is = has.is; number = has.number }
  | inr late ↦ elim (cases_Bool (named count)) [
    | inl is ↦ record { row = count; known = omega arith; is = is; number = omega (arith, below, late, step_kept named count is) }
    | inr left ↦ absurd (omega (arith, below, late, step_left named count left))
  ]
]

-- what one of a list passes, one of its image passes
any_anew : {X : Type 0} (p q : X → Bool) (g : X → X) (xs : List X) → ((x : X) → p x ≡ true → q (g x) ≡ true) →
    list_any p xs ≡ true → list_any q (map g xs) ≡ true
any_anew p q g [] passes any = any
any_anew p q g (x ∷ xs) passes any = elim (cases_Bool (p x)) [
  | inl here ↦ ap (λ (b : Bool). b || list_any q (map g xs)) (passes x here)
  | inr not_here ↦
      let rest = any_anew p q g xs passes (sym (ap (λ (b : Bool). b || list_any p xs) not_here) ∙ any) in
      ap (λ (b : Bool). q (g x) || b) rest ∙ or_true (q (g x))
]
  where
    or_true : (b : Bool) → (b || true) ≡ true
    or_true true = refl
    or_true false = refl

same_anew : (f : ℕ → ℕ) (a b : ℕ) → (a == b) ≡ true → (f a == f b) ≡ true
same_anew f a b same = eq-eqb (f a) (f b) (ap f (eqb-true a b same))

member_anew : (f : ℕ → ℕ) (row : ℕ) (member : Member) → member_names row member ≡ true → member_names (f row) (renumbered_member f member) ≡ true
member_anew f row (ByLow var value) is = is
member_anew f row (ByHigh var value) is = is
member_anew f row (ByRow other) is = same_anew f other row is

-- the entry with new numbers names the row by its new one
entry_anew : (f : ℕ → ℕ) (row : ℕ) (entry : Entry) → names row entry ≡ true → names (f row) (renumbered f entry) ≡ true
entry_anew f row (Tighten var side value other) is = same_anew f other row is
entry_anew f row (Split var value) is = is
entry_anew f row (Halve var value wide) is =
    any_anew (member_names row) (member_names (f row)) (renumbered_member f) wide.basis (member_anew f row) is
entry_anew f row (Refute parts) is =
    any_anew (part_names row) (part_names (f row)) (renumbered_multiplier f) parts (λ part. same_anew f part.0 row) is
entry_anew f row Undone is = is

named_anew : (f : ℕ → ℕ) (row : ℕ) (entries : List Entry) → is_row_named entries row ≡ true → is_row_named (map (renumbered f) entries) (f row) ≡ true
named_anew f row entries is = any_anew (names row) (names (f row)) (renumbered f) entries (entry_anew f row) is

-- The sheet.

-- of rows that pass a test, which some entry names, and of the entries with their new numbers
pub copy_sheet : {R : Type 0} (IsTrueRow : R → Type 0) (AreApart : R → R → Type 0) (named : ℕ → Bool)
    (old rows : List R) (entries new_entries : List Entry) → IsCopy named old rows entries new_entries →
    ((row : ℕ) → named row ≡ true → is_row_named entries row ≡ true) → All IsTrueRow old → AllPairs AreApart old →
    IsSheet IsTrueRow AreApart 0 rows new_entries
copy_sheet {R} IsTrueRow AreApart named old rows entries new_entries copy used true_rows once =
    let kept = kept_rows named old in
    let count : length rows ≡ new_number named (length old) = ap length copy.kept.same ∙ length-kept_rows named old in
    record {
      true_rows = all_printed IsTrueRow named old rows copy.kept true_rows;
      once = subst (λ (rs : List R). AllPairs AreApart rs) (sym copy.kept.same) (kept_pairs AreApart named 0 old once);
      used = λ place within.
          let has = number_taken named (length old) place (omega (arith, within, count)) in
          subst (λ (k : ℕ). is_row_named new_entries k ≡ true) has.number
          (subst (λ (es : List Entry). is_row_named es (new_number named has.row) ≡ true) (sym copy.copied)
          (named_anew (new_number named) has.row entries (used has.row has.is)));
      printed = subst (λ (n : ℕ). All (NamesBelow n) new_entries) (omega arith) (copy_names named old rows entries new_entries copy);
    }

-- of what one tree names
pub tree_sheet : {R : Type 0} (IsTrueRow : R → Type 0) (AreApart : R → R → Type 0) (old rows : List R)
    (tree new_tree : List Entry) → All IsTrueRow old → AllPairs AreApart old → All (NamesBelow (length old)) tree →
    IsTreePrinted old tree rows new_tree → IsSheet IsTrueRow AreApart 0 rows new_tree
tree_sheet IsTrueRow AreApart old rows tree new_tree true_rows once below printed =
    copy_sheet IsTrueRow AreApart (is_row_named tree) old rows tree new_tree (printed_copy old rows tree new_tree printed below)
    (λ row is. is) true_rows once

-- of what one of two trees names
named_append : (proof undecided : Option CapTree) (row : ℕ) →
    is_row_named (entries_in proof ++ entries_in undecided) row ≡ named_in proof undecided row
named_append proof undecided row = list_any-append (names row) (entries_in proof) (entries_in undecided)

if_any_below : (n : ℕ) (tree : Option CapTree) → TreeNamesBelow n tree → All (NamesBelow n) (entries_in tree)
if_any_below n None below = All-nil (NamesBelow n)
if_any_below n (Some t) below = below

if_any_anew : (f : ℕ → ℕ) (tree new : Option CapTree) → HasNumbers f tree new → entries_in new ≡ map (renumbered f) (entries_in tree)
if_any_anew f None None has = refl
if_any_anew f None (Some u) has = absurd has
if_any_anew f (Some t) None has = absurd has
if_any_anew f (Some t) (Some u) has = has.1

both_copy : {R : Type 0} (old rows : List R) (proof undecided new_proof new_undecided : Option CapTree) →
    TreeNamesBelow (length old) proof → TreeNamesBelow (length old) undecided →
    ArePrinted old proof undecided rows new_proof new_undecided →
    IsCopy (named_in proof undecided) old rows (entries_in proof ++ entries_in undecided)
    (entries_in new_proof ++ entries_in new_undecided)
both_copy old rows proof undecided new_proof new_undecided proof_below undecided_below are =
    let f = new_number (named_in proof undecided) in
    let entries = entries_in proof ++ entries_in undecided in
    record {
      kept = are.kept;
      copied = ap (λ (es : List Entry). es ++ entries_in new_undecided) (if_any_anew f proof new_proof are.proof_is)
          ∙ ap (λ (es : List Entry). map (renumbered f) (entries_in proof) ++ es) (if_any_anew f undecided new_undecided are.undecided_is)
          ∙ sym (map-append (renumbered f) (entries_in proof) (entries_in undecided));
      known = names_known (named_in proof undecided) (length old) entries
          (λ row is. sym (named_append proof undecided row) ∙ is)
          (All-append (NamesBelow (length old)) (entries_in proof) (entries_in undecided)
          (if_any_below (length old) proof proof_below) (if_any_below (length old) undecided undecided_below));
    }

pub trees_sheet : {R : Type 0} (IsTrueRow : R → Type 0) (AreApart : R → R → Type 0) (old rows : List R)
    (proof undecided new_proof new_undecided : Option CapTree) → All IsTrueRow old → AllPairs AreApart old →
    TreeNamesBelow (length old) proof → TreeNamesBelow (length old) undecided →
    ArePrinted old proof undecided rows new_proof new_undecided →
    IsSheet IsTrueRow AreApart 0 rows (entries_in new_proof ++ entries_in new_undecided)
trees_sheet IsTrueRow AreApart old rows proof undecided new_proof new_undecided true_rows once proof_below undecided_below are =
    copy_sheet IsTrueRow AreApart (named_in proof undecided) old rows (entries_in proof ++ entries_in undecided)
    (entries_in new_proof ++ entries_in new_undecided)
    (both_copy old rows proof undecided new_proof new_undecided proof_below undecided_below are)
    (λ row is. named_append proof undecided row ∙ is) true_rows once

-- a sheet's entries name none but its rows, where no form stands behind theirs
pub sheet_names : {R : Type 0} (IsTrueRow : R → Type 0) (AreApart : R → R → Type 0) (rows : List R) (entries : List Entry) →
    IsSheet IsTrueRow AreApart 0 rows entries → All (NamesBelow (length rows)) entries
sheet_names IsTrueRow AreApart rows entries sheet =
    let none : length rows + 0 ≡ length rows = omega arith in
    subst (λ (n : ℕ). All (NamesBelow n) entries) none sheet.printed
