-- The rows that are printed, and trees that name them by their new numbers.
use Rattle.std.specs.Prelude.{◌≡◌, ℕ, zero, suc, ◌+◌, ◌^◌, ◌<◌, ◌||◌, List, [], ◌∷◌, Bool, if◌then◌else◌, map, length, slice_get, slice_index, All, AllPairs, Contains, Option, None, Some}
use Rattle.cost_base.specs.Lists.{numbers_from}
use Rattle.design_problem.specs.declared.answer.CapTree.{CapTree}
use Rattle.design_problem.specs.declared.tree.Entry.{Entry}
use Rattle.design_problem.specs.declared.tree.Entry.TheVariants.{Tighten, Split, Halve, Refute, Undone}
use Rattle.design_problem.specs.Renumbering.{renumbered, renumbered_multiplier}
use Rattle.printed_rows.specs.NamedRows.{entries_in, is_row_named, is_row_named_in}

-- the rows that pass a test, in their order, where the first row has this number
abbrev pub kept_from : {R : Type 0} → (ℕ → Bool) → ℕ → List R → List R
kept_from named first [] = []
kept_from named first (row ∷ rows) = if named first then row ∷ kept_from named (suc first) rows else kept_from named (suc first) rows

-- the rows that pass a test, in their order
abbrev pub kept_rows : {R : Type 0} → (ℕ → Bool) → List R → List R
kept_rows named rows = kept_from named 0 rows

-- the new number of a row: how many rows before it are kept
abbrev pub new_number : (ℕ → Bool) → ℕ → ℕ
new_number named zero = 0
new_number named (suc row) = new_number named row + (if named row then 1 else 0)

-- the new numbers of so many rows
abbrev pub AreNewNumbers : (ℕ → Bool) → ℕ → List ℕ → Type 0
AreNewNumbers named n numbers = numbers ≡ map (new_number named) (numbers_from 0 n)

-- the new number of a row, by a list of these numbers
abbrev pub number_given : List ℕ → ℕ → ℕ
number_given numbers row = slice_index numbers row

-- parts whose rows rise do so by the new numbers of these rows
abbrev pub PartsKeepOrder : (ℕ → ℕ) → List (ℕ × ℕ) → Type 0
PartsKeepOrder number parts = AllPairs (λ a b. a.0 < b.0) parts → AllPairs (λ a b. a.0 < b.0) (map (renumbered_multiplier number) parts)

-- the new numbers keep the order of a Refute's rows
abbrev pub KeepsOrder : (ℕ → ℕ) → Entry → Type 0
KeepsOrder number (Tighten var side value row) = Unit {0}
KeepsOrder number (Split var value) = Unit {0}
KeepsOrder number (Halve var value wide) = Unit {0}
KeepsOrder number (Refute parts) = PartsKeepOrder number parts
KeepsOrder number Undone = Unit {0}

-- the entries of a tree with the new numbers of the rows that pass the test
abbrev pub with_new_numbers : (ℕ → Bool) → List Entry → List Entry
with_new_numbers named entries = map (renumbered (new_number named)) entries

-- a tree at a cap, if there is one, with its rows' new numbers at the same cap
abbrev pub HasNumbers : (ℕ → ℕ) → Option CapTree → Option CapTree → Type 0
HasNumbers number None None = Unit {0}
HasNumbers number (Some t) (Some u) = (u.cap ≡ t.cap) × (u.tree ≡ map (renumbered number) t.tree)
HasNumbers number None (Some u) = ⊥
HasNumbers number (Some t) None = ⊥

-- the rows that pass a test, in their order, where they are fewer than 2^64
pub record AreKept {R : Type 0} (named : ℕ → Bool) (old rows : List R) : Type 0 where
  pub same : rows ≡ kept_rows named old
  pub few : length rows < 2 ^ 64

-- the rows that the tree names, in their order, and the tree with their new numbers
pub record IsTreePrinted {R : Type 0} (old : List R) (tree : List Entry) (rows : List R) (new_tree : List Entry) : Type 0 where
  pub kept : AreKept (is_row_named tree) old rows
  pub tree_is : new_tree ≡ with_new_numbers (is_row_named tree) tree

-- the rows that one of the trees names, in their order, and all the trees with their new numbers
pub record AreAllPrinted {R : Type 0} (old : List R) (trees : List (List Entry)) (rows : List R) (new_trees : List (List Entry)) : Type 0 where
  pub kept : AreKept (is_row_named_in trees) old rows
  pub trees_are : new_trees ≡ map (with_new_numbers (is_row_named_in trees)) trees

-- whether one of the two trees names the row
abbrev pub named_in : Option CapTree → Option CapTree → ℕ → Bool
named_in proof undecided row = is_row_named (entries_in proof) row || is_row_named (entries_in undecided) row

-- the rows that one of the trees names, in their order, and the trees at the same caps with their new numbers
pub record ArePrinted {R : Type 0} (old : List R) (proof undecided : Option CapTree) (rows : List R) (new_proof new_undecided : Option CapTree) : Type 0 where
  pub kept : AreKept (named_in proof undecided) old rows
  pub proof_is : HasNumbers (new_number (named_in proof undecided)) proof new_proof
  pub undecided_is : HasNumbers (new_number (named_in proof undecided)) undecided new_undecided

-- each number of an old row is given a number of a new one, which is the same row; and each new row is an old one
pub record KeepsRowsByNumber {R : Type 0} (number : ℕ → ℕ) (old new : List R) : Type 0 where
  pub known : (k : ℕ) → k < length old → number k < length new
  pub same : (k : ℕ) → k < length old → slice_get new (number k) ≡ slice_get old k
  pub taken : All (Contains old) new
