-- Rows that the entries of a tree name: a Tighten's, those of a Refute, and those of a Halve's basis.
use Rattle.std.specs.Prelude.{◌≡◌, ℕ, ◌<◌, ◌==◌, List, [], Bool, true, false, All, Option, None, Some}
use Rattle.std.specs.List.{list_any}
use Rattle.design_problem.specs.declared.answer.CapTree.{CapTree}
use Rattle.design_problem.specs.declared.tree.Member.{Member}
use Rattle.design_problem.specs.declared.tree.Member.TheVariants.{Low as ByLow, High as ByHigh, Row as ByRow}
use Rattle.design_problem.specs.declared.tree.Entry.{Entry}
use Rattle.design_problem.specs.declared.tree.Entry.TheVariants.{Tighten, Split, Halve, Refute, Undone}

-- whether a member of a basis is this row
abbrev pub member_names : ℕ → Member → Bool
member_names row (ByLow var value) = false
member_names row (ByHigh var value) = false
member_names row (ByRow other) = other == row

-- whether a multiplier is this row's
abbrev pub part_names : ℕ → ℕ × ℕ → Bool
part_names row part = part.0 == row

-- whether the entry names the row
abbrev pub names : ℕ → Entry → Bool
names row (Tighten var side value other) = other == row
names row (Split var value) = false
names row (Halve var value wide) = list_any (member_names row) wide.basis
names row (Refute parts) = list_any (part_names row) parts
names row Undone = false

-- whether one of the entries names the row
abbrev pub is_row_named : List Entry → ℕ → Bool
is_row_named entries row = list_any (names row) entries

-- whether one of the trees names the row
abbrev pub is_row_named_in : List (List Entry) → ℕ → Bool
is_row_named_in trees row = list_any (λ tree. is_row_named tree row) trees

-- a property holds of the row that a member of a basis is, where it is a row
abbrev pub EachMember : (ℕ → Type 0) → Member → Type 0
EachMember P (ByLow var value) = Unit {0}
EachMember P (ByHigh var value) = Unit {0}
EachMember P (ByRow row) = P row

-- the property holds of each row that the entry names
abbrev pub EachNamed : (ℕ → Type 0) → Entry → Type 0
EachNamed P (Tighten var side value row) = P row
EachNamed P (Split var value) = Unit {0}
EachNamed P (Halve var value wide) = All (EachMember P) wide.basis
EachNamed P (Refute parts) = All (λ part. P part.0) parts
EachNamed P Undone = Unit {0}

-- the row that a member of a basis is, where it is a row, stands below a count
abbrev pub MemberBelow : ℕ → Member → Type 0
MemberBelow n member = EachMember (λ row. row < n) member

-- the rows that an entry names stand below a count
abbrev pub NamesBelow : ℕ → Entry → Type 0
NamesBelow n entry = EachNamed (λ row. row < n) entry

-- the rows that a tree names, where there is one, stand below a count
abbrev pub TreeNamesBelow : ℕ → Option CapTree → Type 0
TreeNamesBelow n None = Unit {0}
TreeNamesBelow n (Some t) = All (NamesBelow n) t.tree

-- a row stands below a count and passes a test
abbrev pub IsKnown : (ℕ → Bool) → ℕ → ℕ → Type 0
IsKnown named n row = (row < n) × (named row ≡ true)

-- the row of a multiplier stands below the count and passes the test
abbrev pub PartKnown : (ℕ → Bool) → ℕ → ℕ × ℕ → Type 0
PartKnown named n part = IsKnown named n part.0

-- the rows that an entry names stand below the count and pass the test
abbrev pub NamesKnown : (ℕ → Bool) → ℕ → Entry → Type 0
NamesKnown named n entry = EachNamed (IsKnown named n) entry

-- the rows that a tree names, where there is one, stand below the count and pass the test
abbrev pub TreeNamesKnown : (ℕ → Bool) → ℕ → Option CapTree → Type 0
TreeNamesKnown named n None = Unit {0}
TreeNamesKnown named n (Some t) = All (NamesKnown named n) t.tree

-- the entries of a tree at a cap; none where there is no tree
abbrev pub entries_in : Option CapTree → List Entry
entries_in None = []
entries_in (Some t) = t.tree
