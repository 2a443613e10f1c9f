-- The values that the type of an answer has: its numbers are those of their types, each of its trees is one whole
-- tree, and the rows of a Refute rise. Clauses that range over all answers, as a reader's refusal, need it; a value
-- that code holds has it by its types.
use Rattle.std.specs.Prelude.{ℕ, ◌^◌, ◌<◌, List, All, AllPairs, Option, None, Some}
use Rattle.design_problem.specs.declared.form.Row.{Row}
use Rattle.design_problem.specs.declared.tree.Member.{Member}
use Rattle.design_problem.specs.declared.tree.Member.TheVariants.{Low, High, Row as ByRow}
use Rattle.design_problem.specs.declared.tree.Entry.{Entry}
use Rattle.design_problem.specs.declared.tree.Entry.TheVariants.{Tighten, Split, Halve, Refute, Undone}
use Rattle.design_problem.specs.declared.answer.Verdict.{Verdict}
use Rattle.design_problem.specs.declared.answer.Verdict.TheVariants.{Optimal, Impossible, Undecided}
use Rattle.design_problem.specs.declared.answer.Costs.{Costs}
use Rattle.design_problem.specs.declared.answer.Floor.{Floor}
use Rattle.design_problem.specs.declared.answer.Floor.TheVariants.{Absent, Empty, Var}
use Rattle.design_problem.specs.declared.answer.CapTree.{CapTree}
use Rattle.design_problem.specs.Trees.{IsSingleTree}
use Rattle.design_problem.specs.Answers.{AnswerParts}

-- the number of a variable, of a request or of an edge: 32 bits
abbrev pub IsIndex : ℕ → Type 0
IsIndex n = n < 2 ^ 32

-- a cost, a bound or a cap: 16 bits
abbrev pub IsCost : ℕ → Type 0
IsCost n = n < 2 ^ 16

-- the number of a row: 64 bits
abbrev pub IsRowNumber : ℕ → Type 0
IsRowNumber n = n < 2 ^ 64

-- the numbers of a member of a basis are within their types
abbrev pub BoundsMember : Member → Type 0
BoundsMember (Low v bound) = IsIndex v × IsCost bound
BoundsMember (High v bound) = IsIndex v × IsCost bound
BoundsMember (ByRow row) = IsRowNumber row

-- the row numbers of a Refute rise and are within their type, and its multipliers are positive
pub record BoundsParts (parts : List (ℕ × ℕ)) : Type 0 where
  pub rows : All (λ part. IsRowNumber part.0) parts
  pub rising : AllPairs (λ a b. a.0 < b.0) parts
  pub positive : All (λ part. 0 < part.1) parts

-- the numbers of an entry are within their types
abbrev pub BoundsEntry : Entry → Type 0
BoundsEntry (Tighten v side bound row) = IsIndex v × IsCost bound × IsRowNumber row
BoundsEntry (Split v bound) = IsIndex v × IsCost bound
BoundsEntry (Halve v bound wide) = IsIndex v × IsCost bound × All BoundsMember wide.basis
BoundsEntry (Refute parts) = BoundsParts parts
BoundsEntry Undone = Unit {0}

-- a tree, where there is one, is one whole tree, and its cap and its entries' numbers are within their types
abbrev pub BoundsTree : Option CapTree → Type 0
BoundsTree None = Unit {0}
BoundsTree (Some t) = IsCost t.cap × IsSingleTree t.tree × All BoundsEntry t.tree

-- the greatest cost and each line's cost are within their type
abbrev pub BoundsCosts : Option Costs → Type 0
BoundsCosts None = Unit {0}
BoundsCosts (Some costs) = IsCost costs.greatest × All (λ line. IsCost line.cost) costs.lines

-- the number of the verdict is within its type
abbrev pub BoundsVerdict : Verdict → Type 0
BoundsVerdict (Optimal k) = IsCost k
BoundsVerdict Impossible = Unit {0}
BoundsVerdict (Undecided cap) = IsCost cap

-- the variable of the floor is within its type
abbrev pub BoundsFloor : Floor → Type 0
BoundsFloor Absent = Unit {0}
BoundsFloor Empty = Unit {0}
BoundsFloor (Var v) = IsIndex v

-- a row's request and edges have 32 bits
abbrev pub BoundsRow : Row → Type 0
BoundsRow row = IsIndex row.request × All IsIndex row.rival

-- an answer is a value of its type: all its numbers are within their types, and its trees are whole
pub record HasBounds (a : AnswerParts) : Type 0 where
  pub verdict : BoundsVerdict a.verdict
  pub costs : BoundsCosts a.costs
  pub floor : BoundsFloor a.floor
  pub rows : All BoundsRow a.rows
  pub proof : BoundsTree a.proof
  pub undecided : BoundsTree a.undecided
