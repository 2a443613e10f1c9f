-- The text of `conflict`, and what the command may write.
use Rattle.std.specs.Prelude.{◌≡◌, ℕ, List, [], ◌∷◌, ◌++◌, codes, Some}
use Rattle.cost_base.specs.Decimal.{decimal}
use Rattle.cost_base.specs.declared.Status.{Status}
use Rattle.cost_base.specs.declared.Status.TheVariants.{Done, Undecided}
use Rattle.design_problem.specs.Problems.{DesignProblem}
use Rattle.design_problem.specs.Text.{spaced, tree_lines, rows_lines}
use Rattle.text_lines.specs.Lines.{with_ends}
use Rattle.least_conflict.specs.declared.conflict.Conflict.{Conflict}
use Rattle.least_conflict.specs.declared.conflict.Conflict.TheVariants.{Fit, Least, Undecided as ConflictUndecided}
use Rattle.least_conflict.specs.Conflicts.{IsConflictFound, all_requests}
use Rattle.wide_fraction.specs.SearchLimits.{SearchLimits}
use Rattle.input_files.specs.Outcomes.{Input}
use Rattle.printed_parts.specs.SharedParts.{at_greatest_bound, costs_part, counted_line}

-- the line `members COUNT I ..` with the numbers of requests
abbrev pub members_line : List ℕ → List ℕ
members_line members = counted_line (codes "members") members

-- the line `without I`, behind which stand costs that are fit without request I
abbrev pub without_line : ℕ → List ℕ
without_line member = spaced (codes "without" ∷ decimal member ∷ [])

-- for each member of a least conflict the line `without I`, and the costs without it
abbrev pub without_parts : DesignProblem → List ℕ → List (List ℕ) → List (List ℕ)
without_parts p [] lists = []
without_parts p (member ∷ members) [] = []
without_parts p (member ∷ members) (w ∷ lists) = without_line member ∷ costs_part p w ++ without_parts p members lists

-- the lines of the text of `conflict` between its first and its last one
abbrev pub conflict_lines : DesignProblem → Conflict → List (List ℕ)
conflict_lines p (Fit w) = codes "verdict none" ∷ members_line (all_requests p) ∷ costs_part p w
conflict_lines p (Least members rows tree without) =
    codes "verdict core" ∷ members_line members ∷ rows_lines rows ++ tree_lines (codes "proof") (Some (at_greatest_bound p tree)) ++ without_parts p members without
conflict_lines p (ConflictUndecided members rows tree) =
    codes "verdict undecided" ∷ members_line members ∷ rows_lines rows ++ tree_lines (codes "open") (Some (at_greatest_bound p tree))

-- the text of `conflict`
abbrev pub conflict_text : DesignProblem → Conflict → List ℕ
conflict_text p conflict = with_ends (codes "ospfcost conflict 1" ∷ conflict_lines p conflict ++ codes "end" ∷ [])

-- the status of a run of `conflict` that prints what was found
abbrev pub conflict_status : Conflict → Status
conflict_status (Fit w) = Done
conflict_status (Least members rows tree without) = Done
conflict_status (ConflictUndecided members rows tree) = Undecided

-- the bytes are the text of `conflict` on what was found of the problem, which has this status
pub record ShowsConflict (limits : SearchLimits) (p : DesignProblem) (aim : Status) (bytes : List ℕ) : Type 0 where
  pub conflict : Conflict
  pub found : IsConflictFound p limits.top limits.nodes conflict
  pub status : conflict_status conflict ≡ aim
  pub spelled : bytes ≡ conflict_text p conflict

-- the bytes are the text of `conflict` on something that was found, for which the advisors were asked as `Asks` tells
abbrev pub TellsConflict : DesignProblem → (Conflict → Type 0) → List ℕ → Type 0
TellsConflict p Asks bytes = (c : Conflict) × (bytes ≡ conflict_text p c) × Asks c

-- what `conflict` may write: fit costs of the whole problem, or a least conflict; or that the budget was used up
abbrev pub MayConflict : SearchLimits → Input → Status → List ℕ → Type 0
MayConflict limits d Done bytes = ShowsConflict limits d.problem Done bytes
MayConflict limits d Undecided bytes = ShowsConflict limits d.problem Undecided bytes
MayConflict limits d status bytes = ⊥
