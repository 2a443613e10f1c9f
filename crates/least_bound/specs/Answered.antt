-- What is answered to a problem: best costs, that there are none, or that the budget was used up.
use Rattle.std.specs.Prelude.{◌≡◌, ℕ, ◌<◌, ◌≤◌, ◌++◌, List, All, Option, None, Some}
use Rattle.design_problem.specs.declared.answer.CapTree.{CapTree}
use Rattle.design_problem.specs.declared.answer.Costs.{Costs}
use Rattle.design_problem.specs.declared.answer.Floor.TheVariants.{Absent}
use Rattle.design_problem.specs.declared.answer.Verdict.{Verdict}
use Rattle.design_problem.specs.declared.answer.Verdict.TheVariants.{Optimal, Impossible, Undecided}
use Rattle.design_problem.specs.declared.form.Row.{Row}
use Rattle.design_problem.specs.Problems.{DesignProblem}
use Rattle.design_problem.specs.Rows.{IsRow}
use Rattle.design_problem.specs.Answers.{AnswerParts, IsValid, GivesCosts, Proves, greatest_bound}
use Rattle.printed_rows.specs.NamedRows.{entries_in}
use Rattle.printed_rows.specs.PrintedTrees.{IsPrintedTree, IsUndecidedTree}
use Rattle.printed_rows.specs.Sheets.{IsSheet}
use Rattle.cost_branching.specs.Pools.{Differ}

-- a proof that stands is printed as an earnest tree
abbrev pub ProofIsPrinted : DesignProblem → ℕ → ℕ → List Row → Option CapTree → Type 0
ProofIsPrinted p top nodes rows None = Unit {0}
ProofIsPrinted p top nodes rows (Some proof) = IsPrintedTree p top nodes rows proof

-- where the verdict is undecided, the tree that used up the budget stands at the verdict's cap
abbrev pub UndecidedAt : DesignProblem → ℕ → ℕ → List Row → ℕ → Option CapTree → Type 0
UndecidedAt p top nodes rows cap None = ⊥
UndecidedAt p top nodes rows cap (Some t) = (t.cap ≡ cap) × IsUndecidedTree p top nodes rows t

-- a proof that stands in an undecided answer: a closed sound tree at a cap below that of the verdict
abbrev pub ProofIsBelow : DesignProblem → List Row → ℕ → Option CapTree → Type 0
ProofIsBelow p rows cap None = Unit {0}
ProofIsBelow p rows cap (Some proof) = Proves p rows proof.cap proof × (proof.cap < cap)

-- Without costs the cap is the greatest bound; with costs, which are fit and of the greatest that is told, it is less
-- than that.
abbrev pub CostsAreAbove : DesignProblem → ℕ → Option Costs → Type 0
CostsAreAbove p cap None = cap ≡ greatest_bound p
CostsAreAbove p cap (Some costs) = GivesCosts p costs.greatest costs × (cap < costs.greatest)

-- an undecided answer, whose parts are true
pub record IsUndecided (p : DesignProblem) (top nodes cap : ℕ) (a : AnswerParts) : Type 0 where
  pub rows : All (IsRow p) a.rows
  pub no_floor : a.floor ≡ Absent
  pub no_higher : All (λ low. low ≤ cap) p.low
  pub undecided : UndecidedAt p top nodes a.rows cap a.undecided
  pub proof : ProofIsBelow p a.rows cap a.proof
  pub costs : CostsAreAbove p cap a.costs

-- what each verdict says of the answer
abbrev pub VerdictHolds : DesignProblem → ℕ → ℕ → AnswerParts → Verdict → Type 0
VerdictHolds p top nodes a (Optimal k) = IsValid p a
VerdictHolds p top nodes a Impossible = IsValid p a
VerdictHolds p top nodes a (Undecided cap) = IsUndecided p top nodes cap a

-- the rows of an answer, and the entries of both its trees, are a sheet
abbrev pub IsAnswerSheet : DesignProblem → List Row → Option CapTree → Option CapTree → Type 0
IsAnswerSheet p rows proof undecided = IsSheet (IsRow p) Differ 0 rows (entries_in proof ++ entries_in undecided)

-- an answer to a problem: it is valid, or the budget was used up; a proof in it is an earnest tree, and just the rows
-- that its trees name are printed
pub record IsDesignAnswer (p : DesignProblem) (top nodes : ℕ) (a : AnswerParts) : Type 0 where
  pub holds : VerdictHolds p top nodes a a.verdict
  pub proof : ProofIsPrinted p top nodes a.rows a.proof
  pub sheet : IsAnswerSheet p a.rows a.proof a.undecided
