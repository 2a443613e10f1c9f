-- What the answers of `check` mean.
use Rattle.std.specs.Prelude.{◌≡◌, ℕ, List, Option, Some, None}
use Rattle.cost_base.specs.declared.refusal.Refusal.{Refusal}
use Rattle.cost_base.specs.declared.refusal.Refusal.TheVariants.{Refused, OutOfMemory}
use Rattle.design_problem.specs.declared.answer.Verdict.{Verdict}
use Rattle.design_problem.specs.declared.answer.Verdict.TheVariants.{Optimal, Impossible, Undecided}
use Rattle.design_problem.specs.Problems.{DesignProblem}
use Rattle.design_problem.specs.declared.answer.Costs.{Costs}
use Rattle.design_problem.specs.declared.answer.Floor.{Floor}
use Rattle.design_problem.specs.declared.answer.CapTree.{CapTree}
use Rattle.design_problem.specs.declared.form.Row.{Row}
use Rattle.design_problem.specs.Boxes.{capped}
use Rattle.design_problem.specs.Rows.{box_of, forms_of_rows}
use Rattle.design_problem.specs.Trees.{IsSoundTree, IsClosed}
use Rattle.design_problem.specs.Answers.{AnswerParts, IsValid, GivesCosts}
use Rattle.evidence_checker.specs.declared.accepted.Accepted.{Accepted}
use Rattle.evidence_checker.specs.declared.accepted.Accepted.TheVariants.{Optimal as OptimalAccepted, Impossible as ImpossibleAccepted}
use Rattle.evidence_checker.specs.declared.fault.CheckFault.{CheckFault}
use Rattle.evidence_checker.specs.Tests.{IsFalseFloor}

-- what is accepted is what the verdict claims
abbrev pub IsAcceptedAs : Verdict → Accepted → Type 0
IsAcceptedAs (Optimal k) accepted = accepted ≡ OptimalAccepted k
IsAcceptedAs Impossible accepted = accepted ≡ ImpossibleAccepted
IsAcceptedAs (Undecided cap) accepted = ⊥

-- a refused answer isn't valid; want of memory says nothing
abbrev pub RefusesInvalid : DesignProblem → AnswerParts → Refusal CheckFault ℕ → Type 0
RefusesInvalid p a (Refused number place) = IsValid p a → ⊥
RefusesInvalid p a OutOfMemory = Unit {0}

-- the costs of an optimal answer are fit and have the claimed greatest cost, and no floor is false
abbrev pub CostsHold : DesignProblem → Verdict → Option Costs → Floor → Type 0
CostsHold p (Optimal k) (Some costs) floor = GivesCosts p k costs × (IsFalseFloor p k floor → ⊥)
CostsHold p (Optimal k) None floor = Unit {0}
CostsHold p Impossible costs floor = Unit {0}
CostsHold p (Undecided cap) costs floor = Unit {0}

-- a proof that stands is a closed sound tree over the box at its cap
abbrev pub ProofHolds : DesignProblem → List Row → Option CapTree → Type 0
ProofHolds p rows None = Unit {0}
ProofHolds p rows (Some proof) =
    IsSoundTree (forms_of_rows p rows) (capped (box_of p) proof.cap) proof.tree × IsClosed proof.tree
