-- What a design prints.
use Rattle.std.specs.Prelude.{◌≡◌, ℕ, List, [], All}
use Rattle.cost_base.specs.declared.Status.{Status}
use Rattle.cost_base.specs.declared.Status.TheVariants as status
use Rattle.area_graph.specs.Costs.{IsOnlyCheapest, at_costs}
use Rattle.design_problem.specs.declared.answer.Verdict.{Verdict}
use Rattle.design_problem.specs.declared.answer.Verdict.TheVariants.{Optimal, Impossible, Undecided}
use Rattle.design_problem.specs.Problems.{DesignProblem, IsProblem, request_ends}
use Rattle.design_problem.specs.Boxes.{IsInBox}
use Rattle.design_problem.specs.Rows.{AreBestCosts, box_of, greatest_cost}
use Rattle.design_problem.specs.Answers.{AnswerParts, IsValid}
use Rattle.design_problem.specs.ProblemLaws.{HasNoFit}
use Rattle.design_problem.specs.Text.{text}
use Rattle.evidence_text.specs.AnswerValues.{IsAnswerValue}
use Rattle.least_bound.specs.Answered.{IsDesignAnswer, IsUndecided, ProofIsPrinted, IsAnswerSheet}
use Rattle.wide_fraction.specs.SearchLimits.{SearchLimits}
use Rattle.input_files.specs.Outcomes.{Input}
use Rattle.read_back_laws.specs.ReadBack.{graph_back, IsReadBack}

-- what is known of an answer to a problem: it is one, within the limits, and both are values of their types
pub record IsAnswerTo (limits : SearchLimits) (p : DesignProblem) (a : AnswerParts) : Type 0 where
  pub kept : IsProblem p
  pub answered : IsDesignAnswer p limits.top limits.nodes a
  pub value : IsAnswerValue a

-- in the graph read back from a text each wanted path is the only cheapest of its request
abbrev pub AreCheapestBack : Input → List ℕ → Type 0
AreCheapestBack d text = All (λ r. IsOnlyCheapest (graph_back d text) (at_costs []) (request_ends r) r.path.edges) d.problem.requests

-- The bytes print costs that are what was asked for: they are the text of a valid answer; the configurations with their
-- sections are accepted, and read back, the costs lie within the bounds and make each wanted path the only cheapest of
-- its request; no fit costs have a smaller greatest cost, and the verdict tells it. A tree that shows this is earnest,
-- and just the rows that it names are printed.
pub record IsDesigned (limits : SearchLimits) (d : Input) (bytes : List ℕ) : Type 0 where
  pub answer : AnswerParts
  pub spelled : bytes ≡ text answer
  pub value : IsAnswerValue answer
  pub valid : IsValid d.problem answer
  pub earnest : ProofIsPrinted d.problem limits.top limits.nodes answer.rows answer.proof
  pub sheet : IsAnswerSheet d.problem answer.rows answer.proof answer.undecided
  pub costs : List ℕ
  pub verdict : answer.verdict ≡ Optimal (greatest_cost costs)
  pub within : IsInBox (box_of d.problem) costs
  pub back : IsReadBack d bytes costs
  pub only : AreCheapestBack d bytes
  pub best : AreBestCosts d.problem costs

-- The bytes show that no costs are fit: they are the text of a valid answer with that verdict, whose tree is earnest,
-- and just the rows that it names are printed.
pub record IsShownImpossible (limits : SearchLimits) (p : DesignProblem) (bytes : List ℕ) : Type 0 where
  pub answer : AnswerParts
  pub spelled : bytes ≡ text answer
  pub value : IsAnswerValue answer
  pub valid : IsValid p answer
  pub earnest : ProofIsPrinted p limits.top limits.nodes answer.rows answer.proof
  pub sheet : IsAnswerSheet p answer.rows answer.proof answer.undecided
  pub verdict : answer.verdict ≡ Impossible
  pub none : HasNoFit p

-- The bytes show that the budget was used up at a cap: they are the text of an answer with that verdict, whose
-- undecided tree is earnest over the box at that cap, has an undone entry and exactly as many entries as the budget;
-- its costs and its proof, where it has such, are true. Just the rows that its trees name are printed.
pub record IsShownUndecided (limits : SearchLimits) (p : DesignProblem) (bytes : List ℕ) : Type 0 where
  pub answer : AnswerParts
  pub spelled : bytes ≡ text answer
  pub value : IsAnswerValue answer
  pub cap : ℕ
  pub verdict : answer.verdict ≡ Undecided cap
  pub undecided : IsUndecided p limits.top limits.nodes cap answer
  pub earnest : ProofIsPrinted p limits.top limits.nodes answer.rows answer.proof
  pub sheet : IsAnswerSheet p answer.rows answer.proof answer.undecided

-- the status of a run that prints an answer with this verdict
abbrev pub verdict_status : Verdict → Status
verdict_status (Optimal k) = status.Done
verdict_status Impossible = status.Impossible
verdict_status (Undecided cap) = status.Undecided

-- what `design` may write: best costs; or that there are none; or that the budget was used up
abbrev pub MayDesign : SearchLimits → Input → Status → List ℕ → Type 0
MayDesign limits d status.Done bytes = IsDesigned limits d bytes
MayDesign limits d status.Impossible bytes = IsShownImpossible limits d.problem bytes
MayDesign limits d status.Undecided bytes = IsShownUndecided limits d.problem bytes
MayDesign limits d end bytes = ⊥
