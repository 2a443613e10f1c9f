-- What a check says of an answer's file.
use Rattle.std.specs.Prelude.{◌≡◌, ℕ, ◌⊎◌, List, [], ◌∷◌, codes}
use Rattle.cost_base.specs.Decimal.{decimal}
use Rattle.cost_base.specs.declared.Status.{Status}
use Rattle.cost_base.specs.declared.Status.TheVariants as status
use Rattle.cost_base.specs.Order.{FirstOf}
use Rattle.design_problem.specs.Problems.{DesignProblem}
use Rattle.design_problem.specs.Answers.{AnswerParts, IsValid}
use Rattle.design_problem.specs.ProblemLaws.{IsTrueVerdict}
use Rattle.design_problem.specs.Text.{text}
use Rattle.answer_lines.specs.Grammar.{AtHead}
use Rattle.evidence_reader.specs.Refusals.{IsOffGrammar}
use Rattle.evidence_text.specs.AnswerValues.{IsAnswerValue}
use Rattle.evidence_reader.specs.Laws.{IsNoValidText}
use Rattle.evidence_checker.specs.declared.accepted.Accepted.{Accepted as Acceptance}
use Rattle.evidence_checker.specs.declared.accepted.Accepted.TheVariants.{Optimal, Impossible}
use Rattle.evidence_checker.specs.Laws.{IsAcceptedAs}
use Rattle.evidence_checker.specs.Tests.{tests}
use Rattle.evidence_commands.specs.declared.check.Judgement.{Judgement}
use Rattle.evidence_commands.specs.declared.check.Judgement.TheVariants.{Accepted, Rejected}
use Rattle.input_files.specs.declared.problem.View.TheVariants.{AsRequested}
use Rattle.input_files.specs.Inputs.{InputFiles}
use Rattle.input_files.specs.Readings.{Reading, Ready, ◌>>=◌}
use Rattle.input_files.specs.Outcomes.{outcome, file_read, longest_answer}
use Rattle.report_writer.specs.declared.report.Report.{Report}
use Rattle.report_writer.specs.Reports.{Reports}
use Rattle.report_writer.specs.declared.rejection.Rejection.{Rejection}
use Rattle.line_builder.specs.Words.{line_of_words}
use Rattle.report_writer.specs.Texts.{rejected_line}

-- what is checked: the bytes of an answer's file, as the text of an answer to a problem
pub record Claim : Type 0 where
  pub problem : DesignProblem
  pub bytes : List ℕ

-- what the answer's file says, as the text of an answer to this problem
abbrev pub claim_with : DesignProblem → List ℕ → Reading Claim
claim_with p answer = file_read longest_answer answer >>= λ bytes. Ready (record { problem = p; bytes = bytes })

-- what the files of a check say, read in their order: those of the problem, and then the answer's
abbrev pub claim_read : InputFiles → List ℕ → Reading Claim
claim_read names answer =
    outcome AsRequested names >>= λ d.
    file_read longest_answer answer >>= λ bytes.
    Ready (record { problem = d.problem; bytes = bytes })

-- the bytes are the text of an answer
pub record IsTextOf (bytes : List ℕ) (answer : AnswerParts) : Type 0 where
  pub spelled : bytes ≡ text answer
  pub value : IsAnswerValue answer

-- the bytes are the text of a valid answer, and what its verdict claims is true
pub record IsAccepted (claim : Claim) (acceptance : Acceptance) : Type 0 where
  pub answer : AnswerParts
  pub said : IsTextOf claim.bytes answer
  pub valid : IsValid claim.problem answer
  pub holds : IsTrueVerdict claim.problem answer.verdict answer.costs
  pub claimed : IsAcceptedAs answer.verdict acceptance

-- the bytes are the text of an answer that isn't valid: the first of the checker's tests that fails, with its place
pub record IsInvalid (claim : Claim) (rejection : Rejection) : Type 0 where
  pub answer : AnswerParts
  pub said : IsTextOf claim.bytes answer
  pub first : FirstOf (tests claim.problem answer) (record { number = rejection.number; place = rejection.place })
  pub invalid : IsValid claim.problem answer → ⊥

-- the bytes are no valid answer's text: they are off the grammar of answers, or their answer isn't valid
pub record IsRejected (claim : Claim) (rejection : Rejection) : Type 0 where
  pub cause : IsOffGrammar AtHead claim.bytes rejection.number rejection.place ⊎ IsInvalid claim rejection
  pub never : IsNoValidText claim.problem claim.bytes

-- what a check of a claim comes to: it is accepted, or it is rejected
abbrev pub IsJudged : Claim → Judgement → Type 0
IsJudged claim (Accepted acceptance) = IsAccepted claim acceptance
IsJudged claim (Rejected rejection) = IsRejected claim rejection

-- the line of an accepted answer: `accepted optimal K` or `accepted impossible`
abbrev pub accepted_line : Acceptance → List ℕ
accepted_line (Optimal k) = line_of_words (codes "accepted" ∷ codes "optimal" ∷ decimal k ∷ [])
accepted_line Impossible = line_of_words (codes "accepted" ∷ codes "impossible" ∷ [])

-- what `check` may write: that the answer is accepted, exactly where it is valid; else its first fault
abbrev pub MayCheck : Claim → Status → List ℕ → Type 0
MayCheck claim status.Done bytes = (acceptance : Acceptance) × IsAccepted claim acceptance × (bytes ≡ accepted_line acceptance)
MayCheck claim status.EvidenceRefused bytes = (rejection : Rejection) × IsRejected claim rejection × (bytes ≡ rejected_line rejection)
MayCheck claim end bytes = ⊥

-- the report of what a check came to: the line of an acceptance or of a rejection
abbrev pub ReportsJudgement : Judgement → Report → Type 0
ReportsJudgement (Accepted accepted) report = Reports status.Done (accepted_line accepted) report
ReportsJudgement (Rejected rejection) report = Reports status.EvidenceRefused (rejected_line rejection) report
