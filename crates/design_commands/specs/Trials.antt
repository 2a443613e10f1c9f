-- What `trial` prints of a made network.
use Rattle.std.specs.Prelude.{◌≡◌, ℕ, ◌+◌, ◌*◌, ◌-◌, ◌^◌, List, [], ◌∷◌, ◌++◌, codes}
use Rattle.std.specs.List.{sum, zip}
use Rattle.cost_base.specs.declared.Status.{Status}
use Rattle.cost_base.specs.declared.Status.TheVariants.{Done, Impossible, Undecided, InputRefused}
use Rattle.cost_base.specs.Decimal.{decimal}
use Rattle.line_builder.specs.Words.{with_words}
use Rattle.trial_maker.specs.declared.TrialTexts.{TrialTexts}
use Rattle.trial_maker.specs.TrialTexts.{made_trial}
use Rattle.design_problem.specs.Problems.{DesignProblem}
use Rattle.design_problem.specs.Rows.{AreBestCosts, greatest_cost}
use Rattle.design_problem.specs.declared.answer.Verdict.{Verdict}
use Rattle.design_problem.specs.declared.answer.Verdict.TheVariants.{Optimal, Impossible as ByNone, Undecided as ByBudget}
use Rattle.design_problem.specs.Answers.{AnswerParts, lines_in}
use Rattle.design_problem.specs.GivenCosts.{costs_given}
use Rattle.design_problem.specs.Text.{spaced, text}
use Rattle.evidence_text.specs.AnswerValues.{IsAnswerValue}
use Rattle.wide_fraction.specs.SearchLimits.{SearchLimits}
use Rattle.input_files.specs.declared.problem.View.TheVariants.{AsRequested}
use Rattle.input_files.specs.Inputs.{InputFiles}
use Rattle.input_files.specs.Readings.{End, Says, Faulty, Failed}
use Rattle.input_files.specs.Outcomes.{Input, outcome}
use Rattle.input_files.specs.Ends.{end_of_reading}
use Rattle.report_writer.specs.Texts.{refused_line}
use Rattle.design_commands.specs.Designs.{IsShownImpossible, IsShownUndecided}

-- the limits of a trial: a budget of 100,000 entries, and numbers of 127 bits
abbrev pub trial_limits : SearchLimits
trial_limits = record { nodes = 100000; top = 2 ^ 127 - 1 }

-- what a trial's summary line begins with: `trial blocks T start S routers R interfaces I requests Q`
abbrev pub trial_words : ℕ → ℕ → List (List ℕ)
trial_words blocks start =
    codes "trial" ∷ codes "blocks" ∷ decimal blocks ∷ codes "start" ∷ decimal start ∷ codes "routers" ∷ decimal (3 * blocks + 1)
    ∷ codes "interfaces" ∷ decimal (8 * blocks) ∷ codes "requests" ∷ decimal (blocks + 1) ∷ []

-- the summary line of a trial: what it is made of, and `verdict V greatest G total C`
abbrev pub summary_line : ℕ → ℕ → List ℕ → List ℕ → List ℕ → List ℕ
summary_line blocks start verdict greatest total =
    with_words (spaced (trial_words blocks start))
    (codes "verdict" ∷ verdict ∷ codes "greatest" ∷ greatest ∷ codes "total" ∷ total ∷ []) ++ 10 ∷ []

-- the summary line of a trial without best costs
abbrev pub costless_line : ℕ → ℕ → List ℕ → List ℕ
costless_line blocks start verdict = summary_line blocks start verdict (codes "none") (codes "none")

-- the bytes are the summary line of a trial with the greatest and the total of some best costs
pub record TellsBest (blocks start : ℕ) (p : DesignProblem) (bytes : List ℕ) : Type 0 where
  pub costs : List ℕ
  pub best : AreBestCosts p costs
  pub spelled : bytes ≡ summary_line blocks start (codes "optimal") (decimal (greatest_cost costs)) (decimal (sum costs))

-- the bytes are this line, and a text of this kind behind it
pub record IsLineFollowedBy (line : List ℕ) (IsText : List ℕ → Type 0) (bytes : List ℕ) : Type 0 where
  pub behind : List ℕ
  pub spelled : bytes ≡ line ++ behind
  pub is_text : IsText behind

-- the text by the answer to a trial's problem: the summary line, and where there are no best costs the answer's text
-- behind it
abbrev pub trial_text : ℕ → ℕ → DesignProblem → AnswerParts → Verdict → List ℕ
trial_text blocks start p a (Optimal k) =
    summary_line blocks start (codes "optimal") (decimal k) (decimal (sum (costs_given p (lines_in a.costs))))
trial_text blocks start p a ByNone = costless_line blocks start (codes "impossible") ++ text a
trial_text blocks start p a (ByBudget cap) = costless_line blocks start (codes "undecided") ++ text a

-- the bytes are the text of a trial by an answer for which the advisors were asked as `Asks` tells
abbrev pub TellsTrial : ℕ → ℕ → DesignProblem → (AnswerParts → Type 0) → List ℕ → Type 0
TellsTrial blocks start p Asks bytes = (a : AnswerParts) × IsAnswerValue a × (bytes ≡ trial_text blocks start p a a.verdict) × Asks a

-- what a trial may write of what its made texts say
abbrev pub MayTry : ℕ → ℕ → Input → Status → List ℕ → Type 0
MayTry blocks start d Done bytes = TellsBest blocks start d.problem bytes
MayTry blocks start d Impossible bytes =
    IsLineFollowedBy (costless_line blocks start (codes "impossible")) (IsShownImpossible trial_limits d.problem) bytes
MayTry blocks start d Undecided bytes =
    IsLineFollowedBy (costless_line blocks start (codes "undecided")) (IsShownUndecided trial_limits d.problem) bytes
MayTry blocks start d status bytes = ⊥

-- the names of a trial's files
abbrev pub trial_files : TrialTexts → InputFiles
trial_files trial = record { request = codes "request.txt"; configs = trial.names }

-- the texts of a trial, each with its name: the request file, then the configurations
abbrev pub named_trial_texts : TrialTexts → List (List ℕ × List ℕ)
named_trial_texts trial = (codes "request.txt", trial.request) ∷ zip trial.names trial.configs

-- what the texts of a trial say: they take the place of files, and none is read
unfoldable pub trial_end : TrialTexts → End Input
trial_end trial = end_of_reading (named_trial_texts trial) (outcome AsRequested (trial_files trial))

-- what a trial may write by the end of reading its texts: the first fault, or what comes of the problem
abbrev pub MayTryEnd : ℕ → ℕ → End Input → Status → List ℕ → Type 0
MayTryEnd blocks start (Says d) status bytes = MayTry blocks start d status bytes
MayTryEnd blocks start (Faulty fault) InputRefused bytes = bytes ≡ refused_line fault
MayTryEnd blocks start (Faulty fault) status bytes = ⊥
MayTryEnd blocks start (Failed file) status bytes = ⊥

-- what a trial of so many blocks and this start may write
abbrev pub MayTrial : ℕ → ℕ → Status → List ℕ → Type 0
MayTrial blocks start status bytes = MayTryEnd blocks start (trial_end (made_trial blocks start)) status bytes
