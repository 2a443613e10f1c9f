-- What is rejected is no valid answer's text.
use Rattle.std.proofs.Common.{sym, subst, List, ℕ, inl, inr}
use Rattle.design_problem.specs.Problems.{DesignProblem}
use Rattle.answer_lines.specs.Grammar.{AtHead}
use Rattle.evidence_reader.specs.Laws.{IsNoValidText}
use Rattle.evidence_reader.proofs.ValidAnswers.{invalid_stays, refused_invalid}
use Rattle.report_writer.specs.declared.rejection.Rejection.{Rejection}
use Rattle.evidence_commands.specs.Checks.{Claim, IsInvalid, IsRejected}
use Rattle.evidence_reader.specs.Refusals.{IsOffGrammar}

-- a text that is off the grammar
pub off_grammar_rejected : (p : DesignProblem) (bytes : List ℕ) (rejection : Rejection) → IsOffGrammar AtHead bytes rejection.number rejection.place →
    IsRejected (record { problem = p; bytes = bytes }) rejection
off_grammar_rejected p bytes rejection off = record { cause = inl off; never = refused_invalid p bytes off.fault rejection.place off.refused }

-- the text of an answer that isn't valid
pub invalid_rejected : (claim : Claim) (rejection : Rejection) → IsInvalid claim rejection → IsRejected claim rejection
invalid_rejected claim rejection is = record {
  cause = inr is;
  never = subst (λ (bytes : List ℕ). IsNoValidText claim.problem bytes) (sym is.said.spelled)
      (invalid_stays claim.problem is.answer is.said.value.fits is.invalid);
}
