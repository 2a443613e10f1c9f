-- A text that is refused, or whose answer isn't valid, is no valid answer's.
use Rattle.std.proofs.Common.{ℕ, sym, subst, List}
use Rattle.design_problem.specs.Answers.{IsValid}
use Rattle.answer_lines.specs.Grammar.{AtHead}
use Rattle.evidence_reader.specs.Refusals.{IsTextRefused}
use Rattle.evidence_reader.specs.Laws.{InvalidAnswersStayInvalid, RefusedTextsAreInvalid}
use Rattle.evidence_reader.proofs.NoRefusal.{texts_read}
use Rattle.evidence_reader.proofs.OneAnswer.{texts_tell}

pub refused_invalid : RefusedTextsAreInvalid
refused_invalid p bytes kind line refused a value same valid =
    texts_read a kind line value (subst (λ (b : List ℕ). IsTextRefused AtHead 0 b kind line) same refused)

pub invalid_stays : InvalidAnswersStayInvalid
invalid_stays p a fits invalid b value same valid = invalid (subst (IsValid p) (texts_tell b a value.fits fits (sym same)) valid)
