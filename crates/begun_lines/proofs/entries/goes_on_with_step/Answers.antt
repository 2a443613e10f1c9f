use Rattle.std.proofs.Common.{◌≡◌, false, subst, sym}
use Rattle.design_problem.specs.Text.{step_word}
use Rattle.begun_lines.specs.BegunLines.{Then, IsWordStep, IsRatio, MembersWords, BasisWords}
use Rattle.answer_lines.proofs.EntryWords.{members-some}
use Rattle.begun_lines.proofs.BegunWords.{stops, goes}
use Rattle.begun_lines.proofs.entries.goes_on_with_step.Goals as goal

pub returns-in_default-ratio : goal.returns-in_default-ratio
returns-in_default-ratio c =
    goes (λ w. w ≡ step_word c.args.step) BasisWords c.args.line c.in-Some.at_left
    (subst (λ l. IsWordStep (λ w. w ≡ l) c.args.line c.in-Some.at_left) c.step_word.ensures c.in-Some.ensures)
    (λ x. x) false
    (stops IsRatio (Then IsRatio MembersWords) c.in-Some.at_left c.in_default-ratio.ensures (λ x. x))

pub returns-in_default-ratio-2 : goal.returns-in_default-ratio-2
returns-in_default-ratio-2 c =
    goes (λ w. w ≡ step_word c.args.step) BasisWords c.args.line c.in-Some.at_left
    (subst (λ l. IsWordStep (λ w. w ≡ l) c.args.line c.in-Some.at_left) c.step_word.ensures c.in-Some.ensures)
    (λ x. x) false
    (goes IsRatio (Then IsRatio MembersWords) c.in-Some.at_left c.in-Some-ratio.at_right c.in-Some-ratio.ensures (λ x. x) false
    (stops IsRatio MembersWords c.in-Some-ratio.at_right c.in_default-ratio-2.ensures (λ is. members-some is.0 is.1 (sym is.3))))

pub returns : goal.returns
returns c =
    goes (λ w. w ≡ step_word c.args.step) BasisWords c.args.line c.in-Some.at_left
    (subst (λ l. IsWordStep (λ w. w ≡ l) c.args.line c.in-Some.at_left) c.step_word.ensures c.in-Some.ensures)
    (λ x. x) c.goes_on_with_members.result
    (goes IsRatio (Then IsRatio MembersWords) c.in-Some.at_left c.in-Some-ratio.at_right c.in-Some-ratio.ensures (λ x. x) c.goes_on_with_members.result
    (goes IsRatio MembersWords c.in-Some-ratio.at_right c.in-Some-ratio-2.at_basis c.in-Some-ratio-2.ensures
    (λ is. members-some is.0 is.1 (sym is.3)) c.goes_on_with_members.result c.goes_on_with_members.ensures))
