use Rattle.std.proofs.Common.{◌≡◌, codes, false}
use Rattle.begun_lines.specs.BegunLines.{Then, IsNumberInRange, IsStepWord, vars, values, BasisWords}
use Rattle.begun_lines.proofs.BegunWords.{stops, goes}
use Rattle.begun_lines.proofs.entries.becomes_halve.Goals as goal

pub returns-in_default-number : goal.returns-in_default-number
returns-in_default-number c =
    goes (λ w. w ≡ codes "halve") (Then (IsNumberInRange vars) (Then (IsNumberInRange values) (Then IsStepWord BasisWords)))
    c.args.line c.in-Some.at_var c.in-Some.ensures (λ x. x) false
    (stops (IsNumberInRange vars) (Then (IsNumberInRange values) (Then IsStepWord BasisWords)) c.in-Some.at_var c.in_default-number.ensures (λ x. x))

pub returns-in_default-number-2 : goal.returns-in_default-number-2
returns-in_default-number-2 c =
    goes (λ w. w ≡ codes "halve") (Then (IsNumberInRange vars) (Then (IsNumberInRange values) (Then IsStepWord BasisWords)))
    c.args.line c.in-Some.at_var c.in-Some.ensures (λ x. x) false
    (goes (IsNumberInRange vars) (Then (IsNumberInRange values) (Then IsStepWord BasisWords)) c.in-Some.at_var
    c.in-Some-number.at_value c.in-Some-number.ensures (λ x. x) false
    (stops (IsNumberInRange values) (Then IsStepWord BasisWords) c.in-Some-number.at_value c.in_default-number-2.ensures (λ x. x)))

pub returns : goal.returns
returns c =
    goes (λ w. w ≡ codes "halve") (Then (IsNumberInRange vars) (Then (IsNumberInRange values) (Then IsStepWord BasisWords)))
    c.args.line c.in-Some.at_var c.in-Some.ensures (λ x. x) c.goes_on_with_steps.result
    (goes (IsNumberInRange vars) (Then (IsNumberInRange values) (Then IsStepWord BasisWords)) c.in-Some.at_var
    c.in-Some-number.at_value c.in-Some-number.ensures (λ x. x) c.goes_on_with_steps.result
    (goes (IsNumberInRange values) (Then IsStepWord BasisWords) c.in-Some-number.at_value c.in-Some-number-2.at_step
    c.in-Some-number-2.ensures (λ x. x) c.goes_on_with_steps.result c.goes_on_with_steps.ensures))
