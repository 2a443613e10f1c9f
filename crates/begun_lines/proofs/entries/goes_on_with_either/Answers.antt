use Rattle.std.proofs.Common.{◌≡◌, inl, inr}
use Rattle.design_problem.specs.Text.{step_word}
use Rattle.begun_lines.specs.BegunLines.{Then, IsEitherStep, BasisWords}
use Rattle.begun_lines.proofs.BegunKinds.{first_holds, first_fails, then_as, then_either}
use Rattle.begun_lines.proofs.entries.goes_on_with_either.Goals as goal

pub returns-then-goes_on_with_step : goal.returns-then-goes_on_with_step
returns-then-goes_on_with_step c =
    first_holds {said = (Then (IsEitherStep c.args.first c.args.second) BasisWords)}
    {first = (Then (λ w. w ≡ step_word c.args.first) BasisWords)}
    (then_as {first = (λ w. w ≡ step_word c.args.first)} {second = (IsEitherStep c.args.first c.args.second)}
    BasisWords (λ w is. inl is)) c.args.line.text.now c.args.line.room c.goes_on_with_step.result
    c.if-goes_on_with_step.true c.goes_on_with_step.ensures

pub returns-else-goes_on_with_step : goal.returns-else-goes_on_with_step
returns-else-goes_on_with_step c =
    first_fails {said = (Then (IsEitherStep c.args.first c.args.second) BasisWords)}
    {first = (Then (λ w. w ≡ step_word c.args.first) BasisWords)}
    {second = (Then (λ w. w ≡ step_word c.args.second) BasisWords)}
    (then_either {word = (IsEitherStep c.args.first c.args.second)} {first = (λ w. w ≡ step_word c.args.first)}
    {second = (λ w. w ≡ step_word c.args.second)} BasisWords (λ w is. is))
    (then_as {first = (λ w. w ≡ step_word c.args.second)} {second = (IsEitherStep c.args.first c.args.second)}
    BasisWords (λ w is. inr is)) c.args.line.text.now c.args.line.room c.goes_on_with_step.result
    c.goes_on_with_step-else-goes_on_with_step.result
    c.if-goes_on_with_step.false c.goes_on_with_step.ensures c.goes_on_with_step-else-goes_on_with_step.ensures
