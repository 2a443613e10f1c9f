use Rattle.std.proofs.Common.{arith}
use Rattle.answer_lines.specs.Words.{words_left}
use Rattle.answer_lines.proofs.ListParts.{rest-is}
use Rattle.answer_lines.proofs.entries.halve_front.Goals as goal

pub returns-in_err-value : goal.returns-in_err-value
returns-in_err-value c =
    rw c.from_residual-in_err-value.ensures
    (λ front rest fits e. c.in_err-value.ensures front.value _ (omega (arith, fits.value)) (rest-is (words_left c.args.words) _ _ _ _ c.in_ok-var.ensures.1 e))

pub returns-in_err-step : goal.returns-in_err-step
returns-in_err-step c =
    rw c.from_residual-in_err-step.ensures
    (λ front rest fits e. c.in_err-step.ensures front.step _
    (rest-is (words_left c.in_ok-var.behind_var) _ _ _ _ c.in_ok-value.ensures.1 (rest-is (words_left c.args.words) _ _ _ _ c.in_ok-var.ensures.1 e)))

pub returns-in_err-left : goal.returns-in_err-left
returns-in_err-left c =
    rw c.from_residual-in_err-left.ensures
    (λ front rest fits e. c.in_err-left.ensures front.left _ fits.left
    (rest-is (words_left c.in_ok-value.behind_value) _ _ _ _ c.in_ok-step.ensures
    (rest-is (words_left c.in_ok-var.behind_var) _ _ _ _ c.in_ok-value.ensures.1 (rest-is (words_left c.args.words) _ _ _ _ c.in_ok-var.ensures.1 e))))

pub returns-in_err-right : goal.returns-in_err-right
returns-in_err-right c =
    rw c.from_residual-in_err-right.ensures
    (λ front rest fits e. c.in_err-right.ensures front.right _ fits.right
    (rest-is (words_left c.in_ok-step.behind_step) _ _ _ _ c.in_ok-left.ensures.1
    (rest-is (words_left c.in_ok-value.behind_value) _ _ _ _ c.in_ok-step.ensures
    (rest-is (words_left c.in_ok-var.behind_var) _ _ _ _ c.in_ok-value.ensures.1 (rest-is (words_left c.args.words) _ _ _ _ c.in_ok-var.ensures.1 e)))))

pub returns-in_err-var : goal.returns-in_err-var
returns-in_err-var c = rw c.from_residual.ensures (λ front rest fits e. c.in_err-var.ensures front.var _ (omega (arith, fits.var)) e)
