use Rattle.std.proofs.Common.{◌≢◌, ℕ, ◌≤◌, ◌++◌, List, codes, arith, sym, ◌∙◌}
use Rattle.std.specs.Cmp.Lexicographic.{pointwise_decides}
use Rattle.std.proofs.lemmas.Bool.Decides.{Decides-eqb}
use Rattle.cost_base.specs.Decimal.{decimal}
use Rattle.design_problem.specs.declared.answer.Verdict.{Verdict}
use Rattle.design_problem.specs.declared.answer.Verdict.TheVariants.{Optimal, Impossible, Undecided}
use Rattle.design_problem.specs.AnswerRanges.{BoundsVerdict}
use Rattle.design_problem.specs.Text.{verdict_line}
use Rattle.answer_lines.proofs.heads.verdict_of.Goals as goal

none_said : (line : List ℕ) → line ≢ codes "verdict impossible" → ((n : ℕ) → n ≤ 65535 → line ≢ codes "verdict optimal " ++ decimal n) →
    ((n : ℕ) → n ≤ 65535 → line ≢ codes "verdict undecided budget " ++ decimal n) → (verdict : Verdict) → BoundsVerdict verdict → line ≢ verdict_line verdict
none_said line first second third (Optimal k) bounds e = second k (omega arith) e
none_said line first second third Impossible bounds e = first e
none_said line first second third (Undecided cap) bounds e = third cap (omega arith) e

pub returns-in_err-cap : goal.returns-in_err-cap
returns-in_err-cap c =
    rw c.from_residual.ensures
    (none_said c.args.line.now (λ e.
    absurd (cc ((pointwise_decides Decides-eqb c.args.line.now c.as_slice.result.now).1
    (e ∙ sym c.as_slice.ensures)))) c.in_default.ensures c.in_err-cap.ensures)
