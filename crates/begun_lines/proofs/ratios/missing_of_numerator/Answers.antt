use Rattle.std.proofs.Common.{◌≡◌, [], codes, length, eqb, subst, sym, ap, ◌∙◌, arith}
use Rattle.std.specs.Cmp.Lexicographic.{pointwise_decides}
use Rattle.std.proofs.lemmas.Bool.Decides.{Decides-eqb}
use Rattle.std.proofs.lemmas.Grind.{common_steps}
use Rattle.begun_lines.specs.BegunLines.{IsLeastCompletion, IsRatio}
use Rattle.answer_lines.proofs.ListParts.{not-both}
use Rattle.begun_lines.proofs.BegunRatios.{least_nothing, least_minus, least_whole, never_whole}
use Rattle.begun_lines.proofs.ratios.missing_of_numerator.Goals as goal
use Rattle.begun_lines.proofs.ratios.missing_of_numerator.Goals.{then-is_empty-via-then-is_empty, then-is_empty-via-else-is_empty+then-eq}

pub returns-then-is_empty : goal.returns-then-is_empty
returns-then-is_empty c =
    elim c.then-is_empty.branch [
      | then-is_empty-via-then-is_empty w ↦
          let empty : c.args.word.now ≡ [] = grind (arith, common_steps) in
          subst (λ l. IsLeastCompletion IsRatio l 3) (sym empty) least_nothing
      | then-is_empty-via-else-is_empty+then-eq w ↦
          let minus : c.args.word.now ≡ codes "-" =
          (pointwise_decides Decides-eqb c.args.word.now w.as_slice.result.now).0 (sym w.if-eq.ensures)
          ∙ w.as_slice.ensures in
          subst (λ l. IsLeastCompletion IsRatio l 3) (sym minus) least_minus
    ]

pub returns-in_err-integer_of : goal.returns-in_err-integer_of
returns-in_err-integer_of c =
    rw c.from_residual.ensures
    (never_whole c.args.word.now c.requires (λ e. not-both c.is_empty.result (c.is_empty.ensures ∙ ap (λ l. eqb (length l) 0) e) c.if-is_empty.false)
    (λ e. absurd (cc ((pointwise_decides Decides-eqb c.args.word.now c.as_slice.result.now).1 (e ∙ sym c.as_slice.ensures)))) c.in_err-integer_of.ensures)

pub returns : goal.returns
returns c = least_whole c.args.word.now c.in_ok-integer_of.field-0 c.requires c.in_ok-integer_of.ensures.0 c.in_ok-integer_of.ensures.1
