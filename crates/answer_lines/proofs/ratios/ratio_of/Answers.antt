use Rattle.std.proofs.Common.{arith, ap, ◌∙◌}
use Rattle.std.specs.Int.{w128}
use Rattle.std.proofs.lemmas.Int.{to_z-of_z, fits_signed_from_abs}
use Rattle.design_problem.specs.Text.{integer}
use Rattle.answer_lines.proofs.RatioWords.{no_slash, same_slash, printed-above, printed-below, ratio_found}
use Rattle.answer_lines.proofs.ratios.ratio_of.Goals as goal

pub returns-in_err-above : goal.returns-in_err-above
returns-in_err-above c = rw c.from_residual.ensures (no_slash c.args.word.now c.in_err-above.ensures.pieces)

pub returns-in_err-numerator : goal.returns-in_err-numerator
returns-in_err-numerator c =
    rw c.from_residual-in_err-numerator.ensures
    (λ q printed e.
    c.in_err-numerator.ensures q.numerator (omega (arith, printed-above q printed))
    (same_slash c.args.word.now c.in_ok-above.above.now c.in_ok-above.below.now q c.in_ok-above.ensures.parts c.in_ok-above.ensures.pieces e).0)

pub returns-in_err-denominator : goal.returns-in_err-denominator
returns-in_err-denominator c =
    rw c.from_residual-in_err-denominator.ensures
    (λ q printed e.
    c.in_err-denominator.ensures printed.fraction.denominator (omega (arith, printed.denominator))
    ((same_slash c.args.word.now c.in_ok-above.above.now c.in_ok-above.below.now q c.in_ok-above.ensures.parts
    c.in_ok-above.ensures.pieces e).1 ∙ ap integer (printed-below q printed)))

pub returns : goal.returns
returns c =
    ratio_found c.args.word.now c.in_ok-above.above.now c.in_ok-above.below.now c.in_ok-numerator.numerator c.in_ok-denominator.denominator c.lowest.result
    c.in_ok-above.ensures.parts c.in_ok-above.ensures.pieces c.in_ok-numerator.ensures.1 c.in_ok-denominator.ensures.0
    (rw (to_z-of_z w128 c.in_ok-numerator.numerator
    (fits_signed_from_abs w128 c.in_ok-numerator.numerator c.in_ok-numerator.ensures.0)) at c.lowest.ensures)
