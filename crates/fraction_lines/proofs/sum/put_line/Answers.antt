-- The sum is crossed with the line, times the negated coefficient.
use Rattle.std.proofs.Common.{◌≡◌, ◌≤◌, ◌^◌, ◌∙◌, ap, w64, SFits, to_z, of_z, arith}
use Rattle.std.specs.Prelude.{ℤ, pos, negsuc, zero, suc, ◌-ℤ◌, neg_ℤ, nat_abs}
use Rattle.std.proofs.lemmas.Int.{ints, to_z-of_z}
use Rattle.whole_numbers.specs.Fractions.{whole}
use Rattle.design_problem.proofs.TermLaws.{small_read}
use Rattle.fraction_lines.proofs.TableLineLaws.{crossed_put, negated_number}
use Rattle.fraction_lines.proofs.sum.put_line.Goals as goal

negated_fits : (z : ℤ) → nat_abs z ≤ 2 ^ 26 → SFits w64 (neg_ℤ z)
negated_fits (pos zero) small = record { sfits = omega arith }
negated_fits (pos (suc n)) small = record { sfits = omega arith }
negated_fits (negsuc n) small = record { sfits = omega arith }

negated_read : (z : ℤ) → nat_abs z ≤ 2 ^ 26 → to_z w64 (of_z w64 (pos 0 -ℤ to_z w64 (of_z w64 z))) ≡ neg_ℤ z
negated_read z small =
    ap (λ (y : ℤ). to_z w64 (of_z w64 (pos 0 -ℤ y))) (small_read z small)
    ∙ ap (λ (y : ℤ). to_z w64 (of_z w64 y)) (less z)
    ∙ to_z-of_z w64 (neg_ℤ z) (negated_fits z small)
  where
    less : (z : ℤ) → (pos 0 -ℤ z) ≡ neg_ℤ z
    less z = omega (arith, ints)

pub cross-requires-clause-factor : goal.cross-requires-clause-factor
cross-requires-clause-factor c =
    let z = c.args.coefficient in
    negated_number c.args.top c.whole.result z c.value.ensures.width c.requires.small (c.whole.ensures ∙ ap whole (negated_read z c.requires.small))

pub returns-clause-sums : goal.returns-clause-sums
returns-clause-sums c =
    let z = c.args.coefficient in
    crossed_put c.whole.result z c.args.sum.now c.args.line.now c.swap.new.x (c.whole.ensures ∙ ap whole (negated_read z c.requires.small))
    c.requires.line.counted (c.swap.ensures.x_after ∙ c.in_ok-cross.ensures.crossed)
