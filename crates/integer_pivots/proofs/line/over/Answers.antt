-- A division that leaves no rest.
use Rattle.std.proofs.Common.{◌≡◌, ◌≤◌, sym, ◌∙◌, ap, subst, arith, w64}
use Rattle.std.specs.Prelude.{ℤ, pos, ◌*ℤ◌, nat_abs}
use Rattle.std.specs.Int.Signed.{quot_z}
use Rattle.std.proofs.lemmas.Int.{to_z-of_z}
use Rattle.std.proofs.Math.Nat.{zero-div}
use mathlib.Core.Path.{ap₂}
use Rattle.whole_numbers.specs.Fractions.{exact_quotient}
use Rattle.integer_pivots.proofs.Sizes.{read, read_number}
use Rattle.integer_pivots.proofs.Quotients.{bits_of, divided_is, quotient_size, quotient_times}
use Rattle.integer_pivots.proofs.line.over.Goals as goal
use Rattle.integer_pivots.proofs.line.over.Goals.{Else-number-eq0}

result_is : (c : Else-number-eq0) → read (quot_z (read c.args.number) (read c.args.part)) ≡ exact_quotient c.args.number (nat_abs c.args.part)
result_is c =
    let n = c.args.number in
    let p = c.args.part in
    ap read (ap₂ quot_z (to_z-of_z w64 n c.ranges.number) (to_z-of_z w64 p c.ranges.part) ∙ divided_is n p c.requires.part)
    ∙ read_number (exact_quotient n (nat_abs p)) (omega (arith, quotient_size n (nat_abs p), c.requires.size))

pub returns-clause-value : goal.returns-clause-value
returns-clause-value c = result_is (goal.at.returns-clause-value c).Else-number-eq0

pub returns-clause-times : goal.returns-clause-times
returns-clause-times c =
    ap (λ (z : ℤ). z *ℤ c.args.part) (result_is (goal.at.returns-clause-times c).Else-number-eq0)
    ∙ quotient_times c.args.number c.args.part c.requires.part c.requires.whole

pub returns-clause-size : goal.returns-clause-size
returns-clause-size c =
    subst (λ (z : ℤ). nat_abs z ≤ nat_abs c.args.number) (sym (result_is (goal.at.returns-clause-size c).Else-number-eq0))
    (quotient_size c.args.number (nat_abs c.args.part))

pub returns-then-number-eq0-clause-value : goal.returns-then-number-eq0-clause-value
returns-then-number-eq0-clause-value c =
    sym (ap (λ (z : ℤ). exact_quotient z (nat_abs c.args.part)) (bits_of c.args.number 0 c.ranges.number c.if-number-eq0.true)
    ∙ ap pos (zero-div (nat_abs c.args.part)))
