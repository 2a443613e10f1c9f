use Rattle.std.proofs.Common.{ℕ, ◌*◌, ◌/◌, ◌^◌, ◌≤◌, ◌∙◌, sym, ap, subst, nat_abs}
use Rattle.whole_numbers.proofs.Sizes.{size_positive}
use Rattle.integer_pivots.proofs.Sizes.{size_most}
use Rattle.integer_pivots.proofs.Reciprocals.{quotient_near, quotient_of}
use Rattle.integer_pivots.proofs.reciprocal.Divisor.quotient.Goals as goal

pub returns-clause-times : goal.returns-clause-times
returns-clause-times c = λ times multiple.
    ap (λ (z : ℕ). z * c.from-2.result / 2 ^ 63) c.from.ensures
    ∙ ap (λ (z : ℕ). c.args.size * z / 2 ^ 63) c.from-2.ensures
    ∙ quotient_of c.args.size (nat_abs c.args.self.number) c.args.self.reciprocal times
    (size_positive c.args.self.number c.requires.reciprocal.positive) c.requires.size
    c.requires.reciprocal.value multiple

pub returns-clause-near : goal.returns-clause-near
returns-clause-near c =
    subst (λ (z : ℕ). (z * c.from-2.result / 2 ^ 63) * nat_abs c.args.self.number ≤ 2 ^ 63) (sym c.from.ensures)
    (subst (λ (z : ℕ). (c.args.size * z / 2 ^ 63) * nat_abs c.args.self.number ≤ 2 ^ 63) (sym c.from-2.ensures)
    (quotient_near c.args.size (nat_abs c.args.self.number) c.args.self.reciprocal (size_positive c.args.self.number c.requires.reciprocal.positive)
    (size_most c.args.self.number (2 ^ 30) c.requires.reciprocal.positive c.requires.reciprocal.small) c.requires.size c.requires.reciprocal.value))
