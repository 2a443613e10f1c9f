-- What goes into a number has all of itself in common with it.
use Rattle.std.proofs.Common.{subst, arith}
use Rattle.std.specs.Prelude.{ℤ, nat_abs}
use Prim.Native.Nat.{◌∣◌}
use Rattle.integer_pivots.proofs.Quotients.{common_all}
use Rattle.integer_pivots.proofs.Sizes.{read_number}
use Rattle.integer_pivots.proofs.reciprocal.Divisor.shared_with.Goals as goal

pub returns-then-divides-clause-value : goal.returns-then-divides-clause-value
returns-then-divides-clause-value c =
    common_all c.args.number c.args.self.number c.requires.reciprocal.positive
    (subst (λ (z : ℤ). nat_abs c.args.self.number ∣ nat_abs z) (read_number c.args.number (let small = c.requires.size in omega (arith, small)))
    (c.divides.ensures.0 c.if-divides.true))
