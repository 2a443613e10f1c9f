use Rattle.std.proofs.Common.{◌≡◌, ◌≤◌, ◌^◌, true, false, ltb, refl, arith}
use Rattle.std.proofs.lemmas.Bool.{ltb-true, ltb-false}
use Rattle.std.proofs.Math.Nat.{one-le-pow, pow-le-pow_right}
use Rattle.begun_lines.proofs.BegunNumbers.{too_many_digits}
use Rattle.begun_lines.proofs.numbers.missing_behind.Goals as goal

pub pow-requires : goal.pow-requires
pow-requires c =
    let bound : 10 ^ c.loop-digits.digits ≤ 10 ^ 38 = pow-le-pow_right {n = 10} (omega arith) {i = c.loop-digits.digits} {j = 38} (omega arith) in
    omega (arith, bound)

pub goes_on-requires-clause-some : goal.goes_on-requires-clause-some
goes_on-requires-clause-some c = omega (arith, c.pow.ensures, one-le-pow c.loop-digits.digits 10 (omega arith))

pub returns : goal.returns
returns c =
    λ k n extends among.
    elim (ltb k c.loop-digits.digits) as (λ b. ltb k c.loop-digits.digits ≡ b → ⊥) [
      | true ↦ λ few. c.loop-digits.invariant k n (ltb-true k c.loop-digits.digits few) extends among
      | false ↦ λ many. too_many_digits c.args.begun k n c.requires.some
          (omega (arith, ltb-false k c.loop-digits.digits many))
          (omega (arith, among.greatest, c.requires.fits)) extends
    ] refl
