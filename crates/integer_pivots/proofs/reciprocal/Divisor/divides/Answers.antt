-- The quotient times the number is a size again exactly where the number goes into it.
use Rattle.std.proofs.Common.{◌≡◌, ℕ, ◌*◌, ◌^◌, ◌∙◌, sym, ap, subst, nat_abs, arith}
use Prim.Native.Nat.{◌∣◌}
use Rattle.std.proofs.lemmas.Bool.{eqb-true, eq-eqb}
use Rattle.integer_pivots.proofs.Sizes.{read_number, size_most}
use Rattle.integer_pivots.proofs.Reciprocals.{goes_into}
use Rattle.integer_pivots.proofs.reciprocal.Divisor.divides.Goals as goal

pub returns : goal.returns
returns c =
    let q = c.quotient.result in
    let d = nat_abs c.args.self.number in
    let size : c.unsigned_abs-size.result ≡ nat_abs c.args.number =
    c.unsigned_abs-size.ensures.value ∙ ap nat_abs (read_number c.args.number (let small = c.requires.size in omega (arith, small))) in
    let own : c.unsigned_abs.result ≡ nat_abs c.args.self.number =
    c.unsigned_abs.ensures.value ∙ ap nat_abs
    (read_number c.args.self.number (let small =
    size_most c.args.self.number (2 ^ 30) c.requires.reciprocal.positive c.requires.reciprocal.small in
    omega (arith, small))) in
    let goes = goes_into q c.unsigned_abs-size.result d c.quotient.ensures.times in (
      λ same. subst (λ (s : ℕ). nat_abs c.args.self.number ∣ s) size
          (goes.0 (ap (λ (m : ℕ). c.quotient.result * m) (sym own) ∙ eqb-true (c.quotient.result * c.unsigned_abs.result) c.unsigned_abs-size.result same)),
      λ divides. eq-eqb (c.quotient.result * c.unsigned_abs.result) c.unsigned_abs-size.result (ap (λ (m : ℕ). c.quotient.result * m) own
          ∙ goes.1 (subst (λ (s : ℕ). nat_abs c.args.self.number ∣ s) (sym size) divides)),
    )
