-- What is left of one size over the other is 0 exactly where the other goes into it.
use Rattle.std.proofs.Common.{◌≡◌, ℕ, ◌%◌, ◌∙◌, ap, sym, subst, nat_eq, w64}
use Prim.Native.Nat.{◌∣◌}
use Rattle.std.specs.Prelude.{nat_abs, IsTrue, ◌↔◌}
use Rattle.std.proofs.lemmas.Int.{to_z-of_z}
use mathlib.Core.Path.{ap₂}
use Rattle.integer_pivots.proofs.Quotients.{goes_in}
use Rattle.integer_pivots.proofs.line.goes_into.Goals as goal

pub returns : goal.returns
returns c =
    let left : c.unsigned_abs.result % c.unsigned_abs-2.result ≡ nat_abs c.args.number % nat_abs c.args.part =
    ap₂ (λ (a b : ℕ). a % b)
    (c.unsigned_abs.ensures.value ∙ ap nat_abs (to_z-of_z w64 c.args.number c.ranges.number))
    (c.unsigned_abs-2.ensures.value ∙ ap nat_abs (to_z-of_z w64 c.args.part c.ranges.part)) in
    subst (λ (rest : ℕ). IsTrue (nat_eq rest 0) ↔ (nat_abs c.args.part ∣ nat_abs c.args.number)) (sym left)
    (goes_in (nat_abs c.args.number) (nat_abs c.args.part))
