-- The least common multiple isn't below either number, and is computed where both are small.
use Rattle.std.proofs.Common.{◌≡◌, ◌^◌, ◌≤◌, sym, ◌∙◌, ap, subst, arith, w64, true, false, FitsSigned}
use Rattle.std.specs.Prelude.{ℤ, pos, ◌*ℤ◌, ◌<ℤ◌, ◌≤ℤ◌, nat_abs}
use Rattle.std.specs.Int.Signed.{lt_z}
use Prim.Native.Nat.{◌∣◌}
use Rattle.std.proofs.lemmas.Int.{fits_signed_from_abs, ints, to_z-of_z}
use Rattle.std.proofs.lemmas.Nat.Gcd.{le_of_dvd}
use mathlib.Core.Path.{ap₂}
use Rattle.whole_numbers.specs.Fractions.{lcm}
use Rattle.whole_numbers.proofs.Divisors.{gcd_is}
use Rattle.whole_numbers.proofs.Multiples.{lcm_positive, right_divides_lcm}
use Rattle.whole_numbers.proofs.Sizes.{size_positive}
use Rattle.integer_pivots.proofs.Sizes.{product_small, read, read_known}
use Rattle.integer_pivots.proofs.TurnLaws.{common_multiple_is}
use Rattle.integer_pivots.proofs.turned_line.common_multiple.Goals as goal
use Rattle.integer_pivots.proofs.turned_line.common_multiple.Goals.{After-over}

pub returns-then-second-gt-ENTRY_LIMIT : goal.returns-then-second-gt-ENTRY_LIMIT
returns-then-second-gt-ENTRY_LIMIT c =
    let f = c.args.first in
    let s = c.args.second in
    let tested = subst (λ (y : ℤ). lt_z (pos (2 ^ 30)) y ≡ true) (to_z-of_z w64 s c.ranges.second) c.if-second-gt-ENTRY_LIMIT.true in
    let high : pos (2 ^ 30) <ℤ s = omega (arith, ints, tested) in
    let some = lcm_positive (nat_abs f) (nat_abs s) (size_positive f c.requires.first.0) (size_positive s c.requires.second.0) in
    let most = le_of_dvd some (right_divides_lcm (nat_abs f) (nat_abs s)) in
    omega (arith, ints, high, most)

pub over-requires-clause-whole : goal.over-requires-clause-whole
over-requires-clause-whole c =
    subst (λ (z : ℤ). nat_abs z ∣ nat_abs (read c.args.first))
    (sym (read_known c.common_with.result c.common_with.type_inv ∙ c.common_with.ensures.value))
    (gcd_is (nat_abs (read c.args.first)) (nat_abs (read c.args.second))).0

product : (c : After-over) → (read c.over.result *ℤ read c.args.second) ≡ pos (lcm (nat_abs c.args.first) (nat_abs c.args.second))
product c =
    ap₂ (λ (y z : ℤ). y *ℤ z) (read_known c.over.result c.over.type_inv) (to_z-of_z w64 c.args.second c.ranges.second)
    ∙ common_multiple_is c.args.first c.args.second c.common_with.result c.over.result c.requires.first.0 c.requires.second.0
    c.ranges.first c.ranges.second c.common_with.type_inv c.common_with.ensures.value c.over.ensures.value

fits : (c : After-over) → FitsSigned w64 (read c.over.result *ℤ read c.args.second)
fits c =
    let tested = subst (λ (y : ℤ). lt_z (pos (2 ^ 30)) y ≡ false) (to_z-of_z w64 c.args.second c.ranges.second) c.if-second-gt-ENTRY_LIMIT.false in
    let low : c.args.second ≤ℤ pos (2 ^ 30) = omega (arith, ints, tested) in
    let second : nat_abs (read c.args.second) ≤ 2 ^ 30 =
    omega (arith, ints, ap nat_abs (to_z-of_z w64 c.args.second c.ranges.second), low, c.requires.second.0) in
    let first : nat_abs (read c.over.result) ≤ 2 ^ 30 =
    omega (
      arith,
      ints,
      ap nat_abs (read_known c.over.result c.over.type_inv),
      c.over.ensures.size,
      ap nat_abs (to_z-of_z w64 c.args.first c.ranges.first),
      c.requires.first.0,
      c.requires.first.1,
    ) in
    fits_signed_from_abs w64 _ (omega (arith, product_small (2 ^ 30) (2 ^ 30) (read c.over.result) (read c.args.second) first second))

pub overflow_mul-common : goal.overflow_mul-common
overflow_mul-common c = fits (goal.at.overflow_mul-common c).After-over

pub returns : goal.returns
returns c =
    let a = (goal.at.returns c).After-over in
    let f = c.args.first in
    let s = c.args.second in
    let is : read (read c.over.result *ℤ read c.args.second) ≡ pos (lcm (nat_abs f) (nat_abs s)) =
    to_z-of_z w64 _ (fits a) ∙ product a in
    let some = lcm_positive (nat_abs f) (nat_abs s) (size_positive f c.requires.first.0) (size_positive s c.requires.second.0) in
    let tested = c.if-common-gt-ENTRY_LIMIT.false in
    let low : read (read c.over.result *ℤ read c.args.second) ≤ℤ pos (2 ^ 30) = omega (arith, ints, tested) in
    (subst (λ (z : ℤ). pos 0 <ℤ z) (sym is) (omega (arith, ints, some)), ap nat_abs is, low)
