-- Small whole numbers are numbers of each table.
use Rattle.std.proofs.Common.{ℕ, ◌^◌, ◌<◌, ◌≤◌, arith}
use Rattle.std.specs.Prelude.{ℤ, nat_abs}
use Rattle.std.proofs.Math.Pow.{pow_mono}
use Rattle.whole_numbers.specs.Fractions.{whole}
use Rattle.whole_numbers.proofs.Divisors.{gcd-one}
use Rattle.wide_fraction.specs.Widths.{IsTop}
use Rattle.fraction_lines.specs.TableLines.{IsTableNumber}

-- a top has at most 127 bits, and isn't 0
pub top_small : (top : ℕ) → IsTop top → top < 2 ^ 127
top_small top is_top =
    let most : 2 ^ is_top.0 ≤ 2 ^ 127 = pow_mono is_top.2 in
    omega (arith, is_top.3)

pub top_some : (top : ℕ) → IsTop top → 1 ≤ top
top_some top is_top =
    let most : 2 ^ 28 ≤ 2 ^ is_top.0 = pow_mono is_top.1 in
    omega (arith, is_top.3)

-- a whole number below 2^27 is a number of each table
pub whole_number : (top : ℕ) (m : ℤ) → IsTop top → nat_abs m < 2 ^ 27 → IsTableNumber top (whole m)
whole_number top m is_top small =
    let most : 2 ^ 28 ≤ 2 ^ is_top.0 = pow_mono is_top.1 in
    record {
      lowest = record { positive = omega arith; lowest = gcd-one (nat_abs m) };
      within = record { numerator = omega (arith, is_top.3, most, small); denominator = omega (arith, is_top.3, most) };
    }
