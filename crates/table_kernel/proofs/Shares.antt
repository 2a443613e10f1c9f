-- How often a line's denominator goes into the common one.
use Prim.Native.Nat.{◌∣◌}
use native.Mathlib.Nat.{mul-div_assoc, mul_comm}
use Rattle.std.proofs.Common.{◌≡◌, ℕ, ◌*◌, ◌/◌, ◌^◌, ◌<◌, ◌≤◌, ◌∙◌, ap, subst, arith, le_trans, mul-one}
use Rattle.std.proofs.Math.Nat.{mul-le-mul_left}
use Rattle.std.specs.Prelude.{nat_abs, slice_index_or, All}
use Rattle.whole_numbers.proofs.Divisors.{quotient_positive}
use Rattle.whole_numbers.proofs.Sizes.{size_positive}
use Rattle.integer_pivots.specs.declared.line.Line.{Line}
use Rattle.table_kernel.specs.declared.kernel.Kernel.{Kernel}
use Rattle.table_kernel.specs.Kernels.{IsBounded}
use Rattle.table_kernel.specs.Numbers.{share_of}

-- a denominator goes into a multiple of its multiple as often, times the factor
pub share_more : (E r d : ℕ) → d ∣ E → (E * r) / d ≡ E / d * r
share_more E r d divides = ap (λ (n : ℕ). n / d) (mul_comm E r) ∙ mul-div_assoc d r divides ∙ mul_comm r (E / d)

-- the denominators of a kernel's lines go into the common one at least once
pub shares_some : (k : Kernel) → IsBounded k → All (λ (line : Line). 0 < share_of (nat_abs k.common) line) k.lows.items
shares_some k b v d v_in =
    quotient_positive (nat_abs k.common) (nat_abs (slice_index_or k.lows.items v d).denominator) (size_positive k.common b.positive) (b.divides v d v_in)

-- a factor of a product with one that isn't 0 is no greater
pub factor_within : (a b most : ℕ) → 1 ≤ b → a * b ≤ most → a ≤ most
factor_within a b most some product = le_trans (subst (λ (n : ℕ). n ≤ a * b) (mul-one a) (mul-le-mul_left a some)) product

-- the constants of lines are at most 2^44 over their own denominators, too
pub constants_short : (k : Kernel) → IsBounded k → All (λ (line : Line). nat_abs line.constant ≤ 2 ^ 44) k.lows.items
constants_short k b v d v_in =
    let line = slice_index_or k.lows.items v d in
    let some = shares_some k b v d v_in in
    factor_within (nat_abs line.constant) (share_of (nat_abs k.common) line) (2 ^ 44) (omega (arith, some)) (b.low v d v_in)
