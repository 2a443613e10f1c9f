-- Sizes of whole numbers, and what fits 128 bits with a sign.
use Rattle.std.proofs.Common.{◌≡◌, ℕ, suc, ◌*◌, ◌^◌, ◌<◌, ◌≤◌, sym, ◌∙◌, ap, subst, arith, SFits, to_z, of_z}
use Rattle.std.specs.Int.{w128}
use lib.Signed.{lt_z}
use Rattle.std.specs.Prelude.{ℤ, pos, negsuc, ◌*ℤ◌, ◌<ℤ◌, nat_abs, IsTrue}
use Rattle.std.proofs.Math.Nat.{mul-le-mul_left}
use Rattle.std.proofs.lemmas.Int.{ints, to_z-of_z}
use Rattle.design_problem.specs.Boxes.{upper_term}
use Rattle.design_problem.proofs.ProductSizes.{fits_size}

-- a term is within its coefficient's size, times the most that an end can be
pub upper_size : (c : ℤ) (l h : ℕ) → l ≤ 65535 → h ≤ 65535 → nat_abs (upper_term c l h) ≤ nat_abs c * 65535
upper_size (pos c) l h low high = omega (arith, ints, mul-le-mul_left c high)
upper_size (negsuc c) l h low high = omega (arith, ints, mul-le-mul_left (suc c) low)

negative_size : (c : ℕ) (l : ℕ) → l ≤ 65535 → suc c * 65535 < 2 ^ 127 → SFits w128 (negsuc c *ℤ pos l)
negative_size c l low size = fits_size (negsuc c *ℤ pos l) (omega (arith, ints, mul-le-mul_left (suc c) low))

-- the term of a negative coefficient, as it is computed
pub negative_is : (c r : ℤ) (l h : ℕ) → c <ℤ pos 0 → SFits w128 c → r ≡ pos l → l ≤ 65535 →
    nat_abs c * 65535 < 2 ^ 127 → to_z w128 (of_z w128 (to_z w128 (of_z w128 c) *ℤ to_z w128 (of_z w128 r)))
    ≡ upper_term c l h
negative_is (pos c) r l h negative fits e low size = absurd (omega (arith, ints))
negative_is (negsuc c) r l h negative fits e low size =
    let small : SFits w128 (pos l) = fits_size (pos l) (omega (arith, ints)) in
    let product : (to_z w128 (of_z w128 (negsuc c)) *ℤ to_z w128 (of_z w128 r)) ≡ (negsuc c *ℤ pos l) =
    ap (λ (z : ℤ). z *ℤ to_z w128 (of_z w128 r)) (to_z-of_z w128 (negsuc c) fits)
    ∙ ap (λ (z : ℤ). negsuc c *ℤ to_z w128 (of_z w128 z)) e
    ∙ ap (λ (z : ℤ). negsuc c *ℤ z) (to_z-of_z w128 (pos l) small) in
    ap (λ (z : ℤ). to_z w128 (of_z w128 z)) product ∙ to_z-of_z w128 (negsuc c *ℤ pos l) (negative_size c l low size)

-- the term of another coefficient, as it is computed
pub positive_is : (c r : ℤ) (l h : ℕ) → (c <ℤ pos 0 → ⊥) → SFits w128 c → r ≡ pos h → h ≤ 65535 →
    nat_abs c * 65535 < 2 ^ 127 → (to_z w128 (of_z w128 c) *ℤ to_z w128 (of_z w128 r)) ≡ upper_term c l h
positive_is (negsuc c) r l h other fits e high size = absurd (other (omega (arith, ints)))
positive_is (pos c) r l h other fits e high size =
    let small : SFits w128 (pos h) = fits_size (pos h) (omega (arith, ints)) in
    ap (λ (z : ℤ). z *ℤ to_z w128 (of_z w128 r)) (to_z-of_z w128 (pos c) fits)
    ∙ ap (λ (z : ℤ). pos c *ℤ to_z w128 (of_z w128 z)) e
    ∙ ap (λ (z : ℤ). pos c *ℤ z) (to_z-of_z w128 (pos h) small)

-- a term fits, with the product that it is
pub term_fits : (c : ℤ) (l h : ℕ) → l ≤ 65535 → h ≤ 65535 → nat_abs c * 65535 < 2 ^ 127 → SFits w128 (upper_term c l h)
term_fits c l h low high size = fits_size (upper_term c l h) (omega (arith, upper_size c l h low high, size))

pub positive_fits : (c r : ℤ) (l h : ℕ) → (c <ℤ pos 0 → ⊥) → SFits w128 c → r ≡ pos h → l ≤ 65535 → h ≤ 65535 →
    nat_abs c * 65535 < 2 ^ 127 → SFits w128 (to_z w128 (of_z w128 c) *ℤ to_z w128 (of_z w128 r))
positive_fits c r l h other fits e low high size =
    subst (λ (z : ℤ). SFits w128 z) (sym (positive_is c r l h other fits e high size)) (term_fits c l h low high size)

-- and the term as it is read
pub positive_read : (c r : ℤ) (l h : ℕ) → (c <ℤ pos 0 → ⊥) → SFits w128 c → r ≡ pos h → l ≤ 65535 → h ≤ 65535 →
    nat_abs c * 65535 < 2 ^ 127 → to_z w128 (of_z w128 (to_z w128 (of_z w128 c) *ℤ to_z w128 (of_z w128 r))) ≡ upper_term c l h
positive_read c r l h other fits e low high size =
    ap (λ (z : ℤ). to_z w128 (of_z w128 z)) (positive_is c r l h other fits e high size) ∙ to_z-of_z w128 (upper_term c l h) (term_fits c l h low high size)

-- whether a number that was computed is negative
below_zero : (z : ℤ) → IsTrue (lt_z z (pos 0)) → z <ℤ pos 0
below_zero z h = grind (arith, ints)

zero_above : (z : ℤ) → z <ℤ pos 0 → IsTrue (lt_z z (pos 0))
zero_above z h = grind (arith, ints)

pub negative_iff : (x g : ℤ) → x ≡ g → (IsTrue (lt_z x (pos 0)) → g <ℤ pos 0) × (g <ℤ pos 0 → IsTrue (lt_z x (pos 0)))
negative_iff x g e = (λ h. subst (λ (z : ℤ). z <ℤ pos 0) e (below_zero x h), λ h. zero_above x (subst (λ (z : ℤ). z <ℤ pos 0) (sym e) h))
