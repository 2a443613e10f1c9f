-- Fractions within a bound have natural heights in their order, so a list of them that rises has a measure.
use Rattle.std.proofs.Common.{◌≡◌, ℕ, suc, ◌*◌, ◌^◌, ◌<◌, ◌≤◌, ap, List, [], ◌∷◌, length, inl, inr, arith}
use Rattle.std.specs.List.{AllByRecursion}
use native.Mathlib.Nat.{div-mul-le_self, le-div_iff_mul-le, mul-le-mul_right, le_of_mul-le-mul_right, pow-suc, pow-zero}
use Rattle.design_problem.specs.Earnest.{LexLess}
use Rattle.fraction_table.specs.Ranks.{height, digits_number}

products-le : (b d top : ℕ) → b ≤ top → d ≤ top → d * b ≤ top * top
products-le b d top b_small d_small = grind arith

-- a/b is less than c/d
pub height_rises : (top a b c d : ℕ) → 0 < b → 0 < d → b ≤ top → d ≤ top → a * d < c * b → height top a b < height top c d
height_rises top a b c d b_positive d_positive b_small d_small less =
    let h = height top a b in
    let f1 = mul-le-mul_right d (div-mul-le_self (a * (top * top)) b) in
    let f2 = products-le b d top b_small d_small in
    let f3 = mul-le-mul_right (top * top) less in
    let scaled : (suc h * d) * b ≤ (c * (top * top)) * b = omega arith in
    let iff = le-div_iff_mul-le {k = d} {x = suc h} {y = c * (top * top)} d_positive in
    iff.1 (le_of_mul-le-mul_right scaled b_positive)

pub digits_number-lt : (base : ℕ) (xs : List ℕ) → AllByRecursion (λ x. x < base) xs → digits_number base xs < base ^ length xs
digits_number-lt base [] below = rw (pow-zero base) (omega arith)
digits_number-lt base (x ∷ xs) below =
    let rest = digits_number-lt base xs below.1 in
    let first = mul-le-mul_right (base ^ length xs) below.0 in
    rw (pow-suc base (length xs)) (omega arith)

-- a list that comes before another has the lesser number
pub digits_rise : (base : ℕ) (xs ys : List ℕ) → AllByRecursion (λ x. x < base) xs → AllByRecursion (λ x. x < base) ys → length xs ≡ length ys →
    LexLess xs ys → digits_number base xs < digits_number base ys
digits_rise base [] ys x_below y_below same less = absurd less
digits_rise base (x ∷ xs) [] x_below y_below same less = absurd less
digits_rise base (x ∷ xs) (y ∷ ys) x_below y_below same less =
    elim less [
      | inl lower ↦
          let rest = digits_number-lt base xs x_below.1 in
          let first = mul-le-mul_right (base ^ length xs) lower in
          let powers = ap (λ n. base ^ n) (shorter same) in
          let scaled = ap (λ n. y * n) powers in
          omega arith
      | inr equal ↦
          let rest = digits_rise base xs ys x_below.1 y_below.1 (shorter same) equal.1 in
          let powers = ap (λ n. base ^ n) (shorter same) in
          let first = ap (λ n. n * base ^ length xs) equal.0 in
          let second = ap (λ n. y * n) powers in
          omega arith
    ]
  where
    shorter : suc (length xs) ≡ suc (length ys) → length xs ≡ length ys
    shorter e = omega arith
