-- The constant of a row, as a sum over its terms, as code reads it.
use Rattle.std.proofs.Common.{◌≡◌, ℕ, suc, ◌+◌, ◌*◌, ◌^◌, ◌<◌, ◌≤◌, refl, sym, subst, ◌∙◌, ap, List, [], ◌∷◌, length, get_or, arith, FitsSigned, w64, to_z, of_z}
use Rattle.std.specs.Prelude.{ℤ, ◌+ℤ◌, ◌-ℤ◌, ◌*ℤ◌, nat_abs}
use Rattle.std.proofs.lemmas.Int.{fits_signed_from_abs}
use Rattle.whole_numbers.specs.Lists.{number_at}
use Rattle.whole_numbers.proofs.Sizes.{sum_size}
use Rattle.design_problem.specs.declared.form.Term.{Term}
use Rattle.integer_pivots.specs.Numbers.{product_sum}
use Rattle.integer_pivots.proofs.Sizes.{difference_small, product_small, read_number}
use Rattle.table_kernel.proofs.LineSums.{IsPartSum, summed_more, term_part}

factors_read : (a b : ℤ) (m n : ℕ) → nat_abs a ≤ m → nat_abs b ≤ n → m < 2 ^ 63 → n < 2 ^ 63 → (to_z w64 (of_z w64 a) *ℤ to_z w64 (of_z w64 b)) ≡ (a *ℤ b)
factors_read a b m n a_small b_small m_small n_small =
    ap (λ (z : ℤ). z *ℤ to_z w64 (of_z w64 b)) (read_number a (omega (arith, a_small, m_small)))
    ∙ ap (λ (z : ℤ). a *ℤ z) (read_number b (omega (arith, b_small, n_small)))

-- a product that 64 bits hold
pub product_fits : (a b : ℤ) (m n : ℕ) → nat_abs a ≤ m → nat_abs b ≤ n → m < 2 ^ 63 → n < 2 ^ 63 → m * n < 2 ^ 63 →
    FitsSigned w64 (to_z w64 (of_z w64 a) *ℤ to_z w64 (of_z w64 b))
product_fits a b m n a_small b_small m_small n_small small =
    subst (FitsSigned w64) (sym (factors_read a b m n a_small b_small m_small n_small))
    (fits_signed_from_abs w64 (a *ℤ b) (omega (arith, product_small m n a b a_small b_small, small)))

-- it is read as it is
pub read_product : (a b : ℤ) (m n : ℕ) → nat_abs a ≤ m → nat_abs b ≤ n → m < 2 ^ 63 → n < 2 ^ 63 → m * n < 2 ^ 63 →
    to_z w64 (of_z w64 (to_z w64 (of_z w64 a) *ℤ to_z w64 (of_z w64 b))) ≡ (a *ℤ b)
read_product a b m n a_small b_small m_small n_small small =
    ap (λ (z : ℤ). to_z w64 (of_z w64 z)) (factors_read a b m n a_small b_small m_small n_small)
    ∙ read_number (a *ℤ b) (omega (arith, product_small m n a b a_small b_small, small))

-- the sum of a row's constants has 60 bits where each is within 44
abbrev pub IsGathered : List ℤ → List Term → ℕ → ℤ → Type 0
IsGathered zs ts index sum = IsPartSum (2 ^ 44) (2 ^ 60) zs ts index sum

-- one more term, as code reads it
pub gathered_read : (zs : List ℤ) (ts : List Term) (index : ℕ) (d : Term) (sum added : ℤ) → index < length ts →
    nat_abs (number_at zs (get_or ts index d).var) ≤ 2 ^ 44 → IsGathered zs ts index sum →
    added ≡ (to_z w64 (of_z w64 (get_or ts index d).coefficient) *ℤ to_z w64
    (of_z w64 (number_at zs (get_or ts index d).var))) → (nat_abs (sum +ℤ to_z w64 (of_z w64 added)) < 2 ^ 63)
    × IsGathered zs ts (index + 1) (to_z w64 (of_z w64 (sum +ℤ to_z w64 (of_z w64 added))))
gathered_read zs ts index d sum added index_in small g added_is =
    let c = (get_or ts index d).coefficient in
    let z = number_at zs (get_or ts index d).var in
    let c_small : nat_abs c ≤ 2 ^ 16 = let part = term_part (2 ^ 44) (2 ^ 60) zs ts index d sum index_in g in omega (arith, part) in
    let read : added ≡ (c *ℤ z) =
    added_is
    ∙ ap (λ (x : ℤ). x *ℤ to_z w64 (of_z w64 z)) (read_number c (omega (arith, c_small)))
    ∙ ap (λ (x : ℤ). c *ℤ x) (read_number z (omega (arith, small))) in
    let size = product_small (2 ^ 16) (2 ^ 44) c z c_small small in
    let term : to_z w64 (of_z w64 added) ≡ (c *ℤ z) = ap (λ (x : ℤ). to_z w64 (of_z w64 x)) read ∙ read_number (c *ℤ z) (omega (arith, size)) in
    let more = summed_more (2 ^ 44) (2 ^ 60) zs ts index d sum index_in small g in
    let whole : (sum +ℤ to_z w64 (of_z w64 added)) ≡ (sum +ℤ (c *ℤ z)) = ap (λ (x : ℤ). sum +ℤ x) term in
    let within : nat_abs (sum +ℤ (c *ℤ z)) ≤ 2 ^ 60 = omega (arith, more.size) in (
      subst (λ (x : ℤ). nat_abs x < 2 ^ 63) (sym whole) (omega (arith, within)),
      subst (IsGathered zs ts (index + 1)) (sym (ap (λ (x : ℤ). to_z w64 (of_z w64 x)) whole ∙ read_number (sum +ℤ (c *ℤ z)) (omega (arith, within)))) more,
    )

-- a sum of two parts, as code reads it
pub read_sum : (a b x y : ℤ) → a ≡ x → b ≡ y → nat_abs a ≤ 2 ^ 61 → nat_abs b ≤ 2 ^ 61 →
    to_z w64 (of_z w64 (to_z w64 (of_z w64 a) +ℤ to_z w64 (of_z w64 b))) ≡ (x +ℤ y)
read_sum a b x y a_is b_is a_small b_small =
    let left = read_number a (omega (arith, a_small)) in
    let right = read_number b (omega (arith, b_small)) in
    let both : (to_z w64 (of_z w64 a) +ℤ to_z w64 (of_z w64 b)) ≡ (a +ℤ b) = ap (λ (z : ℤ). z +ℤ to_z w64 (of_z w64 b)) left ∙ ap (λ (z : ℤ). a +ℤ z) right in
    ap (λ (z : ℤ). to_z w64 (of_z w64 z)) both
    ∙ read_number (a +ℤ b) (omega (arith, sum_size a b, a_small, b_small))
    ∙ ap (λ (z : ℤ). z +ℤ b) a_is
    ∙ ap (λ (z : ℤ). x +ℤ z) b_is

-- the constant of high - x, as code reads it
module _ (common range constant : ℤ) (common_small : nat_abs common ≤ 2 ^ 30) (range_small : nat_abs range ≤ 2 ^ 27)
    (constant_small : nat_abs constant ≤ 2 ^ 44) where
  difference_is : (to_z w64 (of_z w64 (to_z w64 (of_z w64 common) *ℤ to_z w64 (of_z w64 range))) -ℤ to_z w64 (of_z w64 constant)) ≡
      ((common *ℤ range) -ℤ constant)
  difference_is =
      ap (λ (z : ℤ). z -ℤ to_z w64 (of_z w64 constant))
      (read_product common range (2 ^ 30) (2 ^ 27) common_small range_small (omega arith) (omega arith) (omega arith))
      ∙ ap (λ (z : ℤ). (common *ℤ range) -ℤ z) (read_number constant (omega (arith, constant_small)))

  difference_size : nat_abs ((common *ℤ range) -ℤ constant) ≤ 2 ^ 57 + 2 ^ 44
  difference_size =
      let size = product_small (2 ^ 30) (2 ^ 27) common range common_small range_small in
      difference_small (2 ^ 57) (2 ^ 44) (common *ℤ range) constant (omega (arith, size)) constant_small

  pub high_fits : FitsSigned w64 (to_z w64 (of_z w64 (to_z w64 (of_z w64 common) *ℤ to_z w64 (of_z w64 range))) -ℤ to_z w64 (of_z w64 constant))
  high_fits = subst (FitsSigned w64) (sym difference_is) (fits_signed_from_abs w64 ((common *ℤ range) -ℤ constant) (omega (arith, difference_size)))

  pub high_read : (x : ℤ) → range ≡ x →
      (to_z w64 (of_z w64 (to_z w64 (of_z w64 (to_z w64 (of_z w64 common) *ℤ to_z w64 (of_z w64 range))) -ℤ to_z w64 (of_z w64 constant)))
      ≡ ((common *ℤ x) -ℤ constant)) × (nat_abs ((common *ℤ x) -ℤ constant) ≤ 2 ^ 62)
  high_read x range_is =
      let is = ap (λ (z : ℤ). (common *ℤ z) -ℤ constant) range_is in (
        ap (λ (z : ℤ). to_z w64 (of_z w64 z)) difference_is ∙ read_number ((common *ℤ range) -ℤ constant) (omega (arith, difference_size)) ∙ is,
        subst (λ (z : ℤ). nat_abs z ≤ 2 ^ 62) is (omega (arith, difference_size)),
      )

-- sums over lists that agree where there are coefficients
pub sums_alike : (cs zs ys : List ℤ) → length cs ≤ length zs → length cs ≤ length ys →
    ((k : ℕ) → k < length cs → number_at zs k ≡ number_at ys k) → product_sum cs zs ≡ product_sum cs ys
sums_alike [] zs ys zs_long ys_long alike = refl
sums_alike (c ∷ cs) [] ys zs_long ys_long alike = absurd (omega arith)
sums_alike (c ∷ cs) (z ∷ zs) [] zs_long ys_long alike = absurd (omega arith)
sums_alike (c ∷ cs) (z ∷ zs) (y ∷ ys) zs_long ys_long alike =
    ap (λ x. (c *ℤ x) +ℤ product_sum cs zs) (alike 0 (omega arith))
    ∙ ap (λ s. (c *ℤ y) +ℤ s) (sums_alike cs zs ys (omega arith) (omega arith) (λ k k_in. alike (suc k) (omega (arith, k_in))))
