-- Columns over the line's numbers there, put in order; and how those that are least are kept.
use Rattle.std.proofs.Common.{◌≡◌, ℕ, ◌+◌, ◌^◌, ◌<◌, ◌≤◌, refl, sym, ◌∙◌, ap, subst, List, [], ◌∷◌, ◌++◌, length, take, drop, set, get_or, add-zero, arith, to_z, of_z, inl, inr, ◌⊎◌, w64}
use Rattle.std.specs.Prelude.{ℤ, pos, negsuc, ◌+ℤ◌, ◌-ℤ◌, ◌*ℤ◌, ◌<ℤ◌, ◌≤ℤ◌, FitsSigned, slice_index}
use Rattle.std.proofs.lemmas.Int.{ints, fits_signed_mul, fits_signed_from_abs, to_z-of_z}
use Rattle.std.proofs.lemmas.Bool.{cases_eq, cases_lt}
use Rattle.std.proofs.lemmas.List.{drop-drop, drop-set-lt, get_or-drop, get_or-take, length-append, length-take, take_more, take_more_set}
use mathlib.Core.Path.{ap₂}
use Rattle.whole_numbers.proofs.Ring.{var, ◌⊕◌, ◌⊖◌, ◌⊗◌, ring, ring_by, using, nothing}
use Rattle.whole_numbers.proofs.FractionLaws.{cancel}
use Rattle.whole_numbers.proofs.Orders.{scaled_cmp, opposite_product, negative_product, negative_factor}
use lib.IntN.{zero-*ℤ}
use Rattle.std.specs.Ordering.{int_cmp}
use Rattle.cost_base.specs.Lists.{Has}
use Rattle.cost_base.proofs.ListLemmas.{has_at, taken_has}
use Rattle.whole_numbers.specs.Lists.{number_at}
use Rattle.integer_pivots.specs.Numbers.{AllWithin}
use Rattle.integer_pivots.specs.Choices.{AreLatest, AreLeast, IsPositiveAt, crosswise}

-- products of small numbers fit
small_product : (xs ys : List ℤ) (i j : ℕ) → AllWithin (2 ^ 30) xs → AllWithin (2 ^ 30) ys → i < length xs →
    j < length ys → FitsSigned w64 (number_at xs i *ℤ number_at ys j)
small_product xs ys i j small other i_in j_in =
    fits_signed_mul w64 (number_at xs i) (number_at ys j) (2 ^ 30) (2 ^ 30) (small i (pos 0) i_in) (other j (pos 0) j_in) (omega arith)

-- a small number is read as it is
small_read : (xs : List ℤ) (i : ℕ) → AllWithin (2 ^ 30) xs → i < length xs → to_z w64 (of_z w64 (number_at xs i)) ≡ number_at xs i
small_read xs i small i_in = to_z-of_z w64 (number_at xs i) (fits_signed_from_abs w64 (number_at xs i) (omega (arith, small i (pos 0) i_in)))

-- and so is a product of two of them
pub read_product : (xs ys : List ℤ) (i j : ℕ) → AllWithin (2 ^ 30) xs → AllWithin (2 ^ 30) ys → i < length xs →
    j < length ys → (to_z w64 (of_z w64 (number_at xs i)) *ℤ to_z w64 (of_z w64 (number_at ys j)))
    ≡ (number_at xs i *ℤ number_at ys j)
read_product xs ys i j small other i_in j_in = ap₂ (λ y z. y *ℤ z) (small_read xs i small i_in) (small_read ys j other j_in)

pub product_fits : (xs ys : List ℤ) (i j : ℕ) → AllWithin (2 ^ 30) xs → AllWithin (2 ^ 30) ys → i < length xs →
    j < length ys → FitsSigned w64 (to_z w64 (of_z w64 (number_at xs i)) *ℤ to_z w64 (of_z w64 (number_at ys j)))
product_fits xs ys i j small other i_in j_in =
    subst (FitsSigned w64) (sym (read_product xs ys i j small other i_in j_in)) (small_product xs ys i j small other i_in j_in)

pub product_read : (xs ys : List ℤ) (i j : ℕ) → AllWithin (2 ^ 30) xs → AllWithin (2 ^ 30) ys → i < length xs →
    j < length ys → to_z w64 (of_z w64 (to_z w64 (of_z w64 (number_at xs i)) *ℤ to_z w64 (of_z w64 (number_at ys j))))
    ≡ (number_at xs i *ℤ number_at ys j)
product_read xs ys i j small other i_in j_in =
    to_z-of_z w64 _ (product_fits xs ys i j small other i_in j_in) ∙ read_product xs ys i j small other i_in j_in

-- where the other number is 0, the sign tells the order
bits_zero : (z : ℤ) → FitsSigned w64 z → of_z w64 z ≡ 0 → z ≡ pos 0
bits_zero z fits e = sym (to_z-of_z w64 z fits) ∙ ap (to_z w64) e

zero_scaled : (z over other : ℤ) → pos 0 <ℤ other → int_cmp z (pos 0) ≡ int_cmp (z *ℤ other) (pos 0 *ℤ over)
zero_scaled z over (pos k) positive =
    scaled_cmp z (pos 0) k (omega (arith, ints)) ∙ ap (λ (y : ℤ). int_cmp (z *ℤ pos k) y) (zero-*ℤ (pos k) ∙ sym (zero-*ℤ over))
zero_scaled z over (negsuc k) positive = absurd (omega (arith, ints))

pub sign_tells : (numbers line : List ℤ) (column other : ℕ) → AllWithin (2 ^ 30) numbers → column < length numbers →
    other < length numbers → pos 0 <ℤ number_at line other → of_z w64 (number_at numbers other) ≡ 0 →
    int_cmp (to_z w64 (of_z w64 (number_at numbers column))) (pos 0) ≡ int_cmp (crosswise numbers line column other)
    (crosswise numbers line other column)
sign_tells numbers line column other small column_in other_in positive zero_there =
    ap (λ (z : ℤ). int_cmp z (pos 0)) (small_read numbers column small column_in)
    ∙ zero_scaled (number_at numbers column) (number_at line column) (number_at line other) positive
    ∙ ap (λ (z : ℤ). int_cmp (crosswise numbers line column other) (z *ℤ number_at line column))
    (sym (bits_zero (number_at numbers other) (fits_signed_from_abs w64 (number_at numbers other) (omega (arith, small other (pos 0) other_in))) zero_there))

-- what follows from two fractions in a row, by differences
chained : (x y z : ℤ) (a b c : ℕ) →
    (pos b *ℤ ((x *ℤ pos c) -ℤ (z *ℤ pos a)))
    ≡ ((((y *ℤ pos c) -ℤ (z *ℤ pos b)) *ℤ pos a) +ℤ (((x *ℤ pos b) -ℤ (y *ℤ pos a)) *ℤ pos c))
chained x y z a b c =
    ring (x ∷ y ∷ z ∷ pos a ∷ pos b ∷ pos c ∷ [])
    (var 4 ⊗ ((var 0 ⊗ var 5) ⊖ (var 2 ⊗ var 3)))
    (((var 1 ⊗ var 5) ⊖ (var 2 ⊗ var 4)) ⊗ var 3 ⊕ ((var 0 ⊗ var 4) ⊖ (var 1 ⊗ var 3)) ⊗ var 5) refl

less_below : (p q : ℤ) → p <ℤ q → (p -ℤ q) <ℤ pos 0
less_below p q h = omega (arith, ints)

below_less : (p q : ℤ) → (p -ℤ q) <ℤ pos 0 → p <ℤ q
below_less p q h = omega (arith, ints)

most_below : (p q : ℤ) → p ≤ℤ q → (p -ℤ q) ≤ℤ pos 0
most_below p q h = omega (arith, ints)

sum_below : (p q r : ℤ) → r ≡ (p +ℤ q) → p <ℤ pos 0 → q ≤ℤ pos 0 → r <ℤ pos 0
sum_below p q r is low other = omega (arith, ints)

other_below : (p q r : ℤ) → r ≡ (p +ℤ q) → p ≤ℤ pos 0 → q <ℤ pos 0 → r <ℤ pos 0
other_below p q r is low other = omega (arith, ints)

from_zero : (n : ℕ) → pos 0 ≤ℤ pos n
from_zero n = omega (arith, ints)

-- x over a isn't above y over b, which is less than z over c
then_less : (x y z : ℤ) (a b c : ℕ) → 0 < a → 0 < b → 0 < c → (x *ℤ pos b) ≤ℤ (y *ℤ pos a) → (y *ℤ pos c) <ℤ (z *ℤ pos b) → (x *ℤ pos c) <ℤ (z *ℤ pos a)
then_less x y z a b c a_positive b_positive c_positive first second =
    below_less _ _ (negative_factor b _
    (sum_below _ _ _ (chained x y z a b c) (negative_product _ a (less_below _ _ second) a_positive)
    (opposite_product _ (pos c) (most_below _ _ first) (from_zero c))))

-- x over a is less than y over b, which isn't above z over c
less_then : (x y z : ℤ) (a b c : ℕ) → 0 < a → 0 < b → 0 < c → (x *ℤ pos b) <ℤ (y *ℤ pos a) → (y *ℤ pos c) ≤ℤ (z *ℤ pos b) → (x *ℤ pos c) <ℤ (z *ℤ pos a)
less_then x y z a b c a_positive b_positive c_positive first second =
    below_less _ _ (negative_factor b _
    (other_below _ _ _ (chained x y z a b c) (opposite_product _ (pos a) (most_below _ _ second) (from_zero a))
    (negative_product _ c (less_below _ _ first) c_positive)))

same_then : (x y z : ℤ) (a b c : ℕ) → 0 < b → (x *ℤ pos b) ≡ (y *ℤ pos a) → (y *ℤ pos c) ≡ (z *ℤ pos b) → (x *ℤ pos c) ≡ (z *ℤ pos a)
same_then x y z a b c b_positive first second =
    cancel b (x *ℤ pos c) (z *ℤ pos a) b_positive
    (ring_by (x ∷ y ∷ z ∷ pos a ∷ pos b ∷ pos c ∷ []) ((var 0 ⊗ var 5) ⊗ var 4) ((var 2 ⊗ var 3) ⊗ var 4)
    (using (var 5) (var 0 ⊗ var 4) (var 1 ⊗ var 3) first (using (var 3) (var 1 ⊗ var 5) (var 2 ⊗ var 4) second nothing)) refl)

-- a positive number as a natural one
by_positive : (P : ℤ → Type 0) (z : ℤ) → pos 0 <ℤ z → ((n : ℕ) → 0 < n → P (pos n)) → P z
by_positive P (pos n) positive of = of n (omega (arith, ints))
by_positive P (negsuc n) positive of = absurd (omega (arith, ints))

-- the same for columns in which the line is positive
module _ (numbers line : List ℤ) (c d e : ℕ) (c_is : IsPositiveAt line c) (d_is : IsPositiveAt line d) (e_is : IsPositiveAt line e) where
  then_less_columns : crosswise numbers line c d ≤ℤ crosswise numbers line d c →
      crosswise numbers line d e <ℤ crosswise numbers line e d →
      crosswise numbers line c e <ℤ crosswise numbers line e c
  then_less_columns =
      by_positive (λ a. (number_at numbers c *ℤ number_at line d) ≤ℤ (number_at numbers d *ℤ a) →
      (number_at numbers d *ℤ number_at line e) <ℤ (number_at numbers e *ℤ number_at line d) →
      (number_at numbers c *ℤ number_at line e) <ℤ (number_at numbers e *ℤ a)) (number_at line c) c_is.1
      (λ a a_positive. by_positive (λ b. (number_at numbers c *ℤ b) ≤ℤ (number_at numbers d *ℤ pos a) →
      (number_at numbers d *ℤ number_at line e) <ℤ (number_at numbers e *ℤ b) →
      (number_at numbers c *ℤ number_at line e) <ℤ (number_at numbers e *ℤ pos a)) (number_at line d) d_is.1
      (λ b b_positive. by_positive (λ g. (number_at numbers c *ℤ pos b) ≤ℤ (number_at numbers d *ℤ pos a) →
      (number_at numbers d *ℤ g) <ℤ (number_at numbers e *ℤ pos b) →
      (number_at numbers c *ℤ g) <ℤ (number_at numbers e *ℤ pos a)) (number_at line e) e_is.1
      (λ g g_positive. then_less (number_at numbers c) (number_at numbers d) (number_at numbers e) a b g a_positive b_positive g_positive)))

  less_then_columns : crosswise numbers line c d <ℤ crosswise numbers line d c →
      crosswise numbers line d e ≤ℤ crosswise numbers line e d →
      crosswise numbers line c e <ℤ crosswise numbers line e c
  less_then_columns =
      by_positive (λ a. (number_at numbers c *ℤ number_at line d) <ℤ (number_at numbers d *ℤ a) →
      (number_at numbers d *ℤ number_at line e) ≤ℤ (number_at numbers e *ℤ number_at line d) →
      (number_at numbers c *ℤ number_at line e) <ℤ (number_at numbers e *ℤ a)) (number_at line c) c_is.1
      (λ a a_positive. by_positive (λ b. (number_at numbers c *ℤ b) <ℤ (number_at numbers d *ℤ pos a) →
      (number_at numbers d *ℤ number_at line e) ≤ℤ (number_at numbers e *ℤ b) →
      (number_at numbers c *ℤ number_at line e) <ℤ (number_at numbers e *ℤ pos a)) (number_at line d) d_is.1
      (λ b b_positive. by_positive (λ g. (number_at numbers c *ℤ pos b) <ℤ (number_at numbers d *ℤ pos a) →
      (number_at numbers d *ℤ g) ≤ℤ (number_at numbers e *ℤ pos b) →
      (number_at numbers c *ℤ g) <ℤ (number_at numbers e *ℤ pos a)) (number_at line e) e_is.1
      (λ g g_positive. less_then (number_at numbers c) (number_at numbers d) (number_at numbers e) a b g a_positive b_positive g_positive)))

  level_columns : crosswise numbers line c d ≡ crosswise numbers line d c →
      crosswise numbers line d e ≡ crosswise numbers line e d → crosswise numbers line c e ≡ crosswise numbers line e c
  level_columns =
      by_positive (λ a. (number_at numbers c *ℤ number_at line d) ≡ (number_at numbers d *ℤ a) →
      (number_at numbers d *ℤ number_at line e) ≡ (number_at numbers e *ℤ number_at line d) →
      (number_at numbers c *ℤ number_at line e) ≡ (number_at numbers e *ℤ a)) (number_at line c) c_is.1
      (λ a a_positive. by_positive (λ b. (number_at numbers c *ℤ b) ≡ (number_at numbers d *ℤ pos a) →
      (number_at numbers d *ℤ number_at line e) ≡ (number_at numbers e *ℤ b) →
      (number_at numbers c *ℤ number_at line e) ≡ (number_at numbers e *ℤ pos a)) (number_at line d) d_is.1
      (λ b b_positive. by_positive (λ g. (number_at numbers c *ℤ pos b) ≡ (number_at numbers d *ℤ pos a) →
      (number_at numbers d *ℤ g) ≡ (number_at numbers e *ℤ pos b) →
      (number_at numbers c *ℤ g) ≡ (number_at numbers e *ℤ pos a)) (number_at line e) e_is.1
      (λ g g_positive. same_then (number_at numbers c) (number_at numbers d) (number_at numbers e) a b g b_positive)))

same_most : (p q : ℤ) → p ≡ q → p ≤ℤ q
same_most p q e = omega (arith, ints)

less_most : (p q : ℤ) → p <ℤ q → p ≤ℤ q
less_most p q h = omega (arith, ints)

-- one more of some columns
pub has_more : (xs : List ℕ) (c x : ℕ) → Has xs c → Has (xs ++ x ∷ []) c
has_more [] c x has = absurd has
has_more (y ∷ ys) c x (inl same) = inl same
has_more (y ∷ ys) c x (inr has) = inr (has_more ys c x has)

pub has_last : (xs : List ℕ) (x : ℕ) → Has (xs ++ x ∷ []) x
has_last [] x = inl refl
has_last (y ∷ ys) x = inr (has_last ys x)

pub has_cases : (xs : List ℕ) (c x : ℕ) → Has (xs ++ x ∷ []) c → Has xs c ⊎ (c ≡ x)
has_cases [] c x (inl same) = inr same
has_cases [] c x (inr has) = absurd has
has_cases (y ∷ ys) c x (inl same) = inl (inl same)
has_cases (y ∷ ys) c x (inr has) = elim (has_cases ys c x has) [ inl before ↦ inl (inr before) | inr same ↦ inr same ]

pub has_one : (c x : ℕ) → Has (x ∷ []) c → c ≡ x
has_one c x (inl same) = same
has_one c x (inr has) = absurd has

-- one more column is looked at: f is one of the least so far
module _ (numbers line : List ℤ) (seen least : List ℕ) (f c : ℕ) (each : (d : ℕ) → Has seen d → IsPositiveAt line d)
    (c_is : IsPositiveAt line c) (are : AreLeast numbers line seen least) (f_has : Has least f) where
  f_is : IsPositiveAt line f
  f_is = each f (are.within f f_has)

  -- it's less than all of them
  pub lesser_alone : crosswise numbers line c f <ℤ crosswise numbers line f c → AreLeast numbers line (seen ++ c ∷ []) (c ∷ [])
  lesser_alone less = record {
    within = λ d has. subst (Has (seen ++ c ∷ [])) (sym (has_one d c has)) (has_last seen c);
    level = λ d e has other. ap (λ k. crosswise numbers line d k) (has_one e c other)
        ∙ ap (λ k. crosswise numbers line k c) (has_one d c has)
        ∙ ap (λ k. crosswise numbers line c k) (sym (has_one d c has))
        ∙ ap (λ k. crosswise numbers line k d) (sym (has_one e c other));
    others = λ d has. elim (has_cases seen d c has) [
      | inl before ↦ inr (λ e other. subst (λ (k : ℕ). crosswise numbers line k d <ℤ crosswise numbers line d k) (sym (has_one e c other)) (after d before))
      | inr same ↦ inl (inl same)
    ];
  }
    where
      after : (d : ℕ) → Has seen d → crosswise numbers line c d <ℤ crosswise numbers line d c
      after d before = elim (are.others d before) [
        | inl level ↦ less_then_columns numbers line c f d c_is f_is (each d before) less (same_most _ _ (are.level f d f_has level))
        | inr above ↦ less_then_columns numbers line c f d c_is f_is (each d before) less (less_most _ _ (above f f_has))
      ]

  -- it's one more of them
  pub level_joins : crosswise numbers line c f ≡ crosswise numbers line f c → AreLeast numbers line (seen ++ c ∷ []) (least ++ c ∷ [])
  level_joins same = record {
    within = λ d has. elim (has_cases least d c has) [
      | inl before ↦ has_more seen d c (are.within d before)
      | inr is ↦ subst (Has (seen ++ c ∷ [])) (sym is) (has_last seen c)
    ];
    level = λ d e has other. elim (has_cases least d c has) [
      | inl first ↦ elim (has_cases least e c other) [
        | inl second ↦ are.level d e first second
        | inr is ↦ subst (λ (k : ℕ). crosswise numbers line d k ≡ crosswise numbers line k d) (sym is) (sym (with_it d first))
      ]
      | inr is ↦ elim (has_cases least e c other) [
        | inl second ↦ subst (λ (k : ℕ). crosswise numbers line k e ≡ crosswise numbers line e k) (sym is) (with_it e second)
        | inr too ↦ ap (λ k. crosswise numbers line d k) too ∙ ap (λ k. crosswise numbers line k c) is
            ∙ ap (λ k. crosswise numbers line c k) (sym is) ∙ ap (λ k. crosswise numbers line k d) (sym too)
      ]
    ];
    others = λ d has. elim (has_cases seen d c has) [
      | inl before ↦ elim (are.others d before) [
        | inl level ↦ inl (has_more least d c level)
        | inr above ↦ inr (λ e other. elim (has_cases least e c other) [
          | inl one ↦ above e one
          | inr is ↦ subst (λ (k : ℕ). crosswise numbers line k d <ℤ crosswise numbers line d k) (sym is)
              (then_less_columns numbers line c f d c_is f_is (each d before) (same_most _ _ same) (above f f_has))
        ])
      ]
      | inr is ↦ inl (subst (Has (least ++ c ∷ [])) (sym is) (has_last least c))
    ];
  }
    where
      with_it : (e : ℕ) → Has least e → crosswise numbers line c e ≡ crosswise numbers line e c
      with_it e has = level_columns numbers line c f e c_is f_is (each e (are.within e has)) same (are.level f e f_has has)

  -- it's above them
  pub greater_goes : crosswise numbers line f c <ℤ crosswise numbers line c f → AreLeast numbers line (seen ++ c ∷ []) least
  greater_goes greater = record {
    within = λ d has. has_more seen d c (are.within d has);
    level = are.level;
    others = λ d has. elim (has_cases seen d c has) [
      | inl before ↦ are.others d before
      | inr is ↦ inr (λ e other. subst (λ (k : ℕ). crosswise numbers line e k <ℤ crosswise numbers line k e) (sym is)
          (then_less_columns numbers line e f c (each e (are.within e other)) f_is c_is (same_most _ _ (are.level e f other f_has)) greater))
    ];
  }

-- one more column is looked at: the line isn't positive in it, or it leads earlier
pub latest_stays : (line : List ℤ) (leads : List ℕ) (column latest : ℕ) (left : List ℕ) →
    AreLatest line leads column latest left → (pos 0 <ℤ number_at line column → slice_index leads column < latest) →
    AreLatest line leads (column + 1) latest left
latest_stays line leads column latest left are passed = record {
  each = are.each;
  all = λ c c_in is. elim (cases_eq c column) [
    | inl same ↦ inr (subst (λ (k : ℕ). slice_index leads k < latest) (sym same) (passed (subst (λ (k : ℕ). pos 0 <ℤ number_at line k) same is.1)))
    | inr other ↦ are.all c (omega (arith, c_in, other)) is
  ];
  some = are.some;
}

-- it leads where the others do
pub latest_joins : (line : List ℤ) (leads : List ℕ) (column latest : ℕ) (left : List ℕ) →
    AreLatest line leads column latest left → IsPositiveAt line column → slice_index leads column ≡ latest →
    AreLatest line leads (column + 1) latest (left ++ column ∷ [])
latest_joins line leads column latest left are positive level = record {
  each = λ c has. elim (has_cases left c column has) [
    | inl before ↦ are.each c before
    | inr same ↦ subst (λ (k : ℕ). IsPositiveAt line k × (slice_index leads k ≡ latest)) (sym same) (positive, level)
  ];
  all = λ c c_in is. elim (cases_eq c column) [
    | inl same ↦ inl (subst (Has (left ++ column ∷ [])) (sym same) (has_last left column))
    | inr other ↦ elim (are.all c (omega (arith, c_in, other)) is) [ inl has ↦ inl (has_more left c column has) | inr earlier ↦ inr earlier ]
  ];
  some = λ later. omega (arith, length-append left (column ∷ []));
}

-- it leads later than all before it
pub latest_alone : (line : List ℤ) (leads : List ℕ) (column latest lead : ℕ) (left : List ℕ) →
    AreLatest line leads column latest left → IsPositiveAt line column → slice_index leads column ≡ lead →
    latest < lead → AreLatest line leads (column + 1) lead (column ∷ [])
latest_alone line leads column latest lead left are positive level later = record {
  each = λ c has. subst (λ (k : ℕ). IsPositiveAt line k × (slice_index leads k ≡ lead)) (sym (has_one c column has)) (positive, level);
  all = λ c c_in is. elim (cases_eq c column) [
    | inl same ↦ inl (inl same)
    | inr other ↦ elim (are.all c (omega (arith, c_in, other)) is) [
      | inl has ↦ inr (omega (arith, (are.each c has).1, later))
      | inr earlier ↦ inr (omega (arith, earlier, later))
    ]
  ];
  some = λ later. omega arith;
}

-- a column at a place is to be looked at: the least before it stand in front
pub record IsUnderway (numbers line : List ℤ) (olds now : List ℕ) (kept index : ℕ) : Type 0 where
  pub each : (c : ℕ) → Has olds c → IsPositiveAt line c
  pub some : (0 < kept) × (kept ≤ index)
  pub index_in : index < length now
  pub same : length now ≡ length olds
  pub rest : drop index now ≡ drop index olds
  pub least : AreLeast numbers line (take index olds) (take kept now)

module _ (numbers line : List ℤ) (olds now : List ℕ) (kept index : ℕ) (s : IsUnderway numbers line olds now kept index) where
  column_is : get_or now index 0 ≡ get_or olds index 0
  column_is = first_of_rest now ∙ ap (λ (xs : List ℕ). get_or xs 0 0) s.rest ∙ sym (first_of_rest olds)
    where
      first_of_rest : (xs : List ℕ) → get_or xs index 0 ≡ get_or (drop index xs) 0 0
      first_of_rest xs = ap (λ (i : ℕ). get_or xs i 0) (sym (add-zero index)) ∙ sym (get_or-drop index xs 0 0)

  seen_more : take (index + 1) olds ≡ take index olds ++ get_or now index 0 ∷ []
  seen_more = take_more olds index 0 (omega (arith, s)) ∙ ap (λ (x : ℕ). take index olds ++ x ∷ []) (sym column_is)

  seen_each : (c : ℕ) → Has (take index olds) c → IsPositiveAt line c
  seen_each c has = s.each c (taken_has index olds c has)

  first_has : Has (take kept now) (get_or now 0 0)
  first_has =
      subst (Has (take kept now)) (get_or-take kept now 0 0 s.some.0)
      (has_at (take kept now) 0 (omega (arith, length-take kept now, s)))

  pub column_positive : IsPositiveAt line (get_or now index 0)
  column_positive = subst (IsPositiveAt line) (sym column_is) (s.each (get_or olds index 0) (has_at olds index (omega (arith, s))))

  pub first_positive : IsPositiveAt line (get_or now 0 0)
  first_positive = seen_each (get_or now 0 0) (s.least.within (get_or now 0 0) first_has)

  pub rest_follows : drop (index + 1) now ≡ drop (index + 1) olds
  rest_follows = sym (drop-drop 1 index now) ∙ ap (λ (xs : List ℕ). drop 1 xs) s.rest ∙ drop-drop 1 index olds

  pub rest_stays : (place x : ℕ) → place ≤ index → drop (index + 1) (set now place x) ≡ drop (index + 1) olds
  rest_stays place x place_in = drop-set-lt (index + 1) now place x (omega arith) ∙ rest_follows

  pub less_step : crosswise numbers line (get_or now index 0) (get_or now 0 0) <ℤ crosswise numbers line
      (get_or now 0 0) (get_or now index 0) →
      AreLeast numbers line (take (index + 1) olds) (take 1 (set now 0 (get_or now index 0)))
  less_step less =
      subst (λ (xs : List ℕ). AreLeast numbers line xs (take 1 (set now 0 (get_or now index 0)))) (sym seen_more)
      (subst (AreLeast numbers line (take index olds ++ get_or now index 0 ∷ [])) (sym (take_more_set now 0 (get_or now index 0) (omega (arith, s))))
      (lesser_alone numbers line (take index olds) (take kept now) (get_or now 0 0) (get_or now index 0) seen_each column_positive s.least first_has less))

  pub equal_step : crosswise numbers line (get_or now index 0) (get_or now 0 0)
      ≡ crosswise numbers line (get_or now 0 0) (get_or now index 0) →
      AreLeast numbers line (take (index + 1) olds) (take (kept + 1) (set now kept (get_or now index 0)))
  equal_step level =
      subst (λ (xs : List ℕ). AreLeast numbers line xs (take (kept + 1) (set now kept (get_or now index 0)))) (sym seen_more)
      (subst (AreLeast numbers line (take index olds ++ get_or now index 0 ∷ [])) (sym (take_more_set now kept (get_or now index 0) (omega (arith, s))))
      (level_joins numbers line (take index olds) (take kept now) (get_or now 0 0) (get_or now index 0) seen_each column_positive s.least first_has level))

  pub greater_step : crosswise numbers line (get_or now 0 0) (get_or now index 0) <ℤ crosswise numbers line
      (get_or now index 0) (get_or now 0 0) → AreLeast numbers line (take (index + 1) olds) (take kept now)
  greater_step greater =
      subst (λ (xs : List ℕ). AreLeast numbers line xs (take kept now)) (sym seen_more)
      (greater_goes numbers line (take index olds) (take kept now) (get_or now 0 0) (get_or now index 0) seen_each column_positive s.least first_has greater)
