-- Numbers over a common denominator, in lowest terms.
use Rattle.std.proofs.Common.{◌≡◌, ℕ, zero, suc, ◌+◌, ◌<◌, ◌≤◌, sym, ◌∙◌, ap, subst, List, [], ◌∷◌, map, arith}
use Rattle.std.specs.Prelude.{ℤ, pos, nat_abs}
use Rattle.std.proofs.Math.Nat.{div-le_self}
use Rattle.std.proofs.lemmas.List.Elements.{All-tail}
use Rattle.cost_base.specs.Lists.{numbers_from}
use Rattle.whole_numbers.specs.Fractions.{gcd}
use Rattle.whole_numbers.proofs.FractionLaws.{nat_abs-over, reduced_lowest, reduced_stands}
use Rattle.fraction_lines.specs.TableLines.{AreTableNumbers, IsTableNumber}
use Rattle.fraction_table.specs.ValidTables.{Stand}
use Rattle.integer_pivots.specs.Numbers.{AllWithin}
use Rattle.table_kernel.specs.Numbers.{over_common}

pub over_as : (D E : ℕ) (y z : ℤ) → D ≡ E → y ≡ z → over_common D y ≡ over_common E z
over_as D E y z D_is y_is = ap (λ (n : ℕ). over_common n y) D_is ∙ ap (over_common E) y_is

-- it is a number of the table, where both are within the top
pub over_number : (top D : ℕ) (z : ℤ) → 0 < D → D ≤ top → nat_abs z ≤ top → IsTableNumber top (over_common D z)
over_number top D z D_positive D_small z_small =
    let size = nat_abs-over z (gcd (nat_abs z) D) in
    record {
      lowest = reduced_lowest z D D_positive;
      within = record {
        numerator = subst (λ (n : ℕ). n ≤ top) (sym size) (omega (arith, div-le_self (nat_abs z) (gcd (nat_abs z) D), z_small));
        denominator = omega (arith, div-le_self D (gcd (nat_abs z) D), D_small);
      };
    }

pub over_numbers : (top D : ℕ) (f : ℕ → ℤ) (a m : ℕ) → 0 < D → D ≤ top → ((place : ℕ) → nat_abs (f place) ≤ top) →
    AreTableNumbers top (map (over_common D) (map f (numbers_from a m)))
over_numbers top D f a zero D_positive D_small small = tt
over_numbers top D f a (suc m) D_positive D_small small =
    (over_number top D (f a) D_positive D_small (small a), over_numbers top D f (a + 1) m D_positive D_small small)

-- each stands for its number
pub over_stand : (D : ℕ) (ms : List ℤ) → 0 < D → Stand D (map (over_common D) ms) ms
over_stand D [] D_positive = tt
over_stand D (m ∷ ms) D_positive = (reduced_stands m D D_positive, over_stand D ms D_positive)

pub over_all : (top D : ℕ) (zs : List ℤ) → 0 < D → D ≤ top → AllWithin top zs → AreTableNumbers top (map (over_common D) zs)
over_all top D [] D_positive D_small small = tt
over_all top D (z ∷ zs) D_positive D_small small = (
  over_number top D z D_positive D_small (small 0 (pos 0) (omega arith)),
  over_all top D zs D_positive D_small (All-tail (λ (y : ℤ). nat_abs y ≤ top) z zs small),
)
