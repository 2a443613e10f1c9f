-- The numbers of the kernel at the starting basis.
use Rattle.std.proofs.Common.{◌≡◌, ℕ, zero, suc, ◌<◌, ◌≤◌, sym, subst, List, [], ◌∷◌, ◌++◌, map, length, arith}
use Rattle.std.specs.Prelude.{ℤ, pos, nat_abs, slice_index_or}
use Rattle.std.proofs.lemmas.List.Elements.{All-append}
use Rattle.cost_base.specs.Lists.{numbers_from}
use Rattle.fraction_table.proofs.StartingTables.{all_mapped}
use Rattle.integer_pivots.specs.Numbers.{AllWithin}

pub zeros_within : (zeros : List ℤ) (most count : ℕ) → zeros ≡ map (λ place. pos 0) (numbers_from 0 count) → AllWithin most zeros
zeros_within zeros most count are = subst (AllWithin most) (sym are) (all_mapped (λ (z : ℤ). nat_abs z ≤ most) (λ place. pos 0) count (λ k k_in. omega arith))

pub within_more : (most : ℕ) (olds news : List ℤ) (z : ℤ) → news ≡ olds ++ z ∷ [] → AllWithin most olds → nat_abs z < most → AllWithin most news
within_more most olds news z news_are within small =
    subst (AllWithin most) (sym news_are) (All-append (λ (y : ℤ). nat_abs y ≤ most) olds (z ∷ []) within (λ k d k_in. last k d k_in))
  where
    last : (k : ℕ) (d : ℤ) → k < length (z ∷ []) → nat_abs (slice_index_or (z ∷ []) k d) ≤ most
    last zero d k_in = omega (arith, small)
    last (suc k) d k_in = absurd (omega (arith, k_in))
