-- Multipliers of different rows, made whole.
use Rattle.std.proofs.Common.{◌≡◌, ℕ, ◌<◌, refl, sym, ap, subst, List, [], ◌∷◌, length, arith}
use Rattle.std.specs.Prelude.{sum_by, All}
use Rattle.std.specs.List.{AllPairs, AllByRecursion}
use Rattle.std.specs.List.Sorted.{IsNonDecreasingBy, IsPermutation}
use Rattle.std.proofs.lemmas.List.Sorted.{All-permutation}
use Rattle.std.proofs.lemmas.List.Sums.{sum_by-cons}
use Rattle.cost_base.proofs.ListLemmas.{each_weaker, all_from_each}
use Rattle.whole_numbers.specs.Fractions.{Fraction}
use Rattle.wide_fraction.specs.declared.steps.Wide.{Wide}
use Rattle.fraction_lines.specs.Entries.{AllNumbers}
use Rattle.fraction_table.specs.Multipliers.{AreParts, IsMultiplierStep, IsMultiplier, IsTallyStep, common_of, fractions, whole_multipliers, wholes}
use Rattle.fraction_table.specs.Multipliers.IsMultiplierStep.{tally}
use Rattle.fraction_table.proofs.MultiplierColumns.{common_divides, common_positive, numbers_of_parts, parts_whole, wholes_are}
use Rattle.fraction_table.proofs.MultiplierRows.{rises_strictly, whole_different}

pub parts_numbers : (top : ℕ) (parts : List (ℕ × Fraction)) → AreParts top parts → AllNumbers top parts
parts_numbers top parts p = numbers_of_parts top p.count parts p.each

pub each_whole : (top count : ℕ) (parts : List (ℕ × Fraction)) → AllByRecursion (IsMultiplier top count) parts →
    AllByRecursion (λ part. (part.0 < count) × (0 < part.1)) (whole_multipliers parts)
each_whole top count parts each =
    parts_whole top count (common_of parts) parts (common_positive top count parts each) each (common_divides parts)

-- their sum is positive
some_sum : (top count : ℕ) (parts : List (ℕ × Fraction)) (made : List (ℕ × ℕ)) → (parts ≡ [] → ⊥) →
    made ≡ whole_multipliers parts → AllByRecursion (λ part. (part.0 < count) × (0 < part.1)) made → 0 < sum_by (λ part. part.1) made
some_sum top count [] made some made_are are = absurd (some refl)
some_sum top count (part ∷ parts) [] some made_are are = absurd (omega (arith, ap length made_are))
some_sum top count (part ∷ parts) (first ∷ made) some made_are are = omega (arith, sum_by-cons (λ (p : ℕ × ℕ). p.1) first made, are.0.1)

pub parts_sum : (top : ℕ) (parts : List (ℕ × Fraction)) → AreParts top parts → 0 < sum_by (λ part. part.1) (whole_multipliers parts)
parts_sum top parts p = some_sum top p.count parts (whole_multipliers parts) p.some refl (each_whole top p.count parts p.each)

-- in order of the rows they rise strictly
pub parts_rise : (top : ℕ) (parts : List (ℕ × Fraction)) (sorted : List (ℕ × ℕ)) → AreParts top parts →
    IsPermutation (whole_multipliers parts) sorted → IsNonDecreasingBy (λ part. part.0) sorted →
    AllPairs (λ a b. a.0 < b.0) sorted
parts_rise top parts sorted p moved up =
    rises_strictly (whole_multipliers parts) sorted (whole_different (common_of parts) parts p.different) moved up

pub parts_positive : (top : ℕ) (parts : List (ℕ × Fraction)) (sorted : List (ℕ × ℕ)) → AreParts top parts →
    IsPermutation (whole_multipliers parts) sorted → All (λ part. 0 < part.1) sorted
parts_positive top parts sorted p moved =
    let made = whole_multipliers parts in
    All-permutation (λ (part : ℕ × ℕ). 0 < part.1) made sorted moved
    (all_from_each (λ (part : ℕ × ℕ). 0 < part.1) made
    (each_weaker (λ (part : ℕ × ℕ). (part.0 < p.count) × (0 < part.1)) (λ (part : ℕ × ℕ). 0 < part.1) made
    (λ part is. is.1) (each_whole top p.count parts p.each)))

-- a step of the sum is one that makes them whole
pub tally_step : (top : ℕ) (parts : List (ℕ × Fraction)) (wide : Wide) → AreParts top parts →
    IsTallyStep (wholes (whole_multipliers parts)) wide → IsMultiplierStep (fractions parts) wide
tally_step top parts wide p step =
    tally (subst (λ (ns : List Fraction). IsTallyStep ns wide) (sym (wholes_are top p.count parts p.each)) step)
