-- The multipliers of rows, each with the number of its row.
use Rattle.std.specs.Prelude.{◌≡◌, ◌≢◌, ℕ, ◌<◌, List, [], ◌∷◌, ◌++◌, pos, ◌<ℤ◌, nat_abs, map, take, drop, slice_get, Some}
use Rattle.std.specs.List.{AllByRecursion}
use Rattle.cost_base.specs.declared.StepName.TheVariants.{Add, Mul, Lcm, Scale}
use Rattle.whole_numbers.specs.Fractions.{Fraction, sum_of, times, whole}
use Rattle.wide_fraction.specs.declared.steps.Wide.{Wide}
use Rattle.design_problem.specs.declared.tree.Member.{Member}
use Rattle.design_problem.specs.declared.tree.Member.TheVariants.{Low, High, Row}
use Rattle.design_problem.specs.Steps.{IsStepTooWide, denominators, lcm_of, made_whole, two_to_27, unless_zero}
use Rattle.fraction_table.specs.declared.stage.SimplexStop.{SimplexStop}
use Rattle.fraction_table.specs.declared.stage.SimplexStop.TheVariants.{TooWide, OutOfMemory}
use Rattle.fraction_table.specs.declared.table.Table.{Table}
use Rattle.fraction_lines.specs.Entries.{IsPassing}
use Rattle.fraction_lines.specs.TableLines.{IsTableNumber}
use Rattle.fraction_table.specs.Tableaus.{wide_at}

-- fractions of a member, each with the row's number where the member is a row; none where it is a bound
abbrev pub numbered : Member → List Fraction → List (ℕ × Fraction)
numbered (Low var bound) qs = []
numbered (High var bound) qs = []
numbered (Row row) qs = map (λ q. (row, q)) qs

-- the negated entries of the columns whose member is a row, where they aren't 0
abbrev pub columns_numbered : List Member → List Fraction → List (ℕ × Fraction)
columns_numbered [] qs = []
columns_numbered (member ∷ members) [] = []
columns_numbered (member ∷ members) (q ∷ qs) = numbered member (unless_zero q.numerator q) ++ columns_numbered members qs

-- the multipliers of a line of the table: its own, and then those of the columns
abbrev pub fractions_of : List Member → Member → List Fraction → List (ℕ × Fraction)
fractions_of basis r entries = numbered r (whole (pos 1) ∷ []) ++ columns_numbered basis (drop 1 entries)

-- the multipliers alone, without the numbers of their rows
abbrev pub fractions : List (ℕ × Fraction) → List Fraction
fractions parts = map (λ part. part.1) parts

-- the least common multiple of the denominators of multipliers
abbrev pub common_of : List (ℕ × Fraction) → ℕ
common_of parts = lcm_of (denominators (fractions parts))

-- a row's number and its multiplier, times a whole number
abbrev pub whole_multiplier : ℕ → (ℕ × Fraction) → ℕ × ℕ
whole_multiplier multiple part = (part.0, nat_abs (times part.1 (whole (pos multiple))).numerator)

-- the multipliers of rows as whole numbers: each times the least common multiple of their denominators
abbrev pub whole_multipliers : List (ℕ × Fraction) → List (ℕ × ℕ)
whole_multipliers parts = map (whole_multiplier (common_of parts)) parts

-- multipliers that are whole numbers, as fractions
abbrev pub wholes : List (ℕ × ℕ) → List Fraction
wholes parts = map (λ part. whole (pos part.1)) parts

-- the steps by which numbers are summed up, with the one that tries the sum's size
pub data IsTallyStep (ns : List Fraction) (wide : Wide) : Type 0 where
  sum : (k : ℕ) (next : Fraction) → slice_get ns k ≡ Some next → wide ≡ record { step = Add; left = sum_of (take k ns); right = next } → IsTallyStep ns wide
  scale : wide ≡ record { step = Scale; left = sum_of ns; right = two_to_27 } → IsTallyStep ns wide

-- the steps by which some fractions become whole numbers: times the least common multiple of their denominators
pub data IsMultiplierStep (qs : List Fraction) (wide : Wide) : Type 0 where
  multiple : (k d : ℕ) → slice_get (denominators qs) k ≡ Some d →
      wide ≡ record { step = Lcm; left = whole (pos (lcm_of (take k (denominators qs)))); right = whole (pos d) } →
      IsMultiplierStep qs wide
  product : (k : ℕ) (q : Fraction) → slice_get qs k ≡ Some q →
      wide ≡ record { step = Mul; left = q; right = whole (pos (lcm_of (denominators qs))) } → IsMultiplierStep qs wide
  tally : IsTallyStep (made_whole qs) wide → IsMultiplierStep qs wide

-- where a step stopped the work, it is one that makes whole numbers of these multipliers, and it is too wide
abbrev pub IsWideMultiplier : ℕ → List Fraction → SimplexStop → Type 0
IsWideMultiplier top qs (TooWide wide) = IsMultiplierStep qs wide × IsPassing top wide
IsWideMultiplier top qs OutOfMemory = Unit {0}

-- a step at the table's basis
abbrev pub IsWideAtBasis : Table → SimplexStop → Type 0
IsWideAtBasis t (TooWide wide) = IsStepTooWide t.top t.costs t.rows.items (wide_at wide t.basis.items)
IsWideAtBasis t OutOfMemory = Unit {0}

-- no two pairs have the same number
abbrev pub Different : {X : Type 0} → List (ℕ × X) → Type 0
Different [] = Unit {0}
Different (p ∷ ps) = AllByRecursion (λ q. q.0 ≢ p.0) ps × Different ps

-- the multiplier of one of the rows: a number of the table, and positive
pub record IsMultiplier (top count : ℕ) (part : ℕ × Fraction) : Type 0 where
  pub row : part.0 < count
  pub number : IsTableNumber top part.1
  pub positive : pos 0 <ℤ part.1.numerator

-- multipliers of different rows, at least one
pub record AreParts (top : ℕ) (parts : List (ℕ × Fraction)) : Type 0 where
  pub count : ℕ
  pub each : AllByRecursion (IsMultiplier top count) parts
  pub different : Different parts
  pub some : parts ≢ []
