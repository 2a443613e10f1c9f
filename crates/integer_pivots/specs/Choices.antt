-- How columns are narrowed down: to those that lead latest, and to those in which numbers are least.
use Rattle.std.specs.Prelude.{◌≡◌, ℕ, ◌<◌, ◌⊎◌, List, ℤ, pos, ◌*ℤ◌, ◌<ℤ◌, length, slice_index}
use Rattle.cost_base.specs.Lists.{Has}
use Rattle.whole_numbers.specs.Lists.{number_at}

-- the line is positive in the column
abbrev pub IsPositiveAt : List ℤ → ℕ → Type 0
IsPositiveAt line c = (c < length line) × (pos 0 <ℤ number_at line c)

-- the number in a column times the line's in another
abbrev pub crosswise : List ℤ → List ℤ → ℕ → ℕ → ℤ
crosswise numbers line c d = number_at numbers c *ℤ number_at line d

-- of the columns before a bound in which the line is positive, those that lead latest: all at one variable
pub record AreLatest (line : List ℤ) (leads : List ℕ) (bound latest : ℕ) (left : List ℕ) : Type 0 where
  pub each : (c : ℕ) → Has left c → IsPositiveAt line c × (slice_index leads c ≡ latest)
  pub all : (c : ℕ) → c < bound → IsPositiveAt line c → Has left c ⊎ (slice_index leads c < latest)
  pub some : 0 < latest → 0 < length left

-- of some columns, those in which a variable's number over the line's is least
pub record AreLeast (numbers line : List ℤ) (seen least : List ℕ) : Type 0 where
  pub within : (c : ℕ) → Has least c → Has seen c
  pub level : (c d : ℕ) → Has least c → Has least d → crosswise numbers line c d ≡ crosswise numbers line d c
  pub others : (c : ℕ) → Has seen c → Has least c ⊎ ((d : ℕ) → Has least d → crosswise numbers line d c <ℤ crosswise numbers line c d)
