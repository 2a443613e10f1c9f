-- Lines: whole numbers over one denominator, a form's constant at a basis and its numbers at the columns.
use Rattle.std.specs.Prelude.{◌≡◌, ℕ, ◌^◌, ◌<◌, ◌≤◌, List, [], ℤ, pos, ◌*ℤ◌, ◌<ℤ◌, ◌≤ℤ◌, nat_abs, max, map, length}
use Prim.Native.Nat.{◌∣◌}
use Rattle.whole_numbers.specs.Lists.{number_at}
use Rattle.integer_pivots.specs.declared.line.Line.{Line}
use Rattle.integer_pivots.specs.Numbers.{AllWithin, greatest_of}

-- a line whose numbers at the columns are at most 2^30 in size, over a denominator of at most 2^30
pub record IsLine (line : Line) : Type 0 where
  pub positive : pos 0 <ℤ line.denominator
  pub denominator : line.denominator ≤ℤ pos (2 ^ 30)
  pub reach_positive : pos 0 ≤ℤ line.reach
  pub reach : line.reach ≤ℤ pos (2 ^ 30)
  pub numbers : AllWithin (nat_abs line.reach) line.numbers

-- a line of zeros
abbrev pub no_line : Line
no_line = record { denominator = pos 1; constant = pos 0; numbers = []; reach = pos 0 }

-- the numbers at the columns of lines, a list for each
abbrev pub rows_of : List Line → List (List ℤ)
rows_of lines = map (λ line. line.numbers) lines

-- how far a line's constant can move where a bound moves by 1: its greatest number, or its denominator
abbrev pub step_of : Line → ℕ
step_of line = max (greatest_of line.numbers) (nat_abs line.denominator)

-- the second line has the numbers of the first, and its denominator, each over one and the same number
pub record IsReduced (old new : Line) (part : ℕ) : Type 0 where
  pub positive : 0 < part
  pub denominator : old.denominator ≡ (new.denominator *ℤ pos part)
  pub constant : old.constant ≡ (new.constant *ℤ pos part)
  pub count : length new.numbers ≡ length old.numbers
  pub numbers : (c : ℕ) → c < length old.numbers → number_at old.numbers c ≡ (number_at new.numbers c *ℤ pos part)

-- a line over a positive denominator, which is at most 2^62, as the constant is in size; the numbers are at most this
pub record IsReducible (most : ℕ) (line : Line) : Type 0 where
  pub positive : pos 0 <ℤ line.denominator
  pub denominator : nat_abs line.denominator ≤ 2 ^ 62
  pub constant : nat_abs line.constant ≤ 2 ^ 62
  pub numbers : AllWithin most line.numbers

-- 1 alone goes into the denominator, the constant and all numbers
abbrev pub IsInLowestTerms : Line → Type 0
IsInLowestTerms line =
    (d : ℕ) → d ∣ nat_abs line.denominator → d ∣ nat_abs line.constant →
    ((c : ℕ) → c < length line.numbers → d ∣ nat_abs (number_at line.numbers c)) → d ≡ 1

-- the second line is the first one in lowest terms, over a positive denominator; no number at a column passes its reach
pub record IsLowered (old new : Line) : Type 0 where
  pub part : ℕ
  pub reduced : IsReduced old new part
  pub positive : pos 0 <ℤ new.denominator
  pub lowest : IsInLowestTerms new
  pub reach_positive : pos 0 ≤ℤ new.reach
  pub within : AllWithin (nat_abs new.reach) new.numbers
