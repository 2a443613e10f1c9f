-- How a line turns at a pivot: it is multiplied, and so many times the entering form's line is taken away.
use Rattle.std.specs.Prelude.{◌≡◌, ◌≢◌, ℕ, ◌+◌, ◌*◌, ◌^◌, ◌<◌, ◌≤◌, ◌⊎◌, if◌then◌else◌, ◌==◌, List, [], ◌∷◌, ℤ, pos, ◌-ℤ◌, ◌*ℤ◌, ◌<ℤ◌, ◌≤ℤ◌, nat_abs, length, slice_index_or}
use Prim.Native.Nat.{◌∣◌}
use Rattle.whole_numbers.specs.Fractions.{exact_quotient, gcd, lcm}
use Rattle.whole_numbers.specs.Lists.{number_at}
use Rattle.integer_pivots.specs.declared.line.Line.{Line}
use Rattle.integer_pivots.specs.declared.lowest.Lowest.{Lowest}
use Rattle.integer_pivots.specs.declared.turned_line.Turn.{Turn}
use Rattle.integer_pivots.specs.Lines.{IsLine, no_line}
use Rattle.integer_pivots.specs.Numbers.{greatest_of}

-- The turn of a line with this number at the pivot's column, where the entering form's line has the pivot there: the
-- pivot times the line, less the number times the entering line, both over what the two numbers have in common.
abbrev pub turn_by : ℤ → ℤ → Turn
turn_by number pivot =
    let common = gcd (nat_abs number) (nat_abs pivot) in
    record { multiplier = exact_quotient pivot common; factor = exact_quotient number common }

-- the multiple of a number, less that many times another
abbrev pub turned_number : Turn → ℤ → ℤ → ℤ
turned_number turn number entering = (turn.multiplier *ℤ number) -ℤ (turn.factor *ℤ entering)

-- no number of the line passes 2^30 on the way, by the greatest number of the line and that of the entering one
pub record StaysSmall (turn : Turn) (line entering : Line) : Type 0 where
  pub numbers : nat_abs turn.multiplier * greatest_of line.numbers + nat_abs turn.factor * greatest_of entering.numbers ≤ 2 ^ 30
  pub own : nat_abs turn.factor * nat_abs entering.denominator ≤ 2 ^ 30

-- a line and the entering one, over as many columns; in one of them the entering one has the pivot, which is positive
pub record IsAtPivot (column : ℕ) (entering line : Line) : Type 0 where
  pub turning : IsLine line
  pub across : IsLine entering
  pub long : length line.numbers ≡ length entering.numbers
  pub inside : column < length line.numbers
  pub pivot : pos 0 <ℤ number_at entering.numbers column

-- the line's numbers, its constant and its denominator stay small in a turn
pub record MayLineTurn (turn : Turn) (line entering : Line) : Type 0 where
  pub small : StaysSmall turn line entering
  pub constant : nat_abs (turned_number turn line.constant entering.constant) ≤ 2 ^ 62
  pub denominator : nat_abs line.denominator * nat_abs turn.multiplier ≤ 2 ^ 30

-- The line after the pivot stands for the turned numbers over the denominator times the multiplier; at the pivot's
-- column for the factor times the entering line's denominator.
pub record IsTurnedLine (turn : Turn) (column : ℕ) (entering old new : Line) : Type 0 where
  pub positive : pos 0 <ℤ new.denominator
  pub count : length new.numbers ≡ length old.numbers
  pub constant : (new.constant *ℤ (old.denominator *ℤ turn.multiplier)) ≡ (turned_number turn old.constant entering.constant *ℤ new.denominator)
  pub others : (c : ℕ) → c < length old.numbers → c ≢ column →
      (number_at new.numbers c *ℤ (old.denominator *ℤ turn.multiplier)) ≡
      (turned_number turn (number_at old.numbers c) (number_at entering.numbers c) *ℤ new.denominator)
  pub own : (number_at new.numbers column *ℤ (old.denominator *ℤ turn.multiplier)) ≡ ((turn.factor *ℤ entering.denominator) *ℤ new.denominator)

-- A line of which the constant and the denominator have turned and the numbers are to; the turn makes 0 of the
-- column's.
pub record IsTurning (turn : Turn) (column : ℕ) (entering line : Line) : Type 0 where
  pub across : IsLine entering
  pub positive : pos 0 <ℤ line.denominator
  pub denominator : line.denominator ≤ℤ pos (2 ^ 30)
  pub constant : nat_abs line.constant ≤ 2 ^ 62
  pub long : length line.numbers ≡ length entering.numbers
  pub inside : column < length line.numbers
  pub level : turned_number turn (number_at line.numbers column) (number_at entering.numbers column) ≡ pos 0
  pub small : StaysSmall turn line entering
  pub multiplier : pos 0 <ℤ turn.multiplier
  pub multiplied : nat_abs turn.multiplier ∣ nat_abs line.denominator

-- The second line is the first one with its numbers turned, all of it over a part; at the column stands the factor
-- times the entering line's denominator, over the part.
pub record IsTurnedOver (turn : Turn) (column : ℕ) (entering old new : Line) (part : ℤ) : Type 0 where
  pub positive : pos 0 <ℤ part
  pub denominator : (new.denominator *ℤ part) ≡ old.denominator
  pub constant : (new.constant *ℤ part) ≡ old.constant
  pub count : length new.numbers ≡ length old.numbers
  pub others : (c : ℕ) → c < length old.numbers → c ≢ column →
      (number_at new.numbers c *ℤ part) ≡ turned_number turn (number_at old.numbers c) (number_at entering.numbers c)
  pub own : (number_at new.numbers column *ℤ part) ≡ (turn.factor *ℤ entering.denominator)

-- the turn of a line at a pivot's column
abbrev pub turn_at : Line → ℕ → Line → Turn
turn_at entering column line = turn_by (number_at line.numbers column) (number_at entering.numbers column)

-- the denominator of a line times its multiplier
abbrev pub denominator_after : Line → ℕ → Line → ℕ
denominator_after entering column line = nat_abs line.denominator * nat_abs (turn_at entering column line).multiplier

-- a common multiple of a number and of the denominators of lines, each times its multiplier
abbrev pub common_after : Line → ℕ → List Line → ℕ → ℕ
common_after entering column [] common = common
common_after entering column (line ∷ lines) common = common_after entering column lines (lcm common (denominator_after entering column line))

-- all lines have turned at a pivot's column
pub record AreTurnedLines (entering : Line) (column : ℕ) (olds news : List Line) : Type 0 where
  pub count : length news ≡ length olds
  pub each : (v : ℕ) → v < length olds →
      IsTurnedLine (turn_at entering column (slice_index_or olds v no_line)) column entering (slice_index_or olds v no_line) (slice_index_or news v no_line)

-- the columns before a bound in which a line isn't 0, in rising order
pub record AreNonZeros (line : List ℤ) (bound : ℕ) (columns : List ℕ) : Type 0 where
  pub before : (place : ℕ) → place < length columns → slice_index_or columns place 0 < bound
  pub rises : (first second : ℕ) → first < second → second < length columns → slice_index_or columns first 0 < slice_index_or columns second 0
  pub others : (c : ℕ) → c < bound → ((place : ℕ) × ((place < length columns) × (slice_index_or columns place 0 ≡ c))) ⊎ (number_at line c ≡ pos 0)

-- a line's number at a column once it has turned at the pivot's, over the denominator times the multiplier
abbrev pub turned_entry : Turn → ℕ → Line → Line → ℕ → ℤ
turned_entry turn pivots entering line c =
    if c == pivots then turn.factor *ℤ entering.denominator else turned_number turn (number_at line.numbers c) (number_at entering.numbers c)

-- the greatest number that goes into the denominator, the constant and all numbers of a line that has turned
pub record IsPartAfter (turn : Turn) (column : ℕ) (entering line : Line) (part : ℤ) : Type 0 where
  pub positive : pos 0 <ℤ part
  pub denominator : nat_abs part ∣ nat_abs line.denominator * nat_abs turn.multiplier
  pub constant : nat_abs part ∣ nat_abs (turned_number turn line.constant entering.constant)
  pub numbers : (c : ℕ) → c < length line.numbers → nat_abs part ∣ nat_abs (turned_entry turn column entering line c)
  pub greatest : (d : ℕ) → d ∣ nat_abs line.denominator * nat_abs turn.multiplier →
      d ∣ nat_abs (turned_number turn line.constant entering.constant) →
      ((c : ℕ) → c < length line.numbers → d ∣ nat_abs (turned_entry turn column entering line c)) → d ∣ nat_abs part

-- what a line that has turned comes to in lowest terms: its denominator and its constant, over what all its numbers
-- have in common
pub record IsLowestAfter (turn : Turn) (column : ℕ) (entering line : Line) (lowest : Lowest) : Type 0 where
  pub part : IsPartAfter turn column entering line lowest.part
  pub positive : pos 0 <ℤ lowest.denominator
  pub denominator : (lowest.denominator *ℤ lowest.part) ≡ (line.denominator *ℤ turn.multiplier)
  pub constant : (lowest.constant *ℤ lowest.part) ≡ turned_number turn line.constant entering.constant

-- the numbers of a line that has turned are at most 2^30 in size, over a part of all
abbrev pub AreSmallAfter : Turn → ℕ → Line → Line → ℤ → Type 0
AreSmallAfter turn column entering line part =
    (c : ℕ) → c < length line.numbers → nat_abs (turned_entry turn column entering line c) ≤ 2 ^ 30 * nat_abs part

-- a line that has turned is within the bounds in lowest terms
pub record MayTurnTo (turn : Turn) (column : ℕ) (entering line : Line) (lowest : Lowest) : Type 0 where
  pub numbers : AreSmallAfter turn column entering line lowest.part
  pub denominator : lowest.denominator ≤ℤ pos (2 ^ 30)
  pub constant : nat_abs lowest.constant ≤ 2 ^ 62
