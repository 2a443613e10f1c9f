-- The numbers of a line within the bounds, as code reads them.
use Rattle.std.proofs.Common.{◌≡◌, ℕ, ◌^◌, ◌≤◌, refl, arith}
use Rattle.std.specs.Prelude.{ℤ, pos, negsuc, ◌≤ℤ◌, nat_abs}
use Rattle.std.proofs.lemmas.Int.{ints}
use Rattle.whole_numbers.specs.Lists.{number_at}
use Rattle.integer_pivots.specs.declared.line.Line.{Line}
use Rattle.integer_pivots.specs.Lines.{IsLine}
use Rattle.integer_pivots.specs.Numbers.{AllWithin}
use Rattle.integer_pivots.proofs.Sizes.{number_within, read, read_number, size_most, size_of, wider}

-- the numbers of a small line
pub numbers_small : (line : Line) → IsLine line → AllWithin (2 ^ 30) line.numbers
numbers_small line l = wider (nat_abs line.reach) (2 ^ 30) line.numbers (size_of line.reach (2 ^ 30) (l.reach_positive, l.reach)) l.numbers

pub number_small : (line : Line) → IsLine line → (c : ℕ) → nat_abs (number_at line.numbers c) ≤ 2 ^ 30
number_small line l c = number_within (2 ^ 30) line.numbers c (numbers_small line l)

-- a denominator is small
pub denominator_read : (line : Line) → IsLine line → (nat_abs line.denominator ≤ 2 ^ 30) × (read line.denominator ≡ line.denominator)
denominator_read line l =
    let small : nat_abs line.denominator ≤ 2 ^ 30 = size_most line.denominator (2 ^ 30) l.positive l.denominator in
    (small, read_number line.denominator (omega (arith, small)))

-- as is its reach
pub reach_read : (line : Line) → IsLine line → read line.reach ≡ line.reach
reach_read line l = read_number line.reach (omega (arith, size_of line.reach (2 ^ 30) (l.reach_positive, l.reach)))

-- a number that isn't negative is its size
pub pos_size : (z : ℤ) → pos 0 ≤ℤ z → pos (nat_abs z) ≡ z
pos_size (pos n) high = refl
pos_size (negsuc n) high = absurd (omega (arith, ints))
