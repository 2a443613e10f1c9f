-- Numbers by which is divided, with their reciprocals.
use Rattle.std.specs.Prelude.{◌≡◌, ℕ, ◌+◌, ◌/◌, ◌^◌, ◌<◌, List, ℤ, pos, ◌*ℤ◌, ◌<ℤ◌, ◌≤ℤ◌, nat_abs, length}
use Rattle.whole_numbers.specs.Lists.{number_at}
use Rattle.integer_pivots.specs.declared.reciprocal.Divisor.{Divisor}

-- a positive number of at most 2^30, and 2^63 over it and 1
pub record IsReciprocal (d : Divisor) : Type 0 where
  pub positive : pos 0 <ℤ d.number
  pub small : d.number ≤ℤ pos (2 ^ 30)
  pub value : d.reciprocal ≡ 2 ^ 63 / nat_abs d.number + 1

-- A number is put at a column, over a new divisor; the numbers before it, which stood over the old one, stand for the
-- same over the new one.
pub record ArePutOver (column : ℕ) (number : ℤ) (olds : List ℤ) (old : ℤ) (news : List ℤ) (new : ℤ) : Type 0 where
  pub count : length news ≡ length olds
  pub before : (c : ℕ) → c < column → (number_at news c *ℤ new) ≡ (number_at olds c *ℤ old)
  pub own : (number_at news column *ℤ new) ≡ number
  pub behind : (c : ℕ) → column < c → number_at news c ≡ number_at olds c
