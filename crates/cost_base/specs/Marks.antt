-- Marks, one for each of so many things, and which of them are set.
use Rattle.std.specs.Prelude.{◌≡◌, ℕ, ◌==◌, ◌||◌, List, Bool, false, filter, length, slice_index_or}
use Rattle.std.specs.List.{list_any}
use Rattle.cost_base.specs.Lists.{numbers_from}

-- whether the mark of a number is set; none is past the end of the marks
abbrev pub is_marked : List Bool → ℕ → Bool
is_marked marks k = slice_index_or marks k false

-- whether a number is one of these
abbrev pub is_one_of : List ℕ → ℕ → Bool
is_one_of numbers k = list_any (λ n. n == k) numbers

-- the marks to which those of the numbers that pass a test were added
pub record AreMarked (test : ℕ → Bool) (old new : List Bool) : Type 0 where
  pub counted : length new ≡ length old
  pub marked : (k : ℕ) → is_marked new k ≡ (is_marked old k || test k)

-- the numbers of the marks that are set, in rising order
abbrev pub numbers_marked : List Bool → List ℕ
numbers_marked marks = filter (is_marked marks) (numbers_from 0 (length marks))
