-- Lists of whole numbers.
use Rattle.std.specs.Prelude.{ℕ, List, ℤ, pos, slice_index_or}

-- the number at a place; 0 behind the end
abbrev pub number_at : List ℤ → ℕ → ℤ
number_at zs k = slice_index_or zs k (pos 0)
