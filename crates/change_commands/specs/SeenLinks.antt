-- Which links the lines so far have named.
use Rattle.std.specs.Prelude.{◌≡◌, ℕ, Bool, List}
use Rattle.cost_base.specs.Marks.{is_marked, is_one_of}

-- of all links just those of the list are marked as seen
abbrev pub AreSeen : List ℕ → List Bool → Type 0
AreSeen before seen = (k : ℕ) → is_marked seen k ≡ is_one_of before k
