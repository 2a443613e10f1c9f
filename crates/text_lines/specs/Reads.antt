-- What the readers of words and numbers give.
use Rattle.std.specs.Prelude.{ℕ, List, [], ◌∷◌, ◌==◌, not, Bool, true, false, Option, Some, None}
use Rattle.text_lines.specs.Numbers.{Prefix}

-- an address and its length, as code hands them out
abbrev pub prefix_pair : Option Prefix → Option (ℕ × ℕ)
prefix_pair None = None
prefix_pair (Some p) = Some (p.address, p.length)

-- some bytes, and a leading zero only where it is the only one
abbrev pub begins_as_printed : List ℕ → Bool
begins_as_printed [] = false
begins_as_printed (c ∷ []) = true
begins_as_printed (c ∷ d ∷ ds) = not (c == 48)
