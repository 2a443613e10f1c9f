-- The form of the total is moved behind those of the rows: new numbers of forms, and entries with these numbers. No
-- public clause cites it.
use Rattle.std.specs.Prelude.{◌≡◌, ℕ, ◌+◌, ◌-◌, ◌==◌, List, ◌++◌, Bool, true, false, not, if◌then◌else◌, map, ltb}
use Rattle.std.specs.List.{filter}
use Rattle.cost_base.specs.Lists.{numbers_from}
use Rattle.design_problem.specs.declared.tree.Entry.{Entry}
use Rattle.design_problem.specs.declared.tree.Entry.TheVariants.{Tighten, Split, Halve, Refute, Undone}
use Rattle.design_problem.specs.Renumbering.{renumbered}

-- the number of a form, where the form at a place is moved behind all others, of which there are so many
abbrev pub moved_number : ℕ → ℕ → ℕ → ℕ
moved_number place others row = if ltb row place then row else (if row == place then others else row - 1)

-- the new numbers of so many forms, of which the one at a place is moved behind the others
abbrev pub AreMovedNumbers : ℕ → ℕ → List ℕ → Type 0
AreMovedNumbers place others numbers = numbers ≡ map (moved_number place others) (numbers_from 0 (others + 1))

-- whether a part of a Refute is of the form at the place, or of another one
abbrev pub is_picked : Bool → ℕ → ℕ × ℕ → Bool
is_picked true place part = part.0 == place
is_picked false place part = not (part.0 == place)

-- the parts of a Refute that are of the form at the place, or the others
abbrev pub picked : Bool → ℕ → List (ℕ × ℕ) → List (ℕ × ℕ)
picked own place parts = filter (is_picked own place) parts

-- the parts of a Refute with that of the form at the place behind the others
abbrev pub put_last : ℕ → List (ℕ × ℕ) → List (ℕ × ℕ)
put_last place parts = picked false place parts ++ picked true place parts

-- the entry with the part of the form at the place behind the other parts of its Refute
abbrev pub with_last : ℕ → Entry → Entry
with_last place (Tighten var side value row) = Tighten var side value row
with_last place (Split var value) = Split var value
with_last place (Halve var value wide) = Halve var value wide
with_last place (Refute parts) = Refute (put_last place parts)
with_last place Undone = Undone

-- the entry once the form at the place has been moved: its forms have their new numbers, and the parts of a Refute rise
-- again
abbrev pub moved_entry : ℕ → ℕ → Entry → Entry
moved_entry place others entry = renumbered (moved_number place others) (with_last place entry)
