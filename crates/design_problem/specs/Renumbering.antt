-- Trees whose rows have got other numbers.
use Rattle.std.specs.Prelude.{◌≡◌, ℕ, ◌<◌, List, map, length}
use Rattle.design_problem.specs.declared.form.Form.{Form}
use Rattle.design_problem.specs.declared.tree.Member.{Member}
use Rattle.design_problem.specs.declared.tree.Member.TheVariants.{Low, High, Row}
use Rattle.design_problem.specs.declared.tree.WideAt.{WideAt}
use Rattle.design_problem.specs.declared.tree.Entry.{Entry}
use Rattle.design_problem.specs.declared.tree.Entry.TheVariants.{Tighten, Split, Halve, Refute, Undone}
use Rattle.design_problem.specs.Forms.{form_at}

-- each number of an old form is given that of a new one, which is the same form
pub record IsRenumbering (number : ℕ → ℕ) (old new : List Form) : Type 0 where
  pub known : (row : ℕ) → row < length old → number row < length new
  pub same : (row : ℕ) → row < length old → form_at new (number row) ≡ form_at old row

-- the member of a basis with the new number of its row
abbrev pub renumbered_member : (ℕ → ℕ) → Member → Member
renumbered_member number (Low var bound) = Low var bound
renumbered_member number (High var bound) = High var bound
renumbered_member number (Row row) = Row (number row)

-- a multiplier with the new number of its row
abbrev pub renumbered_multiplier : (ℕ → ℕ) → ℕ × ℕ → ℕ × ℕ
renumbered_multiplier number part = (number part.0, part.1)

-- the too wide step with the new numbers of its basis
abbrev pub renumbered_wide : (ℕ → ℕ) → WideAt → WideAt
renumbered_wide number wide = record { step = wide.step; left = wide.left; right = wide.right; basis = map (renumbered_member number) wide.basis }

-- the entry with the new numbers of its rows
abbrev pub renumbered : (ℕ → ℕ) → Entry → Entry
renumbered number (Tighten var side value row) = Tighten var side value (number row)
renumbered number (Split var value) = Split var value
renumbered number (Halve var value wide) = Halve var value (renumbered_wide number wide)
renumbered number (Refute parts) = Refute (map (renumbered_multiplier number) parts)
renumbered number Undone = Undone
