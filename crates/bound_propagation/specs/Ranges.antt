-- One variable of a form, by its coefficient, its range and the form's greatest value over the box, which is called the
-- slack: how much the form can lose before it is negative.
use Rattle.std.specs.Prelude.{ℕ, ◌+◌, ◌-◌, ◌<◌, ◌≤◌, ℤ, pos, ◌+ℤ◌, ◌<ℤ◌, ◌≤ℤ◌}
use Rattle.design_problem.specs.declared.tree.Side.{Side}
use Rattle.design_problem.specs.declared.tree.Side.TheVariants.{Low, High}
use Rattle.design_problem.specs.Boxes.{upper_term}

-- the new bound makes the range from l to h smaller, and not empty
abbrev pub IsSmallerRange : ℕ → ℕ → Side → ℕ → Type 0
IsSmallerRange l h Low value = (l < value) × (value ≤ h)
IsSmallerRange l h High value = (l ≤ value) × (value < h)

-- the greatest that the term is over the removed part
abbrev pub removed_upper : ℤ → ℕ → ℕ → Side → ℕ → ℤ
removed_upper c l h Low value = upper_term c l (value - 1)
removed_upper c l h High value = upper_term c (value + 1) h

-- the form is negative over the removed part
abbrev pub IsRefutedPart : ℤ → ℕ → ℕ → ℕ → Side → ℕ → Type 0
IsRefutedPart c slack l h side value = (pos slack +ℤ removed_upper c l h side value) <ℤ upper_term c l h

-- the new bound of one range: the form is negative over the removed part, and not at the bound itself
pub record IsExactBound (c : ℤ) (slack l h : ℕ) (side : Side) (value : ℕ) : Type 0 where
  pub smaller : IsSmallerRange l h side value
  pub refuted : IsRefutedPart c slack l h side value
  pub exact : upper_term c l h ≤ℤ (pos slack +ℤ upper_term c value value)

-- no new bound of the range has the form negative over the removed part
abbrev pub HasNoBound : ℤ → ℕ → ℕ → ℕ → Type 0
HasNoBound c slack l h =
    (side : Side) (value : ℕ) → IsSmallerRange l h side value → IsRefutedPart c slack l h side value → ⊥
