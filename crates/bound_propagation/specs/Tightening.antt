-- When a form alone makes the range of a variable smaller.
use Rattle.std.specs.Prelude.{ℕ, ◌<◌, pos, ◌<ℤ◌, ◌≤ℤ◌, length}
use Rattle.design_problem.specs.declared.form.Form.{Form}
use Rattle.design_problem.specs.declared.boxes.CostBox.{CostBox}
use Rattle.design_problem.specs.declared.tree.Side.{Side}
use Rattle.design_problem.specs.Boxes.{greatest}
use Rattle.design_problem.specs.Trees.{IsSmaller, removed}
use Rattle.design_problem.specs.Earnest.{at_bound}

-- the new bound makes the range smaller, and not empty; the form refutes the part that is removed, and doesn't refute
-- the new bound itself
pub record IsExactTightening (form : Form) (box : CostBox) (side : Side) (var value : ℕ) : Type 0 where
  pub var_known : var < length box.low
  pub smaller : IsSmaller box side var value
  pub refuted : greatest form (removed box side var value) <ℤ pos 0
  pub exact : pos 0 ≤ℤ greatest form (at_bound box var value)

-- the form refutes no part of a variable's range at one of its ends that would leave something of the range
abbrev pub NoneAt : Form → CostBox → ℕ → Type 0
NoneAt form box var = (side : Side) (value : ℕ) → IsSmaller box side var value → greatest form (removed box side var value) <ℤ pos 0 → ⊥

-- the form makes no range smaller of a variable before the given number
abbrev pub NoneBefore : Form → CostBox → ℕ → Type 0
NoneBefore form box count = (var : ℕ) → var < count → NoneAt form box var
