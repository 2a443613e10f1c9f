-- What a bound that moves makes of a kernel, and how far bounds may move.
use Rattle.std.specs.Prelude.{◌≡◌, ℕ, ◌+◌, ◌*◌, ◌^◌, ◌<◌, ◌≤◌, List, [], ◌∷◌, ℤ, pos, ◌+ℤ◌, ◌-ℤ◌, ◌*ℤ◌, nat_abs, Option, None, Some, map, length, slice_index_or, slice_set}
use Rattle.whole_numbers.specs.Lists.{number_at}
use Rattle.design_problem.specs.declared.boxes.CostBox.{CostBox}
use Rattle.design_problem.specs.declared.tree.Member.{Member}
use Rattle.fraction_table.specs.Moves.{IsColumnOf, put_at}
use Rattle.integer_pivots.specs.declared.line.Line.{Line}
use Rattle.integer_pivots.specs.Lines.{no_line, step_of}
use Rattle.table_kernel.specs.declared.kernel.Kernel.{Kernel}
use Rattle.table_kernel.specs.Numbers.{share_of}

-- a line of a kernel with another constant
abbrev pub with_constant : Line → ℤ → Line
with_constant line constant = record { denominator = line.denominator; constant = constant; numbers = line.numbers; reach = line.reach }

-- the line whose constant rises by its number at a column times the fall
abbrev pub raised_kernel_line : ℕ → ℤ → Line → Line
raised_kernel_line column fall line = with_constant line (line.constant +ℤ (fall *ℤ number_at line.numbers column))

-- The lines of x - low after the form x - low of a variable fell: its own constant is less by that many times its
-- denominator, where the form isn't in the basis; else each other rises by its number at that column times the fall,
-- and its own is 0.
abbrev pub lines_after_low : List Line → Option ℕ → ℕ → ℤ → List Line
lines_after_low lines None var fall =
    slice_set lines var (with_constant (slice_index_or lines var no_line)
    ((slice_index_or lines var no_line).constant -ℤ ((slice_index_or lines var no_line).denominator *ℤ fall)))
lines_after_low lines (Some column) var fall =
    slice_set (map (raised_kernel_line column fall) lines) var (with_constant (slice_index_or lines var no_line) (pos 0))

-- The lines of x - low after the form high - x of a variable fell: they stay where the form isn't in the basis; else
-- each rises by its number at that column times the fall.
abbrev pub lines_after_high : List Line → Option ℕ → ℤ → List Line
lines_after_high lines None fall = lines
lines_after_high lines (Some column) fall = map (raised_kernel_line column fall) lines

-- a kernel after a bound moved: but for its box, its basis and the constants of its lines it is as before
pub record KeepsInMove (old new : Kernel) : Type 0 where
  pub top : new.table.top ≡ old.table.top
  pub rows : new.table.rows ≡ old.table.rows
  pub lines : new.table.lines ≡ old.table.lines
  pub quotients : new.table.quotients ≡ old.table.quotients
  pub scratch : new.table.scratch ≡ old.table.scratch
  pub common : new.common ≡ old.common
  pub leads : new.leads ≡ old.leads
  pub constants : new.constants ≡ old.constants
  pub uses : new.uses ≡ old.uses
  pub turns : new.turns ≡ old.turns
  pub left : new.left ≡ old.left
  pub entering : new.entering ≡ old.entering

-- the basis after a bound's form fell, the member `after` in the place of `before`
pub record IsBasisMoved (old new : Kernel) (before after : Member) (column : Option ℕ) : Type 0 where
  pub found : IsColumnOf old.table.basis.items before column
  pub basis : new.table.basis.items ≡ put_at column after old.table.basis.items

-- the sum of the differences of two lists, place by place
abbrev pub distance_of : List ℕ → List ℕ → ℕ
distance_of [] ys = 0
distance_of (x ∷ xs) [] = 0
distance_of (x ∷ xs) (y ∷ ys) = nat_abs (pos y -ℤ pos x) + distance_of xs ys

-- how far the bounds of two boxes are from each other
abbrev pub box_distance : CostBox → CostBox → ℕ
box_distance old new = distance_of old.low new.low + distance_of old.high new.high

-- a line's constant stays within its limit where the bounds move this far
abbrev pub LineMayMove : ℕ → ℕ → Line → Type 0
LineMayMove common far line = (nat_abs line.constant + far * step_of line) * share_of common line ≤ 2 ^ 44

-- all of a kernel's constants of x - low stay within their limit where its bounds move this far in all
abbrev pub MayMove : Kernel → ℕ → Type 0
MayMove k far = (var : ℕ) → var < length k.lows.items → LineMayMove (nat_abs k.common) far (slice_index_or k.lows.items var no_line)

-- a move keeps the rows, the width, and all of the lines but their constants
pub record KeepsOfBox (old new : Kernel) : Type 0 where
  pub top : new.table.top ≡ old.table.top
  pub rows : new.table.rows ≡ old.table.rows
  pub width : length new.table.costs.low ≡ length old.table.costs.low
  pub common : new.common ≡ old.common
  pub lows : length new.lows.items ≡ length old.lows.items
