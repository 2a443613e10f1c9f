-- Rounds of work in either representation: the rank of the table that is worked on rises, until an answer is shown.
use Rattle.std.proofs.Common.{◌≡◌, ℕ, ◌≤◌, refl, sym, ◌∙◌, subst, Bool, true, false, arith}
use Rattle.std.specs.declared.result.Result.TheVariants.{Ok, Err}
use Rattle.std.specs.Prelude.{Result, IfOk, None, Option, Some}
use Rattle.wide_fraction.specs.declared.steps.Wide.{Wide}
use Rattle.fraction_table.specs.declared.stage.Solved.{Solved}
use Rattle.fraction_table.specs.declared.stage.Stage.TheVariants.{Ended, Open}
use Rattle.fraction_table.specs.declared.table.Table.{Table}
use Rattle.fraction_table.specs.Pivots.{IsAhead, KeepsBoxAndRows}
use Rattle.fraction_table.specs.Ranks.{rank}
use Rattle.fraction_table.specs.ValidTables.{IsShown, held_of}
use Rattle.table_kernel.specs.declared.kernel.Kernel.{Kernel}
use Rattle.table_kernel.specs.Kernels.{IsKernel, kernel_lines, stated}
use Rattle.table_kernel.proofs.AtBasis.{stated_lines}
use Rattle.exact_simplex.specs.declared.active.ActiveTable.{ActiveTable}
use Rattle.exact_simplex.specs.Actives.{WasHeldUp, table_in, table_of}
use Rattle.exact_simplex.proofs.Actives.{clash, forms_in, kernel_shown, shown_in}

-- tables of one box with the same lines have the same rank
pub rank_same : (old new : Table) → new.top ≡ old.top → new.costs ≡ old.costs → new.lines.items ≡ old.lines.items → rank new ≡ rank old
rank_same old new top costs lines = rw (top, costs, lines) refl

-- the box and the rows are the same in either representation
pub forms_from : (b : Bool) (k : Kernel) (new : Table) → KeepsBoxAndRows k.table new → KeepsBoxAndRows (table_in b k) new
forms_from true k new keeps = record { top = keeps.top; costs = keeps.costs; rows = keeps.rows }
forms_from false k new keeps = keeps

pub forms_between : (old new : ActiveTable) → KeepsBoxAndRows old.kernel.table new.kernel.table → KeepsBoxAndRows (table_of old) (table_of new)
forms_between old new keeps =
    forms_from old.in_kernel old.kernel (table_of new) (forms_in new.in_kernel new.kernel old.kernel.table keeps)

pub keeps_both : (old mid new : Table) → KeepsBoxAndRows old mid → KeepsBoxAndRows mid new → KeepsBoxAndRows old new
keeps_both old mid new first second =
    record { top = second.top ∙ first.top; costs = second.costs ∙ first.costs; rows = second.rows ∙ first.rows }

-- a step from a table of a higher rank is one
ahead_from : (start mid new : Table) (found : Option Solved) → rank start ≤ rank mid → IsAhead mid new found → IsAhead start new found
ahead_from start mid new None risen ahead = omega (arith, risen, ahead)
ahead_from start mid new (Some solved) risen ahead = ahead

-- the table that a kernel stands for isn't the lesser where it is put down in fractions
risen_down : (b : Bool) (old mid : Kernel) (t : Table) → b ≡ true → IsKernel mid → rank (stated old) ≤ rank (stated mid) →
    KeepsBoxAndRows mid.table t → t.lines.items ≡ kernel_lines mid → rank (table_in b old) ≤ rank t
risen_down true old mid t was_in kernel risen keeps lines =
    subst (λ (n : ℕ). rank (stated old) ≤ n) (sym (rank_same (stated mid) t keeps.top keeps.costs (lines ∙ sym (stated_lines mid kernel.shaped)))) risen
risen_down false old mid t was_in kernel risen keeps lines = absurd (clash was_in)

-- a kernel that got as far as its bounds cover, put down in fractions
pub risen_left : (old : ActiveTable) (mid : Kernel) (t : Table) → old.in_kernel ≡ true → IsKernel mid →
    rank (stated old.kernel) ≤ rank (stated mid) → KeepsBoxAndRows mid.table t → t.lines.items ≡ kernel_lines mid →
    rank (table_of old) ≤ rank t
risen_left old mid t = risen_down old.in_kernel old.kernel mid t

risen_level : (b : Bool) (k : Kernel) → b ≡ false → rank (table_in b k) ≤ rank k.table
risen_level true k out = absurd (clash (sym out))
risen_level false k out = omega arith

-- and the table in fractions, where it is worked on
pub risen_beside : (old : ActiveTable) → old.in_kernel ≡ false → rank (table_of old) ≤ rank old.kernel.table
risen_beside old out = risen_level old.in_kernel old.kernel out

-- a step from there is one of the whole round
pub ahead_after : (start mid new : Table) (found : Result (Option Solved) Wide) → rank start ≤ rank mid →
    IfOk found (IsAhead mid new) → IfOk found (IsAhead start new)
ahead_after start mid new (Ok solved) risen ahead = ahead_from start mid new solved risen ahead
ahead_after start mid new (Err wide) risen ahead = tt

-- a kernel's answer is shown by the table that is worked on
pub shown_by_kernel : (b : Bool) (k : Kernel) (solved : Solved) → b ≡ true → IsKernel k →
    IsShown k.table.basis.items (kernel_lines k) (Ended solved) →
    IsShown (table_in b k).basis.items (table_in b k).lines.items (Ended solved)
shown_by_kernel b k solved is kernel shown = shown_in b k solved (kernel_shown b k solved is kernel shown)

-- a cause for which an earlier table left the kernel is one for a later table of the same box and rows
held_from : (old mid : Table) → KeepsBoxAndRows old mid → WasHeldUp (held_of mid Open) → WasHeldUp (held_of old Open)
held_from old mid keeps was =
    record {
      kernel = was.kernel;
      whole = was.whole;
      top = was.top ∙ keeps.top;
      costs = was.costs ∙ keeps.costs;
      rows = was.rows ∙ keeps.rows;
      held_up = was.held_up;
    }

-- the kernel was left before a round or in it
pub left_then : (b : Bool) (old mid : Table) (out : Bool) → KeepsBoxAndRows old mid → (b ≡ false → WasHeldUp (held_of old Open)) →
    (b ≡ true → out ≡ false → WasHeldUp (held_of mid Open)) → out ≡ false → WasHeldUp (held_of old Open)
left_then true old mid out keeps before then is_out = held_from old mid keeps (then refl is_out)
left_then false old mid out keeps before then is_out = before refl
