-- The rank of the table that the kernel stands for rises at each step.
use Rattle.std.proofs.Common.{◌<◌, ◌≤◌, sym, ◌∙◌, subst, List, arith}
use Rattle.whole_numbers.specs.Fractions.{Fraction}
use Rattle.fraction_table.specs.declared.stage.Stage.TheVariants.{Ended}
use Rattle.fraction_table.specs.declared.table.Table.{Table}
use Rattle.fraction_table.specs.Pivots.{IsAhead}
use Rattle.fraction_table.specs.Ranks.{rank}
use Rattle.fraction_table.specs.ValidTables.{IsShown}
use Rattle.fraction_table.proofs.Ranks.{nearer}
use Rattle.table_kernel.specs.Kernels.{stated}
use Rattle.table_kernel.proofs.AtBasis.{stated_lines}
use Rattle.table_kernel.proofs.Refusals.{on_err}
use Rattle.table_kernel.proofs.SameButRoom.{same_stated}
use Rattle.table_kernel.proofs.kernel.Kernel.settle.Goals as goal

pub pivots-smaller : goal.pivots-smaller
pivots-smaller c =
    let old = c.pivots.self in
    let new = c.advance.new.self in
    nearer (stated old) (stated new) c.in_ok-solved.ensures.kernel.tableau c.in_ok-solved.ensures.keeps
    (subst (IsAhead (stated old) (stated new)) c.in_default.is c.in_ok-solved.ensures.ahead)

-- the table's lines are the kernel's
pub returns-in-Some-clause-shown : goal.returns-in-Some-clause-shown
returns-in-Some-clause-shown c =
    let new = c.advance.new.self in
    subst (λ (lines : List (List Fraction)). IsShown new.table.basis.items lines (Ended c.in-Some.solved))
    (stated_lines new c.in_ok-solved.ensures.kernel.shaped)
    (subst (IsAhead (stated c.pivots.self) (stated new)) c.in-Some.is c.in_ok-solved.ensures.ahead)

-- where a pivot isn't covered, the table is as after the step before
pub returns-in_err-solved-clause-risen : goal.returns-in_err-solved-clause-risen
returns-in_err-solved-clause-risen c =
    let old = c.pivots.self in
    let new = c.advance.new.self in
    on_err c.from_residual.result
    (subst (λ (t : Table). rank (stated c.args.self.now) ≤ rank t) (sym (same_stated old new c.in_err-solved.ensures.same)) c.pivots.invariant.risen)

pub pivots-preserved : goal.pivots-preserved
pivots-preserved c =
    let old = c.pivots.self in
    let new = c.advance.new.self in
    let i = c.pivots.invariant in
    let told = c.in_ok-solved.ensures in
    let rises : rank (stated old) < rank (stated new) = subst (IsAhead (stated old) (stated new)) c.in_default.is told.ahead in
    record {
      kernel = told.kernel;
      keeps = record { top = told.keeps.top ∙ i.keeps.top; costs = told.keeps.costs ∙ i.keeps.costs; rows = told.keeps.rows ∙ i.keeps.rows };
      risen = omega (arith, i.risen, rises);
    }
