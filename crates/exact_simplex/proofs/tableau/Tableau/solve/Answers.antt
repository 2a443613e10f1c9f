-- The table shows the answer, or the step that stopped it.
use Rattle.std.proofs.Common.{◌≡◌, subst, sym, true, false}
use Rattle.std.specs.Prelude.{Result, IfErr, IfOk, OnOk}
use Rattle.wide_fraction.specs.declared.steps.Wide.{Wide}
use Rattle.design_problem.specs.Steps.{IsStepTooWide}
use Rattle.fraction_table.specs.declared.stage.Solved.{Solved}
use Rattle.fraction_table.specs.declared.stage.Stage.TheVariants.{Ended}
use Rattle.fraction_table.specs.Tableaus.{IsAmongForms, IsSolved, wide_at}
use Rattle.fraction_table.specs.ValidTables.{IsShown}
use Rattle.exact_simplex.specs.Actives.{IsActive, IsSoundActive, TableauState, WasHeldUp, held_by, table_of}
use Rattle.exact_simplex.proofs.Actives.{cannot_return_then, ended, held_up_at, settled_among_forms, settled_rightly, stopped}
use Rattle.exact_simplex.proofs.tableau.Tableau.solve.Goals.{in-Ok, in-Err}
use Rattle.exact_simplex.proofs.tableau.Tableau.solve.Goals as goal

pub invariant_of-self : goal.invariant_of-self
invariant_of-self c =
    let a = c.settle-settled.new.self in
    let t = a.kernel.table in
    let left = c.settle-settled.ensures in
    elim c.match-settled.branch [
      | in-Ok w ↦
          subst (IsSoundActive a) (sym w.self-is)
          (ended a w.in-Ok.solved (subst (λ (r : Result Solved Wide). OnOk r (IsActive a)) w.in-Ok.is left.active)
          (subst (λ (r : Result Solved Wide). IfOk r (λ solved. IsShown t.basis.items (table_of a).lines.items (Ended solved))) w.in-Ok.is left.shown))
      | in-Err w ↦
          subst (IsSoundActive a) (sym w.self-is)
          (stopped a w.in-Err.wide (subst
          (λ (r : Result Solved Wide).
          IfErr r (λ wide. IsStepTooWide t.top t.costs t.rows.items (wide_at wide t.basis.items))) w.in-Err.is
          left.wide) left.room)
    ]

pub returns-clause-solved : goal.returns-clause-solved
returns-clause-solved c =
    subst (λ (t : TableauState). IfOk c.settle-settled.result (λ solved. IsSolved t.costs t.rows solved)) c.self.view_is
    (settled_rightly c.self.inside.table.kernel.table c.settle-settled.new.self c.settle-settled.result
    c.settle-settled.ensures.keeps c.settle-settled.ensures.active c.settle-settled.ensures.shown)

pub returns-clause-among : goal.returns-clause-among
returns-clause-among c =
    subst (λ (t : TableauState). IfOk c.settle-settled.result (IsAmongForms t.costs t.rows)) c.self.view_is
    (settled_among_forms c.self.inside.table.kernel.table c.settle-settled.new.self c.settle-settled.result
    c.settle-settled.ensures.keeps c.settle-settled.ensures.active c.settle-settled.ensures.shown)

pub returns-clause-left : goal.returns-clause-left
returns-clause-left c =
    subst (λ (t : TableauState). t.in_kernel ≡ true → c.settle-settled.new.self.in_kernel ≡ false → WasHeldUp (held_by t)) c.self.view_is
    (λ was_in is_out. held_up_at c.self.inside.table.kernel.table c.self.inside.stage (c.settle-settled.ensures.left was_in is_out))

pub returns-clause-back : goal.returns-clause-back
returns-clause-back c =
    cannot_return_then c.settle-settled.result c.settle-settled.new.self c.match-settled.self c.settle-settled.ensures.active c.settle-settled.ensures.back
