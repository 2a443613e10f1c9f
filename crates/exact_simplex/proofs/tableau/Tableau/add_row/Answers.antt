-- The table is whole with the row, or stopped at a step of the row's line.
use Rattle.std.proofs.Common.{subst, sym}
use Rattle.std.specs.Prelude.{Result, IfErr, OnOk}
use Rattle.wide_fraction.specs.declared.steps.Wide.{Wide}
use Rattle.design_problem.specs.Steps.{IsStepTooWide}
use Rattle.fraction_table.specs.Tableaus.{wide_at}
use Rattle.exact_simplex.specs.Actives.{IsActive, IsSoundActive}
use Rattle.exact_simplex.proofs.Actives.{opened, stopped}
use Rattle.exact_simplex.proofs.tableau.Tableau.add_row.Goals.{in-Ok, in-Err}
use Rattle.exact_simplex.proofs.tableau.Tableau.add_row.Goals as goal

pub invariant_of-self-2 : goal.invariant_of-self-2
invariant_of-self-2 c =
    let a = c.put_row-put.new.self in
    let t = a.kernel.table in
    let put = c.put_row-put.ensures in
    elim c.match-put.branch [
      | in-Ok w ↦
          subst (IsSoundActive a) (sym w.self-is)
          (opened a (subst (λ (r : Result (Unit {0}) Wide). OnOk r (IsActive a)) w.in-Ok.is put.active))
      | in-Err w ↦
          subst (IsSoundActive a) (sym w.self-is)
          (stopped a w.in-Err.step (subst
          (λ (r : Result (Unit {0}) Wide).
          IfErr r (λ wide. IsStepTooWide t.top t.costs t.rows.items (wide_at wide t.basis.items))) w.in-Err.is
          put.wide) put.room)
    ]
