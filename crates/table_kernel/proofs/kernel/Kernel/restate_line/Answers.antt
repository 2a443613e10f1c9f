-- The line has the numbers of the place's form.
use Rattle.std.proofs.Common.{ap, sym, subst, arith, length}
use Rattle.design_problem.specs.declared.boxes.CostBox.{CostBox}
use Rattle.design_problem.specs.Basis.{IsFormOf}
use Rattle.table_kernel.proofs.Columns.{place_is}
use Rattle.table_kernel.proofs.Restated.{filled_all, filled_behind, filled_first, filled_kernel, filled_next, form_kept}
use Rattle.table_kernel.proofs.kernel.Kernel.restate_line.Goals as goal

pub loop-column-init : goal.loop-column-init
loop-column-init c = filled_first c.args.self.now c.restate_constant.new.self c.args.place c.restate_constant.ensures.keeps c.restate_constant.ensures.lines

pub restate_entry-requires-clause-kernel : goal.restate_entry-requires-clause-kernel
restate_entry-requires-clause-kernel c = filled_kernel c.args.self.now c.loop-column.self c.args.place c.loop-column.column c.loop-column.invariant
    c.requires.kernel

pub restate_entry-requires-clause-place : goal.restate_entry-requires-clause-place
restate_entry-requires-clause-place c = omega (arith, c.requires.place, ap (λ v. length v.items) c.loop-column.invariant.keeps.constants)

pub restate_entry-requires-clause-member : goal.restate_entry-requires-clause-member
restate_entry-requires-clause-member c =
    let t = c.args.self.now in
    form_kept t c.loop-column.self c.loop-column.invariant.keeps c.member_at-member.result
    (subst (IsFormOf t.table.costs t.table.rows.items) (sym c.member_at-member.ensures) (place_is t c.requires.kernel.shaped c.args.place c.requires.place))

pub restate_entry-requires-clause-column : goal.restate_entry-requires-clause-column
restate_entry-requires-clause-column c =
    omega (
      arith,
      c.loop-column-test.true,
      c.width-column-end.ensures,
      ap (λ (costs : CostBox). length costs.low) c.restate_constant.ensures.keeps.table.costs,
      ap (λ (costs : CostBox). length costs.low) c.loop-column.invariant.keeps.table.costs,
    )

pub restate_entry-requires-clause-zeros : goal.restate_entry-requires-clause-zeros
restate_entry-requires-clause-zeros c =
    filled_behind c.args.self.now c.loop-column.self c.args.place c.loop-column.column
    (omega (arith, c.requires.place, c.requires.kernel.shaped.lines)) c.loop-column.invariant

pub loop-column-preserved : goal.loop-column-preserved
loop-column-preserved c =
    filled_next c.args.self.now c.loop-column.self c.restate_entry.new.self c.args.place c.loop-column.column c.member_at-member.result
    (omega (arith, c.requires.place, c.requires.kernel.shaped.lines))
    (omega (
      arith,
      c.loop-column-test.true,
      c.width-column-end.ensures,
      ap (λ (costs : CostBox). length costs.low) c.restate_constant.ensures.keeps.table.costs,
    ))
    c.member_at-member.ensures
    c.loop-column.invariant c.restate_entry.ensures.keeps c.restate_entry.ensures.lines

pub returns-clause-lines : goal.returns-clause-lines
returns-clause-lines c =
    filled_all c.args.self.now c.loop-column.self c.args.place c.loop-column.column c.requires.kernel c.requires.place
    (omega (
      arith,
      c.loop-column-test.false,
      c.loop-column.auto.column-end,
      c.width-column-end.ensures,
      ap (λ (costs : CostBox). length costs.low) c.restate_constant.ensures.keeps.table.costs,
    )) c.loop-column.invariant

pub returns-clause-keeps : goal.returns-clause-keeps
returns-clause-keeps c = c.loop-column.invariant.keeps
