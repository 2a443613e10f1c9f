-- One row more is covered.
use Rattle.std.proofs.Common.{◌<◌, ◌≤◌, length, refl, subst, arith}
use Rattle.std.specs.Prelude.{All}
use Rattle.std.proofs.lemmas.List.{take_all}
use Rattle.std.proofs.lemmas.List.Elements.{All-more}
use Rattle.table_kernel.specs.Rows.{IsCovered}
use Rattle.table_kernel.proofs.kernel.Kernel.covers_rows.Goals as goal

pub loop-row-preserved : goal.loop-row-preserved
loop-row-preserved c =
    let rows = c.args.self.now.table.rows in
    let row = c.loop-row.row in
    let inside : row < length rows.items = omega (arith, c.loop-row-test.true, c.len-row-end.ensures, rows.ok.0) in
    All-more IsCovered rows.items row c.index.result.now inside c.loop-row.invariant
    (subst IsCovered c.index.ensures (c.if-not-covers.ensures.0 refl))

pub returns : goal.returns
returns c =
    let rows = c.args.self.now.table.rows in
    let row = c.loop-row.row in
    let past : length rows.items ≤ row = omega (arith, c.loop-row-test.false, c.len-row-end.ensures, rows.ok.0) in
    (λ covered. subst (All IsCovered) (take_all row rows.items past) c.loop-row.invariant, λ all. refl)
