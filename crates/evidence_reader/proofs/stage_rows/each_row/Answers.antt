use Rattle.std.proofs.Common.{◌+◌, ◌-◌, [], ap, length, length-append, ◌∷◌, arith}
use Rattle.std.proofs.lemmas.Result.{err_from_is_err_and}
use Rattle.evidence_reader.proofs.CountedLines.{rows_begin, row_more, row_stop, rows_done}
use Rattle.evidence_reader.proofs.stage_rows.each_row.Goals as goal

pub loop-init : goal.loop-init
loop-init c = record {
  count_is = ap length c.new-rows.ensures.items;
  goes = rows_begin c.args.count c.args.text.read c.args.text.left.now c.new-rows.result.items c.new-rows.ensures.items;
}

pub loop-preserved : goal.loop-preserved
loop-preserved c =
    let i = c.loop.counter in
    let rows = c.loop.rows.items in
    let row = c.in_ok-row.row in
    let grown = c.in_ok-push.ensures.items in
    let read = c.in_ok-row.ensures (c.args.count - (i + 1)) in
    record {
      count_is = omega (arith, ap length grown, length-append rows (row ∷ []), c.loop.invariant.count_is);
      goes = row_more c.args.count i rows c.push.new.self.items row c.loop-test.true grown c.loop.invariant.goes read;
    }

pub returns-in_err-row : goal.returns-in_err-row
returns-in_err-row c =
    let p = err_from_is_err_and c.from_residual.result c.from_residual.ensures.1 in
    let i = c.loop.counter in
    rw (p.1, p.2) (row_stop c.args.count i c.loop.rows.items _ c.loop-test.true c.loop.invariant.goes (c.in_err-row.ensures (c.args.count - (i + 1))))

pub returns : goal.returns
returns c = (
  omega (arith, c.loop.invariant.count_is),
  rows_done c.args.count c.loop.counter c.loop.rows.items c.loop-test.false c.loop.invariant.goes,
)
