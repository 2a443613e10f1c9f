-- A column that is less stands alone, a level one joins, and a greater one is passed over.
use Rattle.std.proofs.Common.{◌∙◌, sym, arith, Less, Equal, Greater}
use Rattle.std.proofs.lemmas.Cmp.{int_ranked}
use Rattle.integer_pivots.proofs.Narrowing.{IsUnderway, column_positive, equal_step, first_positive, greater_step, less_step, rest_follows, rest_stays}
use Rattle.integer_pivots.proofs.choice.put_least.Goals.{In-loop-index}
use Rattle.integer_pivots.proofs.choice.put_least.Goals as goal
use Rattle.integer_pivots.proofs.choice.put_least.Goals.{in-Equal, in-Greater, in-Less}

-- the columns are on their way to the least ones
underway : (c : In-loop-index) → IsUnderway c.args.numbers.now c.args.line.now c.args.left.now c.loop-index.left c.loop-index.kept c.loop-index.index
underway c = record {
  each = c.requires.positive;
  some = c.loop-index.invariant.some;
  index_in = omega arith;
  same = c.loop-index.auto.left;
  rest = c.loop-index.invariant.rest;
  least = c.loop-index.invariant.least;
}

pub column_order-requires-clause-column : goal.column_order-requires-clause-column
column_order-requires-clause-column c =
    let s = underway (goal.at.column_order-requires-clause-column c).In-loop-index in
    (column_positive c.args.numbers.now c.args.line.now c.args.left.now c.loop-index.left c.loop-index.kept c.loop-index.index s).0

pub column_order-requires-clause-other : goal.column_order-requires-clause-other
column_order-requires-clause-other c =
    let s = underway (goal.at.column_order-requires-clause-other c).In-loop-index in
    (first_positive c.args.numbers.now c.args.line.now c.args.left.now c.loop-index.left c.loop-index.kept c.loop-index.index s).0

pub column_order-requires-clause-positive : goal.column_order-requires-clause-positive
column_order-requires-clause-positive c =
    let s = underway (goal.at.column_order-requires-clause-positive c).In-loop-index in
    (first_positive c.args.numbers.now c.args.line.now c.args.left.now c.loop-index.left c.loop-index.kept c.loop-index.index s).1

pub loop-index-preserved : goal.loop-index-preserved
loop-index-preserved c =
    let ns = c.args.numbers.now in
    let line = c.args.line.now in
    let olds = c.args.left.now in
    let now = c.loop-index.left in
    let kept = c.loop-index.kept in
    let index = c.loop-index.index in
    let s = underway (goal.at.loop-index-preserved c).In-loop-index in
    elim c.match-column_order.branch [
      | in-Less w ↦ rw (w.left-is, w.kept-is) record {
        some = (omega arith, omega arith);
        rest = rest_stays ns line olds now kept index s 0 _ (omega arith);
        least = less_step ns line olds now kept index s (int_ranked _ _ Less (sym w.in-Less.is ∙ c.column_order.ensures));
      }
      | in-Equal w ↦ rw (w.left-is, w.kept-is) record {
        some = (omega arith, omega arith);
        rest = rest_stays ns line olds now kept index s kept _ (omega arith);
        least = equal_step ns line olds now kept index s (int_ranked _ _ Equal (sym w.in-Equal.is ∙ c.column_order.ensures));
      }
      | in-Greater w ↦ rw (w.left-is, w.kept-is) record {
        some = (omega arith, omega arith);
        rest = rest_follows ns line olds now kept index s;
        least = greater_step ns line olds now kept index s (int_ranked _ _ Greater (sym w.in-Greater.is ∙ c.column_order.ensures));
      }
    ]
