-- The products and their difference fit 128 bits.
use Rattle.integer_pivots.proofs.TurnLaws.{turned_fits, turned_is}
use Rattle.integer_pivots.proofs.turned_line.Turn.turned.Goals as goal

pub overflow_sub-result : goal.overflow_sub-result
overflow_sub-result c =
    turned_fits c.args.self c.args.number c.args.entering c.from.result c.from-2.result c.from-3.result c.from-4.result
    c.requires.multiplier c.requires.factor c.ranges.number c.ranges.entering c.from.ensures c.from-2.ensures c.from-3.ensures c.from-4.ensures

pub returns : goal.returns
returns c =
    turned_is c.args.self c.args.number c.args.entering c.from.result c.from-2.result c.from-3.result c.from-4.result
    c.requires.multiplier c.requires.factor c.ranges.number c.ranges.entering c.from.ensures c.from-2.ensures c.from-3.ensures c.from-4.ensures
