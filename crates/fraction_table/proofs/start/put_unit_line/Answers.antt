-- The line of zeros gets its constant and its entry.
use Rattle.std.proofs.Common.{◌≡◌, suc, ◌∙◌, ap, ◌∷◌, length, map, arith}
use Rattle.cost_base.specs.Lists.{numbers_from}
use Rattle.whole_numbers.specs.Fractions.{whole}
use Rattle.design_problem.specs.Basis.{entry}
use Rattle.fraction_lines.specs.TableLines.{nothing}
use Rattle.fraction_lines.proofs.BlankLines.{blank_entry, blank_size, cleared_set}
use Rattle.fraction_table.proofs.Shifts.{kept_number}
use Rattle.fraction_table.proofs.StartLines.{entry_set, unit_line_numbers}
use Rattle.fraction_table.proofs.start.put_unit_line.Goals as goal

pub push-requires-clause-within : goal.push-requires-clause-within
push-requires-clause-within c =
    let row_is = cleared_set c.args.line.now c.clear.new.self c.set_constant.new.self c.args.width c.whole.result c.requires.width
    c.clear.ensures c.set_constant.ensures in
    let counted : length c.set_constant.new.self ≡ suc c.args.width = ap length row_is ∙ blank_size c.args.width in
    omega (arith, counted, c.requires.var)

pub push-requires-clause-last : goal.push-requires-clause-last
push-requires-clause-last c later after later_in =
    ap (λ row. entry row (suc later))
    (cleared_set c.args.line.now c.clear.new.self c.set_constant.new.self c.args.width c.whole.result c.requires.width
    c.clear.ensures c.set_constant.ensures)
    ∙ blank_entry c.args.width (suc later)

pub returns-clause-line : goal.returns-clause-line
returns-clause-line c =
    let row_is = cleared_set c.args.line.now c.clear.new.self c.set_constant.new.self c.args.width c.whole.result c.requires.width
    c.clear.ensures c.set_constant.ensures in
    entry_set c.set_constant.new.self c.push.new.self c.args.width c.args.form.var c.args.form.constant c.args.form.coefficient c.whole-2.result c.requires.var
    (row_is ∙ ap (λ q. q ∷ map (λ column. nothing) (numbers_from 0 c.args.width)) (c.whole.ensures
    ∙ ap whole (kept_number c.args.form.constant c.requires.constant_small)))
    (c.whole-2.ensures ∙ ap whole (kept_number c.args.form.coefficient c.requires.coefficient_small)) c.push.ensures

pub returns-clause-numbers : goal.returns-clause-numbers
returns-clause-numbers c =
    let row_is = cleared_set c.args.line.now c.clear.new.self c.set_constant.new.self c.args.width c.whole.result c.requires.width
    c.clear.ensures c.set_constant.ensures in
    unit_line_numbers c.args.top c.push.new.self c.args.width c.args.form.var c.args.form.constant c.args.form.coefficient
    c.value.ensures.width c.requires.constant_small c.requires.coefficient_small
    (entry_set c.set_constant.new.self c.push.new.self c.args.width c.args.form.var c.args.form.constant c.args.form.coefficient c.whole-2.result c.requires.var
    (row_is ∙ ap (λ q. q ∷ map (λ column. nothing) (numbers_from 0 c.args.width)) (c.whole.ensures
    ∙ ap whole (kept_number c.args.form.constant c.requires.constant_small)))
    (c.whole-2.ensures ∙ ap whole (kept_number c.args.form.coefficient c.requires.coefficient_small)) c.push.ensures)
