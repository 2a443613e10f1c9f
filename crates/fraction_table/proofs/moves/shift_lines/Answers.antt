-- The lines stay numbers of the table.
use Rattle.std.proofs.Common.{ℕ, ◌∙◌, Option, subst, sym, arith}
use Rattle.std.proofs.lemmas.Result.{err_from_is_err_and}
use Rattle.fraction_table.specs.Moves.{ShiftsWide}
use Rattle.fraction_lines.proofs.TableLineLaws.{lines_at, lines_set}
use Rattle.fraction_table.proofs.MoveLines.{lowered_shift, lowered_wide, raised_shift, zeroed}
use Rattle.fraction_table.proofs.moves.shift_lines.Goals as goal

pub lower_constant-requires-clause-some : goal.lower_constant-requires-clause-some
lower_constant-requires-clause-some c =
    let here = lines_at c.args.top c.requires.lines.0 c.args.lines.now c.args.own c.index-lines-own.result c.requires.lines.3 c.requires.own in
    omega (arith, here.0, c.requires.lines.1)

pub lower_constant-requires-clause-numbers : goal.lower_constant-requires-clause-numbers
lower_constant-requires-clause-numbers c =
    let here = lines_at c.args.top c.requires.lines.0 c.args.lines.now c.args.own c.index-lines-own.result c.requires.lines.3 c.requires.own in
    here.1

pub returns-in-None-clause-numbers : goal.returns-in-None-clause-numbers
returns-in-None-clause-numbers c count rows =
    let here = lines_at c.args.top count c.args.lines.now c.args.own c.index-lines-own.result rows c.requires.own in
    lines_set c.args.top count c.args.lines.now c.args.own c.lower_constant.new.line rows (c.lower_constant.ensures.width
    ∙ here.0) c.lower_constant.ensures.numbers

pub returns-in_ok-raise_constants-in-Some-clause-numbers : goal.returns-in_ok-raise_constants-in-Some-clause-numbers
returns-in_ok-raise_constants-in-Some-clause-numbers c count rows =
    let raised = c.raise_constants.ensures.numbers count rows in
    zeroed c.args.top count c.raise_constants.new.lines c.args.own c.index-lines-own-in-Some.result c.set_constant.new.self c.whole.result raised
    (omega (arith, c.raise_constants.ensures.count, c.requires.own)) c.whole.ensures c.set_constant.ensures

pub returns-in-None-clause-shifted : goal.returns-in-None-clause-shifted
returns-in-None-clause-shifted c =
    lowered_shift c.lower_constant.result c.args.column c.args.own c.args.fall c.args.lines.now c.index-lines-own.result
    c.lower_constant.new.line c.in-None.is c.requires.own c.lower_constant.ensures.lowered

pub returns-in-None-clause-wide : goal.returns-in-None-clause-wide
returns-in-None-clause-wide c =
    lowered_wide c.lower_constant.result c.args.top c.args.column c.args.own c.args.fall c.args.lines.now
    c.index-lines-own.result c.in-None.is c.requires.own c.lower_constant.ensures.named c.lower_constant.ensures.passes

pub returns-in_ok-raise_constants-in-Some-clause-shifted : goal.returns-in_ok-raise_constants-in-Some-clause-shifted
returns-in_ok-raise_constants-in-Some-clause-shifted c =
    raised_shift c.args.column c.in-Some.column c.args.own c.args.fall c.whole.result c.args.lines.now c.raise_constants.new.lines
    c.index-lines-own-in-Some.result c.set_constant.new.self c.in-Some.is
    (omega (arith, c.raise_constants.ensures.count, c.requires.own)) c.in_ok-raise_constants-in-Some.ensures.raised
    c.whole.ensures c.set_constant.ensures

pub returns-in_err-raise_constants-in-Some-clause-wide : goal.returns-in_err-raise_constants-in-Some-clause-wide
returns-in_err-raise_constants-in-Some-clause-wide c =
    let p = err_from_is_err_and c.from_residual.result c.from_residual.ensures.1 in
    let wide = c.in_err-raise_constants-in-Some.field-0.0 in
    rw (p.1, p.2)
    (subst (λ (o : Option ℕ). ShiftsWide c.args.top o c.args.own c.args.fall c.args.lines.now wide) (sym c.in-Some.is)
    c.in_err-raise_constants-in-Some.ensures.wide)

pub returns-in_err-raise_constants-in-Some-clause-numbers : goal.returns-in_err-raise_constants-in-Some-clause-numbers
returns-in_err-raise_constants-in-Some-clause-numbers c = c.raise_constants.ensures.numbers
