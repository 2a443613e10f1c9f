-- The columns are compared at each line, until one shows a difference.
use Rattle.std.proofs.Common.{◌≡◌, ℕ, ◌<◌, ◌≤◌, suc, ◌∙◌, ap, sym, subst, List, length, arith}
use Rattle.std.proofs.lemmas.Result.{err_from_is_err_and}
use Rattle.cost_base.specs.declared.StepName.TheVariants.{Div, Mul}
use Rattle.whole_numbers.specs.Fractions.{Fraction, divided}
use Rattle.wide_fraction.specs.declared.steps.Wide.{Wide}
use Rattle.design_problem.specs.Basis.{entry}
use Rattle.fraction_lines.specs.TableLines.{AreTableNumbers}
use Rattle.fraction_table.specs.Pivots.{line_at}
use Rattle.fraction_table.proofs.Pivots.{line_long, line_read, lines_long, whole_line}
use Rattle.fraction_table.proofs.Choices.{found_order, greater_ordered, less_ordered, level_more, level_ordered, multiple_wide, ratio_wide}
use Rattle.fraction_table.proofs.table.Table.precedes.Goals.{After-index-in-loop-place}
use Rattle.fraction_table.proofs.table.Table.precedes.Goals as goal

-- the loop's place is one of the lines, and its line was read
place_in : (c : After-index-in-loop-place) → c.loop-place.place < length c.args.self.now.lines.items
place_in c = omega (arith, c.loop-place-test.true, ap length c.as_slice-place-end.ensures, lines_long c.args.self.now c.requires.tableau)

place_read : (c : After-index-in-loop-place) → c.index-in-loop-place.result.now ≡ line_at c.args.self.now c.loop-place.place
place_read c =
    line_read c.args.self.now c.loop-place.place c.index-in-loop-place.result.now c.index-in-loop-place.ensures (place_in c)

-- and it has an entry in each column
entry_in : (c : After-index-in-loop-place) (k : ℕ) →
    (1 ≤ suc k) × (suc k ≤ length c.args.self.now.basis.items) → suc k < length c.index-in-loop-place.result.now
entry_in c k k_in =
    let t = c.args.self.now in
    omega (arith, ap length (place_read c), line_long t c.requires.tableau c.loop-place.place (place_in c), k_in, c.requires.tableau.unboxed.count)

pub entry_quotient-requires-clause-numbers : goal.entry_quotient-requires-clause-numbers
entry_quotient-requires-clause-numbers c =
    let t = c.args.self.now in
    subst (AreTableNumbers t.top) (sym (line_read t c.args.line c.index.result.now c.index.ensures c.requires.line))
    (whole_line t c.requires.tableau c.args.line c.requires.line).numbers

pub returns-in_err-quotient-clause-wide : goal.returns-in_err-quotient-clause-wide
returns-in_err-quotient-clause-wide c =
    let p = err_from_is_err_and c.from_residual.result c.from_residual.ensures.1 in
    let t = c.args.self.now in
    let row_is = line_read t c.args.line c.index.result.now c.index.ensures c.requires.line in
    rw (p.1, p.2)
    (ratio_wide t c.requires.tableau c.args.line c.args.column c.args.other c.in_err-quotient.field-0.0 c.requires.line c.requires.column c.requires.other
    (c.in_err-quotient.ensures.named
    ∙ ap {B = Wide} (λ (row : List Fraction).
    record { step = Div; left = entry row (suc c.args.other); right = entry row (suc c.args.column) }) row_is)
    c.in_err-quotient.ensures.passes)

pub index-requires-in-loop-place : goal.index-requires-in-loop-place
index-requires-in-loop-place c =
    let t = c.args.self.now in
    omega (arith, c.loop-place-test.true, ap length c.as_slice-place-end.ensures, lines_long t c.requires.tableau, t.lines.ok.0)

pub entry_order-requires-clause-column : goal.entry_order-requires-clause-column
entry_order-requires-clause-column c =
    entry_in (goal.at.entry_order-requires-clause-column c).After-index-in-loop-place c.args.column c.requires.column.column

pub entry_order-requires-clause-other : goal.entry_order-requires-clause-other
entry_order-requires-clause-other c =
    entry_in (goal.at.entry_order-requires-clause-other c).After-index-in-loop-place c.args.other c.requires.other.column

pub entry_order-requires-clause-numbers : goal.entry_order-requires-clause-numbers
entry_order-requires-clause-numbers c =
    let t = c.args.self.now in
    let at = (goal.at.entry_order-requires-clause-numbers c).After-index-in-loop-place in
    subst (AreTableNumbers t.top) (sym (place_read at)) (whole_line t c.requires.tableau c.loop-place.place (place_in at)).numbers

pub returns-in_err-order-clause-wide : goal.returns-in_err-order-clause-wide
returns-in_err-order-clause-wide c =
    let p = err_from_is_err_and c.from_residual-in_err-order.result c.from_residual-in_err-order.ensures.1 in
    let t = c.args.self.now in
    let q = c.in_ok-quotient.quotient in
    let at = (goal.at.returns-in_err-order-clause-wide c).After-index-in-loop-place in
    let row_is = line_read t c.args.line c.index.result.now c.index.ensures c.requires.line in
    rw (p.1, p.2)
    (multiple_wide t c.requires.tableau c.args.line c.args.column c.args.other c.loop-place.place q
    c.in_err-order.field-0.0 c.requires.line c.requires.column c.requires.other (place_in at)
    (c.in_ok-quotient.ensures.exact
    ∙ ap {B = Fraction} (λ (row : List Fraction).
    divided (entry row (suc c.args.other)) (entry row (suc c.args.column))) row_is)
    (c.in_err-order.ensures.named
    ∙ ap {B = Wide} (λ (fs : List Fraction). record { step = Mul; left = entry fs (suc c.args.column); right = q }) (place_read at))
    c.in_err-order.ensures.passes)

pub returns-in-Less-clause-order : goal.returns-in-Less-clause-order
returns-in-Less-clause-order c =
    let t = c.args.self.now in
    let low_in : c.loop-place.place < length t.costs.low = omega (arith, c.loop-place-test.true, ap length c.as_slice-place-end.ensures) in
    let row_is = line_read t c.args.line c.index.result.now c.index.ensures c.requires.line in
    let fs_are = place_read (goal.at.returns-in-Less-clause-order c).After-index-in-loop-place in
    less_ordered t c.args.line c.args.column c.args.other c.loop-place.place c.requires.line c.requires.column c.requires.other low_in c.loop-place.invariant
    (found_order t c.args.line c.loop-place.place c.args.column c.args.other c.index.result.now
    c.index-in-loop-place.result.now c.in_ok-quotient.quotient c.in_ok-order.order _ row_is fs_are
    c.in_ok-quotient.ensures.exact c.in_ok-order.ensures.order c.in-Less.is)

pub returns-in-Greater-clause-order : goal.returns-in-Greater-clause-order
returns-in-Greater-clause-order c =
    let t = c.args.self.now in
    let low_in : c.loop-place.place < length t.costs.low = omega (arith, c.loop-place-test.true, ap length c.as_slice-place-end.ensures) in
    let row_is = line_read t c.args.line c.index.result.now c.index.ensures c.requires.line in
    let fs_are = place_read (goal.at.returns-in-Greater-clause-order c).After-index-in-loop-place in
    greater_ordered t c.args.line c.args.column c.args.other c.loop-place.place c.requires.line c.requires.column c.requires.other low_in c.loop-place.invariant
    (found_order t c.args.line c.loop-place.place c.args.column c.args.other c.index.result.now
    c.index-in-loop-place.result.now c.in_ok-quotient.quotient c.in_ok-order.order _ row_is fs_are
    c.in_ok-quotient.ensures.exact c.in_ok-order.ensures.order c.in-Greater.is)

pub loop-place-preserved : goal.loop-place-preserved
loop-place-preserved c =
    let t = c.args.self.now in
    let low_in : c.loop-place.place < length t.costs.low = omega (arith, c.loop-place-test.true, ap length c.as_slice-place-end.ensures) in
    let row_is = line_read t c.args.line c.index.result.now c.index.ensures c.requires.line in
    let fs_are = place_read (goal.at.loop-place-preserved c).After-index-in-loop-place in
    level_more t c.args.line c.args.column c.args.other c.loop-place.place c.loop-place.invariant
    (found_order t c.args.line c.loop-place.place c.args.column c.args.other c.index.result.now
    c.index-in-loop-place.result.now c.in_ok-quotient.quotient c.in_ok-order.order _ row_is fs_are
    c.in_ok-quotient.ensures.exact c.in_ok-order.ensures.order c.in-Equal.is)

pub returns-clause-order : goal.returns-clause-order
returns-clause-order c =
    let t = c.args.self.now in
    level_ordered t c.args.line c.args.column c.args.other c.requires.line c.requires.column c.requires.other
    (λ u u_in. c.loop-place.invariant u (omega (arith, u_in, c.loop-place-test.false, ap length c.as_slice-place-end.ensures)))
