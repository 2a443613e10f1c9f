-- The quotients are made, each line is turned, and the line's form enters the basis.
use Rattle.std.proofs.Common.{◌<◌, ◌≡◌, ℕ, suc, Vec, refl, ◌∙◌, ap, sym, subst, List, map, length, arith}
use Rattle.std.specs.Prelude.{pos, slice_set}
use Rattle.std.specs.Vec.{with_items}
use Rattle.std.proofs.lemmas.List.{with_items_is, length-map}
use Rattle.std.proofs.lemmas.Result.{err_from_is_err_and}
use Rattle.whole_numbers.specs.Fractions.{Fraction, divided, whole}
use Rattle.design_problem.specs.declared.tree.Member.{Member}
use Rattle.design_problem.specs.Basis.{entry}
use Rattle.fraction_lines.specs.TableLines.{AreTableNumbers, IsWideStep, divided_without}
use Rattle.fraction_lines.specs.Turns.{AreTableLines, IsQuotientStepOf, TurnsWide}
use Rattle.fraction_table.specs.ValidTables.{IsTableauOf}
use Rattle.fraction_table.specs.Pivots.{line_at, member_at}
use Rattle.fraction_table.specs.Ranks.{digits_number, heights, past_heights, rank}
use Rattle.fraction_lines.proofs.TableLineLaws.{number_at as number_there}
use Rattle.fraction_table.proofs.IntegralTurns.{turned_line}
use Rattle.fraction_lines.proofs.PivotSteps.{quotient_own}
use Rattle.fraction_table.proofs.Pivots.{inverse_not_zero, line_long, line_read, member_in, news_turned, pivot_whole, quotients_wide, turning_wide, whole_line, whole_rows}
use Rattle.fraction_table.proofs.Ranks.{rank_rises}
use Rattle.fraction_table.proofs.table.Table.pivot.Goals.{In_ok-turn_lines}
use Rattle.fraction_table.proofs.table.Table.pivot.Goals as goal

-- the lines are what was written into them
lines_kept : {X Z : Type 0} (rows : Vec X Z) (news : List X) → length news ≡ length rows.items → (with_items rows news).items ≡ news
lines_kept rows news counted = with_items_is rows news (omega (arith, counted, rows.ok.0))

pub member_at-member-requires-clause-line : goal.member_at-member-requires-clause-line
member_at-member-requires-clause-line c = member_in c.args.self.now c.requires.tableau c.args.line c.requires.pivot.line_in

pub take_quotients-requires-clause-width : goal.take_quotients-requires-clause-width
take_quotients-requires-clause-width c =
    c.requires.room.quotients ∙ sym (line_long c.args.self.now c.requires.tableau c.args.line c.requires.pivot.line_in)
    ∙ ap length (sym (line_read c.args.self.now c.args.line c.index.result.now c.index.ensures c.requires.pivot.line_in))

pub take_quotients-requires-clause-numbers : goal.take_quotients-requires-clause-numbers
take_quotients-requires-clause-numbers c =
    let t = c.args.self.now in
    subst (AreTableNumbers t.top) (sym (line_read t c.args.line c.index.result.now c.index.ensures c.requires.pivot.line_in))
    (whole_line t c.requires.tableau c.args.line c.requires.pivot.line_in).numbers

pub returns-in_err-inverse-clause-wide : goal.returns-in_err-inverse-clause-wide
returns-in_err-inverse-clause-wide c =
    let p = err_from_is_err_and c.from_residual.result c.from_residual.ensures.1 in
    let t = c.args.self.now in
    let wide = c.in_err-inverse.field-0.0 in
    rw (p.1, p.2)
    (quotients_wide t c.requires.tableau c.args.line c.args.column c.requires.pivot.line_in c.requires.pivot.pivot wide
    (subst (λ (row : List Fraction). IsWideStep t.top (IsQuotientStepOf row (suc c.args.column)) wide.step wide.left
    wide.right) (line_read t c.args.line c.index.result.now c.index.ensures c.requires.pivot.line_in)
    c.in_err-inverse.ensures.wide))

pub turn_lines-requires-clause-lines : goal.turn_lines-requires-clause-lines
turn_lines-requires-clause-lines c =
    let t = c.args.self.now in
    subst (λ (count : ℕ). AreTableLines t.top count c.as_mut_slice.result.now) (sym (c.take_quotients.ensures.width ∙ c.requires.room.quotients))
    (subst (AreTableLines t.top (suc (length t.costs.low))) (sym c.as_mut_slice.ensures.value) (whole_rows t c.requires.tableau))

pub turn_lines-requires-clause-pivot : goal.turn_lines-requires-clause-pivot
turn_lines-requires-clause-pivot c =
    let t = c.args.self.now in
    let row = c.index.result.now in
    let row_is = line_read t c.args.line row c.index.ensures c.requires.pivot.line_in in
    let long = line_long t c.requires.tableau c.args.line c.requires.pivot.line_in in
    let counted = c.requires.tableau.unboxed.count in
    let here = number_there t.top (line_at t c.args.line) (suc c.args.column)
    (whole_line t c.requires.tableau c.args.line c.requires.pivot.line_in).numbers
    (omega (arith, long, c.requires.pivot.pivot.column, counted)) in
    record {
      place_in = omega (arith, c.take_quotients.ensures.width, c.requires.room.quotients, c.requires.pivot.pivot.column, counted);
      line = record { counted = refl; numbers = c.in_ok-inverse.ensures.divided.numbers };
      none_there =
          ap (λ (qs : List Fraction). entry qs (suc c.args.column)) c.in_ok-inverse.ensures.divided.quotients_are
          ∙ quotient_own (suc c.args.column) (entry row (suc c.args.column)) row
          (omega (arith, ap length row_is, long, c.requires.pivot.pivot.column, counted));
      inverse_number = c.in_ok-inverse.ensures.divided.inverse_number;
      not_zero = λ none.
          inverse_not_zero (entry (line_at t c.args.line) (suc c.args.column)) here.lowest.positive c.requires.pivot.pivot.above
          (ap (λ (r : List Fraction). (divided (whole (pos 1)) (entry r (suc c.args.column))).numerator) (sym row_is)
          ∙ ap (λ (q : Fraction). q.numerator) (sym c.in_ok-inverse.ensures.divided.inverse_is) ∙ none);
    }

pub returns-in_err-turn_lines-clause-wide : goal.returns-in_err-turn_lines-clause-wide
returns-in_err-turn_lines-clause-wide c =
    let p = err_from_is_err_and c.from_residual-in_err-turn_lines.result c.from_residual-in_err-turn_lines.ensures.1 in
    let t = c.args.self.now in
    let wide = c.in_err-turn_lines.field-0.0 in
    let row_is = line_read t c.args.line c.index.result.now c.index.ensures c.requires.pivot.line_in in
    rw (p.1, p.2)
    (turning_wide t c.requires.tableau c.args.line c.args.column c.take_quotients.new.quotients c.in_ok-inverse.inverse c.requires.pivot.line_in
    c.requires.pivot.pivot
    (c.in_ok-inverse.ensures.divided.quotients_are ∙ ap (λ (row : List Fraction). divided_without (suc c.args.column) (entry row (suc c.args.column)) row 0)
    row_is)
    (c.in_ok-inverse.ensures.divided.inverse_is ∙ ap (λ (row : List Fraction). divided (whole (pos 1)) (entry row (suc c.args.column))) row_is)
    wide
    (subst (λ (lines : List (List Fraction)). TurnsWide t.top lines c.take_quotients.new.quotients
    (suc c.args.column) c.in_ok-inverse.inverse wide.step wide.left wide.right) c.as_mut_slice.ensures.value
    c.in_err-turn_lines.ensures.wide))

-- the lines are turned
news_are : (c : In_ok-turn_lines) →
    c.turn_lines.new.lines ≡ map (turned_line (line_at c.args.self.now c.args.line) (suc c.args.column))
    c.args.self.now.lines.items
news_are c =
    let t = c.args.self.now in
    news_turned (line_at t c.args.line) c.index.result.now c.take_quotients.new.quotients
    (suc c.args.column) c.in_ok-inverse.inverse c.turn_lines.new.lines c.as_mut_slice.result.now t.lines.items
    c.in_ok-turn_lines.ensures.turned c.as_mut_slice.ensures.value c.in_ok-inverse.ensures.divided.quotients_are
    c.in_ok-inverse.ensures.divided.inverse_is (line_read t c.args.line c.index.result.now c.index.ensures c.requires.pivot.line_in)

news_kept : (c : In_ok-turn_lines) → (with_items c.args.self.now.lines c.turn_lines.new.lines).items ≡ c.turn_lines.new.lines
news_kept c =
    let t = c.args.self.now in
    lines_kept t.lines c.turn_lines.new.lines (ap length (news_are c) ∙ length-map t.lines.items (turned_line (line_at t c.args.line) (suc c.args.column)))

news_numbers : (c : In_ok-turn_lines) → AreTableLines c.args.self.now.top (suc (length c.args.self.now.costs.low)) c.turn_lines.new.lines
news_numbers c =
    subst (λ (count : ℕ). AreTableLines c.args.self.now.top count c.turn_lines.new.lines) (c.take_quotients.ensures.width
    ∙ c.requires.room.quotients) c.in_ok-turn_lines.ensures.numbers

pub returns-clause-tableau : goal.returns-clause-tableau
returns-clause-tableau c =
    let t = c.args.self.now in
    let news = c.turn_lines.new.lines in
    let turned = (goal.at.returns-clause-tableau c).In_ok-turn_lines in
    subst (λ (m : Member). IsTableauOf t.top t.costs t.rows.items (slice_set t.basis.items c.args.column m)
    (with_items t.lines news).items) (sym c.member_at-member.ensures)
    (subst (λ (lines : List (List Fraction)).
    IsTableauOf t.top t.costs t.rows.items (slice_set t.basis.items c.args.column (member_at t c.args.line)) lines)
    (sym (news_kept turned))
    (pivot_whole t c.requires.tableau c.args.line c.args.column news c.requires.pivot.line_in c.requires.pivot.pivot c.requires.pivot.least (news_are turned)
    (news_numbers turned)))

pub returns-clause-rises : goal.returns-clause-rises
returns-clause-rises c =
    let t = c.args.self.now in
    let news = c.turn_lines.new.lines in
    let turned = (goal.at.returns-clause-rises c).In_ok-turn_lines in
    subst (λ (lines : List (List Fraction)). rank t < digits_number (past_heights t.top) (heights t.top (length t.costs.low) lines)) (sym (news_kept turned))
    (rank_rises t c.requires.tableau c.args.line c.args.column news c.requires.pivot.line_in c.requires.pivot.pivot c.requires.pivot.least (news_are turned)
    (news_numbers turned))
