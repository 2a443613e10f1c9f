-- One more line is raised.
use Rattle.std.proofs.Common.{ℕ, ◌∙◌, [], ap, sym, subst, List, length, arith}
use Rattle.std.specs.Prelude.{slice_set}
use Rattle.std.proofs.lemmas.List.Edits.{map_over_more}
use Rattle.std.proofs.lemmas.List.{get_or_default}
use Rattle.std.proofs.lemmas.Result.{err_from_is_err_and}
use Rattle.whole_numbers.specs.Fractions.{Fraction}
use Rattle.fraction_lines.specs.TableLines.{IsWideStep}
use Rattle.fraction_lines.specs.Turns.{AreTableLines}
use Rattle.fraction_table.specs.Moves.{IsRaiseStep, raised_line}
use Rattle.fraction_lines.proofs.TableLineLaws.{lines_at, lines_set, later_same}
use Rattle.fraction_table.proofs.moves.raise_constants.Goals.{After-raise_constant}
use Rattle.fraction_table.proofs.moves.raise_constants.Goals as goal

pub raise_constant-requires : goal.raise_constant-requires
raise_constant-requires c =
    let i = c.loop-line.line-index in
    let d = c.line-item.result in
    let same = later_same (raised_line c.args.column c.args.fall) c.args.lines.now c.loop-line.lines i d c.loop-line.invariant.raised in
    let here = lines_at c.args.top c.requires.lines.0 c.args.lines.now i d c.requires.lines.2 c.loop-line-test.true in
    rw same
    (record {
      column = omega (arith, here.0, c.requires.lines.1);
      numbers = here.1;
      fall = c.requires.fall;
    })

-- the lines stay numbers within the top
numbers_kept : (c : After-raise_constant) → (count : ℕ) → AreTableLines c.args.top count c.args.lines.now →
    AreTableLines c.args.top count (slice_set c.loop-line.lines c.loop-line.line-index c.raise_constant.new.line)
numbers_kept c count rows =
    let i = c.loop-line.line-index in
    let d = c.line-item.result in
    let same = later_same (raised_line c.args.column c.args.fall) c.args.lines.now c.loop-line.lines i d c.loop-line.invariant.raised in
    let here = lines_at c.args.top count c.args.lines.now i d rows c.loop-line-test.true in
    lines_set c.args.top count c.loop-line.lines i c.raise_constant.new.line (c.loop-line.invariant.numbers count rows)
    (c.raise_constant.ensures.width ∙ ap length same ∙ here.0)
    c.raise_constant.ensures.numbers

pub loop-line-preserved : goal.loop-line-preserved
loop-line-preserved c =
    let i = c.loop-line.line-index in
    record {
      raised =
          ap (λ (r : List Fraction). slice_set c.loop-line.lines i r) c.in_ok-raise_constant.ensures.raised
          ∙ ap (λ (r : List Fraction). slice_set c.loop-line.lines i (raised_line c.args.column c.args.fall r)) (sym c.line-item.is)
          ∙ map_over_more (raised_line c.args.column c.args.fall) c.args.lines.now c.loop-line.lines i
          c.line-item.result c.loop-line-test.true c.loop-line.invariant.raised c.line-item.is;
      numbers = numbers_kept (goal.at.loop-line-preserved c).After-raise_constant;
    }

pub returns-in_err-raise_constant-clause-wide : goal.returns-in_err-raise_constant-clause-wide
returns-in_err-raise_constant-clause-wide c =
    let p = err_from_is_err_and c.from_residual.result c.from_residual.ensures.1 in
    let i = c.loop-line.line-index in
    let d = c.line-item.result in
    let wide = c.in_err-raise_constant.field-0.0 in
    let same =
    later_same (raised_line c.args.column c.args.fall) c.args.lines.now c.loop-line.lines i d c.loop-line.invariant.raised
    ∙ get_or_default c.args.lines.now i d [] c.loop-line-test.true in
    rw (p.1, p.2)
    (record {
      line = i;
      line_in = c.loop-line-test.true;
      is_wide = subst (λ (fs : List Fraction).
          IsWideStep c.args.top (IsRaiseStep fs c.args.column c.args.fall) wide.step wide.left wide.right) same
          c.in_err-raise_constant.ensures.wide;
    })

pub returns-in_err-raise_constant-clause-numbers : goal.returns-in_err-raise_constant-clause-numbers
returns-in_err-raise_constant-clause-numbers c = numbers_kept (goal.at.returns-in_err-raise_constant-clause-numbers c).After-raise_constant
