-- One more line is turned.
use Rattle.std.proofs.Common.{ℕ, suc, ◌∙◌, [], ap, sym, subst, List, length}
use Rattle.std.specs.Prelude.{slice_set}
use Rattle.std.proofs.lemmas.List.Edits.{map_over_more}
use Rattle.std.proofs.lemmas.List.{get_or_default}
use Rattle.std.proofs.lemmas.Result.{err_from_is_err_and}
use Rattle.whole_numbers.specs.Fractions.{Fraction}
use Rattle.fraction_lines.specs.TableLines.{IsWideStep}
use Rattle.fraction_lines.specs.Turns.{IsTurnStep, TurnsLines, turned_by}
use Rattle.fraction_lines.proofs.TableLineLaws.{lines_at, lines_set, later_same}
use Rattle.fraction_lines.proofs.turned_line.turn_lines.Goals as goal

pub turn_line-requires : goal.turn_line-requires
turn_line-requires c =
    let i = c.loop-line.line-index in
    let d = c.line-item.result in
    let same = later_same (λ fs. turned_by fs c.args.quotients.now (suc c.args.pivot.now.column) c.args.pivot.now.inverse) c.args.lines.now
    c.loop-line.lines i d c.loop-line.invariant.turned in
    let here = lines_at c.args.top _ c.args.lines.now i d c.requires.lines c.loop-line-test.true in
    rw same
    (record {
      pivot = subst (λ (count : ℕ). TurnsLines c.args.top count (suc c.args.pivot.now.column) c.args.quotients.now c.args.pivot.now.inverse)
          (sym here.0) c.requires.pivot;
      scratch = c.loop-line.invariant.scratch ∙ sym here.0;
      numbers = here.1;
    })

pub loop-line-preserved : goal.loop-line-preserved
loop-line-preserved c =
    let i = c.loop-line.line-index in
    let d = c.line-item.result in
    let same = later_same (λ fs. turned_by fs c.args.quotients.now (suc c.args.pivot.now.column) c.args.pivot.now.inverse) c.args.lines.now
    c.loop-line.lines i d c.loop-line.invariant.turned in
    let here = lines_at c.args.top (length c.args.quotients.now) c.args.lines.now i d c.requires.lines c.loop-line-test.true in
    record {
      turned =
          ap (λ (r : List Fraction). slice_set c.loop-line.lines i r) c.in_ok-turn_line.ensures.turned
          ∙ ap (λ (r : List Fraction). slice_set c.loop-line.lines i (turned_by r c.args.quotients.now (suc c.args.pivot.now.column) c.args.pivot.now.inverse))
          (sym c.line-item.is)
          ∙ map_over_more (λ fs. turned_by fs c.args.quotients.now (suc c.args.pivot.now.column) c.args.pivot.now.inverse) c.args.lines.now
          c.loop-line.lines i c.line-item.result c.loop-line-test.true c.loop-line.invariant.turned c.line-item.is;
      numbers =
          lines_set c.args.top (length c.args.quotients.now) c.loop-line.lines i c.turn_line.new.line c.loop-line.invariant.numbers
          (c.turn_line.ensures.width ∙ ap length same ∙ here.0)
          c.in_ok-turn_line.ensures.numbers;
      scratch = c.turn_line.ensures.scratch_width ∙ c.loop-line.invariant.scratch;
    }

pub returns-in_err-turn_line-clause-wide : goal.returns-in_err-turn_line-clause-wide
returns-in_err-turn_line-clause-wide c =
    let p = err_from_is_err_and c.from_residual.result c.from_residual.ensures.1 in
    let i = c.loop-line.line-index in
    let d = c.line-item.result in
    let wide = c.in_err-turn_line.field-0.0 in
    let same =
    later_same (λ fs. turned_by fs c.args.quotients.now (suc c.args.pivot.now.column) c.args.pivot.now.inverse) c.args.lines.now c.loop-line.lines i d
    c.loop-line.invariant.turned
    ∙ get_or_default c.args.lines.now i d [] c.loop-line-test.true in
    rw (p.1, p.2)
    (record {
      line = i;
      line_in = c.loop-line-test.true;
      wide = subst (λ (fs : List Fraction).
          IsWideStep c.args.top (IsTurnStep fs c.args.quotients.now (suc c.args.pivot.now.column) c.args.pivot.now.inverse) wide.step
          wide.left wide.right) same c.in_err-turn_line.ensures.wide;
    })
