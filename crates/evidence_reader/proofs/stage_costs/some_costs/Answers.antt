use Rattle.std.proofs.Common.{◌++◌, ◌∷◌, [], List, All, None, refl, sym, subst}
use Rattle.std.proofs.lemmas.Result.{err_from_is_err_and}
use Rattle.design_problem.specs.declared.answer.CostLine.{CostLine}
use Rattle.design_problem.specs.Text.{cost_lines, FitsCostLine, floor_line}
use Rattle.answer_lines.specs.Grammar.{AtSections, AtRows}
use Rattle.answer_lines.specs.Going.{Goes}
use Rattle.evidence_reader.proofs.NextPlaces.{go-then, stop-then}
use Rattle.evidence_reader.proofs.stage_costs.some_costs.Goals as goal

pub returns-in_err-sections : goal.returns-in_err-sections
returns-in_err-sections c =
    let p = err_from_is_err_and c.from_residual.result c.from_residual.ensures.1 in
    rw (p.1, p.2) (c.in_err-sections.ensures None)

pub floor_behind-requires : goal.floor_behind-requires
floor_behind-requires c = (c.in_ok-sections.ensures None).2

pub returns-in_err-floor : goal.returns-in_err-floor
returns-in_err-floor c =
    let p = err_from_is_err_and c.from_residual-in_err-floor.result c.from_residual-in_err-floor.ensures.1 in
    rw (p.1, p.2) (stop-then _ (c.in_ok-sections.ensures None).1 c.in_err-floor.ensures)

pub returns : goal.returns
returns c =
    let same = c.from_items.ensures in
    let found = c.in_ok-sections.ensures None in (
      c.from_items.result,
      refl,
      subst (λ (l : List CostLine). All FitsCostLine l) (sym same) found.0,
      subst (λ (l : List CostLine). Goes (AtSections None None) c.args.text
          (cost_lines None l ++ floor_line c.in_ok-floor.floor ∷ []) AtRows c.in_ok-floor.rest)
          (sym same) (go-then found.1 c.in_ok-floor.ensures),
    )
