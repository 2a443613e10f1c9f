use Rattle.std.proofs.Common.{◌++◌, ◌∷◌, [], List, All, None, Some, sym, subst}
use Rattle.std.proofs.lemmas.Result.{err_from_is_err_and}
use Rattle.design_problem.specs.declared.answer.CostLine.{CostLine}
use Rattle.design_problem.specs.Text.{cost_lines, FitsCostLine}
use Rattle.answer_lines.specs.Grammar.{AtSections, AtUnread, inner_ends}
use Rattle.answer_lines.specs.Going.{Goes}
use Rattle.evidence_reader.proofs.NextPlaces.{go-then, stop-then}
use Rattle.sections_reader.proofs.costs.sections_to_end.Goals as goal

pub returns-in_err-sections : goal.returns-in_err-sections
returns-in_err-sections c =
    let p = err_from_is_err_and c.from_residual.result c.from_residual.ensures.1 in
    rw (p.1, p.2) (c.in_err-sections.ensures (Some c.args.of))

pub end_behind-requires : goal.end_behind-requires
end_behind-requires c = (c.in_ok-sections.ensures (Some c.args.of)).2

pub returns-in_err-rest : goal.returns-in_err-rest
returns-in_err-rest c =
    let p = err_from_is_err_and c.from_residual-in_err-rest.result c.from_residual-in_err-rest.ensures.1 in
    rw (p.1, p.2) (stop-then _ (c.in_ok-sections.ensures (Some c.args.of)).1 c.in_err-rest.ensures)

pub returns : goal.returns
returns c =
    let of = c.args.of in
    let same = c.from_items.ensures in
    let sections = c.in_ok-sections.ensures (Some of) in
    let end = c.in_ok-rest.ensures in (
      end.0,
      subst (λ (l : List CostLine). All FitsCostLine l) (sym same) sections.0,
      end.1,
      subst (λ (l : List CostLine). Goes (AtSections (Some of) None) c.args.text (cost_lines None l ++ end.0 ∷ []) (AtUnread (inner_ends of)) c.in_ok-rest.rest)
          (sym same) (go-then sections.1 end.2),
    )
