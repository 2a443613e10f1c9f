use Rattle.std.proofs.Common.{◌++◌, ◌∷◌, [], Option, sym, subst}
use Rattle.std.proofs.lemmas.Result.{err_from_is_err_and, MatchResult-weaker}
use Rattle.design_problem.specs.declared.answer.Costs.{Costs}
use Rattle.design_problem.specs.Text.{costs_lines, FitsCosts, floor_line}
use Rattle.answer_lines.specs.Grammar.{AtCosts, AtRows}
use Rattle.answer_lines.specs.Going.{Goes}
use Rattle.evidence_reader.proofs.NextPlaces.{go-then, stop-then}
use Rattle.evidence_reader.proofs.stage_costs.read_costs.Goals as goal

pub returns-in_err-head : goal.returns-in_err-head
returns-in_err-head c =
    let p = err_from_is_err_and c.from_residual.result c.from_residual.ensures.1 in
    rw (p.1, p.2) c.in_err-head.ensures

pub returns-in-NoCosts : goal.returns-in-NoCosts
returns-in-NoCosts c =
    let head = rw c.in-NoCosts.is at c.in_ok-head.ensures in
    MatchResult-weaker c.no_costs.result c.no_costs.ensures
    (λ r h. (
      subst (λ (k : Option Costs). FitsCosts k) (sym h.0) tt,
      subst (λ (k : Option Costs). Goes AtCosts c.args.text (costs_lines k ++ floor_line r.0.floor ∷ []) AtRows r.1) (sym h.0) (go-then head h.1),
    ))
    (λ stop h. stop-then stop head h)

pub returns-in-Greatest : goal.returns-in-Greatest
returns-in-Greatest c =
    let head = rw c.in-Greatest.is at c.in_ok-head.ensures in
    MatchResult-weaker c.some_costs.result c.some_costs.ensures
    (λ r h. (
      subst (λ (k : Option Costs). FitsCosts k) (sym h.1) h.2,
      subst (λ (k : Option Costs). Goes AtCosts c.args.text (costs_lines k ++ floor_line r.0.floor ∷ []) AtRows r.1) (sym h.1) (go-then head h.3),
    ))
    (λ stop h. stop-then stop head h)
