use Rattle.std.proofs.Common.{◌∷◌, ℕ, List, [], sym, subst, ap, arith, None}
use Rattle.design_problem.specs.declared.answer.CostLine.{CostLine}
use Rattle.design_problem.specs.Text.{cost_lines, costs_line}
use Rattle.evidence_text.specs.Lines.{AreShort}
use Rattle.evidence_text.proofs.PutLines.{begin, turn, stop_at, last}
use Rattle.evidence_text.proofs.put_parts.put_some_costs.Goals as goal

pub write_costs-requires : goal.write_costs-requires
write_costs-requires g c = c.requires 0 [] (omega arith)

pub returns-in_err-put : goal.returns-in_err-put
returns-in_err-put g c =
    let costs = c.args.costs.now in
    stop_at c.from_residual.result c.from_residual.ensures.0 (c.write_costs.new.line ∷ []) (cost_lines None costs.lines)
    (ap (λ (l : List ℕ). l ∷ cost_lines None costs.lines) (sym c.write_costs.ensures))
    (begin (g.K.Sink.got c.args.out.now) (g.K.Sink.faults c.args.out.now)
    (costs_line costs.greatest ∷ cost_lines None costs.lines) c.requires) c.in_err-put.ensures

pub put_lines_of_costs-requires : goal.put_lines_of_costs-requires
put_lines_of_costs-requires g c =
    let costs = c.args.costs.now in
    let first = turn (c.write_costs.new.line ∷ []) (cost_lines None costs.lines)
    (ap (λ (l : List ℕ). l ∷ cost_lines None costs.lines) (sym c.write_costs.ensures))
    (begin (g.K.Sink.got c.args.out.now) (g.K.Sink.faults c.args.out.now)
    (costs_line costs.greatest ∷ cost_lines None costs.lines) c.requires) c.in_ok-put.ensures in
    subst (λ (lines : List CostLine). AreShort (cost_lines None lines)) (sym c.as_slice.ensures) first.short

pub returns : goal.returns
returns g c =
    let costs = c.args.costs.now in
    let first = turn (c.write_costs.new.line ∷ []) (cost_lines None costs.lines)
    (ap (λ (l : List ℕ). l ∷ cost_lines None costs.lines) (sym c.write_costs.ensures))
    (begin (g.K.Sink.got c.args.out.now) (g.K.Sink.faults c.args.out.now)
    (costs_line costs.greatest ∷ cost_lines None costs.lines) c.requires) c.in_ok-put.ensures in
    last c.put_lines_of_costs.result (cost_lines None c.as_slice.result.now)
    (ap (λ (lines : List CostLine). cost_lines None lines) (sym c.as_slice.ensures)) first c.put_lines_of_costs.ensures
