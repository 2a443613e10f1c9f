use Rattle.std.proofs.Common.{◌∷◌, ℕ, List, [], codes, sym, ap, arith}
use Rattle.design_problem.specs.Text.{interface_lines, answer_cost_line}
use Rattle.evidence_text.proofs.PutLines.{begin, turn, stop_at, last}
use Rattle.evidence_text.proofs.put_parts.put_interface.Goals as goal

pub write_interface-requires : goal.write_interface-requires
write_interface-requires g c = c.requires 0 [] (omega arith)

pub returns-in_err-put : goal.returns-in_err-put
returns-in_err-put g c =
    let cost = c.args.cost.now in
    stop_at c.from_residual.result c.from_residual.ensures.0 (c.write_interface.new.line ∷ [])
    (answer_cost_line cost.cost ∷ codes "exit" ∷ [])
    (ap (λ (l : List ℕ). l ∷ answer_cost_line cost.cost ∷ codes "exit" ∷ []) (sym c.write_interface.ensures))
    (begin (g.K.Sink.got c.args.out.now) (g.K.Sink.faults c.args.out.now) (interface_lines cost) c.requires)
    c.in_err-put.ensures

pub write_cost-requires : goal.write_cost-requires
write_cost-requires g c = c.requires 1 [] (omega arith)

pub returns-in_err-put-2 : goal.returns-in_err-put-2
returns-in_err-put-2 g c =
    let cost = c.args.cost.now in
    let first = turn (c.write_interface.new.line ∷ []) (answer_cost_line cost.cost ∷ codes "exit" ∷ [])
    (ap (λ (l : List ℕ). l ∷ answer_cost_line cost.cost ∷ codes "exit" ∷ []) (sym c.write_interface.ensures))
    (begin (g.K.Sink.got c.args.out.now) (g.K.Sink.faults c.args.out.now) (interface_lines cost) c.requires)
    c.in_ok-put.ensures in
    stop_at c.from_residual-in_err-put-2.result c.from_residual-in_err-put-2.ensures.0 (c.write_cost.new.line ∷ [])
    (codes "exit" ∷ []) (ap (λ (l : List ℕ). l ∷ codes "exit" ∷ []) (sym c.write_cost.ensures)) first
    c.in_err-put-2.ensures

pub returns : goal.returns
returns g c =
    let cost = c.args.cost.now in
    let first = turn (c.write_interface.new.line ∷ []) (answer_cost_line cost.cost ∷ codes "exit" ∷ [])
    (ap (λ (l : List ℕ). l ∷ answer_cost_line cost.cost ∷ codes "exit" ∷ []) (sym c.write_interface.ensures))
    (begin (g.K.Sink.got c.args.out.now) (g.K.Sink.faults c.args.out.now) (interface_lines cost) c.requires)
    c.in_ok-put.ensures in
    let second = turn (c.write_cost.new.line ∷ []) (codes "exit" ∷ [])
    (ap (λ (l : List ℕ). l ∷ codes "exit" ∷ []) (sym c.write_cost.ensures)) first c.in_ok-put-2.ensures in
    last c.put-3.result (c.start.new.self ∷ []) (ap (λ (l : List ℕ). l ∷ []) (sym c.start.ensures)) second c.put-3.ensures
