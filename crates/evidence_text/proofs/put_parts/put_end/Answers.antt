use Rattle.std.proofs.Common.{◌∷◌, ℕ, List, [], codes, sym, ap}
use Rattle.design_problem.specs.Text.{end_lines}
use Rattle.evidence_text.proofs.PutLines.{begin, turn, stop_at, last}
use Rattle.evidence_text.proofs.put_parts.put_end.Goals as goal

pub returns-in_err-put : goal.returns-in_err-put
returns-in_err-put g c =
    stop_at c.from_residual.result c.from_residual.ensures.0 (c.start.new.self ∷ []) (codes "end" ∷ [])
    (ap (λ (l : List ℕ). l ∷ codes "end" ∷ []) (sym c.start.ensures))
    (begin (g.K.Sink.got c.args.out.now) (g.K.Sink.faults c.args.out.now) end_lines c.requires) c.in_err-put.ensures

pub returns : goal.returns
returns g c =
    last c.put-2.result (c.start-2.new.self ∷ []) (ap (λ (l : List ℕ). l ∷ []) (sym c.start-2.ensures))
    (turn (c.start.new.self ∷ []) (codes "end" ∷ [])
    (ap (λ (l : List ℕ). l ∷ codes "end" ∷ []) (sym c.start.ensures))
    (begin (g.K.Sink.got c.args.out.now) (g.K.Sink.faults c.args.out.now) end_lines c.requires)
    c.in_ok-put.ensures) c.put-2.ensures
