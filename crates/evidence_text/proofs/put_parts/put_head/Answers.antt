use Rattle.std.proofs.Common.{◌∷◌, ℕ, List, [], sym, ap}
use Rattle.design_problem.specs.Text.{head_lines, verdict_line}
use Rattle.evidence_text.proofs.PutLines.{begin, turn, stop_at, last}
use Rattle.evidence_text.proofs.put_parts.put_head.Goals as goal

pub returns-in_err-put : goal.returns-in_err-put
returns-in_err-put g c =
    stop_at c.from_residual.result c.from_residual.ensures.0 (c.start.new.self ∷ []) (verdict_line c.args.verdict ∷ [])
    (ap (λ (l : List ℕ). l ∷ verdict_line c.args.verdict ∷ []) (sym c.start.ensures))
    (begin (g.K.Sink.got c.args.out.now) (g.K.Sink.faults c.args.out.now) (head_lines c.args.verdict) c.requires)
    c.in_err-put.ensures

pub returns : goal.returns
returns g c =
    last c.put-2.result (c.write_verdict.new.line ∷ []) (ap (λ (l : List ℕ). l ∷ []) (sym c.write_verdict.ensures))
    (turn (c.start.new.self ∷ []) (verdict_line c.args.verdict ∷ [])
    (ap (λ (l : List ℕ). l ∷ verdict_line c.args.verdict ∷ []) (sym c.start.ensures))
    (begin (g.K.Sink.got c.args.out.now) (g.K.Sink.faults c.args.out.now) (head_lines c.args.verdict) c.requires)
    c.in_ok-put.ensures) c.put-2.ensures
