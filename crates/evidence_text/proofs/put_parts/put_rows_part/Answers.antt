use Rattle.std.proofs.Common.{◌∷◌, ℕ, List, [], map, sym, refl, ap, arith}
use Rattle.design_problem.specs.Text.{row_line, rows_lines}
use Rattle.evidence_text.proofs.PutLines.{begin, turn, stop_at, last}
use Rattle.evidence_text.proofs.put_parts.put_rows_part.Goals as goal

pub write_rows-requires : goal.write_rows-requires
write_rows-requires g c = c.requires 0 [] (omega arith)

pub returns-in_err-put : goal.returns-in_err-put
returns-in_err-put g c =
    let rows = c.args.rows.now in
    stop_at c.from_residual.result c.from_residual.ensures.0 (c.write_rows.new.line ∷ []) (map row_line rows)
    (ap (λ (l : List ℕ). l ∷ map row_line rows) (sym c.write_rows.ensures))
    (begin (g.K.Sink.got c.args.out.now) (g.K.Sink.faults c.args.out.now) (rows_lines rows) c.requires)
    c.in_err-put.ensures

pub put_each-requires : goal.put_each-requires
put_each-requires g c =
    let rows = c.args.rows.now in
    (turn (c.write_rows.new.line ∷ []) (map row_line rows)
    (ap (λ (l : List ℕ). l ∷ map row_line rows) (sym c.write_rows.ensures))
    (begin (g.K.Sink.got c.args.out.now) (g.K.Sink.faults c.args.out.now) (rows_lines rows) c.requires)
    c.in_ok-put.ensures).short

pub returns : goal.returns
returns g c =
    let rows = c.args.rows.now in
    last c.put_each.result (map row_line rows) refl
    (turn (c.write_rows.new.line ∷ []) (map row_line rows)
    (ap (λ (l : List ℕ). l ∷ map row_line rows) (sym c.write_rows.ensures))
    (begin (g.K.Sink.got c.args.out.now) (g.K.Sink.faults c.args.out.now) (rows_lines rows) c.requires)
    c.in_ok-put.ensures) c.put_each.ensures
