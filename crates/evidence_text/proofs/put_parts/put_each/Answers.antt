use Rattle.std.proofs.Common.{◌+◌, ◌∷◌, ℕ, List, [], map, drop, sym, ap, ◌∙◌, arith}
use Rattle.evidence_text.proofs.PutLines.{turn, stop_at, next_short, items_turn}
use Rattle.evidence_text.proofs.put_parts.put_each.Goals as goal

pub write-requires : goal.write-requires
write-requires g c =
    let line_of = g.T.Printed.printed in
    let item = c.item-item.result in
    let i = c.loop-item.item-index in
    let items = c.args.items.now in
    next_short (line_of item ∷ []) (map line_of (drop (i + 1) items))
    (items_turn line_of items i item c.loop-item-test.true c.item-item.is) c.loop-item.invariant 0 [] (omega arith)

pub returns-in_err-put : goal.returns-in_err-put
returns-in_err-put g c =
    let line_of = g.T.Printed.printed in
    let item = c.item-item.result in
    let i = c.loop-item.item-index in
    let items = c.args.items.now in
    stop_at c.from_residual.result c.from_residual.ensures.0 (c.write.new.line ∷ []) (map line_of (drop (i + 1) items))
    (items_turn line_of items i item c.loop-item-test.true c.item-item.is
    ∙ ap (λ (l : List ℕ). l ∷ map line_of (drop (i + 1) items)) (sym c.write.ensures)) c.loop-item.invariant
    c.in_err-put.ensures

pub loop-item-preserved : goal.loop-item-preserved
loop-item-preserved g c =
    let line_of = g.T.Printed.printed in
    let item = c.item-item.result in
    let i = c.loop-item.item-index in
    let items = c.args.items.now in
    turn (c.write.new.line ∷ []) (map line_of (drop (i + 1) items))
    (items_turn line_of items i item c.loop-item-test.true c.item-item.is
    ∙ ap (λ (l : List ℕ). l ∷ map line_of (drop (i + 1) items)) (sym c.write.ensures)) c.loop-item.invariant
    c.in_ok-put.ensures
