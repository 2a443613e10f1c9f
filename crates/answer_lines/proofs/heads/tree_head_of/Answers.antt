use Rattle.std.proofs.Common.{◌≡◌, [], ◌∷◌, ◌∙◌, sym, ap, arith}
use Rattle.cost_base.specs.Decimal.{decimal}
use Rattle.answer_lines.specs.Words.{words_left}
use Rattle.evidence_text.specs.Parts.{part_word}
use Rattle.answer_lines.proofs.ListParts.{rest-is, more-is, not-both}
use Rattle.answer_lines.proofs.LineWords.{tree-words}
use Rattle.answer_lines.proofs.SpacedWords.{from-words}
use Rattle.answer_lines.proofs.heads.tree_head_of.Goals as goal

pub returns-in_err-numbers : goal.returns-in_err-numbers
returns-in_err-numbers c =
    rw c.from_residual.ensures
    (λ cap count small few e. c.in_err-numbers.ensures (decimal cap ∷ decimal count ∷ [])
    (c.new.ensures ∙ tree-words c.args.line.now c.args.part cap count e ∙ ap (λ w. w ∷ decimal cap ∷ decimal count ∷ []) (sym c.part_word.ensures.is)))

pub returns-in_err-cap : goal.returns-in_err-cap
returns-in_err-cap c =
    rw c.from_residual-in_err-cap.ensures
    (λ cap count small few e.
    let at_cap : words_left c.in_ok-numbers.numbers ≡ decimal cap ∷ decimal count ∷ [] =
    rest-is (words_left c.new.result) _ _ _ _ c.in_ok-numbers.ensures
    (c.new.ensures ∙ tree-words c.args.line.now c.args.part cap count e) in
    c.in_err-cap.ensures cap (decimal count ∷ []) (omega arith) at_cap)

pub returns-in_err-count : goal.returns-in_err-count
returns-in_err-count c =
    rw c.from_residual-in_err-count.ensures
    (λ cap count small few e.
    let at_cap : words_left c.in_ok-numbers.numbers ≡ decimal cap ∷ decimal count ∷ [] =
    rest-is (words_left c.new.result) _ _ _ _ c.in_ok-numbers.ensures
    (c.new.ensures ∙ tree-words c.args.line.now c.args.part cap count e) in
    c.in_err-count.ensures count [] (omega arith) (rest-is (words_left c.in_ok-numbers.numbers) _ _ _ _ c.in_ok-cap.ensures.1 at_cap))

pub returns-then-is_done : goal.returns-then-is_done
returns-then-is_done c =
    let done : words_left c.in_ok-count.rest ≡ [] = c.is_done.ensures.0 c.if-is_done.true in
    let at_cap : words_left c.in_ok-numbers.numbers ≡ decimal c.in_ok-cap.cap ∷ decimal c.in_ok-count.count ∷ [] =
    more-is (words_left c.in_ok-numbers.numbers) (decimal c.in_ok-cap.cap) (words_left c.in_ok-cap.behind)
    (decimal c.in_ok-count.count ∷ []) c.in_ok-cap.ensures.1
    (more-is (words_left c.in_ok-cap.behind) (decimal c.in_ok-count.count) (words_left c.in_ok-count.rest) [] c.in_ok-count.ensures.1 done) in
    from-words c.args.line.now (part_word c.args.part) (decimal c.in_ok-cap.cap ∷ decimal c.in_ok-count.count ∷ [])
    (sym c.new.ensures ∙ more-is (words_left c.new.result) c.part_word.result.now (words_left c.in_ok-numbers.numbers)
    (decimal c.in_ok-cap.cap ∷ decimal c.in_ok-count.count ∷ []) c.in_ok-numbers.ensures at_cap
    ∙ ap (λ w. w ∷ decimal c.in_ok-cap.cap ∷ decimal c.in_ok-count.count ∷ []) c.part_word.ensures.is)

pub returns-else-is_done : goal.returns-else-is_done
returns-else-is_done c =
    λ cap count small few e.
    let at_cap : words_left c.in_ok-numbers.numbers ≡ decimal cap ∷ decimal count ∷ [] =
    rest-is (words_left c.new.result) _ _ _ _ c.in_ok-numbers.ensures
    (c.new.ensures ∙ tree-words c.args.line.now c.args.part cap count e) in
    let at_count : words_left c.in_ok-cap.behind ≡ decimal count ∷ [] = rest-is (words_left c.in_ok-numbers.numbers) _ _ _ _ c.in_ok-cap.ensures.1 at_cap in
    let done : words_left c.in_ok-count.rest ≡ [] = rest-is (words_left c.in_ok-cap.behind) _ _ _ _ c.in_ok-count.ensures.1 at_count in
    not-both c.is_done.result (c.is_done.ensures.1 done) c.if-is_done.false
