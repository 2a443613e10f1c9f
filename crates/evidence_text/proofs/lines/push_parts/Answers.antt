use Rattle.std.proofs.Common.{◌≡◌, ◌+◌, ◌∙◌, ◌∷◌, ◌++◌, ◌≤◌, ℕ, List, length, drop, get_or, sym, subst, ap, arith, length-append}
use Rattle.cost_base.specs.Decimal.{decimal}
use Rattle.design_problem.specs.Text.{multiplier_words}
use Rattle.evidence_text.proofs.WordLaws.{parts_turn, room_left}
use Rattle.evidence_text.proofs.lines.push_parts.Goals as goal

-- the line with a row and its multiplier is short
both : (line : List ℕ) (parts : List (ℕ × ℕ)) (i : ℕ) →
    length ((line ++ 32 ∷ decimal (get_or parts i (0, 0)).0) ++ 32 ∷ decimal (get_or parts i (0, 0)).1) ≤ 65536 →
    length (line ++ 32 ∷ decimal (get_or parts i (0, 0)).0) ≤ 65536
both line parts i h = omega (arith, h, length-append (line ++ 32 ∷ decimal (get_or parts i (0, 0)).0) (32 ∷ decimal (get_or parts i (0, 0)).1))

pub push_number-requires : goal.push_number-requires
push_number-requires c =
    let line = c.loop-part.line in
    let i = c.loop-part.part-index in
    let parts = c.args.parts.now in
    let room = room_left ((line ++ 32 ∷ decimal (get_or parts i (0, 0)).0) ++ 32 ∷ decimal (get_or parts i (0, 0)).1) _
    (multiplier_words (drop (i + 1) parts)) (sym (parts_turn line parts i (0, 0) c.loop-part-test.true)
    ∙ c.loop-part.invariant) c.requires in
    subst (λ (n : ℕ). length (line ++ 32 ∷ decimal n) ≤ 65536) (sym c.from.ensures) (both line parts i room)

pub push_number-requires-in-loop-part : goal.push_number-requires-in-loop-part
push_number-requires-in-loop-part c =
    let line = c.loop-part.line in
    let i = c.loop-part.part-index in
    let parts = c.args.parts.now in
    let room = room_left ((line ++ 32 ∷ decimal (get_or parts i (0, 0)).0) ++ 32 ∷ decimal (get_or parts i (0, 0)).1) _
    (multiplier_words (drop (i + 1) parts)) (sym (parts_turn line parts i (0, 0) c.loop-part-test.true)
    ∙ c.loop-part.invariant) c.requires in
    let first : line ++ 32 ∷ decimal (get_or parts i (0, 0)).0 ≡ c.push_number.new.self =
    ap (λ (n : ℕ). line ++ 32 ∷ decimal n) (sym c.from.ensures) ∙ sym c.push_number.ensures in
    subst (λ (bytes : List ℕ). length (bytes ++ 32 ∷ decimal (get_or parts i (0, 0)).1) ≤ 65536) first room
