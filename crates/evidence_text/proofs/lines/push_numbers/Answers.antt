use Rattle.std.proofs.Common.{◌+◌, ◌∷◌, ◌++◌, map, drop, get_or, sym, ◌∙◌, subst, ℕ, ◌≤◌, length}
use Rattle.cost_base.specs.Decimal.{decimal}
use Rattle.evidence_text.proofs.WordLaws.{numbers_turn, room_left}
use Rattle.evidence_text.proofs.lines.push_numbers.Goals as goal

pub push_number-requires : goal.push_number-requires
push_number-requires c =
    let line = c.loop-number.line in
    let i = c.loop-number.number-index in
    let numbers = c.args.numbers.now in
    let room = room_left (line ++ 32 ∷ decimal (get_or numbers i 0)) _ (map decimal (drop (i + 1) numbers))
    (sym (numbers_turn line numbers i 0 c.loop-number-test.true) ∙ c.loop-number.invariant) c.requires in
    subst (λ (n : ℕ). length (line ++ 32 ∷ decimal n) ≤ 65536) (sym c.from.ensures) room
