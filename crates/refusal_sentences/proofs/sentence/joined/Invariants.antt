use Rattle.std.proofs.Common.{◌≡◌, ◌++◌, map, drop}
use Rattle.std.specs.List.{concat}
use Rattle.refusal_sentences.proofs.sentence.joined.Given as goal

-- what was joined, with the pieces that are left, is all of them
abbrev pub invariant-loop-piece : goal.invariant-loop-piece
invariant-loop-piece l =
    l.text.items ++ concat (map (λ piece. piece.now) (drop l.piece-index l.pieces)) ≡ concat (map (λ piece. piece.now) l.pieces)
