-- Pieces of a text that are gone through one after another.
use Rattle.std.proofs.Common.{◌≡◌, ℕ, ◌+◌, ◌<◌, List, [], ◌∷◌, ◌++◌, map, drop, length, get_or, sym, ◌∙◌, ap, append_assoc, add-one, drop-cons, Bor}
use Rattle.std.specs.Prelude.{◌==◌}
use Rattle.std.specs.List.{slice_split}
use Rattle.case_scripts.specs.Escapes.{all_unescaped, bytes_of, joined_escapes, unescaped}

-- what the pieces of a text hold
abbrev pub texts_of : List (Bor (List ℕ)) → List (List ℕ)
texts_of pieces = map (λ piece. piece.now) pieces

-- the pieces from a place on are the one there and those behind it
pub texts_from : (pieces : List (Bor (List ℕ))) (place : ℕ) (d : Bor (List ℕ)) → place < length pieces
    → texts_of (drop place pieces) ≡ (get_or pieces place d).now ∷ texts_of (drop (place + 1) pieces)
texts_from pieces place d inside =
    ap texts_of (drop-cons pieces place d inside)
    ∙ ap (λ n. (get_or pieces place d).now ∷ texts_of (drop n pieces)) (sym (add-one place))

-- the first piece is put
pub begun_bytes : (text : List ℕ) (pieces : List (Bor (List ℕ))) (first : Bor (List ℕ)) (others : List (Bor (List ℕ))) (bytes : List ℕ)
    → texts_of pieces ≡ slice_split (λ byte. byte == 92) text → pieces ≡ first ∷ others → bytes ≡ first.now
    → bytes ++ all_unescaped (texts_of others) ≡ bytes_of text
begun_bytes text pieces first others bytes cut parts put =
    ap (λ b. b ++ all_unescaped (texts_of others)) put ∙ ap joined_escapes (sym (ap texts_of parts) ∙ cut)

-- one more piece is put
pub more_bytes : (text : List ℕ) (others : List (Bor (List ℕ))) (place : ℕ) (d : Bor (List ℕ)) (old new : List ℕ) (byte : ℕ) (rest : List ℕ)
    → place < length others → new ≡ (old ++ (byte ∷ [])) ++ rest → (byte ∷ rest) ≡ unescaped (get_or others place d).now
    → old ++ all_unescaped (texts_of (drop place others)) ≡ bytes_of text
    → new ++ all_unescaped (texts_of (drop (place + 1) others)) ≡ bytes_of text
more_bytes text others place d old new byte rest inside put here before =
    let behind : List ℕ = all_unescaped (texts_of (drop (place + 1) others)) in
    ap (λ b. b ++ behind) (put ∙ append_assoc old (byte ∷ []) rest ∙ ap (λ b. old ++ b) here)
    ∙ append_assoc old (unescaped (get_or others place d).now) behind
    ∙ ap (λ b. old ++ b) (sym (ap all_unescaped (texts_from others place d inside)))
    ∙ before
