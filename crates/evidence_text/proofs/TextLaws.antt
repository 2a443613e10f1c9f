-- Texts of lines, one after another.
use Rattle.std.proofs.Common.{ℕ, ◌+◌, ◌≤◌, List, ◌++◌, length, subst, length-append, arith}
use Rattle.std.proofs.lemmas.List.{get_or_append_left, get_or-append-add}
use Rattle.evidence_text.specs.Lines.{AreShort}

-- the first lines of short lines are short
pub short_front : (lines rest : List (List ℕ)) → AreShort (lines ++ rest) → AreShort lines
short_front lines rest h =
    λ k d l. subst (λ (line : List ℕ). length line ≤ 65536) (get_or_append_left lines rest d k l) (h k d (omega (arith, length-append lines rest)))

-- the lines that follow some of them are short
pub short_rest : (lines rest : List (List ℕ)) → AreShort (lines ++ rest) → AreShort rest
short_rest lines rest h =
    λ k d l. subst (λ (line : List ℕ). length line ≤ 65536) (get_or-append-add lines rest k d)
    (h (length lines + k) d (omega (arith, length-append lines rest)))
