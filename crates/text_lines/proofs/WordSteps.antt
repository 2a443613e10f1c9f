-- The first word of a text.
use Rattle.std.proofs.Common.{◌≡◌, ◌≢◌, ℕ, List, [], ◌∷◌, ◌++◌, All, ◌≤◌, length, take, drop, Bool, cond, true, false, refl, sym, ap, ◌∙◌, arith, take-append-drop}
use Rattle.std.proofs.lemmas.List.Elements.{All-head, All-tail}
use Rattle.cost_base.specs.Words.{is_blank}
use Rattle.text_lines.specs.Lines.{words, ends_word, grow}

-- a byte that isn't blank, before another one, belongs to its word
pub words-more : (c d : ℕ) (ds : List ℕ) → is_blank c ≡ false → is_blank d ≡ false → words (c ∷ d ∷ ds) ≡ grow c (words (d ∷ ds))
words-more c d ds solid next = rw (solid, next)

-- a byte that isn't blank, before a blank or the end, is a word
pub words-last : (c : ℕ) (rest : List ℕ) → is_blank c ≡ false → ends_word rest ≡ true → words (c ∷ rest) ≡ (c ∷ []) ∷ words rest
words-last c rest solid end = rw (solid, end)

-- bytes that aren't blank, before a blank or the end, are the first word
pub words-front : (word rest : List ℕ) → word ≢ [] → All (λ c. is_blank c ≡ false) word → ends_word rest ≡ true → words (word ++ rest) ≡ word ∷ words rest
words-front [] rest some whole end = absurd (some refl)
words-front (c ∷ []) rest some whole end = words-last c rest (All-head (λ x. is_blank x ≡ false) c [] whole) end
words-front (c ∷ d ∷ ds) rest some whole end =
    let more : All (λ x. is_blank x ≡ false) (d ∷ ds) = All-tail (λ x. is_blank x ≡ false) c (d ∷ ds) whole in
    let solid : is_blank c ≡ false = All-head (λ x. is_blank x ≡ false) c (d ∷ ds) whole in
    let next : is_blank d ≡ false = All-head (λ x. is_blank x ≡ false) d ds more in
    words-more c d (ds ++ rest) solid next ∙ ap (grow c) (words-front (d ∷ ds) rest (λ e. cc) more end)

-- the first word of a text, cut at its end
pub words-cut : (s : List ℕ) (n : ℕ) → ends_word s ≡ false → All (λ c. is_blank c ≡ false) (take n s) →
    ends_word (drop n s) ≡ true → words s ≡ take n s ∷ words (drop n s)
words-cut s n begins whole end =
    ap words (sym (take-append-drop n s)) ∙ words-front (take n s) (drop n s) (not_empty n s begins end) whole end
  where
    not_empty : (n : ℕ) (s : List ℕ) → ends_word s ≡ false → ends_word (drop n s) ≡ true → take n s ≢ []
    not_empty n s begins end e =
        let same : drop n s ≡ s = ap (λ front. front ++ drop n s) (sym e) ∙ take-append-drop n s in
        cc (ap ends_word same)

-- a text has no more words than bytes
pub length-words-le : (s : List ℕ) → length (words s) ≤ length s
length-words-le [] = omega arith
length-words-le (c ∷ cs) = cases (is_blank c) (ends_word cs) (words cs) (length-words-le cs)
  where
    cases : (b e : Bool) (ws : List (List ℕ)) → length ws ≤ length cs → length (cond b ws (cond e ((c ∷ []) ∷ ws) (grow c ws))) ≤ length (c ∷ cs)
    cases true e ws h = omega arith
    cases false true ws h = omega arith
    cases false false [] h = omega arith
    cases false false (w ∷ ws) h = omega arith
