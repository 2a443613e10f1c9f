-- Lines as words with one space between each two.
use Rattle.std.proofs.Common.{◌≡◌, ℕ, List, [], ◌∷◌, ◌++◌, refl, sym, ap, ◌∙◌, append_assoc}
use Rattle.std.specs.List.{join_with_byte}
use Rattle.line_builder.specs.Words.{with_words}

-- what stands before a line stays before its longer form
pub with_words-front : (a b : List ℕ) (words : List (List ℕ)) → with_words (a ++ b) words ≡ a ++ with_words b words
with_words-front a b [] = refl
with_words-front a b (word ∷ words) = ap (λ line. with_words line words) (append_assoc a b (32 ∷ word)) ∙ with_words-front a (b ++ 32 ∷ word) words

-- spaced words are the first one with the others behind it
pub spaced-with : (word : List ℕ) (words : List (List ℕ)) → join_with_byte 32 (word ∷ words) ≡ with_words word words
spaced-with word [] = refl
spaced-with word (next ∷ words) =
    ap (λ line. word ++ 32 ∷ line) (spaced-with next words)
    ∙ ap (λ line. word ++ line) (sym (with_words-front (32 ∷ []) next words))
    ∙ sym (with_words-front word (32 ∷ next) words)
