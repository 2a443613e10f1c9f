-- Words of lines that are put together from words.
use Rattle.std.proofs.Common.{◌≡◌, ℕ, List, [], ◌∷◌, ◌++◌, ◌≤◌, All, eqb, leb, ◌||◌, Bool, cond, true, false, refl, sym, ap, ◌∙◌, arith, append-nil}
use Rattle.std.proofs.lemmas.Bool.{or_parts, or_from, and_parts, leb-true, ne_eqb}
use Rattle.std.proofs.lemmas.List.Elements.{All-nil, All-cons, All-head, All-tail, All-append, All-weaker}
use Rattle.std.specs.List.{join_with_byte, list_all}
use Rattle.cost_base.specs.Words.{is_blank, ends_a_word, IsOneWord}
use Rattle.cost_base.specs.Decimal.{is_digit, decimal}
use Rattle.text_lines.specs.Lines.{words, ends_word, grow, IsOneLine}
use Rattle.text_lines.specs.Reads.{begins_as_printed}
use Rattle.text_lines.proofs.WordSteps.{words-front}
use Rattle.text_lines.proofs.Printed.{decimal-digits, decimal-begins}

-- the bytes of a word aren't blank
pub word-solid : (w : List ℕ) → IsOneWord w → All (λ c. is_blank c ≡ false) w
word-solid w word = All-weaker (λ c. ends_a_word c ≡ false) (λ c. is_blank c ≡ false) (λ c h. (or_parts (is_blank c) (eqb c 10) h).0) w word.whole

-- a word holds no LF
pub word-line : (w : List ℕ) → IsOneWord w → IsOneLine w
word-line w word = All-weaker (λ c. ends_a_word c ≡ false) (λ c. eqb c 10 ≡ false) (λ c h. (or_parts (is_blank c) (eqb c 10) h).1) w word.whole

-- one word
pub words-one : (w : List ℕ) → IsOneWord w → words w ≡ w ∷ []
words-one w word = ap words (sym (append-nil w)) ∙ words-front w [] word.some (word-solid w word) refl

-- a word before a space
pub words-space : (w rest : List ℕ) → IsOneWord w → words (w ++ 32 ∷ rest) ≡ w ∷ words rest
words-space w rest word = words-front w (32 ∷ rest) word.some (word-solid w word) refl

-- words with one space between each two
pub words-join : (ws : List (List ℕ)) → All IsOneWord ws → words (join_with_byte 32 ws) ≡ ws
words-join [] ones = refl
words-join (w ∷ []) ones = words-one w (All-head IsOneWord w [] ones)
words-join (w ∷ v ∷ vs) ones =
    words-space w (join_with_byte 32 (v ∷ vs)) (All-head IsOneWord w (v ∷ vs) ones)
    ∙ ap (λ rest. w ∷ rest) (words-join (v ∷ vs) (All-tail IsOneWord w (v ∷ vs) ones))

-- the same behind a space
pub words-indented : (ws : List (List ℕ)) → All IsOneWord ws → words (32 ∷ join_with_byte 32 ws) ≡ ws
words-indented ws ones = words-join ws ones

-- a line of words with spaces between holds no LF
pub join-line : (ws : List (List ℕ)) → All IsOneWord ws → IsOneLine (join_with_byte 32 ws)
join-line [] ones = All-nil (λ c. eqb c 10 ≡ false)
join-line (w ∷ []) ones = word-line w (All-head IsOneWord w [] ones)
join-line (w ∷ v ∷ vs) ones =
    All-append (λ c. eqb c 10 ≡ false) w (32 ∷ join_with_byte 32 (v ∷ vs)) (word-line w (All-head IsOneWord w (v ∷ vs) ones))
    (All-cons (λ c. eqb c 10 ≡ false) 32 (join_with_byte 32 (v ∷ vs)) refl (join-line (v ∷ vs) (All-tail IsOneWord w (v ∷ vs) ones)))

-- the words of a line are words
pub words-whole : (s : List ℕ) → IsOneLine s → All IsOneWord (words s)
words-whole [] one = All-nil IsOneWord
words-whole (c ∷ cs) one =
    let other : eqb c 10 ≡ false = All-head (λ x. eqb x 10 ≡ false) c cs one in
    cases (is_blank c) refl other (ends_word cs) (words cs) (words-whole cs (All-tail (λ x. eqb x 10 ≡ false) c cs one))
  where
    alone : is_blank c ≡ false → eqb c 10 ≡ false → IsOneWord (c ∷ [])
    alone solid other = record {
      some = λ e. cc;
      whole = All-cons (λ x. ends_a_word x ≡ false) c [] (or_from (is_blank c) (eqb c 10) solid other)
          (All-nil (λ x. ends_a_word x ≡ false));
    }

    cases : (b : Bool) → is_blank c ≡ b → eqb c 10 ≡ false → (e : Bool) (ws : List (List ℕ)) → All IsOneWord ws →
        All IsOneWord (cond b ws (cond e ((c ∷ []) ∷ ws) (grow c ws)))
    cases true is other e ws ones = ones
    cases false is other true ws ones = All-cons IsOneWord (c ∷ []) ws (alone is other) ones
    cases false is other false [] ones = All-cons IsOneWord (c ∷ []) [] (alone is other) ones
    cases false is other false (w ∷ ws) ones =
        All-cons IsOneWord (c ∷ w) ws
        (record {
          some = λ e. cc;
          whole = All-cons (λ x. ends_a_word x ≡ false) c w
              (or_from (is_blank c) (eqb c 10) is other) (All-head IsOneWord w ws ones).whole;
        })
        (All-tail IsOneWord w ws ones)

digits-whole : (ds : List ℕ) → list_all is_digit ds ≡ true → All (λ c. ends_a_word c ≡ false) ds
digits-whole [] digits = All-nil (λ c. ends_a_word c ≡ false)
digits-whole (c ∷ cs) digits =
    let parts : (is_digit c ≡ true) × (list_all is_digit cs ≡ true) = and_parts (is_digit c) (list_all is_digit cs) digits in
    let low : 48 ≤ c = leb-true 48 c (and_parts (leb 48 c) (leb c 57) parts.0).0 in
    All-cons (λ x. ends_a_word x ≡ false) c cs
    (or_from (is_blank c) (eqb c 10)
    (or_from (eqb c 32 || eqb c 9) (eqb c 13)
    (or_from (eqb c 32) (eqb c 9) (ne_eqb c 32 (λ e. omega arith)) (ne_eqb c 9 (λ e. omega arith)))
    (ne_eqb c 13 (λ e. omega arith)))
    (ne_eqb c 10 (λ e. omega arith)))
    (digits-whole cs parts.1)

-- the digits of a number are one word
pub decimal-word : (n : ℕ) → IsOneWord (decimal n)
decimal-word n = record { some = λ e. cc (decimal-begins n, ap begins_as_printed e); whole = digits-whole (decimal n) (decimal-digits n) }
