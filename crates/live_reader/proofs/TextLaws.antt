-- Tokens of a text, one byte after another.
use Rattle.std.proofs.Common.{◌≡◌, ℕ, zero, suc, ◌+◌, ◌-◌, ◌<◌, ◌≤◌, List, [], ◌∷◌, Bool, true, false, length, drop, get_or, refl, sym, ap, ◌∙◌, arith}
use Rattle.std.proofs.lemmas.List.{drop_more}
use Rattle.json.specs.Token.{Token}
use Rattle.json.specs.Lex.{Lexeme, token, comma, colon, Class, quote, backslash, operator, space, other, class, Mode, between, in_word, in_string, in_escape, lex_byte, lex, Place, fresh, after_value, after_comma, after_key, begins_colon, may_begin, may_close, if_allowed, place_token, punctuate, tokens}
use Rattle.live_reader.specs.declared.text.Within.{Within}
use Rattle.live_reader.specs.Texts.{begins_token, behind, start_step, token_start}

at_byte : (text : List ℕ) (offset n : ℕ) (within : Within) → offset < length text →
    token_start within n (drop offset text) ≡ start_step (begins_token within (get_or text offset 0)) n
    (λ m. token_start (behind within (get_or text offset 0)) m (drop (offset + 1) text))
at_byte text offset n within inside = ap (token_start within n) (drop_more text offset 0 inside)

-- the token that was looked for begins here
pub starts_here : (text : List ℕ) (offset n : ℕ) (within : Within) → offset < length text → begins_token within (get_or text offset 0) ≡ true → n ≡ 0 →
    offset + token_start within n (drop offset text) ≡ offset
starts_here text offset n within inside begins none =
    ap (λ m. offset + m) (at_byte text offset n within inside
    ∙ ap (λ b. start_step b n (λ m. token_start (behind within (get_or text offset 0)) m (drop (offset + 1) text))) begins
    ∙ ap (λ m. start_step true m (λ m. token_start (behind within (get_or text offset 0)) m (drop (offset + 1) text))) none) ∙ omega arith

one_more : (offset m : ℕ) → offset + suc m ≡ offset + 1 + m
one_more offset m = omega arith

-- another token begins here
pub starts_later : (text : List ℕ) (offset n left : ℕ) (within : Within) → offset < length text → begins_token within (get_or text offset 0) ≡ true →
    (n ≡ 0 → ⊥) → left ≡ n - 1 →
    offset + 1 + token_start (behind within (get_or text offset 0)) left (drop (offset + 1) text) ≡ offset + token_start within n (drop offset text)
starts_later text offset zero left within inside begins some is = absurd (some refl)
starts_later text offset (suc n) left within inside begins some is =
    let less : left ≡ n = omega arith in
    ap (λ m. offset + 1 + token_start (behind within (get_or text offset 0)) m (drop (offset + 1) text)) less
    ∙ sym (ap (λ m. offset + m) (at_byte text offset (suc n) within inside
    ∙ ap (λ b. start_step b (suc n) (λ m. token_start (behind within (get_or text offset 0)) m (drop (offset + 1) text))) begins)
    ∙ one_more offset (token_start (behind within (get_or text offset 0)) n (drop (offset + 1) text)))

-- no token begins here
pub no_start : (text : List ℕ) (offset n : ℕ) (within : Within) → offset < length text → begins_token within (get_or text offset 0) ≡ false →
    offset + 1 + token_start (behind within (get_or text offset 0)) n (drop (offset + 1) text) ≡ offset + token_start within n (drop offset text)
no_start text offset n within inside begins =
    sym (ap (λ m. offset + m) (at_byte text offset n within inside
    ∙ ap (λ b. start_step b n (λ m. token_start (behind within (get_or text offset 0)) m (drop (offset + 1) text))) begins)
    ∙ one_more offset (token_start (behind within (get_or text offset 0)) n (drop (offset + 1) text)))

-- ---- how many tokens a text has

lex_byte_few : (m : Mode) (c : Class) (x : ℕ) (xs : List ℕ) (k : Mode → List Lexeme) (n : ℕ) → ((next : Mode) → length (k next) ≤ n) →
    length (lex_byte m c x xs k) ≤ suc n
lex_byte_few between quote x xs k n few = omega (arith, few in_string)
lex_byte_few between backslash x xs k n few = omega (arith, few in_word)
lex_byte_few between operator x xs k n few = omega (arith, few between)
lex_byte_few between space x xs k n few = omega (arith, few between)
lex_byte_few between other x xs k n few = omega (arith, few in_word)
lex_byte_few in_word quote x xs k n few = omega (arith, few in_word)
lex_byte_few in_word backslash x xs k n few = omega (arith, few in_word)
lex_byte_few in_word operator x xs k n few = omega (arith, few between)
lex_byte_few in_word space x xs k n few = omega (arith, few between)
lex_byte_few in_word other x xs k n few = omega (arith, few in_word)
lex_byte_few in_string quote x xs k n few = omega (arith, few between)
lex_byte_few in_string backslash x xs k n few = omega (arith, few in_escape)
lex_byte_few in_string operator x xs k n few = omega (arith, few in_string)
lex_byte_few in_string space x xs k n few = omega (arith, few in_string)
lex_byte_few in_string other x xs k n few = omega (arith, few in_string)
lex_byte_few in_escape c x xs k n few = omega (arith, few in_string)

lexemes_few : (m : Mode) (text : List ℕ) → length (lex m text) ≤ length text
unfolding lex
lexemes_few m [] = omega arith
lexemes_few m (x ∷ xs) = lex_byte_few m (class x) x xs (λ next. lex next xs) (length xs) (λ next. lexemes_few next xs)

allowed_few : (b : Bool) (t : Token) (k : Place → List Token) (next : Place) (n : ℕ) → ((p : Place) → length (k p) ≤ n) → length (if_allowed b t k next) ≤ suc n
allowed_few true t k next n few = omega (arith, few next)
allowed_few false t k next n few = omega arith

token_few : (p : Place) (t : Token) (b : Bool) (k : Place → List Token) (n : ℕ) → ((next : Place) → length (k next) ≤ n) → length (place_token p t b k) ≤ suc n
token_few p Token.begin_object b k n few = allowed_few (may_begin p) Token.begin_object k fresh n few
token_few p Token.end_object b k n few = allowed_few (may_close p) Token.end_object k after_value n few
token_few p Token.begin_array b k n few = allowed_few (may_begin p) Token.begin_array k fresh n few
token_few p Token.end_array b k n few = allowed_few (may_close p) Token.end_array k after_value n few
token_few p (Token.key s) b k n few = omega arith
token_few p (Token.string s) true k n few = allowed_few (may_begin p) (Token.key s) k after_key n few
token_few p (Token.string s) false k n few = allowed_few (may_begin p) (Token.string s) k after_value n few
token_few p (Token.number s) b k n few = allowed_few (may_begin p) (Token.number s) k after_value n few
token_few p (Token.boolean v) b k n few = allowed_few (may_begin p) (Token.boolean v) k after_value n few
token_few p Token.null b k n few = allowed_few (may_begin p) Token.null k after_value n few
token_few p Token.bad b k n few = omega arith

punctuated_few : (p : Place) (ls : List Lexeme) → length (punctuate p ls) ≤ suc (length ls)
unfolding punctuate
punctuated_few fresh [] = omega arith
punctuated_few after_value [] = omega arith
punctuated_few after_comma [] = omega arith
punctuated_few after_key [] = omega arith
punctuated_few fresh (token t ∷ ls) = token_few fresh t (begins_colon ls) (λ next. punctuate next ls) (suc (length ls)) (λ next. punctuated_few next ls)
punctuated_few after_value (token t ∷ ls) = token_few after_value t (begins_colon ls) (λ next. punctuate next ls) (suc (length ls))
    (λ next. punctuated_few next ls)
punctuated_few after_comma (token t ∷ ls) = token_few after_comma t (begins_colon ls) (λ next. punctuate next ls) (suc (length ls))
    (λ next. punctuated_few next ls)
punctuated_few after_key (token t ∷ ls) = token_few after_key t (begins_colon ls) (λ next. punctuate next ls) (suc (length ls)) (λ next. punctuated_few next ls)
punctuated_few fresh (comma ∷ ls) = omega arith
punctuated_few after_value (comma ∷ ls) = omega (arith, punctuated_few after_comma ls)
punctuated_few after_comma (comma ∷ ls) = omega arith
punctuated_few after_key (comma ∷ ls) = omega arith
punctuated_few fresh (colon ∷ ls) = omega arith
punctuated_few after_value (colon ∷ ls) = omega arith
punctuated_few after_comma (colon ∷ ls) = omega arith
punctuated_few after_key (colon ∷ ls) = omega (arith, punctuated_few fresh ls)

-- a text has at most one token more than bytes
pub tokens_few : (text : List ℕ) → length (tokens text) ≤ suc (length text)
tokens_few text = omega (arith, punctuated_few fresh (lex between text), lexemes_few between text)
