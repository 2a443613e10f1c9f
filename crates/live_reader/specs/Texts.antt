-- Where the tokens of a JSON text begin, and on which lines.
use Rattle.std.specs.Prelude.{ℕ, zero, suc, ◌+◌, ◌==◌, ◌||◌, not, List, [], ◌∷◌, take, count_by, Bool, true, false, if◌then◌else◌}
use Rattle.json.specs.Word.{is_operator, is_space}
use Rattle.live_reader.specs.declared.text.Within.{Within}
use Rattle.live_reader.specs.declared.text.Within.TheVariants.{Blank, Word, Text, Escape}

-- the line of an offset: 1, and as many more as line feeds stand before it
abbrev pub line_of_offset : List ℕ → ℕ → ℕ
line_of_offset text offset = 1 + count_by (λ c. c == 10) (take offset text)

-- whether a byte is a brace or a bracket, opening or closing
abbrev pub is_bracket : ℕ → Bool
is_bracket c = c == 123 || c == 125 || c == 91 || c == 93

-- whether a byte begins a token: between words all but blanks, commas and colons do, in a word brackets alone
abbrev pub begins_token : Within → ℕ → Bool
begins_token Blank c = not (is_space c || c == 44 || c == 58)
begins_token Word c = is_bracket c
begins_token Text c = false
begins_token Escape c = false

-- what stands behind a byte between words that begins no text: a word, or the next token
abbrev pub word_behind : ℕ → Within
word_behind c = if is_operator c || is_space c then Blank else Word

-- what stands behind a byte
abbrev pub behind : Within → ℕ → Within
behind Blank c = if c == 34 then Text else word_behind c
behind Word c = word_behind c
behind Text c = if c == 34 then Blank else if c == 92 then Escape else Text
behind Escape c = Text

-- how many bytes stand before the token of a number, where this byte begins one or not
abbrev pub start_step : Bool → ℕ → (ℕ → ℕ) → ℕ
start_step true zero start = 0
start_step true (suc n) start = suc (start n)
start_step false n start = suc (start n)

-- the offset of the token of a number, counted from 0; that of the end where there are fewer tokens
abbrev pub token_start : Within → ℕ → List ℕ → ℕ
token_start within n [] = 0
token_start within n (c ∷ cs) = start_step (begins_token within c) n (λ m. token_start (behind within c) m cs)

-- the line on which the token of a number begins
abbrev pub token_line : List ℕ → ℕ → ℕ
token_line text n = line_of_offset text (token_start Blank n text)
