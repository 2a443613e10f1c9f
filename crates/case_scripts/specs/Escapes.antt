-- The bytes that a text of a script stands for.
use Rattle.std.specs.Prelude.{ℕ, ◌+◌, ◌*◌, ◌==◌, ◌&&◌, if◌then◌else◌, nat_lt, List, [], ◌∷◌, ◌++◌, drop, length, slice_index, Option, Some, None, unwrap_or, option_map}
use Rattle.std.specs.List.{slice_split}
use Rattle.std.specs.Char.{digit_value}

-- the byte whose two hexadecimal digits a text begins with
abbrev pub hex_byte : List ℕ → Option ℕ
hex_byte text =
    if nat_lt 1 (length text) && nat_lt (digit_value (slice_index text 0)) 16 && nat_lt (digit_value (slice_index text 1)) 16
    then Some (digit_value (slice_index text 0) * 16 + digit_value (slice_index text 1)) else None

-- what `\x` and the text behind it stand for: itself where no byte follows
abbrev pub behind_x : List ℕ → List ℕ
behind_x text = unwrap_or (option_map (λ byte. byte ∷ drop 2 text) (hex_byte text)) (92 ∷ 120 ∷ text)

-- what a `\` and the text behind it stand for: `n`, `r`, `t` and `xNN` make a byte, and before anything else it is
-- itself
abbrev pub unescaped : List ℕ → List ℕ
unescaped [] = 92 ∷ []
unescaped (first ∷ text) =
    if first == 110 then 10 ∷ text
    else if first == 114 then 13 ∷ text
    else if first == 116 then 9 ∷ text
    else if first == 120 then behind_x text
    else 92 ∷ first ∷ text

-- what several texts stand for, each of which stood behind a `\`, one after another
abbrev pub all_unescaped : List (List ℕ) → List ℕ
all_unescaped [] = []
all_unescaped (text ∷ texts) = unescaped text ++ all_unescaped texts

-- what the pieces of a text between its `\` stand for: the first as it is, each other one as behind a `\`
abbrev pub joined_escapes : List (List ℕ) → List ℕ
joined_escapes [] = []
joined_escapes (first ∷ texts) = first ++ all_unescaped texts

-- the bytes that a text stands for: each is itself, but those that a `\` begins
abbrev pub bytes_of : List ℕ → List ℕ
bytes_of text = joined_escapes (slice_split (λ byte. byte == 92) text)
