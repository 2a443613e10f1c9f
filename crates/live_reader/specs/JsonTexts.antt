-- What a JSON text says, read with arrays and objects nested no deeper than 64.
use Rattle.std.specs.Prelude.{ℕ, suc, List, [], ◌∷◌, Bool, true, false, Option, if◌then◌else◌}
use Rattle.std.specs.Option.{option_and_then}
use Rattle.json.specs.Token.{Token}
use Rattle.json.specs.Lex.{tokens}
use Rattle.json.specs.Json.{Json, value, if_last}
use Rattle.live_reader.specs.Texts.{token_line}

-- the value that a text is, with arrays and objects nested no deeper than 64
abbrev pub value_of_text : List ℕ → Option Json
value_of_text text = option_and_then (λ read. if_last read.0 read.1) (value 64 (tokens text))

-- what stands where no token may stand
abbrev pub is_bad : Token → Bool
is_bad Token.bad = true
is_bad _ = false

-- how many tokens stand before the first that is none, or that stands where none of its kind may
abbrev pub good_tokens : List Token → ℕ
good_tokens [] = 0
good_tokens (t ∷ ts) = if is_bad t then 0 else suc (good_tokens ts)

-- the line on which reading stops: that of the first token that is none, or stands where none of its kind may; the last
-- line where brackets alone are wrong
abbrev pub stop_line : List ℕ → ℕ
stop_line text = token_line text (good_tokens (tokens text))
