-- What reading a line says of it.
use Rattle.std.specs.Prelude.{◌≡◌, ℕ, ◌+◌, ◌<◌, ◌≤◌, List, [], ◌∷◌, ◌++◌, length, Bool, true, false}
use Rattle.text_lines.specs.Lines.{lines, starts_with_blank}
use Rattle.text_lines.specs.TextLeft.{TextLeft}
use Rattle.text_lines.specs.declared.line_reader.Line.{Line}
use Rattle.text_lines.specs.declared.line_reader.LongLine.{LongLine}

-- a line's LF, where it ended with one
abbrev pub line_end : Bool → List ℕ
line_end true = 10 ∷ []
line_end false = []

-- a text is its first line, that line's end and the rest; only the last line may lack an LF
pub record IsFirstLine (bytes line : List ℕ) (ended : Bool) (left : List ℕ) : Type 0 where
  pub first : lines bytes ≡ line ∷ lines left
  pub parts : bytes ≡ line ++ (line_end ended ++ left)
  pub last : ended ≡ false → left ≡ []
  pub shorter : length line + length left ≤ length bytes
  pub smaller : length left < length bytes

-- a call of `next_line` went over this line
pub record GoesOver (before after : TextLeft) (line : List ℕ) : Type 0 where
  pub first : IsFirstLine before.bytes line after.ended after.bytes
  pub read : after.read ≡ before.read + 1
  pub longest : after.longest ≡ before.longest

-- the line of this number
pub record IsNumbered (text : List ℕ) (number longest : ℕ) (line : Line) : Type 0 where
  pub bytes : line.text.now ≡ text
  pub within : length text ≤ longest
  pub counted : line.number ≡ number
  pub indented : line.indented ≡ starts_with_blank text

-- the number of a line that is too long
pub record IsNumberedLong (text : List ℕ) (number longest : ℕ) (long : LongLine) : Type 0 where
  pub over : longest < length text
  pub counted : long.number ≡ number

-- a call of `next_line` gave the next line
abbrev pub IsLineRead : TextLeft → TextLeft → Line → Type 0
IsLineRead before after line = GoesOver before after line.text.now × IsNumbered line.text.now (before.read + 1) before.longest line

-- a call of `next_line` went over a line that is too long, and gave its number
abbrev pub IsLongLine : TextLeft → TextLeft → LongLine → Type 0
IsLongLine before after long = (line : List ℕ) × GoesOver before after line × IsNumberedLong line (before.read + 1) before.longest long
