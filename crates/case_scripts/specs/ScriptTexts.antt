-- Texts that the lines of a script make.
use Rattle.std.specs.Prelude.{ℕ, ◌==◌, if◌then◌else◌, List, [], ◌∷◌, ◌++◌, Option, Some, None, codes}
use Rattle.std.specs.Option.{option_or}
use Rattle.std.specs.List.{before_first, after_first}
use Rattle.std.specs.Str.{bytes_eq}
use Rattle.case_scripts.specs.Escapes.{bytes_of}

-- a text and its name
pub record NamedText : Type 0 where
  pub name : List ℕ
  pub bytes : List ℕ

-- the texts that are made, and the last one, which is still being made
pub record ScriptTexts : Type 0 where
  pub made : List NamedText
  pub last : NamedText

-- a text of this name that has no bytes yet
abbrev pub begun : List ℕ → NamedText
begun name = record { name = name; bytes = [] }

-- the bytes of the last of these texts that has the name
abbrev pub last_named : List ℕ → List NamedText → Option (List ℕ)
last_named name [] = None
last_named name (text ∷ texts) =
    option_or (last_named name texts) (if bytes_eq text.name name then Some text.bytes else None)

-- the bytes of the last text that has the name
abbrev pub named : List ℕ → ScriptTexts → Option (List ℕ)
named name texts = last_named name (texts.made ++ (texts.last ∷ []))

-- one more text is begun
abbrev pub with_text : List ℕ → ScriptTexts → ScriptTexts
with_text name texts = record { made = texts.made ++ (texts.last ∷ []); last = begun name }

-- the text that is being made goes on with a line
abbrev pub with_text_line : List ℕ → ScriptTexts → ScriptTexts
with_text_line line texts =
    record texts { last = record { name = texts.last.name; bytes = texts.last.bytes ++ (bytes_of line ++ (10 ∷ [])) } }

-- the texts behind a line of this first word and this rest, where it makes texts
abbrev pub after_word : List ℕ → List ℕ → ScriptTexts → Option ScriptTexts
after_word word rest texts =
    if bytes_eq word (codes "text") then Some (with_text rest texts)
    else if bytes_eq word (codes "|") then Some (with_text_line rest texts)
    else None

-- the texts behind a line, where it makes texts: `text NAME` begins one, and `| LINE` adds a line to the last one
abbrev pub after_line : List ℕ → ScriptTexts → Option ScriptTexts
after_line line texts = after_word (before_first (λ byte. byte == 32) line) (after_first (λ byte. byte == 32) line) texts
