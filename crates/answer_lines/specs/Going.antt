-- How a reader goes on from a place.
use Rattle.std.specs.Prelude.{ℕ, List}
use Rattle.answer_lines.specs.Grammar.{TextPlace}
use Rattle.answer_lines.specs.Lawful.{IsRead}
use Rattle.answer_lines.specs.declared.text_left.TextLeft.{TextLeft}

-- from a place, these lawful lines lead to another one, with the text that is left there
abbrev pub Goes : TextPlace → TextLeft → List (List ℕ) → TextPlace → TextLeft → Type 0
Goes from text lines to rest = IsRead from text.read text.left.now lines to rest.read rest.left.now
