-- The last text of a name.
use Rattle.std.proofs.Common.{◌≡◌, ℕ, ◌+◌, ◌<◌, List, [], ◌∷◌, ◌++◌, if◌then◌else◌, Option, Some, None, take, length, get_or, sym, ◌∙◌, ap}
use Rattle.std.proofs.lemmas.List.{take_more}
use Rattle.std.specs.Option.{option_or}
use Rattle.std.specs.Str.{bytes_eq}
use Rattle.cost_base.proofs.ListLemmas.{option_or-assoc, option_or-none}
use Rattle.case_scripts.specs.ScriptTexts.{NamedText, last_named}

-- the bytes of a text, where it has the name
abbrev pub if_named : List ℕ → NamedText → Option (List ℕ)
if_named name text = if bytes_eq text.name name then Some text.bytes else None

-- a text comes before all those that stand before it
pub last_named_more : (name : List ℕ) (texts : List NamedText) (text : NamedText)
    → last_named name (texts ++ (text ∷ [])) ≡ option_or (if_named name text) (last_named name texts)
last_named_more name [] text = sym (option_or-none (if_named name text))
last_named_more name (first ∷ texts) text =
    ap (λ found. option_or found (if_named name first)) (last_named_more name texts text)
    ∙ option_or-assoc (if_named name text) (last_named name texts) (if_named name first)

-- so a text of a list comes before all those that stand before it
pub last_named_step : (name : List ℕ) (texts : List NamedText) (place : ℕ) (text : NamedText) (old new : Option (List ℕ))
    → place < length texts → text ≡ get_or texts place text → new ≡ option_or (if_named name text) old
    → old ≡ last_named name (take place texts) → new ≡ last_named name (take (place + 1) texts)
last_named_step name texts place text old new inside here put before =
    put ∙ ap (λ found. option_or (if_named name text) found) before
    ∙ sym (last_named_more name (take place texts) text)
    ∙ ap (λ t. last_named name (take place texts ++ (t ∷ []))) here
    ∙ ap (last_named name) (sym (take_more texts place text inside))
