-- The `network` lines, one line further.
use Rattle.std.proofs.Common.{◌≡◌, ◌∙◌, ℕ, ◌+◌, ◌<◌, List, [], ◌∷◌, ◌++◌, length, get_or, drop, map, ap, sym, append_assoc, Option, Some, None}
use Rattle.std.specs.List.{cons_option}
use Rattle.std.proofs.lemmas.List.{at_drop_more}
use Rattle.config_reader.specs.declared.reader.Said.{Said as SpokenLine}
use Rattle.config_reader.specs.declared.networks.NetworkLine.{NetworkLine}
use Rattle.config_reader.specs.Heards.{said_of}
use Rattle.config_reader.specs.Spoken.{statement_of, block_spoken}
use Rattle.config_reader.specs.Drafting.{network_line, network_lines}

-- the `network` line that a line is
abbrev pub line_found : SpokenLine → Option NetworkLine
line_found s = network_line s.number (block_spoken s.block) (statement_of s.statement)

-- what is left, with what its first line is
left : (said : List SpokenLine) (i : ℕ) (d : SpokenLine) (found : Option NetworkLine) → i < length said → found ≡ line_found (get_or said i d) →
    network_lines (map said_of (drop i said)) ≡ cons_option found (network_lines (map said_of (drop (i + 1) said)))
left said i d found within is =
    at_drop_more (λ (l : List SpokenLine). network_lines (map said_of l)) said i d within
    ∙ ap (λ o. cons_option o (network_lines (map said_of (drop (i + 1) said)))) (sym is)

pub found_more : (said : List SpokenLine) (i : ℕ) (d : SpokenLine) (line : NetworkLine) (old new : List NetworkLine) →
    i < length said → Some line ≡ line_found (get_or said i d) → new ≡ old ++ line ∷ [] →
    new ++ network_lines (map said_of (drop (i + 1) said)) ≡ old ++ network_lines (map said_of (drop i said))
found_more said i d line old new within is put =
    ap (λ ls. ls ++ network_lines (map said_of (drop (i + 1) said))) put
    ∙ append_assoc old (line ∷ []) (network_lines (map said_of (drop (i + 1) said)))
    ∙ ap (λ ls. old ++ ls) (sym (left said i d (Some line) within is))

pub none_more : (said : List SpokenLine) (i : ℕ) (d : SpokenLine) (old new : List NetworkLine) →
    i < length said → None ≡ line_found (get_or said i d) → new ≡ old →
    new ++ network_lines (map said_of (drop (i + 1) said)) ≡ old ++ network_lines (map said_of (drop i said))
none_more said i d old new within is same =
    ap (λ ls. ls ++ network_lines (map said_of (drop (i + 1) said))) same
    ∙ ap (λ ls. old ++ ls) (sym (left said i d None within is))
