-- `network` lines found by the prefixes that they name.
use Rattle.std.specs.Prelude.{ℕ, ◌+◌, List, [], ◌∷◌, ◌==◌, ◌&&◌, not, nat_lt, if◌then◌else◌, Bool, Option, Some, None}
use Rattle.interface_model.specs.Addresses.{subnet}
use Rattle.config_reader.specs.declared.networks.NetworkLine.{NetworkLine}
use Rattle.config_reader.specs.declared.networks.NetworkPrefix.{NetworkPrefix}
use Rattle.config_reader.specs.declared.networks.Sighted.{Sighted}
use Rattle.config_reader.specs.declared.networks.PrefixLines.{PrefixLines}

-- the prefix of a length that holds an address
abbrev pub prefix_of_length : ℕ → ℕ → NetworkPrefix
prefix_of_length address length = record { subnet = subnet address length; length = length }

-- two prefixes have one subnet and one length
abbrev pub same_prefix : NetworkPrefix → NetworkPrefix → Bool
same_prefix a b = a.subnet == b.subnet && a.length == b.length

-- a line names a prefix; host bits are ignored
abbrev pub names_prefix : NetworkPrefix → NetworkLine → Bool
names_prefix prefix line = same_prefix (prefix_of_length line.address line.length) prefix

-- the `network` line is of another area
abbrev pub is_elsewhere : ℕ → NetworkLine → Bool
is_elsewhere area line = not (line.area == area)

-- the first line that passes, with its place; the lines stand from place n on
abbrev pub first_at : ℕ → (NetworkLine → Bool) → List NetworkLine → Option Sighted
first_at n test [] = None
first_at n test (line ∷ lines) = if test line then Some (record { place = n; line = line }) else first_at (n + 1) test lines

-- the line of the lesser place
abbrev pub lesser : Option Sighted → Option Sighted → Option Sighted
lesser None other = other
lesser (Some line) None = Some line
lesser (Some line) (Some other) = if nat_lt other.place line.place then Some other else Some line

-- the first line of another area than a prefix's first line, after one line more
abbrev pub other_after : Option Sighted → Bool → Sighted → Option Sighted
other_after None elsewhere sighted = if elsewhere then Some sighted else None
other_after (Some other) elsewhere sighted = Some other

-- the lines of a prefix with one more, which stands at place n
abbrev pub noted : ℕ → NetworkLine → Option PrefixLines → PrefixLines
noted n line None = record { first = record { place = n; line = line }; other = None }
noted n line (Some lines) =
    record { first = lines.first; other = other_after lines.other (is_elsewhere lines.first.line.area line) (record { place = n; line = line }) }

-- the lines of a prefix, when those so far are found and more stand from place n on
abbrev pub lines_from : ℕ → NetworkPrefix → Option PrefixLines → List NetworkLine → Option PrefixLines
lines_from n prefix found [] = found
lines_from n prefix found (line ∷ lines) =
    lines_from (n + 1) prefix (if names_prefix prefix line then Some (noted n line found) else found) lines

-- the lines of a prefix
abbrev pub lines_of_prefix : NetworkPrefix → List NetworkLine → Option PrefixLines
lines_of_prefix prefix lines = lines_from 0 prefix None lines
