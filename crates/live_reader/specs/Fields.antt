-- What the members of an object say by their names.
use Rattle.std.specs.Prelude.{ℕ, ◌+◌, ◌-◌, ◌*◌, ◌&&◌, nat_le, List, [], ◌∷◌, length, Option, Some, None, if◌then◌else◌}
use Rattle.std.specs.Option.{option_and_then}
use Rattle.json.specs.Find.{as_str, as_number}
use Rattle.text_lines.specs.Numbers.{number, quad}
use Rattle.live_reader.specs.Places.{Member, member_named}

-- the text of the last member of a name
abbrev pub text_of_name : List ℕ → List Member → Option (List ℕ)
text_of_name name members = option_and_then (λ m. as_str m.value) (member_named name members)

-- the dotted quad that the text of the last member of a name is
abbrev pub quad_named : List ℕ → List Member → Option ℕ
quad_named name members = option_and_then quad (text_of_name name members)

-- the text of the number that the last member of a name is
abbrev pub digits_named : List ℕ → List Member → Option (List ℕ)
digits_named name members = option_and_then (λ m. as_number m.value) (member_named name members)

-- a whole number up to the greatest
abbrev pub number_up_to : ℕ → List ℕ → Option ℕ
number_up_to greatest text = number text greatest

-- the whole number, up to the greatest, that the last member of a name is
abbrev pub number_named : List ℕ → ℕ → List Member → Option ℕ
number_named name greatest members = option_and_then (number_up_to greatest) (digits_named name members)

-- the value of a hexadecimal digit
abbrev pub hex_digit : ℕ → Option ℕ
hex_digit c =
    if nat_le 48 c && nat_le c 57 then Some (c - 48)
    else if nat_le 97 c && nat_le c 102 then Some (c - 87)
    else if nat_le 65 c && nat_le c 70 then Some (c - 55)
    else None

-- the number that hexadecimal digits make, behind those of a first value
abbrev pub hex_behind : ℕ → List ℕ → Option ℕ
hex_behind first [] = Some first
hex_behind first (c ∷ cs) = option_and_then (λ digit. hex_behind (first * 16 + digit) cs) (hex_digit c)

-- a number of at least so many and at most so many hexadecimal digits
abbrev pub hex_within : ℕ → ℕ → List ℕ → Option ℕ
hex_within least most text = if nat_le least (length text) && nat_le (length text) most then hex_behind 0 text else None

-- the number of at least so many and at most so many hexadecimal digits that the text of the last member of a name is
abbrev pub hex_named : List ℕ → ℕ → ℕ → List Member → Option ℕ
hex_named name least most members = option_and_then (hex_within least most) (text_of_name name members)
