-- Decimal digits.
use Rattle.std.specs.Prelude.{ℕ, ◌+◌, ◌-◌, ◌==◌, ◌&&◌, nat_le, List, [], ◌∷◌, map, if◌then◌else◌, Bool}
use Rattle.std.specs.Int.Digits.{number_from_digits, digits_of}

-- the byte is a digit, `0` to `9`
abbrev pub is_digit : ℕ → Bool
is_digit c = nat_le 48 c && nat_le c 57

-- the value of decimal digits
abbrev pub decimal_value : List ℕ → ℕ
decimal_value text = number_from_digits 10 (map (λ c. c - 48) text)

-- the decimal digits of a number, without leading zeros
abbrev pub decimal : ℕ → List ℕ
decimal n = if n == 0 then 48 ∷ [] else map (λ d. d + 48) (digits_of 10 n)
