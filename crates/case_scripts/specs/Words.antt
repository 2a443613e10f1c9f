-- Words of a line, and what is read of them.
use Rattle.std.specs.Prelude.{◌≡◌, ℕ, ◌^◌, ◌<◌, ◌==◌, ◌⊎◌, List, [], ◌∷◌, ◌++◌, length, Result, Ok, Err}
use Rattle.std.specs.List.{AllZip, slice_split}
use Rattle.std.specs.Char.{is_whitespace, is_not_whitespace}
use Rattle.std.specs.Str.{NoCharPasses, EmptyOrStartsWithPassing}
use Rattle.std.specs.Str.Parse.{IsNumeral, digits_value, without_leading_plus}

-- the word is the first of a text, and comes off it with the white space before it; what is left begins with white
-- space where it is not empty. Where the text has no word, the word is empty, and the text is what is left
abbrev pub IsNextWord : List ℕ → List ℕ → List ℕ → Type 0
IsNextWord text word rest =
    (NoCharPasses is_not_whitespace text × (word ≡ []) × (rest ≡ text))
    ⊎ ((gap : List ℕ) × (text ≡ gap ++ (word ++ rest)) × (0 < length word)
    × NoCharPasses is_not_whitespace gap × NoCharPasses is_whitespace word
    × ((behind : List ℕ) × EmptyOrStartsWithPassing is_whitespace rest behind))

-- the text is a number below 2^32: decimal digits, a plus before them or not
abbrev pub IsNumberText : List ℕ → Type 0
IsNumberText text = IsNumeral 10 (without_leading_plus text) × (digits_value 10 (without_leading_plus text) < 2 ^ 32)

-- the number that a text is, or 0 where it is none
abbrev pub IsNumberOrZero : List ℕ → ℕ → Type 0
IsNumberOrZero text number =
    (IsNumberText text → number ≡ digits_value 10 (without_leading_plus text)) × (¬ (IsNumberText text) → number ≡ 0)

-- the values of those answers that are one, in their order
abbrev pub values_of : {T E : Type 0} → List (Result T E) → List T
values_of [] = []
values_of (Ok value ∷ answers) = value ∷ values_of answers
values_of (Err error ∷ answers) = values_of answers

-- the parts of a text between its commas
abbrev pub comma_parts : List ℕ → List (List ℕ)
comma_parts text = slice_split (λ byte. byte == 44) text

-- each part of the text is read, which gives an answer as `gives` says, and the things are the values of these answers
abbrev pub AreListed : {T E : Type 0} → (List ℕ → Result T E → Type 0) → List ℕ → List T → Type 0
AreListed {T} {E} gives text things =
    (answers : List (Result T E)) × AllZip gives (comma_parts text) answers × (things ≡ values_of answers)
